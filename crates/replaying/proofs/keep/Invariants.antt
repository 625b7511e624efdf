use Rattle.std.proofs.Common.{◌≡◌, drop}
use lib.Seq.{paste}
use Rattle.replaying.proofs.keep.Given as goal

abbrev pub invariant-loop-i : goal.invariant-loop-i
invariant-loop-i l = l.log ≡ paste l.initial.log 0 (drop l.from l.initial.log) l.i
