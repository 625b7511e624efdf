use Rattle.std.proofs.Common.{◌≡◌}
use Rattle.image.specs.Read.{entered}
use Rattle.image.proofs.get_threads.Given as goal

abbrev pub invariant-loop-i : goal.invariant-loop-i
invariant-loop-i l = l.threads ≡ entered l.image l.at l.initial.threads l.i
