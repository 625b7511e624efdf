use Rattle.std.proofs.Common.{◌≡◌, ℕ, ◌<◌, false}
use Rattle.judging.specs.Judge.{serves_at}
use Rattle.calls.specs.Seen.{seen}
use Rattle.calls.proofs.deciding.Tables.serves.Given as goal

abbrev pub invariant-loop-t : goal.invariant-loop-t
invariant-loop-t l = (k : ℕ) → k < l.t → serves_at (seen l.self) l.h k ≡ false
