use Rattle.std.proofs.Common.{sym}
use Rattle.mem_check.specs.Runs.{run_off}
use Rattle.mem_check.proofs.Memory.{in_none, in_whole, none_covered}
use Rattle.mem_check.proofs.covered_in.Goals as goal

pub returns-then-slots-from : goal.returns-then-slots-from
returns-then-slots-from c = rw (in_none _ _ (rw c.from.ensures at c.if-slots-from.true)) (sym (run_off _ _ _ _ (none_covered _ _)))

pub returns : goal.returns
returns c = rw (in_whole _ _ (rw c.from.ensures at c.if-slots-from.false)) c.covered.ensures
