use Rattle.std.proofs.Common.{not-suc-le-zero, arith}
use Rattle.mem_check.proofs.Windows.{scan_hit, scan_miss, scan_end}
use Rattle.mem_check.proofs.run_at.Goals as goal

pub loop-k-init : goal.loop-k-init
loop-k-init c = λ j h. absurd (not-suc-le-zero h)

pub returns-then-n-gt0 : goal.returns-then-n-gt0
returns-then-n-gt0 c = scan_hit _ _ _ _ _ _ c.loop-k-test.true c.run_in-n.ensures c.if-n-gt0.true

pub loop-k-preserved : goal.loop-k-preserved
loop-k-preserved c = scan_miss _ _ _ _ _ _ c.loop-k-test.true c.run_in-n.ensures c.if-n-gt0.false c.loop-k.invariant

pub returns : goal.returns
returns c = scan_end _ _ _ _ _ (omega arith) c.loop-k.invariant
