use Rattle.std.proofs.Common.{arith}
use Rattle.mem_check.proofs.Windows.{walk_start, walk_stop, walk_on, walk_all, walk_end}
use Rattle.mem_check.proofs.covered.Goals as goal

pub loop-done-init : goal.loop-done-init
loop-done-init c = (omega arith, walk_start _ _ _ _)

pub returns-then-n-eq0 : goal.returns-then-n-eq0
returns-then-n-eq0 c = walk_stop _ _ _ _ _ _ _ c.loop-done.invariant.0 c.loop-done.invariant.1 c.run_at-n.ensures c.if-n-eq0.true

pub returns-then-len-done : goal.returns-then-len-done
returns-then-len-done c = walk_all _ _ _ _ _ _ _ c.loop-done.invariant.0 c.loop-done.invariant.1 c.run_at-n.ensures c.if-len-done.true

pub loop-done-preserved : goal.loop-done-preserved
loop-done-preserved c = (omega arith, walk_on _ _ _ _ _ _ _ c.loop-done.invariant.0 c.loop-done.invariant.1 c.run_at-n.ensures _ (omega arith) (omega arith))

pub returns : goal.returns
returns c = walk_end _ _ _ _ _ _ (omega arith) c.loop-done.invariant.1
