use Rattle.std.proofs.Common.{rules}
use Rattle.reading.proofs.Laws.{one_more}
use Rattle.reading.proofs.read_full.Goals as goal

pub loop-done-preserved : goal.loop-done-preserved
loop-done-preserved g c =
    let before = c.loop-done.invariant in
    let read = c.in_ok-n.ensures in
    (search rules, one_more _ _ _ c.loop-done.done _ c.in_ok-n.n c.loop-done.into c.read.new.buf before.0 read.bound.0 before.1 read.bytes.0)
