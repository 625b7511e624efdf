use Rattle.answer.specs.Tests.{via}
use Rattle.std.proofs.Common.{◌+◌, ◌*◌, arith}
use Rattle.tables.specs.Table.{partition_at}
use Rattle.mem_check.specs.Memory.{gives}
use Rattle.mem_check.proofs.Windows.{slot_far, in_reach, slot_barred, slot_run}
use Rattle.mem_check.proofs.run_in.Goals as goal

pub returns-then-from-ahead_of : goal.returns-then-from-ahead_of
unfolding partition_at gives
returns-then-from-ahead_of c = slot_far _ _ _ c.ahead_of.ensures (rw c.from.ensures at c.if-from-ahead_of.true)

pub overflow_sub-result : goal.overflow_sub-result
unfolding partition_at gives
overflow_sub-result c = (in_reach c.ahead_of.ensures (rw c.from.ensures at c.if-from-ahead_of.false) (omega (arith, c.type_inv.slots (3 * c.args.n + 1)))).0

pub overflow_sub-result-then-is_given : goal.overflow_sub-result-then-is_given
unfolding partition_at gives
overflow_sub-result-then-is_given c = omega (arith, (in_reach c.ahead_of.ensures (rw c.from.ensures at c.if-from-ahead_of.false) (omega (arith, c.type_inv.slots (3 * c.args.n + 1)))).1)

pub returns-then-is_given : goal.returns-then-is_given
unfolding partition_at gives
returns-then-is_given c =
    let reach = in_reach c.ahead_of.ensures (rw c.from.ensures at c.if-from-ahead_of.false) (omega (arith, c.type_inv.slots (3 * c.args.n + 1))) in
    slot_run _ _ _ reach.0 reach.1 (via c.is_given.ensures c.if-is_given.true)

pub returns : goal.returns
unfolding partition_at gives
returns c = slot_barred _ _ _ (via c.is_given.ensures c.if-is_given.false)
