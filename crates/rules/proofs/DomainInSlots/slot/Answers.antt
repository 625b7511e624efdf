use Rattle.std.proofs.Common.{sym, ◌∙◌, arith, rules}
use Rattle.rules.proofs.Slots.{slot_is, slot_past}
use Rattle.rules.proofs.DomainInSlots.slot.Goals as goal

pub returns-then-k-lt-SLOTS : goal.returns-then-k-lt-SLOTS
returns-then-k-lt-SLOTS c = c.partition_in.ensures ∙ sym (slot_is _ _ _ c.if-k-lt-SLOTS.true)

pub returns-else-k-lt-SLOTS : goal.returns-else-k-lt-SLOTS
returns-else-k-lt-SLOTS c = let past = slot_past c.args.self.now.slots.now c.args.self.now.d c.args.k (omega (arith, c.if-k-lt-SLOTS.false)) in search rules
