use Rattle.std.proofs.Common.{sym, ap, ◌∙◌}
use Rattle.answer.specs.Tests.{via}
use Rattle.mem_domain.specs.Domain.{slot_at}
use Rattle.domain_rules.specs.Sound.{slot_ok, slot_sound}
use Rattle.domain_rules.proofs.Sound.{free_clear}
use Rattle.domain_rules.proofs.slot_sound.Goals as goal

pub returns-then-not-slot_ok : goal.returns-then-not-slot_ok
unfolding slot_sound
returns-then-not-slot_ok g c = rw (ap slot_ok (sym c.slot-q.ensures) ∙ via c.slot_ok.ensures c.if-not-slot_ok.true)

pub returns-then-q-eq0 : goal.returns-then-q-eq0
unfolding slot_sound
returns-then-q-eq0 g c =
    let e = c.slot-q.ensures in
    rw (ap slot_ok (sym e) ∙ via c.slot_ok.ensures c.if-not-slot_ok.false, ← e) (sym (free_clear (slot_at _) _ c.args.k c.if-q-eq0.true))

pub returns : goal.returns
unfolding slot_sound
returns g c =
    let e = c.slot-q.ensures in
    rw (ap slot_ok (sym e) ∙ via c.slot_ok.ensures c.if-not-slot_ok.false, ← e) c.is_clear.ensures
