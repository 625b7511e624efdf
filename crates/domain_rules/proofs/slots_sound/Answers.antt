use Rattle.std.proofs.Common.{◌≡◌, sym, arith}
use Rattle.answer.specs.Tests.{via}
use Rattle.domain_rules.specs.Sound.{slots_sound}
use Rattle.domain_rules.proofs.All.{all_none, all_more, all_fails}
use Rattle.domain_rules.proofs.slots_sound.Goals as goal

pub loop-k-init : goal.loop-k-init
loop-k-init g c = all_none _

pub returns-then-not-slot_sound : goal.returns-then-not-slot_sound
unfolding slots_sound
returns-then-not-slot_sound g c = sym (all_fails _ 16 c.loop-k.k c.loop-k-test.true (via c.slot_sound.ensures c.if-not-slot_sound.true))

pub loop-k-preserved : goal.loop-k-preserved
loop-k-preserved g c = all_more _ _ c.loop-k.invariant (via c.slot_sound.ensures c.if-not-slot_sound.false)

pub returns : goal.returns
unfolding slots_sound
returns g c = let e : c.loop-k.k ≡ 16 = omega arith in rw (← e) (sym c.loop-k.invariant)
