use mathlib.Core.Path.{refl, ◌∙◌}
use borrow.Author.Tests.{eq-eqb, ne_eqb}
use Rattle.planner.proofs.Filled.{slot, by_32}
use borrow.Author.Rules.{rules}
use Rattle.planner.proofs.fill_slot.Goals as goal

pub returns-then-p-eq0 : goal.returns-then-p-eq0
returns-then-p-eq0 c = rw (eq-eqb _ _ c.if-p-eq0.true) (search rules, refl)

pub rbar_for-rbar-requires : goal.rbar_for-rbar-requires
rbar_for-rbar-requires c = (by_32 _ (slot _ c.requires.1 (ne_eqb _ _ c.if-p-eq0.false)), c.requires.0)

pub rasr_for-rasr-requires : goal.rasr_for-rasr-requires
rasr_for-rasr-requires c = rw c.size_field.ensures (slot _ c.requires.1 (ne_eqb _ _ c.if-p-eq0.false)).small

pub put_region-requires : goal.put_region-requires
put_region-requires c = c.requires.2 (rw (ne_eqb _ _ c.if-p-eq0.false))

pub returns : goal.returns
returns c = rw (ne_eqb _ _ c.if-p-eq0.false) (refl, c.put_region.ensures ∙ rw (c.rasr_for-rasr.ensures, c.rbar_for-rbar.ensures, c.size_field.ensures))
