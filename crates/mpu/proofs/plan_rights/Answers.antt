use Rattle.std.proofs.Common.{◌≡◌, sym, ap, ◌∙◌, arith}
use Rattle.answer.specs.Tests.{via}
use Rattle.mpu.specs.Mpu.{rights_of_plan, region_rights}
use Rattle.mpu.proofs.Table.{last_zero, last_here, last_down}
use Rattle.mpu.proofs.plan_rights.Goals as goal

pub returns-then-region_holds : goal.returns-then-region_holds
unfolding rights_of_plan
returns-then-region_holds c =
    let e = rw (c.rbar_at.ensures, c.rasr_at-rasr.ensures) at c.region_holds.ensures in
    c.region_rights.ensures
    ∙ ap region_rights c.rasr_at-rasr.ensures
    ∙ sym (c.loop-k.invariant ∙ last_here _ _ c.loop-k.k (omega arith) (via e c.if-region_holds.true))

pub loop-k-preserved : goal.loop-k-preserved
loop-k-preserved c =
    let e = rw (c.rbar_at.ensures, c.rasr_at-rasr.ensures) at c.region_holds.ensures in
    c.loop-k.invariant ∙ last_down _ _ c.loop-k.k (omega arith) (via e c.if-region_holds.false)

pub returns : goal.returns
unfolding rights_of_plan
returns c = let e : c.loop-k.k ≡ 0 = omega arith in sym (c.loop-k.invariant ∙ rw e (last_zero _ _))
