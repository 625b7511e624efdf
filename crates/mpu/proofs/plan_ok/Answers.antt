use Rattle.std.proofs.Common.{◌≡◌, false, arith, rules}
use Rattle.answer.specs.Tests.{via}
use Rattle.mpu.specs.Mpu.{plan_ok, ok_to, regions_of}
use Rattle.domain_rules.proofs.All.{all_fails}
use Rattle.mpu.proofs.plan_ok.Goals as goal

pub returns-then-not-region_ok : goal.returns-then-not-region_ok
unfolding plan_ok
returns-then-not-region_ok c =
    let e = rw (c.rbar_at.ensures, c.rasr_at.ensures) at c.region_ok.ensures in
    let f : ok_to c.args.plan.now (regions_of c.args.plan.now) ≡ false = all_fails _ _ c.loop-k.k (omega arith) (via e c.if-not-region_ok.true) in
    search rules
