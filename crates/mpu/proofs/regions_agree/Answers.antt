use Rattle.std.proofs.Common.{sym, arith}
use Rattle.answer.specs.Tests.{via}
use Rattle.domain_rules.proofs.All.{all_fails}
use Rattle.mpu.proofs.regions_agree.Goals as goal

pub returns-then-not-ends_agree : goal.returns-then-not-ends_agree
returns-then-not-ends_agree c =
    let e = rw (c.base_of-base.ensures.0, c.size_of-size.ensures.0, c.rbar_at.ensures, c.rasr_at.ensures) at c.ends_agree.ensures in
    sym (all_fails _ _ c.loop-k.k (omega arith) (via e c.if-not-ends_agree.true))
