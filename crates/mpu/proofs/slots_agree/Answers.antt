use Rattle.std.proofs.Common.{sym, arith}
use Rattle.answer.specs.Tests.{via}
use Rattle.domain_rules.proofs.All.{all_fails}
use Rattle.mpu.proofs.slots_agree.Goals as goal

pub returns-then-not-ends_agree : goal.returns-then-not-ends_agree
returns-then-not-ends_agree c =
    let e = rw (c.from.ensures, c.from-in-loop-p.ensures) at c.ends_agree.ensures in
    sym (all_fails _ 16 c.loop-p.p-index (omega arith) (via e c.if-not-ends_agree.true))
