use Rattle.answer.specs.Tests.{via}
use Rattle.firmware.proofs.Lent.{plan_ok, plan_err}
use Rattle.firmware.proofs.wardlatch_plan.Goals as goal

pub returns-in_default : goal.returns-in_default
returns-in_default c = plan_err _ _ (via c.domain_of.ensures c.in_default.is) _ _

pub returns : goal.returns
returns c = plan_ok _ _ (via c.domain_of.ensures c.in-Ok.is) _ _ _ _ _ c.plan.ensures c.from-made.ensures
