use Rattle.std.proofs.Common.{ap}
use Rattle.answer.specs.Tests.{via}
use Rattle.firmware.proofs.Lent.{check_ok, judged_err}
use Rattle.firmware.proofs.wardlatch_check.Goals as goal

pub returns-in_default : goal.returns-in_default
returns-in_default c = ap (λ a. a.code) (judged_err _ _ (via c.domain_of.ensures c.in_default.is) _)

pub returns : goal.returns
returns c = check_ok _ _ (via c.domain_of.ensures c.in-Ok.is) _ _ _ c.check.ensures c.from.ensures
