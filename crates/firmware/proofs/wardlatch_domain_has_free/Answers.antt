use Rattle.answer.specs.Tests.{via}
use Rattle.mem_domain.specs.Domain.{has_free}
use Rattle.firmware.proofs.Lent.{said_ok, said_by, judged_err}
use Rattle.firmware.proofs.wardlatch_domain_has_free.Goals as goal

pub returns-in_default : goal.returns-in_default
returns-in_default c = judged_err _ _ (via c.domain_of.ensures c.in_default.is) _

pub returns : goal.returns
returns c = said_ok _ _ (via c.domain_of.ensures c.in-Ok.is) (λ x. has_free x.partitions) _ (said_by _ _ _ c.from.ensures c.has_free_slot.ensures)
