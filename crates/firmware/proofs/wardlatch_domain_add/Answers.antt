use Rattle.mem_domain.specs.Domain.{added}
use Rattle.firmware.proofs.Lent.{changed}
use Rattle.firmware.proofs.wardlatch_domain_add.Goals as goal

pub returns : goal.returns
returns c = changed (λ m. added m (record { start = c.args.start; size = c.args.size; attr = c.args.attr })) _ _ _ _ _ _ c.load_domain-next.ensures c.add_partition-answer.ensures.answer c.add_partition-answer.ensures.domain c.settle.ensures
