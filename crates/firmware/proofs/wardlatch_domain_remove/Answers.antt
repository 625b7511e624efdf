use Rattle.mem_domain.specs.Domain.{removed}
use Rattle.firmware.proofs.Lent.{changed}
use Rattle.firmware.proofs.wardlatch_domain_remove.Goals as goal

pub returns : goal.returns
returns c = changed (λ m. removed m c.args.start c.args.size) _ _ _ _ _ _ c.load_domain-next.ensures c.remove_partition-answer.ensures.answer c.remove_partition-answer.ensures.domain c.settle.ensures
