use Rattle.std.proofs.lemmas.Result.{err_from_is_err_and}
use Rattle.answer.specs.Tests.{via}
use Rattle.firmware.proofs.Lent.{slot_ok, slot_err}
use Rattle.firmware.proofs.slot_of.Goals as goal

pub returns-in_err-domain_of : goal.returns-in_err-domain_of
returns-in_err-domain_of c =
    let p = err_from_is_err_and c.from_residual.result c.from_residual.ensures.1 in
    rw (p.1, p.2) (slot_err _ _ (via c.domain_of.ensures c.in_err-domain_of.was) _)

pub returns : goal.returns
returns c = slot_ok _ _ (via c.domain_of.ensures c.in_ok-domain_of.was) _ _ c.partition_get.ensures
