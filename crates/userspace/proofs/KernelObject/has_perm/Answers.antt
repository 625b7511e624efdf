use Rattle.std.proofs.Common.{sym}
use Rattle.std.proofs.lemmas.Result.{err_from_is_err_and}
use Rattle.answer.specs.Tests.{via}
use Rattle.userspace.proofs.Steps.{held, none_held}
use Rattle.userspace.proofs.KernelObject.has_perm.Goals as goal

pub returns-in_err-mask_of : goal.returns-in_err-mask_of
returns-in_err-mask_of c =
    let p = err_from_is_err_and c.from_residual.result c.from_residual.ensures.1 in
    rw (p.1, p.2) (sym (none_held c.args.self _ _ (via c.mask_of.ensures c.in_err-mask_of.was)))

pub returns : goal.returns
returns c = sym (held c.args.self _ _ (via c.mask_of.ensures c.in_ok-mask_of.was))
