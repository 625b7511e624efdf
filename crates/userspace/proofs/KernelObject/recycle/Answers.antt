use Rattle.std.proofs.Common.{sym, ap}
use Rattle.std.proofs.lemmas.Result.{err_from_is_err_and}
use Rattle.answer.specs.Tests.{via}
use Rattle.userspace.specs.Userspace.{recycled}
use Rattle.userspace.proofs.Steps.{bit_ok, taken, missed, set_zero}
use Rattle.userspace.proofs.KernelObject.recycle.Goals as goal

pub returns-in_err-only-clause-answer : goal.returns-in_err-only-clause-answer
unfolding recycled
returns-in_err-only-clause-answer c =
    let p = err_from_is_err_and c.from_residual.result c.from_residual.ensures.1 in
    rw (p.1, p.2) (sym (ap (λ r. r.answer) (missed _ _ _ _ (via c.mask_of.ensures c.in_err-only.was))))

pub returns-in_err-only-clause-object : goal.returns-in_err-only-clause-object
unfolding recycled
returns-in_err-only-clause-object c = sym (ap (λ r. r.object) (missed _ _ _ _ (via c.mask_of.ensures c.in_err-only.was)))

pub returns-clause-answer : goal.returns-clause-answer
unfolding recycled
returns-clause-answer c = sym (ap (λ r. r.answer) (taken _ _ _ _ (via c.mask_of.ensures c.in_ok-only.was)))

pub returns-clause-object : goal.returns-clause-object
unfolding recycled
returns-clause-object c =
    let e = via c.mask_of.ensures c.in_ok-only.was in
    let b = bit_ok _ _ e in
    rw (c.recycle_flags_decide-self.ensures, set_zero _ _ b.1) (sym (ap (λ r. r.object) (taken _ _ _ _ e)))
