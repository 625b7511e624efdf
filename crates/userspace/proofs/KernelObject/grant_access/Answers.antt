use Rattle.std.proofs.Common.{sym, ap, ◌∙◌}
use Rattle.std.proofs.lemmas.Result.{err_from_is_err_and}
use Rattle.answer.specs.Tests.{via}
use Rattle.userspace.specs.Userspace.{granted, with_word}
use Rattle.userspace.proofs.Steps.{bit_ok, taken, missed, set_is}
use Rattle.userspace.proofs.KernelObject.grant_access.Goals as goal

pub returns-in_err-self-clause-answer : goal.returns-in_err-self-clause-answer
unfolding granted
returns-in_err-self-clause-answer c =
    let p = err_from_is_err_and c.from_residual.result c.from_residual.ensures.1 in
    rw (p.1, p.2) (sym (ap (λ r. r.answer) (missed _ _ _ _ (via c.mask_of.ensures c.in_err-self.was))))

pub returns-in_err-self-clause-object : goal.returns-in_err-self-clause-object
unfolding granted
returns-in_err-self-clause-object c = sym (ap (λ r. r.object) (missed _ _ _ _ (via c.mask_of.ensures c.in_err-self.was)))

pub returns-clause-answer : goal.returns-clause-answer
unfolding granted
returns-clause-answer c = sym (ap (λ r. r.answer) (taken _ _ _ _ (via c.mask_of.ensures c.in_ok-self.was)))

pub returns-clause-object : goal.returns-clause-object
unfolding granted
returns-clause-object c =
    let e = via c.mask_of.ensures c.in_ok-self.was in
    let b = bit_ok _ _ e in
    ap (with_word c.args.self.now) (set_is _ _ _ b.1) ∙ sym (ap (λ r. r.object) (taken _ _ _ _ e))
