use Rattle.std.proofs.Common.{sym, ap, ◌∙◌, rules}
use Rattle.std.proofs.lemmas.Result.{err_from_is_err_and}
use Rattle.answer.specs.Tests.{via}
use Rattle.userspace.specs.Userspace.{revoked, with_word}
use Rattle.userspace.proofs.Steps.{bit_ok, taken, missed, clear_is_mask}
use Rattle.userspace.proofs.KernelObject.revoke_access.Goals as goal

pub returns-in_err-self-clause-answer : goal.returns-in_err-self-clause-answer
unfolding revoked
returns-in_err-self-clause-answer c =
    let p = err_from_is_err_and c.from_residual.result c.from_residual.ensures.1 in
    rw (p.1, p.2) (sym (ap (λ r. r.answer) (missed _ _ _ _ (via c.mask_of.ensures c.in_err-self.was))))

pub returns-in_err-self-clause-object : goal.returns-in_err-self-clause-object
unfolding revoked
returns-in_err-self-clause-object c = sym (ap (λ r. r.object) (missed _ _ _ _ (via c.mask_of.ensures c.in_err-self.was)))

pub returns-clause-answer : goal.returns-clause-answer
unfolding revoked
returns-clause-answer c = sym (ap (λ r. r.answer) (taken _ _ _ _ (via c.mask_of.ensures c.in_ok-self.was)))

pub returns-clause-object : goal.returns-clause-object
unfolding revoked
returns-clause-object c =
    let e = via c.mask_of.ensures c.in_ok-self.was in
    let b = bit_ok _ _ e in
    ap (with_word c.args.self.now) (clear_is_mask _ _ _ b.0 b.1 (search rules)) ∙ sym (ap (λ r. r.object) (taken _ _ _ _ e))
