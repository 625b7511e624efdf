-- That a `Result` is known by the answer that it tells.
use Rattle.std.proofs.Common.{ℕ, ◌≡◌, cond, eqb, Result, Ok, Err, refl, sym, ap, ◌∙◌}
use Rattle.answer.specs.declared.Code.{Code}
use Rattle.answer.specs.declared.Code.TheVariants.{Ok as Fine, Einval, Eperm, Ebadf, Eaddrinuse, Enospc, Enoent, Short, Magic, Value, Noplan, Room, Differs}
use Rattle.answer.specs.Answer.{number_of, told}
use Rattle.image_write.specs.Told.{NamesRefusal}

abbrev named : ℕ → Code
named n =
    cond (eqb n 0) Fine (
    cond (eqb n 1) Einval (
    cond (eqb n 2) Eperm (
    cond (eqb n 3) Ebadf (
    cond (eqb n 4) Eaddrinuse (
    cond (eqb n 5) Enospc (
    cond (eqb n 6) Enoent (
    cond (eqb n 7) Short (
    cond (eqb n 8) Magic (
    cond (eqb n 9) Value (
    cond (eqb n 10) Noplan (
    cond (eqb n 11) Room (
    Differs))))))))))))

named_number : (c : Code) → named (number_of c) ≡ c
named_number Fine = refl
named_number Einval = refl
named_number Eperm = refl
named_number Ebadf = refl
named_number Eaddrinuse = refl
named_number Enospc = refl
named_number Enoent = refl
named_number Short = refl
named_number Magic = refl
named_number Value = refl
named_number Noplan = refl
named_number Room = refl
named_number Differs = refl

pub one_code : (c d : Code) → number_of c ≡ number_of d → c ≡ d
one_code c d e = sym (named_number c) ∙ ap named e ∙ named_number d

pub one_result : (r₁ r₂ : Result ℕ Code) → NamesRefusal r₁ → NamesRefusal r₂ → told r₁ ≡ told r₂ → r₁ ≡ r₂
one_result (Ok m) (Ok n) p q e = ap Ok (ap (λ a. a.value) e)
one_result (Ok m) (Err d) p q e = absurd (q (sym (ap (λ a. a.code) e)))
one_result (Err c) (Ok n) p q e = absurd (p (ap (λ a. a.code) e))
one_result (Err c) (Err d) p q e = ap Err (one_code c d (ap (λ a. a.code) e))
