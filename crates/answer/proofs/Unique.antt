-- Two results that meet a function's own contract are equal: the contract fixes the answer.
use Rattle.std.specs.Prelude.{ℕ, ◌≡◌, ℤ, Option, Result}
use Rattle.std.proofs.Common.{sym, ◌∙◌}
use Rattle.answer.specs.declared.Code.{Code}
use Rattle.answer.proofs.number.Reads as number
use Rattle.answer.proofs.code_of.Reads as code-of
use Rattle.answer.proofs.to_errno.Reads as to-errno
use Rattle.answer.specs.declared.UnknownCode.{UnknownCode}
use Rattle.answer.specs.declared.Answer.{Answer}
use Rattle.answer.proofs.CodeTryFromU32.try_from.Reads as try-from
use Rattle.answer.proofs.AnswerFromCode.from.Reads as from-code
use Rattle.answer.proofs.AnswerFromResultU32Code.from.Reads as from-valued
use Rattle.answer.proofs.AnswerFromResultUnitCode.from.Reads as from-done

pub number_unique :
    (a : _) (r₁ r₂ : ℕ) (s₁ s₂ : _) → number.Post (tt {0}) a r₁ s₁ → number.Post (tt {0}) a r₂ s₂ → r₁ ≡ r₂
number_unique a r₁ r₂ s₁ s₂ p q = p ∙ sym q

pub code_of_unique :
    (a : _) (r₁ r₂ : Option Code) (s₁ s₂ : _) → code-of.Post (tt {0}) a r₁ s₁ → code-of.Post (tt {0}) a r₂ s₂ → r₁ ≡ r₂
code_of_unique a r₁ r₂ s₁ s₂ p q = p ∙ sym q

pub to_errno_unique :
    (a : _) (r₁ r₂ : Result ℤ Code) (s₁ s₂ : _) → to-errno.Post (tt {0}) a r₁ s₁ → to-errno.Post (tt {0}) a r₂ s₂ → r₁ ≡ r₂
to_errno_unique a r₁ r₂ s₁ s₂ p q = p ∙ sym q

pub try_from_unique :
    (κs : _) (a : _) (r₁ r₂ : Result Code UnknownCode) (s₁ s₂ : _) → try-from.Post κs a r₁ s₁ → try-from.Post κs a r₂ s₂ → r₁ ≡ r₂
try_from_unique κs a r₁ r₂ s₁ s₂ p q = p ∙ sym q

pub AnswerFromCode_from_unique :
    (κs : _) (a : _) (r₁ r₂ : Answer) (s₁ s₂ : _) → from-code.Post κs a r₁ s₁ → from-code.Post κs a r₂ s₂ → r₁ ≡ r₂
AnswerFromCode_from_unique κs a r₁ r₂ s₁ s₂ p q = p ∙ sym q

pub AnswerFromResultU32Code_from_unique :
    (κs : _) (a : _) (r₁ r₂ : Answer) (s₁ s₂ : _) → from-valued.Post κs a r₁ s₁ → from-valued.Post κs a r₂ s₂ → r₁ ≡ r₂
AnswerFromResultU32Code_from_unique κs a r₁ r₂ s₁ s₂ p q = p ∙ sym q

pub AnswerFromResultUnitCode_from_unique :
    (κs : _) (a : _) (r₁ r₂ : Answer) (s₁ s₂ : _) → from-done.Post κs a r₁ s₁ → from-done.Post κs a r₂ s₂ → r₁ ≡ r₂
AnswerFromResultUnitCode_from_unique κs a r₁ r₂ s₁ s₂ p q = p ∙ sym q
