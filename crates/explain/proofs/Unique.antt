-- Two results that meet the contract are equal, and so is what they leave in the lent buffer.
use Rattle.std.proofs.Common.{◌≡◌, ℕ, Result, sym, ◌∙◌}
use Rattle.answer.specs.declared.Code.{Code}
use Rattle.explain.proofs.line_number.Reads as number
use Rattle.explain.proofs.put_explained.Reads as explained

pub line_number_unique : (κs : _) (a : _) (r₁ r₂ : ℕ) (s₁ s₂ : _) → number.Post κs a r₁ s₁ → number.Post κs a r₂ s₂ → r₁ ≡ r₂
line_number_unique κs a r₁ r₂ s₁ s₂ p q = p ∙ sym q

pub put_explained_unique :
    (κs : _) (a : _) (r₁ r₂ : Result ℕ Code) (s₁ s₂ : _) → explained.Post κs a r₁ s₁ → explained.Post κs a r₂ s₂ → (r₁ ≡ r₂) × (s₁.1.1.1.1.0.now ≡ s₂.1.1.1.1.0.now)
put_explained_unique κs a r₁ r₂ s₁ s₂ p q = (p.answer ∙ sym q.answer, p.text ∙ sym q.text)
