-- Two results that meet a function's contract are equal, and so is what they leave in the lent buffer.
use Rattle.std.proofs.Common.{◌≡◌, ℕ, sym, ◌∙◌}
use Rattle.words.proofs.put_call.Reads as call
use Rattle.words.proofs.put_answer.Reads as answer

pub put_call_unique :
    (κs : _) (a : _) (r₁ r₂ : ℕ) (s₁ s₂ : _) → call.Post κs a r₁ s₁ → call.Post κs a r₂ s₂ → (r₁ ≡ r₂) × (s₁.0.now ≡ s₂.0.now)
put_call_unique κs a r₁ r₂ s₁ s₂ p q = (p.next ∙ sym q.next, p.text ∙ sym q.text)

pub put_answer_unique :
    (κs : _) (a : _) (r₁ r₂ : ℕ) (s₁ s₂ : _) → answer.Post κs a r₁ s₁ → answer.Post κs a r₂ s₂ → (r₁ ≡ r₂) × (s₁.0.now ≡ s₂.0.now)
put_answer_unique κs a r₁ r₂ s₁ s₂ p q = (p.next ∙ sym q.next, p.text ∙ sym q.text)
