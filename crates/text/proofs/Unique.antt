-- Two results that meet a function's contract are equal, and so is what they leave in the lent buffer.
use mathlib.Core.Path.{◌≡◌, sym, ◌∙◌}
use Prim.Native.Nat.{ℕ}
use mathlib.Core.Bool.{Bool}
use Rattle.text.proofs.has_room.Reads as room
use Rattle.text.proofs.put_number.Reads as number
use Rattle.text.proofs.put_hex.Reads as hex
use Rattle.text.proofs.put_word.Reads as word

pub has_room_unique :
    (κs : _) (a : _) (r₁ r₂ : Bool) (s₁ s₂ : _) → room.Post κs a r₁ s₁ → room.Post κs a r₂ s₂ → r₁ ≡ r₂
has_room_unique κs a r₁ r₂ s₁ s₂ p q = p ∙ sym q

pub put_number_unique :
    (κs : _) (a : _) (r₁ r₂ : ℕ) (s₁ s₂ : _) → number.Post κs a r₁ s₁ → number.Post κs a r₂ s₂ → (r₁ ≡ r₂) × (s₁.0.now ≡ s₂.0.now)
put_number_unique κs a r₁ r₂ s₁ s₂ p q = (p.count ∙ sym q.count, p.text ∙ sym q.text)

pub put_hex_unique :
    (κs : _) (a : _) (r₁ r₂ : ℕ) (s₁ s₂ : _) → hex.Post κs a r₁ s₁ → hex.Post κs a r₂ s₂ → (r₁ ≡ r₂) × (s₁.0.now ≡ s₂.0.now)
put_hex_unique κs a r₁ r₂ s₁ s₂ p q = (p.count ∙ sym q.count, p.text ∙ sym q.text)

pub put_word_unique :
    (κs : _) (a : _) (r₁ r₂ : ℕ) (s₁ s₂ : _) → word.Post κs a r₁ s₁ → word.Post κs a r₂ s₂ → (r₁ ≡ r₂) × (s₁.0.now ≡ s₂.0.now)
put_word_unique κs a r₁ r₂ s₁ s₂ p q = (p.count ∙ sym q.count, p.text ∙ sym q.text)
