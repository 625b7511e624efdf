-- Two results that meet the writer's contract are equal, and so is what they leave in the lent buffer.
use Rattle.std.proofs.Common.{◌≡◌, sym, ◌∙◌}
use Rattle.image_write.proofs.Told.{one_result}
use Rattle.image_write.proofs.write.Reads as write

pub write_unique :
    (κs : _) (a : _) (r₁ r₂ : _) (s₁ s₂ : _) → write.Post κs a r₁ s₁ → write.Post κs a r₂ s₂ → (r₁ ≡ r₂) × (s₁.1.1.1.0.now ≡ s₂.1.1.1.0.now)
write_unique κs a r₁ r₂ s₁ s₂ p q =
    (one_result r₁ r₂ p.1 q.1 (p.0.answer ∙ sym q.0.answer), p.0.bytes ∙ sym q.0.bytes)
