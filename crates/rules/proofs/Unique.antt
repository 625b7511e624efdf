-- Two answers that meet `keeps`' own contract are equal.
use mathlib.Core.Path.{◌≡◌, sym, ◌∙◌}
use mathlib.Core.Bool.{Bool}
use Rattle.rules.proofs.keeps.Reads as keeps

pub keeps_unique : (κs : _) (a : _) (r₁ r₂ : Bool) (s₁ s₂ : _) → keeps.Post κs a r₁ s₁ → keeps.Post κs a r₂ s₂ → r₁ ≡ r₂
keeps_unique κs a r₁ r₂ s₁ s₂ p q = p ∙ sym q
