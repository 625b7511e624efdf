-- Two results that meet the planner's contract are equal, and so are the lent words that they leave behind.
use mathlib.Core.Path.{◌≡◌, sym, ◌∙◌}
use Prim.Native.Nat.{ℕ}
use Rattle.std.specs.Prelude.{Result}
use Rattle.answer.specs.declared.Code.{Code}
use Rattle.planner.proofs.plan.Reads as plan

pub plan_unique :
    (κs : _) (a : _) (r₁ r₂ : Result ℕ Code) (s₁ s₂ : _) → plan.Post κs a r₁ s₁ → plan.Post κs a r₂ s₂ → (r₁ ≡ r₂) × (s₁.1.1.0.now ≡ s₂.1.1.0.now)
plan_unique κs a r₁ r₂ s₁ s₂ p q = (p.answer ∙ sym q.answer, p.words ∙ sym q.words)
