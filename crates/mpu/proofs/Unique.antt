-- Two results that meet a function's own contract are equal: the contract fixes the answer.
use mathlib.Core.Path.{◌≡◌, sym, ◌∙◌}
use Rattle.std.specs.Prelude.{Result}
use Rattle.answer.specs.declared.Code.{Code}
use Rattle.mpu.proofs.check.Reads as check

pub check_unique :
    (κs : _) (a : _) (r₁ r₂ : Result (Unit {0}) Code) (s₁ s₂ : _) → check.Post κs a r₁ s₁ → check.Post κs a r₂ s₂ → r₁ ≡ r₂
check_unique κs a r₁ r₂ s₁ s₂ p q = p ∙ sym q
