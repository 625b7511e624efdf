-- Two results that meet a function's own contract are equal: the contract fixes the answer.
use Prim.Native.Nat.{ℕ}
use mathlib.Core.Path.{◌≡◌, sym, ◌∙◌}
use mathlib.Core.Bool.{Bool}
use Rattle.userspace_decide.specs.Decide.{Validated}
use Rattle.userspace_decide.proofs.access_decide.Reads as access-decide
use Rattle.userspace_decide.proofs.validate_decide.Reads as validate-decide
use Rattle.userspace_decide.proofs.init_flags_decide.Reads as init-flags-decide
use Rattle.userspace_decide.proofs.uninit_flags_decide.Reads as uninit-flags-decide
use Rattle.userspace_decide.proofs.recycle_flags_decide.Reads as recycle-flags-decide
use Rattle.userspace_decide.proofs.make_public_flags_decide.Reads as make-public-flags-decide
use Rattle.userspace_decide.proofs.validated_number.Reads as validated-number

pub access_decide_unique :
    (a : _) (r₁ r₂ : Bool) (s₁ s₂ : _) → access-decide.Post (tt {0}) a r₁ s₁ → access-decide.Post (tt {0}) a r₂ s₂ → r₁ ≡ r₂
access_decide_unique a r₁ r₂ s₁ s₂ p q = p ∙ sym q

pub validate_decide_unique :
    (a : _) (r₁ r₂ : Validated) (s₁ s₂ : _) → validate-decide.Post (tt {0}) a r₁ s₁ → validate-decide.Post (tt {0}) a r₂ s₂ → r₁ ≡ r₂
validate_decide_unique a r₁ r₂ s₁ s₂ p q = p ∙ sym q

pub init_flags_decide_unique :
    (a : _) (r₁ r₂ : ℕ) (s₁ s₂ : _) → init-flags-decide.Post (tt {0}) a r₁ s₁ → init-flags-decide.Post (tt {0}) a r₂ s₂ → r₁ ≡ r₂
init_flags_decide_unique a r₁ r₂ s₁ s₂ p q = p ∙ sym q

pub uninit_flags_decide_unique :
    (a : _) (r₁ r₂ : ℕ) (s₁ s₂ : _) → uninit-flags-decide.Post (tt {0}) a r₁ s₁ → uninit-flags-decide.Post (tt {0}) a r₂ s₂ → r₁ ≡ r₂
uninit_flags_decide_unique a r₁ r₂ s₁ s₂ p q = p ∙ sym q

pub recycle_flags_decide_unique :
    (a : _) (r₁ r₂ : ℕ) (s₁ s₂ : _) → recycle-flags-decide.Post (tt {0}) a r₁ s₁ → recycle-flags-decide.Post (tt {0}) a r₂ s₂ → r₁ ≡ r₂
recycle_flags_decide_unique a r₁ r₂ s₁ s₂ p q = p ∙ sym q

pub make_public_flags_decide_unique :
    (a : _) (r₁ r₂ : ℕ) (s₁ s₂ : _) → make-public-flags-decide.Post (tt {0}) a r₁ s₁ → make-public-flags-decide.Post (tt {0}) a r₂ s₂ → r₁ ≡ r₂
make_public_flags_decide_unique a r₁ r₂ s₁ s₂ p q = p ∙ sym q

pub validated_number_unique :
    (a : _) (r₁ r₂ : ℕ) (s₁ s₂ : _) → validated-number.Post (tt {0}) a r₁ s₁ → validated-number.Post (tt {0}) a r₂ s₂ → r₁ ≡ r₂
validated_number_unique a r₁ r₂ s₁ s₂ p q = p ∙ sym q
