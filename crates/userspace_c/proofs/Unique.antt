-- Two results that meet a function's own contract are equal, and so is what stands behind each `&mut` at exit.
use Prim.Native.Nat.{ℕ}
use mathlib.Core.Path.{◌≡◌, sym, ◌∙◌}
use mathlib.Core.Bool.{Bool}
use Rattle.userspace_c.proofs.userspace_grant.Reads as userspace-grant
use Rattle.userspace_c.proofs.userspace_revoke.Reads as userspace-revoke
use Rattle.userspace_c.proofs.userspace_recycle.Reads as userspace-recycle
use Rattle.userspace_c.proofs.userspace_has_perm.Reads as userspace-has-perm
use Rattle.userspace_c.proofs.userspace_check_access.Reads as userspace-check-access
use Rattle.userspace_c.proofs.userspace_validate.Reads as userspace-validate

pub userspace_grant_unique :
    (κs : _) (a : _) (r₁ r₂ : ℕ) (s₁ s₂ : _) → userspace-grant.Post κs a r₁ s₁ → userspace-grant.Post κs a r₂ s₂ → (r₁ ≡ r₂) × (s₁.0.now ≡ s₂.0.now)
userspace_grant_unique κs a r₁ r₂ s₁ s₂ p q = (p.code ∙ sym q.code, p.word ∙ sym q.word)

pub userspace_revoke_unique :
    (κs : _) (a : _) (r₁ r₂ : ℕ) (s₁ s₂ : _) → userspace-revoke.Post κs a r₁ s₁ → userspace-revoke.Post κs a r₂ s₂ → (r₁ ≡ r₂) × (s₁.0.now ≡ s₂.0.now)
userspace_revoke_unique κs a r₁ r₂ s₁ s₂ p q = (p.code ∙ sym q.code, p.word ∙ sym q.word)

pub userspace_recycle_unique :
    (κs : _) (a : _) (r₁ r₂ : ℕ) (s₁ s₂ : _) → userspace-recycle.Post κs a r₁ s₁ → userspace-recycle.Post κs a r₂ s₂ → (r₁ ≡ r₂) × (s₁.0.now ≡ s₂.0.now) × (s₁.1.0.now ≡ s₂.1.0.now)
userspace_recycle_unique κs a r₁ r₂ s₁ s₂ p q = (p.code ∙ sym q.code, p.flags_after_lem ∙ sym q.flags_after_lem, p.word_after ∙ sym q.word_after)

pub userspace_has_perm_unique :
    (κs : _) (a : _) (r₁ r₂ : ℕ) (s₁ s₂ : _) → userspace-has-perm.Post κs a r₁ s₁ → userspace-has-perm.Post κs a r₂ s₂ → (r₁ ≡ r₂) × (s₁.1.1.0.now ≡ s₂.1.1.0.now)
userspace_has_perm_unique κs a r₁ r₂ s₁ s₂ p q = (p.code ∙ sym q.code, p.told ∙ sym q.told)

pub userspace_check_access_unique :
    (a : _) (r₁ r₂ : Bool) (s₁ s₂ : _) → userspace-check-access.Post (tt {0}) a r₁ s₁ → userspace-check-access.Post (tt {0}) a r₂ s₂ → r₁ ≡ r₂
userspace_check_access_unique a r₁ r₂ s₁ s₂ p q = p ∙ sym q

pub userspace_validate_unique :
    (a : _) (r₁ r₂ : ℕ) (s₁ s₂ : _) → userspace-validate.Post (tt {0}) a r₁ s₁ → userspace-validate.Post (tt {0}) a r₂ s₂ → r₁ ≡ r₂
userspace_validate_unique a r₁ r₂ s₁ s₂ p q = p ∙ sym q
