-- Two results that meet a function's own contract are equal: the contract fixes the answer, and the record that comes back.
use Prim.Native.Nat.{ℕ}
use mathlib.Core.Path.{◌≡◌, sym, ◌∙◌}
use mathlib.Core.Bool.{Bool}
use Rattle.userspace.specs.declared.KernelObject.{KernelObject}
use Rattle.std.specs.Prelude.{Result, ⊤}
use Rattle.answer.specs.declared.Code.{Code}
use Rattle.userspace_decide.specs.Decide.{Validated}
use Rattle.userspace.proofs.KernelObject.new.Reads as new
use Rattle.userspace.proofs.KernelObject.grant_access.Reads as grant-access
use Rattle.userspace.proofs.KernelObject.revoke_access.Reads as revoke-access
use Rattle.userspace.proofs.KernelObject.clear_thread_perm.Reads as clear-thread-perm
use Rattle.userspace.proofs.KernelObject.clear_all_perms.Reads as clear-all-perms
use Rattle.userspace.proofs.KernelObject.check_access.Reads as check-access
use Rattle.userspace.proofs.KernelObject.validate.Reads as validate
use Rattle.userspace.proofs.KernelObject.init_object.Reads as init-object
use Rattle.userspace.proofs.KernelObject.uninit_object.Reads as uninit-object
use Rattle.userspace.proofs.KernelObject.recycle.Reads as recycle
use Rattle.userspace.proofs.KernelObject.make_public.Reads as make-public
use Rattle.userspace.proofs.KernelObject.is_initialized.Reads as is-initialized
use Rattle.userspace.proofs.KernelObject.is_public.Reads as is-public
use Rattle.userspace.proofs.KernelObject.is_alloc.Reads as is-alloc
use Rattle.userspace.proofs.KernelObject.is_driver.Reads as is-driver
use Rattle.userspace.proofs.KernelObject.has_perm.Reads as has-perm
use Rattle.userspace.proofs.KernelObject.obj_type_get.Reads as obj-type-get

pub new_unique :
    (a : _) (r₁ r₂ : KernelObject) (s₁ s₂ : _) → new.Post (tt {0}) a r₁ s₁ → new.Post (tt {0}) a r₂ s₂ → r₁ ≡ r₂
new_unique a r₁ r₂ s₁ s₂ p q = p ∙ sym q

pub grant_access_unique :
    (κs : _) (a : _) (r₁ r₂ : Result ⊤ Code) (s₁ s₂ : _) → grant-access.Post κs a r₁ s₁ → grant-access.Post κs a r₂ s₂ → (r₁ ≡ r₂) × (s₁.0.now ≡ s₂.0.now)
grant_access_unique κs a r₁ r₂ s₁ s₂ p q = (p.0 ∙ sym q.0, p.1 ∙ sym q.1)

pub revoke_access_unique :
    (κs : _) (a : _) (r₁ r₂ : Result ⊤ Code) (s₁ s₂ : _) → revoke-access.Post κs a r₁ s₁ → revoke-access.Post κs a r₂ s₂ → (r₁ ≡ r₂) × (s₁.0.now ≡ s₂.0.now)
revoke_access_unique κs a r₁ r₂ s₁ s₂ p q = (p.0 ∙ sym q.0, p.1 ∙ sym q.1)

pub clear_thread_perm_unique :
    (κs : _) (a : _) (r₁ r₂ : Result ⊤ Code) (s₁ s₂ : _) → clear-thread-perm.Post κs a r₁ s₁ → clear-thread-perm.Post κs a r₂ s₂ → (r₁ ≡ r₂) × (s₁.0.now ≡ s₂.0.now)
clear_thread_perm_unique κs a r₁ r₂ s₁ s₂ p q = (p.0 ∙ sym q.0, p.1 ∙ sym q.1)

pub clear_all_perms_unique :
    (κs : _) (a : _) (r₁ r₂ : ⊤) (s₁ s₂ : _) → clear-all-perms.Post κs a r₁ s₁ → clear-all-perms.Post κs a r₂ s₂ → s₁.0.now ≡ s₂.0.now
clear_all_perms_unique κs a r₁ r₂ s₁ s₂ p q = p ∙ sym q

pub check_access_unique :
    (a : _) (r₁ r₂ : Bool) (s₁ s₂ : _) → check-access.Post (tt {0}) a r₁ s₁ → check-access.Post (tt {0}) a r₂ s₂ → r₁ ≡ r₂
check_access_unique a r₁ r₂ s₁ s₂ p q = p ∙ sym q

pub validate_unique :
    (a : _) (r₁ r₂ : Validated) (s₁ s₂ : _) → validate.Post (tt {0}) a r₁ s₁ → validate.Post (tt {0}) a r₂ s₂ → r₁ ≡ r₂
validate_unique a r₁ r₂ s₁ s₂ p q = p ∙ sym q

pub init_object_unique :
    (κs : _) (a : _) (r₁ r₂ : ⊤) (s₁ s₂ : _) → init-object.Post κs a r₁ s₁ → init-object.Post κs a r₂ s₂ → s₁.0.now ≡ s₂.0.now
init_object_unique κs a r₁ r₂ s₁ s₂ p q = p ∙ sym q

pub uninit_object_unique :
    (κs : _) (a : _) (r₁ r₂ : ⊤) (s₁ s₂ : _) → uninit-object.Post κs a r₁ s₁ → uninit-object.Post κs a r₂ s₂ → s₁.0.now ≡ s₂.0.now
uninit_object_unique κs a r₁ r₂ s₁ s₂ p q = p ∙ sym q

pub recycle_unique :
    (κs : _) (a : _) (r₁ r₂ : Result ⊤ Code) (s₁ s₂ : _) → recycle.Post κs a r₁ s₁ → recycle.Post κs a r₂ s₂ → (r₁ ≡ r₂) × (s₁.0.now ≡ s₂.0.now)
recycle_unique κs a r₁ r₂ s₁ s₂ p q = (p.0 ∙ sym q.0, p.1 ∙ sym q.1)

pub make_public_unique :
    (κs : _) (a : _) (r₁ r₂ : ⊤) (s₁ s₂ : _) → make-public.Post κs a r₁ s₁ → make-public.Post κs a r₂ s₂ → s₁.0.now ≡ s₂.0.now
make_public_unique κs a r₁ r₂ s₁ s₂ p q = p ∙ sym q

pub is_initialized_unique :
    (a : _) (r₁ r₂ : Bool) (s₁ s₂ : _) → is-initialized.Post (tt {0}) a r₁ s₁ → is-initialized.Post (tt {0}) a r₂ s₂ → r₁ ≡ r₂
is_initialized_unique a r₁ r₂ s₁ s₂ p q = p ∙ sym q

pub is_public_unique :
    (a : _) (r₁ r₂ : Bool) (s₁ s₂ : _) → is-public.Post (tt {0}) a r₁ s₁ → is-public.Post (tt {0}) a r₂ s₂ → r₁ ≡ r₂
is_public_unique a r₁ r₂ s₁ s₂ p q = p ∙ sym q

pub is_alloc_unique :
    (a : _) (r₁ r₂ : Bool) (s₁ s₂ : _) → is-alloc.Post (tt {0}) a r₁ s₁ → is-alloc.Post (tt {0}) a r₂ s₂ → r₁ ≡ r₂
is_alloc_unique a r₁ r₂ s₁ s₂ p q = p ∙ sym q

pub is_driver_unique :
    (a : _) (r₁ r₂ : Bool) (s₁ s₂ : _) → is-driver.Post (tt {0}) a r₁ s₁ → is-driver.Post (tt {0}) a r₂ s₂ → r₁ ≡ r₂
is_driver_unique a r₁ r₂ s₁ s₂ p q = p ∙ sym q

pub has_perm_unique :
    (a : _) (r₁ r₂ : Result Bool Code) (s₁ s₂ : _) → has-perm.Post (tt {0}) a r₁ s₁ → has-perm.Post (tt {0}) a r₂ s₂ → r₁ ≡ r₂
has_perm_unique a r₁ r₂ s₁ s₂ p q = p ∙ sym q

pub obj_type_get_unique :
    (a : _) (r₁ r₂ : ℕ) (s₁ s₂ : _) → obj-type-get.Post (tt {0}) a r₁ s₁ → obj-type-get.Post (tt {0}) a r₂ s₂ → r₁ ≡ r₂
obj_type_get_unique a r₁ r₂ s₁ s₂ p q = p ∙ sym q
