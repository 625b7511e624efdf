-- Two results that meet a function's own contract are equal: the contract fixes the answer.
use Prim.Native.Nat.{ℕ}
use mathlib.Core.Path.{◌≡◌, sym, ◌∙◌}
use lib.IntN.{ℤ}
use Rattle.std.specs.Prelude.{Option, Result}
use Rattle.userspace_names.specs.declared.ObjType.{ObjType}
use Rattle.userspace_names.specs.declared.InitCheck.{InitCheck}
use Rattle.userspace_names.proofs.obj_type_number.Reads as obj-type-number
use Rattle.userspace_names.proofs.obj_type_of.Reads as obj-type-of
use Rattle.userspace_names.proofs.init_check_number.Reads as init-check-number
use Rattle.userspace_names.proofs.init_check_of.Reads as init-check-of
use Rattle.userspace_names.specs.declared.UnknownType.{UnknownType}
use Rattle.userspace_names.specs.declared.UnknownCheck.{UnknownCheck}
use Rattle.userspace_names.proofs.ObjTypeTryFromU32.try_from.Reads as type-from
use Rattle.userspace_names.proofs.InitCheckTryFromI32.try_from.Reads as check-from

pub obj_type_number_unique :
    (a : _) (r₁ r₂ : ℕ) (s₁ s₂ : _) → obj-type-number.Post (tt {0}) a r₁ s₁ → obj-type-number.Post (tt {0}) a r₂ s₂ → r₁ ≡ r₂
obj_type_number_unique a r₁ r₂ s₁ s₂ p q = p ∙ sym q

pub obj_type_of_unique :
    (a : _) (r₁ r₂ : Option ObjType) (s₁ s₂ : _) → obj-type-of.Post (tt {0}) a r₁ s₁ → obj-type-of.Post (tt {0}) a r₂ s₂ → r₁ ≡ r₂
obj_type_of_unique a r₁ r₂ s₁ s₂ p q = p ∙ sym q

pub init_check_number_unique :
    (a : _) (r₁ r₂ : ℤ) (s₁ s₂ : _) → init-check-number.Post (tt {0}) a r₁ s₁ → init-check-number.Post (tt {0}) a r₂ s₂ → r₁ ≡ r₂
init_check_number_unique a r₁ r₂ s₁ s₂ p q = p ∙ sym q

pub init_check_of_unique :
    (a : _) (r₁ r₂ : Option InitCheck) (s₁ s₂ : _) → init-check-of.Post (tt {0}) a r₁ s₁ → init-check-of.Post (tt {0}) a r₂ s₂ → r₁ ≡ r₂
init_check_of_unique a r₁ r₂ s₁ s₂ p q = p ∙ sym q

pub ObjTypeTryFromU32_try_from_unique :
    (κs : _) (a : _) (r₁ r₂ : Result ObjType UnknownType) (s₁ s₂ : _) → type-from.Post κs a r₁ s₁ → type-from.Post κs a r₂ s₂ → r₁ ≡ r₂
ObjTypeTryFromU32_try_from_unique κs a r₁ r₂ s₁ s₂ p q = p ∙ sym q

pub InitCheckTryFromI32_try_from_unique :
    (κs : _) (a : _) (r₁ r₂ : Result InitCheck UnknownCheck) (s₁ s₂ : _) → check-from.Post κs a r₁ s₁ → check-from.Post κs a r₂ s₂ → r₁ ≡ r₂
InitCheckTryFromI32_try_from_unique κs a r₁ r₂ s₁ s₂ p q = p ∙ sym q
