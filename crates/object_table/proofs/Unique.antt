-- Two results that meet a function's own contract are equal, and so is what stands behind each `&mut` as it returns.
use mathlib.Core.Path.{◌≡◌, sym, ◌∙◌}
use Rattle.userspace.specs.declared.KernelObject.{KernelObject}
use Rattle.object_table.proofs.load_object.Reads as load-object
use Rattle.object_table.proofs.store_object.Reads as store-object

pub load_object_unique :
    (κs : _) (a : _) (r₁ r₂ : KernelObject) (s₁ s₂ : _) → load-object.Post κs a r₁ s₁ → load-object.Post κs a r₂ s₂ → r₁ ≡ r₂
load_object_unique κs a r₁ r₂ s₁ s₂ p q = p ∙ sym q

pub store_object_unique :
    (κs : _) (a : _) (r₁ r₂ : _) (s₁ s₂ : _) → store-object.Post κs a r₁ s₁ → store-object.Post κs a r₂ s₂ → s₁.0.now ≡ s₂.0.now
store_object_unique κs a r₁ r₂ s₁ s₂ p q = p ∙ sym q
