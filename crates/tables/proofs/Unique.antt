-- Two results that meet a function's own contract are equal, and so is what stands behind each `&mut` as it returns.
use mathlib.Core.Path.{◌≡◌, sym, ◌∙◌}
use mathlib.Core.Bool.{Bool}
use Rattle.mem_partition.specs.declared.MemPartition.{MemPartition}
use Rattle.mem_domain.specs.declared.MemDomain.{MemDomain}
use Rattle.tables.specs.declared.Thread.{Thread}
use Rattle.tables.proofs.is_sized.Reads as is-sized
use Rattle.tables.proofs.load.Reads as load-number
use Rattle.tables.proofs.store.Reads as store-number
use Rattle.tables.proofs.load_thread.Reads as load-thread
use Rattle.tables.proofs.store_thread.Reads as store-thread
use Rattle.tables.proofs.load_slot.Reads as load-slot
use Rattle.tables.proofs.store_slot.Reads as store-slot
use Rattle.tables.proofs.load_domain.Reads as load-domain
use Rattle.tables.proofs.store_domain.Reads as store-domain

pub is_sized_unique : (a : _) (r₁ r₂ : Bool) (s₁ s₂ : _) → is-sized.Post (tt {0}) a r₁ s₁ → is-sized.Post (tt {0}) a r₂ s₂ → r₁ ≡ r₂
is_sized_unique a r₁ r₂ s₁ s₂ p q = p ∙ sym q

pub load_unique :
    (g l m n o : _) (κs : _) (a : _) (r₁ r₂ : _) (s₁ s₂ : _) → load-number.Post g l m n o κs a r₁ s₁ → load-number.Post g l m n o κs a r₂ s₂ → r₁ ≡ r₂
load_unique g l m n o κs a r₁ r₂ s₁ s₂ p q = p ∙ sym q

pub store_unique :
    (g l m n o : _) (κs : _) (a : _) (r₁ r₂ : _) (s₁ s₂ : _) → store-number.Post g l m n o κs a r₁ s₁ → store-number.Post g l m n o κs a r₂ s₂ → s₁.0.now ≡ s₂.0.now
store_unique g l m n o κs a r₁ r₂ s₁ s₂ p q = p ∙ sym q

pub load_thread_unique :
    (κs : _) (a : _) (r₁ r₂ : Thread) (s₁ s₂ : _) → load-thread.Post κs a r₁ s₁ → load-thread.Post κs a r₂ s₂ → r₁ ≡ r₂
load_thread_unique κs a r₁ r₂ s₁ s₂ p q = p ∙ sym q

pub store_thread_unique :
    (κs : _) (a : _) (r₁ r₂ : _) (s₁ s₂ : _) → store-thread.Post κs a r₁ s₁ → store-thread.Post κs a r₂ s₂ → s₁.0.now ≡ s₂.0.now
store_thread_unique κs a r₁ r₂ s₁ s₂ p q = p ∙ sym q

pub load_slot_unique :
    (κs : _) (a : _) (r₁ r₂ : MemPartition) (s₁ s₂ : _) → load-slot.Post κs a r₁ s₁ → load-slot.Post κs a r₂ s₂ → r₁ ≡ r₂
load_slot_unique κs a r₁ r₂ s₁ s₂ p q = p ∙ sym q

pub store_slot_unique :
    (κs : _) (a : _) (r₁ r₂ : _) (s₁ s₂ : _) → store-slot.Post κs a r₁ s₁ → store-slot.Post κs a r₂ s₂ → s₁.0.now ≡ s₂.0.now
store_slot_unique κs a r₁ r₂ s₁ s₂ p q = p ∙ sym q

pub load_domain_unique :
    (κs : _) (a : _) (r₁ r₂ : MemDomain) (s₁ s₂ : _) → load-domain.Post κs a r₁ s₁ → load-domain.Post κs a r₂ s₂ → r₁ ≡ r₂
load_domain_unique κs a r₁ r₂ s₁ s₂ p q = p ∙ sym q

pub store_domain_unique :
    (κs : _) (a : _) (r₁ r₂ : _) (s₁ s₂ : _) → store-domain.Post κs a r₁ s₁ → store-domain.Post κs a r₂ s₂ → s₁.0.now ≡ s₂.0.now
store_domain_unique κs a r₁ r₂ s₁ s₂ p q = p ∙ sym q
