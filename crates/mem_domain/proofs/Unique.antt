-- Two results that meet a function's own contract are equal: the contract fixes the answer.
use Prim.Native.Nat.{ℕ}
use mathlib.Core.Path.{◌≡◌, sym, ◌∙◌}
use mathlib.Core.Bool.{Bool}
use Rattle.mem_domain.specs.declared.MemDomain.{MemDomain}
use Rattle.std.specs.Prelude.{Result}
use Rattle.answer.specs.declared.Code.{Code}
use Rattle.mem_partition.specs.declared.MemPartition.{MemPartition}
use Rattle.mem_domain.proofs.MemDomain.init.Reads as init
use Rattle.mem_domain.proofs.MemDomain.add_partition.Reads as add-partition
use Rattle.mem_domain.proofs.MemDomain.remove_partition.Reads as remove-partition
use Rattle.mem_domain.proofs.MemDomain.num_partitions_get.Reads as num-partitions-get
use Rattle.mem_domain.proofs.MemDomain.counted.Reads as counted
use Rattle.mem_domain.proofs.MemDomain.partition_get.Reads as partition-get
use Rattle.mem_domain.proofs.MemDomain.has_free_slot.Reads as has-free-slot
use Rattle.mem_domain.proofs.MemDomain.contains_addr.Reads as contains-addr

pub init_unique :
    (a : _) (r₁ r₂ : MemDomain) (s₁ s₂ : _) → init.Post (tt {0}) a r₁ s₁ → init.Post (tt {0}) a r₂ s₂ → r₁ ≡ r₂
init_unique a r₁ r₂ s₁ s₂ p q = p ∙ sym q

pub add_partition_unique :
    (κs : _) (a : _) (r₁ r₂ : Result ℕ Code) (s₁ s₂ : _) → add-partition.Post κs a r₁ s₁ → add-partition.Post κs a r₂ s₂ → (r₁ ≡ r₂) × (s₁.0.now ≡ s₂.0.now)
add_partition_unique κs a r₁ r₂ s₁ s₂ p q = (p.0 ∙ sym q.0, p.1 ∙ sym q.1)

pub remove_partition_unique :
    (κs : _) (a : _) (r₁ r₂ : Result ℕ Code) (s₁ s₂ : _) → remove-partition.Post κs a r₁ s₁ → remove-partition.Post κs a r₂ s₂ → (r₁ ≡ r₂) × (s₁.0.now ≡ s₂.0.now)
remove_partition_unique κs a r₁ r₂ s₁ s₂ p q = (p.0 ∙ sym q.0, p.1 ∙ sym q.1)

pub num_partitions_get_unique :
    (a : _) (r₁ r₂ : ℕ) (s₁ s₂ : _) → num-partitions-get.Post (tt {0}) a r₁ s₁ → num-partitions-get.Post (tt {0}) a r₂ s₂ → r₁ ≡ r₂
num_partitions_get_unique a r₁ r₂ s₁ s₂ p q = p ∙ sym q

pub counted_unique :
    (a : _) (r₁ r₂ : MemDomain) (s₁ s₂ : _) → counted.Post (tt {0}) a r₁ s₁ → counted.Post (tt {0}) a r₂ s₂ → r₁ ≡ r₂
counted_unique a r₁ r₂ s₁ s₂ p q = p ∙ sym q

pub partition_get_unique :
    (a : _) (r₁ r₂ : Result MemPartition Code) (s₁ s₂ : _) → partition-get.Post (tt {0}) a r₁ s₁ → partition-get.Post (tt {0}) a r₂ s₂ → r₁ ≡ r₂
partition_get_unique a r₁ r₂ s₁ s₂ p q = p ∙ sym q

pub has_free_slot_unique :
    (a : _) (r₁ r₂ : Bool) (s₁ s₂ : _) → has-free-slot.Post (tt {0}) a r₁ s₁ → has-free-slot.Post (tt {0}) a r₂ s₂ → r₁ ≡ r₂
has_free_slot_unique a r₁ r₂ s₁ s₂ p q = p ∙ sym q

pub contains_addr_unique :
    (a : _) (r₁ r₂ : Bool) (s₁ s₂ : _) → contains-addr.Post (tt {0}) a r₁ s₁ → contains-addr.Post (tt {0}) a r₂ s₂ → r₁ ≡ r₂
contains_addr_unique a r₁ r₂ s₁ s₂ p q = p ∙ sym q
