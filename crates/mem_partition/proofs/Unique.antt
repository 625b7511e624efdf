-- Two results that meet a function's own contract are equal: the contract fixes the answer.
use Prim.Native.Nat.{ℕ}
use mathlib.Core.Path.{◌≡◌, sym, ◌∙◌}
use mathlib.Core.Bool.{Bool}
use Rattle.mem_partition.proofs.MemPartition.end_u64.Reads as end-u64
use Rattle.mem_partition.proofs.MemPartition.is_valid.Reads as is-valid
use Rattle.mem_partition.proofs.MemPartition.overlaps.Reads as overlaps
use Rattle.mem_partition.proofs.partition_valid_decide.Reads as partition-valid-decide
use Rattle.mem_partition.proofs.partitions_overlap_decide.Reads as partitions-overlap-decide

pub end_u64_unique :
    (a : _) (r₁ r₂ : ℕ) (s₁ s₂ : _) → end-u64.Post (tt {0}) a r₁ s₁ → end-u64.Post (tt {0}) a r₂ s₂ → r₁ ≡ r₂
end_u64_unique a r₁ r₂ s₁ s₂ p q = p ∙ sym q

pub is_valid_unique :
    (a : _) (r₁ r₂ : Bool) (s₁ s₂ : _) → is-valid.Post (tt {0}) a r₁ s₁ → is-valid.Post (tt {0}) a r₂ s₂ → r₁ ≡ r₂
is_valid_unique a r₁ r₂ s₁ s₂ p q = p ∙ sym q

pub overlaps_unique :
    (a : _) (r₁ r₂ : Bool) (s₁ s₂ : _) → overlaps.Post (tt {0}) a r₁ s₁ → overlaps.Post (tt {0}) a r₂ s₂ → r₁ ≡ r₂
overlaps_unique a r₁ r₂ s₁ s₂ p q = p ∙ sym q

pub partition_valid_decide_unique :
    (a : _) (r₁ r₂ : Bool) (s₁ s₂ : _) → partition-valid-decide.Post (tt {0}) a r₁ s₁ → partition-valid-decide.Post (tt {0}) a r₂ s₂ → r₁ ≡ r₂
partition_valid_decide_unique a r₁ r₂ s₁ s₂ p q = p ∙ sym q

pub partitions_overlap_decide_unique :
    (a : _) (r₁ r₂ : Bool) (s₁ s₂ : _) → partitions-overlap-decide.Post (tt {0}) a r₁ s₁ → partitions-overlap-decide.Post (tt {0}) a r₂ s₂ → r₁ ≡ r₂
partitions_overlap_decide_unique a r₁ r₂ s₁ s₂ p q = p ∙ sym q
