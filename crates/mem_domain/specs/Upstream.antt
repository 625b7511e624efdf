-- Upstream's invariant of a domain, as mem_domain.rs has it, and what it leaves out (docs/SPEC.md, 3.27 to 3.29).
use Rattle.std.specs.Prelude.{ℕ, ◌≤◌, ◌<◌, ◌≡◌, true, false, length}
use Rattle.mem_partition.specs.Partition.{empty, is_valid, overlap_of, is_free}
use Rattle.mem_domain.specs.Domain.{slot_at, active_count}
use Rattle.mem_domain.specs.declared.MemDomain.{MemDomain}

-- inv: MD4 the count is at most 16; MD3 and MD6 every active slot is valid; MD1 no two active slots overlap
pub record Inv (d : MemDomain) : Type 0 where
  pub bounded : d.num_partitions ≤ 16
  pub valid : (i : ℕ) → i < 16 → 0 < (slot_at d.partitions i).size → is_valid (slot_at d.partitions i) ≡ true
  pub apart : (i j : ℕ) → i < 16 → j < 16 → (i ≡ j → ⊥) → 0 < (slot_at d.partitions i).size → 0 < (slot_at d.partitions j).size → overlap_of (slot_at d.partitions i) (slot_at d.partitions j) ≡ false

-- what upstream's type says: sixteen slots; and what its inv does not: the count is how many of them are active
pub record Counted (d : MemDomain) : Type 0 where
  pub whole : length d.partitions ≡ 16
  pub exact : d.num_partitions ≡ active_count d.partitions

-- what every domain that began with init has: a free slot is all zero
pub record Clean (d : MemDomain) : Type 0 where
  pub zero : (i : ℕ) → i < 16 → is_free (slot_at d.partitions i) ≡ true → slot_at d.partitions i ≡ empty
