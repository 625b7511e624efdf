-- What the code looks at instead of every address: 0, and the two ends of each slot and of each region. proofs/Plan.antt shows that it comes
-- to the same.
use Rattle.std.specs.Prelude.{ℕ, ◌+◌, Bool, ◌&&◌, ◌||◌, List, leb}
use Rattle.mem_domain.specs.Domain.{slots, slot_at}
use Rattle.mem_partition.specs.declared.MemPartition.{MemPartition}
use Rattle.domain_rules.specs.Scan.{all_to}
use Rattle.mpu.specs.Mpu.{agree_at, addresses, base_of, size_of, rbar_at, rasr_at, regions_of}

-- the two give the same at an edge, where it is an address
unfoldable pub edge_agrees : List MemPartition → List ℕ → ℕ → Bool
edge_agrees l plan e = leb addresses e || agree_at l plan e

-- the same at both ends of a window
unfoldable pub ends_agree : List MemPartition → List ℕ → ℕ → ℕ → Bool
ends_agree l plan lo size = edge_agrees l plan lo && edge_agrees l plan (lo + size)

-- the same at both ends of each of the first n slots, and of the first n regions
abbrev pub slots_to : List MemPartition → List ℕ → ℕ → Bool
slots_to l plan = all_to (λ k. ends_agree l plan (slot_at l k).start (slot_at l k).size)

abbrev pub regions_to : List MemPartition → List ℕ → ℕ → Bool
regions_to l plan = all_to (λ k. ends_agree l plan (base_of (rbar_at plan k)) (size_of (rasr_at plan k)))

-- the same at 0 and at every edge
unfoldable pub edges_agree : List MemPartition → List ℕ → Bool
edges_agree l plan = edge_agrees l plan 0 && (slots_to l plan slots && regions_to l plan (regions_of plan))
