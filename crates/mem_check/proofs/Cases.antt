-- The example of docs/SPEC.md, 7.50: a memory check from one window into the next, and the same with a gap between them.
use Rattle.std.proofs.Common.{◌≡◌, ℕ, true, false, List, [], ◌∷◌, refl}
use Rattle.mem_domain.specs.Scan.{first_from}
use Rattle.mem_partition.specs.Partition.{holds}
use Rattle.mem_partition.specs.declared.MemPartition.{MemPartition}
use Rattle.bits.specs.Bit.{bit_of, is_set}
use Rattle.mem_check.specs.Memory.{gives, is_covered, covered_run, reached, memory_rule}

abbrev window : ℕ → ℕ → ℕ → MemPartition
window start size attr = record { start = start; size = size; attr = attr }

-- 0x1000 to 0x101F may be read and written, 0x1020 to 0x103F may be read
abbrev pub neighbours : List MemPartition
neighbours = window 4096 32 3 ∷ window 4128 32 1 ∷ []

-- the second starts four bytes later, and stands before the first
abbrev pub gap : List MemPartition
gap = window 4132 28 1 ∷ window 4096 32 3 ∷ []

-- four bytes, two in each
pub across_neighbours : memory_rule neighbours false 4126 4 false ≡ record { code = 0; value = 0 }
unfolding memory_rule reached covered_run is_covered first_from holds gives is_set bit_of
across_neighbours = refl

-- the second gives no right to write: its first address
pub write_across : memory_rule neighbours false 4126 4 true ≡ record { code = 2; value = 4128 }
unfolding memory_rule reached covered_run is_covered first_from holds gives is_set bit_of
write_across = refl

-- the gap's first address, and it has none before or behind it
pub across_gap : memory_rule gap false 4126 8 false ≡ record { code = 2; value = 4128 }
unfolding memory_rule reached covered_run is_covered first_from holds gives is_set bit_of
across_gap = refl

pub behind_gap : memory_rule gap false 4132 4 false ≡ record { code = 0; value = 0 }
unfolding memory_rule reached covered_run is_covered first_from holds gives is_set bit_of
behind_gap = refl

-- a supervisor passes, and length 0 and an end above the last address are refused to him too
pub supervisor_passes : memory_rule gap true 4126 8 false ≡ record { code = 0; value = 0 }
unfolding memory_rule
supervisor_passes = refl

pub length_0 : memory_rule gap true 4126 0 false ≡ record { code = 1; value = 0 }
unfolding memory_rule
length_0 = refl

pub end_too_high : memory_rule gap true 4294967295 1 false ≡ record { code = 1; value = 0 }
unfolding memory_rule
end_too_high = refl
