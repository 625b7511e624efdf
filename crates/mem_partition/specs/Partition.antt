-- A window of addresses, taken literally: docs/SPEC.md, 3.1 to 3.7.
use Rattle.std.specs.Prelude.{ℕ, ◌+◌, Bool, not, ◌&&◌, leb, ltb, eqb}
use Rattle.mem_partition.specs.declared.MemPartition.{MemPartition}

-- all zero
abbrev pub empty : MemPartition
empty = record { start = 0; size = 0; attr = 0 }

-- the window of a bare start and size (SPEC 3.7), without rights
abbrev pub window_of : ℕ → ℕ → MemPartition
window_of start size = record { start = start; size = size; attr = 0 }

-- the first address behind the window; sums do not wrap
abbrev pub end_of : MemPartition → ℕ
end_of p = p.start + p.size

-- the window is valid (SPEC 3.3)
unfoldable pub is_valid : MemPartition → Bool
is_valid p = ltb 0 p.size && leb (end_of p) 4294967295

-- a window from start up to, and without, end overlaps a second one
unfoldable pub meets : ℕ → ℕ → MemPartition → Bool
meets start end q = ltb q.start end && ltb start (end_of q)

-- two windows overlap (SPEC 3.5)
unfoldable pub overlap_of : MemPartition → MemPartition → Bool
overlap_of p q = meets p.start (end_of p) q

-- a slot is free where its size is 0 (SPEC 3.9)
abbrev pub is_free : MemPartition → Bool
is_free p = eqb p.size 0

-- every other slot is active
abbrev pub is_active : MemPartition → Bool
is_active p = not (is_free p)

-- the window's addresses are those from its start up to, and without, its end (SPEC 3.6)
unfoldable pub holds : MemPartition → ℕ → Bool
holds p a = leb p.start a && ltb a (end_of p)

-- it has that start and size, whatever its attr
unfoldable pub is_window : ℕ → ℕ → MemPartition → Bool
is_window start size p = eqb p.start start && eqb p.size size
