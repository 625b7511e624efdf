-- Sixteen slots and a count, taken literally: docs/SPEC.md, 3.8 to 3.26. What is said of slots is said of a list of any length, so that it
-- serves slots that come from a table too; a slot behind the list's end reads as all zero, and storing there changes nothing.
use Rattle.std.specs.Prelude.{ℕ, Bool, cond, not, ◌&&◌, ◌||◌, List, leb, eqb, get_or, set, replicate, Result, Ok, Err}
use Rattle.answer.specs.declared.Code.{Code}
use Rattle.answer.specs.declared.Code.TheVariants.{Einval, Enospc, Enoent}
use Rattle.mem_domain.specs.Scan.{count_to, lowest, any_to}
use Rattle.mem_partition.specs.Partition.{empty, is_valid, meets, overlap_of, is_free, is_active, holds, is_window}
use Rattle.mem_partition.specs.declared.MemPartition.{MemPartition}
use Rattle.mem_domain.specs.declared.MemDomain.{MemDomain}

-- how many slots a domain has (SPEC 2.3)
abbrev pub slots : ℕ
slots = 16

-- slot k
abbrev pub slot_at : List MemPartition → ℕ → MemPartition
slot_at l k = get_or l k empty

-- how many of the first n slots are active
abbrev pub active_to : List MemPartition → ℕ → ℕ
active_to l = count_to (λ k. is_active (slot_at l k))

-- the active slots
unfoldable pub active_count : List MemPartition → ℕ
active_count l = active_to l slots

-- the slots with their count
unfoldable pub with_count : List MemPartition → MemDomain
with_count l = record { partitions = l; num_partitions = active_count l }

-- slot k is active and overlaps the window
abbrev pub clash_at : List MemPartition → MemPartition → ℕ → Bool
clash_at l p k = is_active (slot_at l k) && overlap_of p (slot_at l k)

-- the window overlaps an active slot
unfoldable pub clashes : List MemPartition → MemPartition → Bool
clashes l p = any_to (clash_at l p) slots

-- the same of a window whose end is at hand
abbrev pub crossed_at : List MemPartition → ℕ → ℕ → ℕ → Bool
crossed_at l start end k = is_active (slot_at l k) && meets start end (slot_at l k)

-- such a window overlaps an active slot
unfoldable pub crossed : List MemPartition → ℕ → ℕ → Bool
crossed l start end = any_to (crossed_at l start end) slots

-- a window may be added where it is valid and overlaps no active slot
unfoldable pub addable : List MemPartition → MemPartition → Bool
addable l p = is_valid p && not (clashes l p)

-- slot k is free
abbrev pub free_at : List MemPartition → ℕ → Bool
free_at l k = is_free (slot_at l k)

-- the lowest free slot; 16 where the domain is full
unfoldable pub lowest_free : List MemPartition → ℕ
lowest_free l = lowest (free_at l) slots

-- not full: some slot has size 0, whatever the count says
unfoldable pub has_free : List MemPartition → Bool
has_free l = any_to (free_at l) slots

-- slot k has that start and size
abbrev pub window_at : List MemPartition → ℕ → ℕ → ℕ → Bool
window_at l start size k = is_window start size (slot_at l k)

-- the lowest slot with that start and size; 16 where there is none
unfoldable pub lowest_window : List MemPartition → ℕ → ℕ → ℕ
lowest_window l start size = lowest (window_at l start size) slots

-- some slot has that start and size
unfoldable pub has_window : List MemPartition → ℕ → ℕ → Bool
has_window l start size = any_to (window_at l start size) slots

-- slot k is active and holds the address
abbrev pub holds_at : List MemPartition → ℕ → ℕ → Bool
holds_at l a k = is_active (slot_at l k) && holds (slot_at l k) a

-- some active slot holds the address
unfoldable pub contains_addr : List MemPartition → ℕ → Bool
contains_addr l a = any_to (holds_at l a) slots

-- no slot is active
unfoldable pub no_partitions : MemDomain
no_partitions = record { partitions = replicate slots empty; num_partitions = 0 }

-- what add and remove make of a record: the answer, and the record after
pub record Changed : Type 0 where
  pub answer : Result ℕ Code
  pub domain : MemDomain

-- a refusal: the record as it was (SPEC 3.20)
abbrev pub refused : Code → MemDomain → Changed
refused c d = record { answer = Err c; domain = d }

-- slot k alone is another, and the slots are counted again
abbrev pub stored : List MemPartition → ℕ → MemPartition → MemDomain
stored l k p = record { partitions = set l k p; num_partitions = active_count (set l k p) }

-- OK, with the slot as value (SPEC 3.14, 3.15, 3.18, 3.19)
unfoldable pub changed_at : List MemPartition → ℕ → MemPartition → Changed
changed_at l k p = record { answer = Ok k; domain = stored l k p }

-- add: EINVAL, ENOSPC, else OK, as SPEC 3.12 to 3.14 say
unfoldable pub added : MemDomain → MemPartition → Changed
added d p =
    cond (not (addable d.partitions p)) (refused Einval d) (
    cond (not (has_free d.partitions)) (refused Enospc d) (
    changed_at d.partitions (lowest_free d.partitions) p))

-- remove: ENOENT, else OK, as SPEC 3.17 and 3.18 say
unfoldable pub removed : MemDomain → ℕ → ℕ → Changed
removed d start size =
    cond (eqb size 0 || not (has_window d.partitions start size)) (refused Enoent d) (
    changed_at d.partitions (lowest_window d.partitions start size) empty)

-- get: EINVAL, ENOENT, else OK and the slot, as SPEC 3.21 and 3.22 say
unfoldable pub gotten : MemDomain → ℕ → Result MemPartition Code
gotten d k =
    cond (leb slots k) (Err Einval) (
    cond (free_at d.partitions k) (Err Enoent) (Ok (slot_at d.partitions k)))
