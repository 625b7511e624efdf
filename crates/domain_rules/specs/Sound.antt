-- The rules of a domain's slots and of its record: docs/SPEC.md, 2.14 and 3.32 to 3.34.
-- Slots are a list of any origin, so that a state's tables can be judged by the same rules.
use Rattle.std.specs.Prelude.{ℕ, ◌<◌, ◌≡◌, Bool, true, false, cond, not, ◌&&◌, ◌||◌, List, eqb, length}
use Rattle.mem_partition.specs.Partition.{empty, is_free, is_active, is_valid, overlap_of}
use Rattle.mem_domain.specs.Domain.{slots, slot_at, active_count}
use Rattle.mem_partition.specs.declared.MemPartition.{MemPartition}
use Rattle.mem_domain.specs.declared.MemDomain.{MemDomain}
use Rattle.domain_rules.specs.Scan.{all_to}

-- the allowed attrs (SPEC 2.14): each has the right to read
unfoldable pub attr_ok : ℕ → Bool
attr_ok attr = eqb attr 1 || (eqb attr 3 || (eqb attr 5 || eqb attr 7))

-- in plain statements (SPEC 3.32): sixteen slots; an active one is valid with an allowed attr, no two active ones overlap, a free one is all zero
pub record SlotsKeep (l : List MemPartition) : Type 0 where
  pub size : length l ≡ slots
  pub valid : (k : ℕ) → is_active (slot_at l k) ≡ true → is_valid (slot_at l k) ≡ true
  pub rights : (k : ℕ) → is_active (slot_at l k) ≡ true → attr_ok (slot_at l k).attr ≡ true
  pub apart : (j k : ℕ) → is_active (slot_at l j) ≡ true → is_active (slot_at l k) ≡ true → overlap_of (slot_at l j) (slot_at l k) ≡ true → j ≡ k
  pub vacant : (k : ℕ) → is_active (slot_at l k) ≡ false → slot_at l k ≡ empty

-- the same as a test, slot by slot: a free slot is all zero; an active one is valid and has an allowed attr
unfoldable pub slot_ok : MemPartition → Bool
slot_ok p = cond (is_free p) (eqb p.start 0 && eqb p.attr 0) (is_valid p && attr_ok p.attr)

-- the two are not active slots that overlap
unfoldable pub apart_of : MemPartition → MemPartition → Bool
apart_of p q = is_free p || (is_free q || not (overlap_of p q))

-- q overlaps no active slot below n
abbrev pub clear_of : List MemPartition → MemPartition → ℕ → Bool
clear_of l q = all_to (λ j. apart_of (slot_at l j) q)

-- slot k overlaps no active slot below n
abbrev pub apart_to : List MemPartition → ℕ → ℕ → Bool
apart_to l k = all_to (λ j. apart_of (slot_at l j) (slot_at l k))

-- slot k keeps the rules, and overlaps none before it
unfoldable pub slot_sound : List MemPartition → ℕ → Bool
slot_sound l k = slot_ok (slot_at l k) && apart_to l k k

-- each of the sixteen slots keeps the rules, and no two of them overlap
unfoldable pub slots_sound : List MemPartition → Bool
slots_sound l = all_to (slot_sound l) slots

-- the slots keep the rules, and the count is how many of them are active (SPEC 3.33)
unfoldable pub domain_sound : MemDomain → Bool
domain_sound d = slots_sound d.partitions && eqb d.num_partitions (active_count d.partitions)
