-- The memory check, byte by byte: docs/SPEC.md, 7.41 to 7.51. The slots are those of the caller's domain; with domain 255 there are none.
use Rattle.std.specs.Prelude.{ℕ, zero, suc, ◌+◌, ◌*◌, Bool, cond, ◌&&◌, ◌||◌, List, [], length, ◌==◌, nat_le, nat_lt}
use Rattle.answer.specs.declared.Answer.{Answer}
use Rattle.answer.specs.declared.Code.TheVariants.{Einval, Eperm}
use Rattle.answer.specs.Answer.{number_of, refused, done}
use Rattle.mem_domain.specs.Scan.{any_to}
use Rattle.mem_domain.specs.Domain.{slots as SLOTS, slot_at, holds_at}
use Rattle.mem_partition.specs.declared.MemPartition.{MemPartition}
use Rattle.bits.specs.Bit.{is_set}
use Rattle.tables.specs.Table.{partitions_at}

-- which bit of attr is the right, to write or to read (SPEC 2.13)
abbrev pub right_bit : Bool → ℕ
right_bit write = cond write 1 0

unfoldable pub gives : MemPartition → Bool → Bool
gives p write = is_set p.attr (right_bit write)

-- slot k is active, holds the address and gives the right
abbrev pub covers_at : List MemPartition → Bool → ℕ → ℕ → Bool
covers_at ps write x k = holds_at ps x k && gives (slot_at ps k) write

-- the byte at x is covered (SPEC 7.43)
unfoldable pub is_covered : List MemPartition → Bool → ℕ → Bool
is_covered ps write x = any_to (covers_at ps write x) SLOTS

-- how many of the n bytes from x on are covered in a row
unfoldable pub covered_run : List MemPartition → Bool → ℕ → ℕ → ℕ
covered_run ps write x zero = 0
covered_run ps write x (suc n) = cond (is_covered ps write x) (suc (covered_run ps write (suc x) n)) 0

-- n bytes in a row are covered: all of them, or EPERM with the least address that is not (SPEC 7.44, 7.45)
unfoldable pub reached : ℕ → ℕ → ℕ → Answer
reached from len n = cond (nat_le len n) done (record { code = number_of Eperm; value = from + n })

-- the range is judged, then a supervisor is let through, then the walk decides (SPEC 7.41 to 7.45)
unfoldable pub memory_rule : List MemPartition → Bool → ℕ → ℕ → Bool → Answer
memory_rule ps supervisor from len write =
    cond (len == 0 || nat_lt 4294967295 (from + len)) (refused Einval)
    (cond supervisor done (reached from len (covered_run ps write from len)))

-- the slots of domain d in a table of numbers; a domain that the table does not hold whole has none (SPEC 7.51)
unfoldable pub slots_in : List ℕ → ℕ → List MemPartition
slots_in ss d = cond (nat_le (3 * (SLOTS * d + SLOTS)) (length ss)) (partitions_at ss d) []
