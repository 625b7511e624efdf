-- How the code goes: by windows. What one slot covers from an address on, and what one scan of the slots has found.
use Rattle.std.specs.Prelude.{◌≡◌, ℕ, ◌+◌, ◌-◌, ◌^◌, ◌<◌, ◌≤◌, Bool, true, false, cond, ◌&&◌, List}
use Rattle.mem_partition.specs.Partition.{end_of, is_active, holds}
use Rattle.mem_partition.specs.declared.MemPartition.{MemPartition}
use Rattle.mem_check.specs.Memory.{gives, is_covered}

-- the slot is active, holds the address and gives the right
abbrev pub covers : MemPartition → Bool → ℕ → Bool
covers p write x = (is_active p && holds p x) && gives p write

-- how many bytes from x on it covers; 0 where it does not cover x
unfoldable pub run_in : MemPartition → Bool → ℕ → ℕ
run_in p write x = cond (covers p write x) (end_of p - x) 0

-- n bytes from x on are covered; 0 only where x is not
pub record Run (ps : List MemPartition) (write : Bool) (x n : ℕ) : Type 0 where
  pub ahead : (j : ℕ) → j < n → is_covered ps write (x + j) ≡ true
  pub none : n ≡ 0 → is_covered ps write x ≡ false

-- how far x lies behind start; where it lies before, more than any number of 32 bits
pub record Ahead (start x r : ℕ) : Type 0 where
  pub behind : start ≤ x → r ≡ x - start
  pub before : x < start → 2 ^ 32 ≤ r
