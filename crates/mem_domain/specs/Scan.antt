-- Slots read by their number: how many of the first n pass a test, which of them passes first, and whether any does (docs/SPEC.md, 2.15).
use Rattle.std.specs.Prelude.{ℕ, zero, suc, ◌+◌, Bool, cond, ltb, Option, Some, None}

-- how many numbers below n pass
unfoldable pub count_to : (ℕ → Bool) → ℕ → ℕ
count_to f zero = 0
count_to f (suc k) = count_to f k + cond (f k) 1 0

-- the lowest of the n numbers from k on that passes; k + n where none does
unfoldable pub first_from : (ℕ → Bool) → ℕ → ℕ → ℕ
first_from f k zero = k
first_from f k (suc n) = cond (f k) k (first_from f (suc k) n)

-- the lowest number below n that passes; n where none does
abbrev pub lowest : (ℕ → Bool) → ℕ → ℕ
lowest f n = first_from f 0 n

-- some number below n passes
abbrev pub any_to : (ℕ → Bool) → ℕ → Bool
any_to f n = ltb (lowest f n) n

-- the lowest number below n that passes, if one does
abbrev pub found : (ℕ → Bool) → ℕ → Option ℕ
found f n = cond (any_to f n) (Some (lowest f n)) None
