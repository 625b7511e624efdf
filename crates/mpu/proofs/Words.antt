-- What the fields of the words come to as numbers.
use Prim.Native.Nat.{ℕ, ◌+◌, ◌*◌, ◌%◌, ◌^◌, ◌<◌, ◌≤◌}
use mathlib.Core.Path.{◌≡◌}
use native.Mathlib.Nat.{one-mul, mod-eq_of_lt, lt_of_le_of_lt}
use native.Mathlib.Omega.{arith}
use lib.Dec.{lit<}
use lib.Pow.{pow_mono, pow-lt}

pub size_le : (s : ℕ) → s < 32 → 2 ^ (s + 1) ≤ 2 ^ 32
size_le s h = let l : s + 1 ≤ 32 = omega arith in pow_mono l

pub size_gt : (s : ℕ) → 1 < 2 ^ (s + 1)
size_gt s = let l : 0 < s + 1 = omega arith in pow-lt l

pub size_shift : (s : ℕ) → s < 32 → (1 * 2 ^ (s + 1)) % 2 ^ 64 ≡ 2 ^ (s + 1)
size_shift s h = rw one-mul (mod-eq_of_lt (lt_of_le_of_lt (size_le s h) (lit< tt)))
