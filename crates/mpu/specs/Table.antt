-- Tables read by number: the last of n entries that is on decides.
use Rattle.std.specs.Prelude.{ℕ, zero, suc, Bool, cond}

-- the value of the highest-numbered entry below n that is on, and 0 where none is
unfoldable pub last_of : (ℕ → Bool) → (ℕ → ℕ) → ℕ → ℕ
last_of on val zero = 0
last_of on val (suc k) = cond (on k) (val k) (last_of on val k)
