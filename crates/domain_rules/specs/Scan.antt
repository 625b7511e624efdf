-- A test that every number below n passes (docs/SPEC.md, 2.15).
use Rattle.std.specs.Prelude.{ℕ, zero, suc, Bool, true, ◌&&◌}

unfoldable pub all_to : (ℕ → Bool) → ℕ → Bool
all_to f zero = true
all_to f (suc k) = all_to f k && f k
