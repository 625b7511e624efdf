-- What the loop over all records comes to.
use Prim.Native.Nat.{ℕ, ◌+◌}
use native.Mathlib.Numerals.{add-one}
use mathlib.Core.Path.{◌≡◌, refl}
use mathlib.Core.List.{List}
use Rattle.applying.specs.Apply.{each_to}

-- ---- each record in turn
module _ {A : Type 0} (load : List ℕ → ℕ → A) (put : List ℕ → ℕ → A → List ℕ) (xs : List ℕ) where
  -- a turn of the loop over all
  pub each_none : (f : A → A) → xs ≡ each_to load put f xs 0
  unfolding each_to
  each_none f = refl

  pub each_more : (f : A → A) (k : ℕ) → put (each_to load put f xs k) k (f (load (each_to load put f xs k) k)) ≡ each_to load put f xs (k + 1)
  unfolding each_to
  each_more f k = rw add-one
