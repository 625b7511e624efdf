-- What it means to put words into a lent buffer at a place. They are put where the widest of their kind would have room, so that one test stands
-- before all of them; else nothing is put.
use Rattle.std.specs.Prelude.{◌≡◌, ℕ, ◌+◌, cond, List, length, nat_le}
use Rattle.std.proofs.lemmas.List.Edits.{sets}

-- the place behind the words, and the buffer with them
unfoldable pub place_after : ℕ → List ℕ → ℕ → List ℕ → ℕ
place_after widest text at xs = cond (nat_le (at + widest) (length text)) (at + length xs) at

unfoldable pub text_after : ℕ → List ℕ → ℕ → List ℕ → List ℕ
text_after widest text at xs = cond (nat_le (at + widest) (length text)) (sets text at xs) text

pub record Placed (widest : ℕ) (before : List ℕ) (at : ℕ) (xs : List ℕ) (r : ℕ) (after : List ℕ) : Type 0 where
  pub next : r ≡ place_after widest before at xs
  pub text : after ≡ text_after widest before at xs
