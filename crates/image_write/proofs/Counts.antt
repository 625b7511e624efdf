-- How many of the first threads live, as an iterator counts them, and the lower bytes of a number, as the library gives them.
use Rattle.std.proofs.Common.{ℕ, zero, suc, ◌≡◌, ◌+◌, ◌*◌, ◌/◌, ◌%◌, ◌∷◌, w64, ◌^◌, ◌≤◌, Bool, not, eqb, List, get_or, length, map, filter, take, refl, ap, ◌∙◌, zero-add, add-one, length-append, eq-eqb, ne_eqb, arith, le_of_suc-le-suc}
use Rattle.std.proofs.Math.Decide.{ℕ_discrete}
use Rattle.std.proofs.lemmas.List.{map-id}
use native.Mathlib.Numerals.{unary_clauses}
use Rattle.std.specs.List.{range_with_len}
use Rattle.std.specs.Int.{bytes_low_first, to_le_bytes}
use Rattle.std.proofs.Math.Nat.{div-div-eq-div-mul}
use Rattle.std.proofs.lemmas.List.FromFn.{filter_of_map_range_with_len_more}
use Rattle.image_write.specs.Bytes.{bytes}
use Rattle.image_write.specs.Encode.{live}
use Rattle.image_write.proofs.Turns.{live_more, live_same, live_none}

abbrev pub lives : List ℕ → ℕ → Bool
lives ts t = not (eqb (get_or ts (3 * t) 0) 0)

live_one_more : (ts : List ℕ) (n : ℕ) → length (filter (lives ts) (map (λ x. x) (range_with_len 0 n))) ≡ live ts n → length (filter (lives ts) (map (λ x. x) (range_with_len 0 (n + 1)))) ≡ live ts (n + 1)
live_one_more ts n e =
    rw (filter_of_map_range_with_len_more (lives ts) (λ x. x) 0 n n (zero-add n), length-append, e)
    (elim (ℕ_discrete (get_or ts (3 * n) 0) 0) [
      | yes z ↦ rw (eq-eqb _ _ z, live_same ts n z) (omega arith)
      | no z ↦ rw (ne_eqb _ _ z, live_more ts n z)
    ])

live_on : (ts : List ℕ) (n : ℕ) → length (filter (lives ts) (map (λ x. x) (range_with_len 0 n))) ≡ live ts n
live_on ts zero = rw (live_none ts)
live_on ts (suc n) = rw add-one at (live_one_more ts n (live_on ts n))

pub live_range : (ts : List ℕ) (n : ℕ) → length (filter (lives ts) (range_with_len 0 n)) ≡ live ts n
live_range ts n = rw map-id at (live_on ts n)

-- ---- bytes
shifted : (v i : ℕ) → v / 256 ^ i / 256 ≡ v / 256 ^ suc i
shifted v i = simp unary_clauses (div-div-eq-div-mul v (256 ^ i) 256)

low_on : (v k i : ℕ) → bytes_low_first (suc i) k v ≡ bytes k (v / 256 ^ suc i)
unfolding bytes
low_on v zero i = refl
low_on v (suc k) i = rw (low_on v k (suc i), ← shifted v (suc i))

all_low : (v : ℕ) → bytes_low_first 0 8 v ≡ bytes 8 v
unfolding bytes
all_low v = ap (λ l. (v % 256) ∷ l) (low_on v 7 0)

front : (k n v : ℕ) → n ≤ k → take n (bytes k v) ≡ bytes n v
unfolding bytes
front k zero v h = refl
front zero (suc n) v h = absurd (omega arith)
front (suc k) (suc n) v h = ap (λ l. (v % 256) ∷ l) (front k n (v / 256) (le_of_suc-le-suc h))

-- the lower n of the library's eight bytes of v
pub low_bytes : (v n : ℕ) → n ≤ 8 → take n (to_le_bytes w64 v) ≡ bytes n v
low_bytes v n h = ap (take n) (all_low v) ∙ front 8 n v h
