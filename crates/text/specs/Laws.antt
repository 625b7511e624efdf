-- What the crates above cite of a put: where there is room it is a run of stores, and how long a number can be.
use Rattle.std.specs.Prelude.{ℕ, zero, suc, ◌+◌, ◌/◌, ◌≤◌, ◌<◌, max, ◌≡◌, cond, List, ltb, length}
use Rattle.std.proofs.Common.{add-one, arith, ◌∙◌, length-append, lt-ltb, le-ltb, le-leb}
use Rattle.std.proofs.Math.Decide.{dec_lt, dec_le}
use Rattle.std.proofs.Math.Path.{refl}
use Rattle.std.proofs.lemmas.List.Edits.{sets}
use Rattle.std.proofs.lemmas.Bool.{lt-leb}
use Rattle.text.specs.Text.{places, digits, decimal, hex_places, hex_digits, hex, put_at, put_count, Put}

pub digits_length : (k n : ℕ) → length (digits k n) ≡ k
unfolding digits
digits_length zero n = refl
digits_length (suc k) n = length-append (digits k (n / 10)) _ ∙ rw (digits_length k (n / 10)) (add-one k)

pub decimal_length : (n : ℕ) → length (decimal n) ≡ places n
unfolding decimal
decimal_length n = digits_length (places n) n

-- what a test picks, by the two cases
pub pick : (n m : ℕ) (P : ℕ → Type 0) (a b : ℕ) → (n < m → P a) → (m ≤ n → P b) → P (cond (ltb n m) a b)
pick n m P a b y z =
    elim (dec_lt n m) [
      | yes h ↦ rw (lt-ltb n m h) (y h)
      | no h ↦ let g : m ≤ n = omega arith in rw (le-ltb n m g) (z g)
    ]

pub decimal_most : (n : ℕ) → length (decimal n) ≤ 10
unfolding places
decimal_most n =
    let p : (m a b : ℕ) → a ≤ 10 → b ≤ 10 → cond (ltb n m) a b ≤ 10 = λ m a b y z. pick n m (λ k. k ≤ 10) a b (λ _. y) (λ _. z) in
    rw (decimal_length n)
    (p 10 1 _ (omega arith) (p 100 2 _ (omega arith) (p 1000 3 _ (omega arith) (p 10000 4 _ (omega arith) (p 100000 5 _ (omega arith)
    (p 1000000 6 _ (omega arith) (p 10000000 7 _ (omega arith) (p 100000000 8 _ (omega arith) (p 1000000000 9 10 (omega arith) (omega arith))))))))))

-- the same in base 16
pub hex_digits_length : (k n : ℕ) → length (hex_digits k n) ≡ k
unfolding hex_digits
hex_digits_length zero n = refl
hex_digits_length (suc k) n = length-append (hex_digits k (n / 16)) _ ∙ rw (hex_digits_length k (n / 16)) (add-one k)

pub hex_length : (least n : ℕ) → length (hex least n) ≡ max least (hex_places n)
unfolding hex
hex_length least n = hex_digits_length (max least (hex_places n)) n

pub hex_places_most : (n : ℕ) → hex_places n ≤ 8
unfolding hex_places
hex_places_most n =
    let p : (m a b : ℕ) → a ≤ 8 → b ≤ 8 → cond (ltb n m) a b ≤ 8 = λ m a b y z. pick n m (λ k. k ≤ 8) a b (λ _. y) (λ _. z) in
    p 16 1 _ (omega arith) (p 256 2 _ (omega arith) (p 4096 3 _ (omega arith) (p 65536 4 _ (omega arith)
    (p 1048576 5 _ (omega arith) (p 16777216 6 _ (omega arith) (p 268435456 7 8 (omega arith) (omega arith)))))))

pub hex_most : (least n : ℕ) → least ≤ 8 → length (hex least n) ≤ 8
hex_most least n h = rw (hex_length least n) (omega (arith, hex_places_most n))

module _ (before : List ℕ) (at : ℕ) (xs : List ℕ) (r : ℕ) (after : List ℕ) (p : Put before at xs r after) (room : at + length xs ≤ length before) where
  pub put_count_lem : r ≡ length xs
  unfolding put_count
  put_count_lem = p.count ∙ rw (le-leb _ _ room) refl

  pub put_text : after ≡ sets before at xs
  unfolding put_at
  put_text = p.text ∙ rw (le-leb _ _ room) refl

-- no more is put than was to be put, room or not
pub put_most : (before xs after : List ℕ) (at r : ℕ) → Put before at xs r after → r ≤ length xs
unfolding put_count
put_most before xs after at r p =
    elim (dec_le (at + length xs) (length before)) [
      | yes h ↦ rw (p.count, le-leb _ _ h) (omega arith)
      | no h ↦ rw (p.count, lt-leb (at + length xs) (length before) (omega arith)) (omega arith)
    ]

pub number_most : (before after : List ℕ) (at n r : ℕ) → Put before at (decimal n) r after → r ≤ 10
number_most before after at n r p = omega (arith, put_most before (decimal n) after at r p, decimal_most n)
