-- That `hex` is the form in base 16: its digits read back give the number, however many were asked for.
use Prim.Native.Nat.{ℕ, zero, suc, ◌+◌, ◌-◌, ◌*◌, ◌/◌, ◌%◌, ◌^◌, ◌≤◌, ◌<◌, max}
use native.Mathlib.Nat.{pow-le-pow_right}
use native.Mathlib.Decide.{dec_lt}
use native.Mathlib.Omega.{arith}
use mathlib.Core.Path.{◌≡◌, refl, ◌∙◌}
use mathlib.Core.Bool.{cond}
use mathlib.Core.List.{List, [], ◌∷◌, ◌++◌}
use lib.Dec.{ltb}
use borrow.Author.Tests.{lt-ltb, le-ltb}
use Rattle.text.specs.Laws.{pick}
use Rattle.text.specs.Text.{hex_digit, hex_places, hex_digits, hex}

-- the number of a digit
unfoldable pub hex_value : ℕ → ℕ
hex_value d = cond (ltb d 65) (d - 48) (d - 55)

-- the number that digits in base 16 spell, read from the left with what was read before
unfoldable pub read_hex : ℕ → List ℕ → ℕ
read_hex n [] = n
read_hex n (d ∷ ds) = read_hex (n * 16 + hex_value d) ds

digit_value : (d : ℕ) → d < 16 → hex_value (hex_digit d) ≡ d
unfolding hex_value hex_digit
digit_value d h =
    elim (dec_lt d 10) [
      | yes g ↦ rw (lt-ltb d 10 g, lt-ltb (48 + d) 65 (omega arith)) (omega arith)
      | no g ↦ rw (le-ltb d 10 (omega arith), le-ltb (55 + d) 65 (omega arith)) (omega arith)
    ]

read_last : (xs : List ℕ) (n d : ℕ) → read_hex n (xs ++ (d ∷ [])) ≡ read_hex n xs * 16 + hex_value d
unfolding read_hex
read_last [] n d = refl
read_last (x ∷ xs) n d = read_last xs (n * 16 + hex_value x) d

read_digits : (k n : ℕ) → n < 16 ^ k → read_hex 0 (hex_digits k n) ≡ n
unfolding read_hex hex_digits
read_digits zero n h = omega arith
read_digits (suc k) n h =
    let b : n / 16 < 16 ^ k = omega arith in
    read_last (hex_digits k (n / 16)) 0 (hex_digit (n % 16)) ∙ rw (read_digits k (n / 16) b, digit_value (n % 16) (omega arith)) (omega arith)

enough : (n : ℕ) → n < 2 ^ 32 → n < 16 ^ hex_places n
unfolding hex_places
enough n h =
    let P : ℕ → Type 0 = λ k. n < 16 ^ k in
    pick n 16 P 1 _ (λ a. omega arith) (λ _. pick n 256 P 2 _ (λ a. omega arith) (λ _. pick n 4096 P 3 _ (λ a. omega arith)
    (λ _. pick n 65536 P 4 _ (λ a. omega arith) (λ _. pick n 1048576 P 5 _ (λ a. omega arith) (λ _. pick n 16777216 P 6 _ (λ a. omega arith)
    (λ _. pick n 268435456 P 7 8 (λ a. omega arith) (λ _. omega arith)))))))

-- every number that a word of 32 bits holds is read back
pub hex_reads : (least n : ℕ) → n < 2 ^ 32 → read_hex 0 (hex least n) ≡ n
unfolding hex
hex_reads least n h =
    let k : ℕ = max least (hex_places n) in
    let m : 16 ^ hex_places n ≤ 16 ^ k = pow-le-pow_right (omega arith) (omega arith) in
    read_digits k n (omega (arith, enough n h, m))
