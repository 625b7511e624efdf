-- That `decimal` is the decimal form: its digits read back give the number, and it is the shortest that does.
use Prim.Native.Nat.{ℕ, zero, suc, ◌+◌, ◌-◌, ◌*◌, ◌/◌, ◌%◌, ◌^◌, ◌≤◌, ◌<◌}
use native.Mathlib.Omega.{arith}
use mathlib.Core.Path.{◌≡◌, refl, ◌∙◌}
use mathlib.Core.List.{List, [], ◌∷◌, ◌++◌}
use Rattle.text.specs.Laws.{pick}
use Rattle.text.specs.Text.{places, digits, decimal}

-- the number that digits spell, read from the left with what was read before
unfoldable pub read_on : ℕ → List ℕ → ℕ
read_on n [] = n
read_on n (d ∷ ds) = read_on (n * 10 + (d - 48)) ds

read_last : (xs : List ℕ) (n d : ℕ) → read_on n (xs ++ (d ∷ [])) ≡ read_on n xs * 10 + (d - 48)
unfolding read_on
read_last [] n d = refl
read_last (x ∷ xs) n d = read_last xs (n * 10 + (x - 48)) d

read_digits : (k n : ℕ) → n < 10 ^ k → read_on 0 (digits k n) ≡ n
unfolding read_on digits
read_digits zero n h = omega arith
read_digits (suc k) n h =
    let b : n / 10 < 10 ^ k = omega arith in
    read_last (digits k (n / 10)) 0 (48 + n % 10) ∙ rw (read_digits k (n / 10) b) (omega arith)

-- k places are enough for n, and fewer are not
abbrev pub Fewest : ℕ → ℕ → Type 0
Fewest n k = (n < 10 ^ k) × (1 < k → 10 ^ (k - 1) ≤ n)

pub places_fewest : (n : ℕ) → n < 10000000000 → Fewest n (places n)
unfolding places
places_fewest n h =
    pick n 10 (Fewest n) 1 _ (λ a. (omega arith, λ b. absurd (omega arith)))
    (λ l₁. pick n 100 (Fewest n) 2 _ (λ a. (omega arith, λ b. omega arith))
    (λ l₂. pick n 1000 (Fewest n) 3 _ (λ a. (omega arith, λ b. omega arith))
    (λ l₃. pick n 10000 (Fewest n) 4 _ (λ a. (omega arith, λ b. omega arith))
    (λ l₄. pick n 100000 (Fewest n) 5 _ (λ a. (omega arith, λ b. omega arith))
    (λ l₅. pick n 1000000 (Fewest n) 6 _ (λ a. (omega arith, λ b. omega arith))
    (λ l₆. pick n 10000000 (Fewest n) 7 _ (λ a. (omega arith, λ b. omega arith))
    (λ l₇. pick n 100000000 (Fewest n) 8 _ (λ a. (omega arith, λ b. omega arith))
    (λ l₈. pick n 1000000000 (Fewest n) 9 10 (λ a. (omega arith, λ b. omega arith)) (λ l₉. (omega arith, λ b. omega arith))))))))))

-- every number that a word of 32 bits holds, and more, is read back
pub decimal_reads : (n : ℕ) → n < 10000000000 → read_on 0 (decimal n) ≡ n
unfolding decimal
decimal_reads n h = read_digits (places n) n (places_fewest n h).0
