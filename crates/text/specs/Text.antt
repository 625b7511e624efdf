-- Numbers and words as ASCII bytes, and what it means to put them into a lent buffer.
use Rattle.std.specs.Prelude.{ℕ, zero, suc, ◌+◌, ◌/◌, ◌%◌, max, ◌≡◌, cond, List, [], ◌∷◌, ◌++◌, ltb, leb, length}
use Prim.Native.Char.{code}
use Prim.Native.String.{String, [] as empty, ◌∷◌ as ◌then◌}
use Rattle.std.proofs.lemmas.List.Edits.{sets}

-- the bytes of a word that is written in quotes
abbrev pub ascii : String → List ℕ
ascii empty = []
ascii (c then s) = code c ∷ ascii s

-- how many digits a number below 10^10 has
unfoldable pub places : ℕ → ℕ
places n =
    cond (ltb n 10) 1 (
    cond (ltb n 100) 2 (
    cond (ltb n 1000) 3 (
    cond (ltb n 10000) 4 (
    cond (ltb n 100000) 5 (
    cond (ltb n 1000000) 6 (
    cond (ltb n 10000000) 7 (
    cond (ltb n 100000000) 8 (
    cond (ltb n 1000000000) 9 10))))))))

-- how many of a list's first numbers are not above n
unfoldable pub up_to : ℕ → List ℕ → ℕ
up_to n [] = 0
up_to n (p ∷ ps) = cond (ltb n p) 0 (up_to n ps + 1)

-- the last k digits, the greatest place first
unfoldable pub digits : ℕ → ℕ → List ℕ
digits zero n = []
digits (suc k) n = digits k (n / 10) ++ ((48 + n % 10) ∷ [])

-- a number in decimal: no zeros in front
unfoldable pub decimal : ℕ → List ℕ
decimal n = digits (places n) n

-- a digit in base 16: 0 to 9, A to F
unfoldable pub hex_digit : ℕ → ℕ
hex_digit d = cond (ltb d 10) (48 + d) (55 + d)

-- how many digits a number below 2^32 has in base 16
unfoldable pub hex_places : ℕ → ℕ
hex_places n =
    cond (ltb n 16) 1 (
    cond (ltb n 256) 2 (
    cond (ltb n 4096) 3 (
    cond (ltb n 65536) 4 (
    cond (ltb n 1048576) 5 (
    cond (ltb n 16777216) 6 (
    cond (ltb n 268435456) 7 8))))))

-- the last k digits in base 16, the greatest place first
unfoldable pub hex_digits : ℕ → ℕ → List ℕ
hex_digits zero n = []
hex_digits (suc k) n = hex_digits k (n / 16) ++ (hex_digit (n % 16) ∷ [])

-- the last k digits in a base up to 16, as the functions inside put them
unfoldable pub digits_in : ℕ → ℕ → ℕ → List ℕ
digits_in base zero n = []
digits_in base (suc k) n = digits_in base k (n / base) ++ (hex_digit (n % base) ∷ [])

-- a number in base 16 with at least so many digits: no more zeros in front than they ask
unfoldable pub hex : ℕ → ℕ → List ℕ
hex least n = hex_digits (max least (hex_places n)) n

-- the buffer after bytes were put at a place, and how many those were: all of them, or none where they have no room
unfoldable pub put_at : List ℕ → ℕ → List ℕ → List ℕ
put_at text at xs = cond (leb (at + length xs) (length text)) (sets text at xs) text

unfoldable pub put_count : List ℕ → ℕ → List ℕ → ℕ
put_count text at xs = cond (leb (at + length xs) (length text)) (length xs) 0

pub record Put (before : List ℕ) (at : ℕ) (xs : List ℕ) (r : ℕ) (after : List ℕ) : Type 0 where
  pub count : r ≡ put_count before at xs
  pub text : after ≡ put_at before at xs
