-- `At b i xs`: xs stands in b at i. One walk over the layout reads every field back.
use mathlib.Core.Path.{◌≡◌, refl, sym, ap, ◌∙◌}
use Prim.Native.Nat.{ℕ, zero, suc, ◌+◌, ◌*◌, ◌/◌, ◌^◌, ◌≤◌, ◌<◌, ◌-◌}
use native.Mathlib.Nat.{pow-suc, div-add-mod', mul-suc, mul-zero}
use native.Mathlib.Numerals.{add-one}
use native.Mathlib.Decide.{dec_lt}
use native.Mathlib.Omega.{arith}
use mathlib.Core.List.{List, [], ◌∷◌, ◌++◌}
use lib.ListN.{length, take, drop, get_or, length-append, length-drop, replicate, length-replicate}
use lib.Seq.{take-take, take-add, drop-drop, take-suc, drop-cons, get_or-drop, ext_get_or, take-append_seam, drop-append_seam}
use Rattle.answer.specs.Stores.{cat}
use Rattle.image_write.specs.Bytes.{bytes, value, le}
use Rattle.image_write.proofs.Bytes.{bytes_length, cat_length}

-- a number is read after it was written
pub value_bytes : (n v : ℕ) → v < 256 ^ n → value (bytes n v) ≡ v
unfolding bytes value
value_bytes zero v h = omega arith
value_bytes (suc n) v h =
    let h' : v < 256 ^ n * 256 = rw pow-suc at h in
    rw (value_bytes n (v / 256) (omega arith)) (div-add-mod' v 256)

abbrev pub At : List ℕ → ℕ → List ℕ → Type 0
At b i xs = take (length xs) (drop i b) ≡ xs

pub at_start : (xs r : List ℕ) → At (xs ++ r) 0 xs
at_start xs r = take-append_seam xs r

pub at_left : (b : List ℕ) (i : ℕ) (xs ys : List ℕ) → At b i (xs ++ ys) → At b i xs
at_left b i xs ys h =
    let k : length xs ≤ length (xs ++ ys) = rw length-append (omega arith) in
    sym (take-take (length xs) (length (xs ++ ys)) (drop i b) k) ∙ ap (take (length xs)) h ∙ take-append_seam xs ys

pub at_right : (b : List ℕ) (i : ℕ) (xs ys : List ℕ) → At b i (xs ++ ys) → At b (i + length xs) ys
at_right b i xs ys h =
    let e : take (length xs) (drop i b) ++ take (length ys) (drop (length xs) (drop i b)) ≡ xs ++ ys =
    sym (take-add (length xs) (length ys) (drop i b)) ∙ rw length-append at h in
    let f : xs ++ take (length ys) (drop (length xs) (drop i b)) ≡ xs ++ ys = rw (at_left b i xs ys h) at e in
    rw (← drop-drop (length xs) i b)
    (sym (drop-append_seam xs (take (length ys) (drop (length xs) (drop i b)))) ∙ ap (drop (length xs)) f ∙ drop-append_seam xs ys)

pub at_behind : (b : List ℕ) (i j : ℕ) (xs ys : List ℕ) → At b i (xs ++ ys) → i + length xs ≡ j → At b j ys
at_behind b i j xs ys h e = rw (← e) (at_right b i xs ys h)

-- record i of a run of records of any lengths
pub at_part : (b : List ℕ) (at : ℕ) (f : ℕ → List ℕ) (i n : ℕ) → i < n → At b at (cat f n) → At b (at + length (cat f i)) (f i)
unfolding cat
at_part b at f i zero p h = absurd (omega arith)
at_part b at f i (suc n) p h =
    elim (dec_lt i n) [
      | yes k ↦ at_part b at f i n k (at_left b at (cat f n) (f n) h)
      | no k ↦
          let z : n ≡ i = omega arith in
          let h' : At b at (cat f i ++ f i) = rw z at h in
          at_right b at (cat f i) (f i) h'
    ]

-- record i of a run of records of one length
pub at_cat : (b : List ℕ) (at : ℕ) (f : ℕ → List ℕ) (m : ℕ) → ((k : ℕ) → length (f k) ≡ m) → (i n : ℕ) → i < n → At b at (cat f n) → At b (at + m * i) (f i)
at_cat b at f m l i n p h = rw (← cat_length f m i l) (at_part b at f i n p h)

-- the number that stands there is read
pub le_at : (b : List ℕ) (i n v : ℕ) → v < 256 ^ n → At b i (bytes n v) → le n b i ≡ v
le_at b i n v p h = ap value (rw bytes_length at h) ∙ value_bytes n v p

-- ---- lists as runs of records

pub groups : (m : ℕ) (xs : List ℕ) (n : ℕ) → cat (λ (k : ℕ). take m (drop (m * k) xs)) n ≡ take (m * n) xs
unfolding cat
groups m xs zero = rw mul-zero refl
groups m xs (suc n) = rw (groups m xs n, mul-suc) (sym (take-add (m * n) m xs))

pub singles : (xs : List ℕ) (n : ℕ) → n ≤ length xs → cat (λ (k : ℕ). get_or xs k 0 ∷ []) n ≡ take n xs
unfolding cat
singles xs zero h = refl
singles xs (suc n) h = rw (singles xs n (omega arith)) (sym (take-suc xs n 0 (omega arith)))

first_of : (xs : List ℕ) (i : ℕ) → i < length xs → drop i xs ≡ get_or xs i 0 ∷ drop (i + 1) xs
first_of xs i h = rw add-one (drop-cons xs i 0 h)

pub pair : (xs : List ℕ) (i : ℕ) → i + 2 ≤ length xs → take 2 (drop i xs) ≡ get_or xs i 0 ∷ get_or xs (i + 1) 0 ∷ []
pair xs i h = rw (first_of xs i (omega arith), first_of xs (i + 1) (omega arith)) refl

pub three : (xs : List ℕ) (i : ℕ) → i + 3 ≤ length xs → take 3 (drop i xs) ≡ get_or xs i 0 ∷ get_or xs (i + 1) 0 ∷ get_or xs (i + 2) 0 ∷ []
three xs i h =
    let e : i + 1 + 1 ≡ i + 2 = omega arith in
    rw (first_of xs i (omega arith), first_of xs (i + 1) (omega arith), first_of xs (i + 1 + 1) (omega arith), e) refl

abbrev pub zeros : ℕ → List ℕ
zeros n = replicate n 0

pub zeros_long : (n : ℕ) → length (zeros n) ≡ n
zeros_long n = length-replicate n 0

pub zeros_at : (n i : ℕ) → get_or (zeros n) i 0 ≡ 0
zeros_at zero i = refl
zeros_at (suc n) zero = refl
zeros_at (suc n) (suc i) = zeros_at n i

-- two lists of n numbers are the same from k on if both are zero there
pub zeros_from : (xs : List ℕ) (n k : ℕ) → length xs ≡ n → ((i : ℕ) → k ≤ i → i < n → get_or xs i 0 ≡ 0) → drop k xs ≡ drop k (zeros n)
zeros_from xs n k e h =
    let l : length (drop k xs) ≡ length (drop k (zeros n)) = length-drop k xs ∙ ap (λ (j : ℕ). j - k) (e ∙ sym (length-replicate n 0)) ∙ sym (length-drop k (zeros n)) in
    ext_get_or 0 (drop k xs) (drop k (zeros n)) l
    (λ i p.
    let p' : i < length xs - k = rw length-drop at p in
    get_or-drop k xs i 0 ∙ h (k + i) (omega arith) (omega arith) ∙ sym (get_or-drop k (zeros n) i 0 ∙ zeros_at n (k + i)))

pub zeros_three : (n i : ℕ) → i + 3 ≤ n → drop i (zeros n) ≡ 0 ∷ 0 ∷ 0 ∷ drop (i + 3) (zeros n)
zeros_three n i h =
    let l : length (zeros n) ≡ n = length-replicate n 0 in
    let e : i + 1 + 1 + 1 ≡ i + 3 = omega arith in
    rw (
      first_of (zeros n) i (omega arith),
      first_of (zeros n) (i + 1) (omega arith),
      first_of (zeros n) (i + 1 + 1) (omega arith),
      zeros_at n i,
      zeros_at n (i + 1),
      zeros_at n (i + 1 + 1),
      e,
    ) refl
