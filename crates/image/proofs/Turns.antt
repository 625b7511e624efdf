-- Laws of reading: a number from its bytes, a turn of each loop that reads, and two runs of bytes that are the same.
use Prim.Native.Nat.{ℕ, suc, ◌+◌, ◌*◌, ◌^◌, ◌≤◌, ◌<◌, ◌-◌}
use native.Mathlib.Nat.{pow-suc, add-sub_cancel_left, le_trans, le_refl, pow-le-pow_right}
use native.Mathlib.Numerals.{add-one}
use native.Mathlib.Omega.{arith}
use mathlib.Core.Path.{◌≡◌, refl, ap, ◌∙◌}
use mathlib.Core.Bool.{true}
use mathlib.Core.List.{List, [], ◌∷◌, ◌++◌}
use lib.Dec.{eqb, lit<}
use lib.ListN.{length, take, drop, get_or, set, length-drop}
use lib.Seq.{sets, drop-cons, take_all}
use borrow.Author.Tests.{lt-ltb, le-ltb, eqb-true}
use Rattle.std.specs.Cmp.Lexicographic.{pointwise}
use Rattle.domain_rules.proofs.All.{both_true}
use Rattle.answer.specs.Stores.{cat}
use Rattle.image_write.specs.Bytes.{value, le}
use Rattle.image_write.proofs.Bytes.{cat_length, cat_turn, part_home}
use Rattle.image.specs.Read.{object_in, enter, entered, domain_of, domain_in, eqs}

-- one byte more at the front of the number at `at + k` of the n at `at`
pub le_step : (s : List ℕ) (at k n : ℕ) → k < n → at + k < length s
    → le (n - k) s (at + k) ≡ le (n - (k + 1)) s (at + (k + 1)) * 256 + get_or s (at + k) 0
unfolding value
le_step s at k n h hk =
    let e : n - k ≡ suc (n - (k + 1)) = omega arith in
    let f : at + (k + 1) ≡ suc (at + k) = omega arith in
    rw (e, f, drop-cons s (at + k) 0 hk) refl

pub pow_up : (m : ℕ) {r b : ℕ} → r < 256 ^ m → b < 256 → r * 256 + b < 256 ^ suc m
pow_up m h k = rw pow-suc (omega arith)

pub pow_most : (m n : ℕ) → m ≤ n → 256 ^ m ≤ 256 ^ n
pow_most m n h = pow-le-pow_right (lit< tt) h

-- a turn of `get`: k falls by one
pub get_turn : (s : List ℕ) (at n k r b : ℕ) → 0 < k → k ≤ n → at + n ≤ length s → r ≡ le (n - k) s (at + k) → b ≡ get_or s (at + (k - 1)) 0
    → r * 256 + b ≡ le (n - (k - 1)) s (at + (k - 1))
get_turn s at n k r b p q h e f =
    let j : k - 1 + 1 ≡ k = omega arith in
    rw (le_step s at (k - 1) n (omega arith) (omega arith), j, e, f) refl

pub get_most : (n k r b : ℕ) → 0 < k → k ≤ n → r < 256 ^ (n - k) → b < 256 → r * 256 + b < 256 ^ (n - (k - 1))
get_most n k r b p q h l =
    let j : n - (k - 1) ≡ suc (n - k) = omega arith in
    rw j (pow_up (n - k) h l)

pub get_fits : (n k r b : ℕ) → 0 < k → k ≤ n → n ≤ 8 → r < 256 ^ (n - k) → b < 256 → r * 256 + b < 256 ^ 8
get_fits n k r b p q m h l = le_trans (get_most n k r b p q h l) (pow_most (n - (k - 1)) 8 (omega arith))

-- what `==` of two slices computes
pub eqs_same : (a b : List ℕ) → pointwise eqb a b ≡ eqs a b
unfolding eqs
eqs_same [] [] = refl
eqs_same [] (y ∷ b) = refl
eqs_same (x ∷ a) [] = refl
eqs_same (x ∷ a) (y ∷ b) = rw (eqs_same a b) refl

pub eqs_true : (a b : List ℕ) → eqs a b ≡ true → a ≡ b
unfolding eqs
eqs_true [] [] h = refl
eqs_true [] (y ∷ b) h = cc
eqs_true (x ∷ a) [] h = cc
eqs_true (x ∷ a) (y ∷ b) h =
    let p = both_true (eqb x y) (eqs a b) h in
    rw (eqb-true x y p.0, eqs_true a b p.1) refl

pub entry_length : (b : List ℕ) (h : ℕ) → length (object_in b h) ≡ 2
unfolding object_in
entry_length b h = refl

-- a turn of `get_objects`
pub object_turn : (b l₀ l : List ℕ) (h x y : ℕ) → x ≡ le 4 b (16 + 12 * h) → y ≡ le 8 b (20 + 12 * h) → l ≡ sets l₀ 0 (cat (object_in b) h)
    → set (set l (2 * h) x) (2 * h + 1) y ≡ sets l₀ 0 (cat (object_in b) (h + 1))
unfolding object_in
object_turn b l₀ l h x y ex ey el =
    let e : 0 + 2 * h ≡ 2 * h = omega arith in
    rw (add-one (2 * h), ex, ey, el) (rw e at (cat_turn (object_in b) 2 (entry_length b) l₀ 0 h))

pub enter_turn : (b : List ℕ) (at : ℕ) (ts : List ℕ) (n : ℕ) → entered b at ts (n + 1) ≡ enter b (at + 8 * n) (entered b at ts n)
unfolding entered
enter_turn b at ts n = rw add-one refl

pub enter_in : (b : List ℕ) (at : ℕ) (ts : List ℕ) (i x y z : ℕ) → i ≡ le 1 b at → x ≡ le 1 b (at + 1) → y ≡ le 2 b (at + 2) → z ≡ le 4 b (at + 4) → i < 64
    → set (set (set ts (3 * i) (x + 1)) (3 * i + 1) y) (3 * i + 2) z ≡ enter b at ts
unfolding enter
enter_in b at ts i x y z ei ex ey ez h =
    let e : 3 * i + 2 ≡ suc (suc (3 * i)) = omega arith in
    rw (e, add-one (3 * i), ← ei, lt-ltb i 64 h, ex, ey, ez) refl

pub enter_out : (b : List ℕ) (at : ℕ) (ts : List ℕ) (i : ℕ) → i ≡ le 1 b at → 64 ≤ i → ts ≡ enter b at ts
unfolding enter
enter_out b at ts i ei h = rw (← ei, le-ltb i 64 h) refl

-- one number more
pub cat_turn_1 : (f : ℕ → List ℕ) → ((k : ℕ) → length (f k) ≡ 1) → (l : List ℕ) (i : ℕ)
    → sets (sets l 0 (cat f i)) i (f i) ≡ sets l 0 (cat f (i + 1))
cat_turn_1 f h l i =
    let e : 0 + 1 * i ≡ i = omega arith in
    rw e at (cat_turn f 1 h l 0 i)

pub domain_length : (r : List ℕ) → length (domain_of r) ≡ 48
unfolding domain_of
domain_length r = cat_length (λ (k : ℕ). le 4 r (4 * k) ∷ []) 1 48 (λ k. refl)

-- a turn of `get_domains`: the part that was lent comes home
pub domains_turn : (b : List ℕ) (at d : ℕ) (l₀ l ys : List ℕ) → 48 * d + 48 ≤ length l → l ≡ sets l₀ 0 (cat (domain_in b at) d)
    → ys ≡ domain_of (take (at + 192 * d + 192 - (at + 192 * d)) (drop (at + 192 * d) b))
    → take (48 * d) l ++ (ys ++ drop (48 * d + 48 - 48 * d) (drop (48 * d) l)) ≡ sets l₀ 0 (cat (domain_in b at) (d + 1))
domains_turn b at d l₀ l ys h el ey =
    let ey' : ys ≡ domain_in b at d = rw (add-sub_cancel_left (at + 192 * d) 192) at ey in
    let n : length ys ≡ 48 = ap length ey' ∙ domain_length _ in
    let e : 0 + 48 * d ≡ 48 * d = omega arith in
    rw (add-sub_cancel_left (48 * d) 48)
    (part_home l ys (48 * d) 48 n h ∙ rw (ey', el) (rw e at (cat_turn (domain_in b at) 48 (λ k. domain_length _) l₀ 0 d)))

-- the rest of a slice, as the borrow checker states it
pub part_rest : (xs : List ℕ) (t : ℕ) → take (length xs - t) (drop t xs) ≡ drop t xs
part_rest xs t = take_all (length xs - t) (drop t xs) (rw length-drop (le_refl _))
