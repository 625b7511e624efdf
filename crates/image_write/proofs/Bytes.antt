-- Laws of bytes, of records one behind the other, and of runs of stores: what every loop that writes or reads an image cites.
use Prim.Native.Nat.{ℕ, zero, suc, ◌+◌, ◌*◌, ◌/◌, ◌≤◌, ◌<◌, ◌-◌}
use native.Mathlib.Nat.{add-sub_cancel_left, mul-suc, le_refl, zero-add}
use native.Mathlib.Numerals.{add-one}
use native.Mathlib.Decide.{dec_le}
use native.Mathlib.Omega.{arith}
use mathlib.Core.Path.{◌≡◌, refl, sym, ap, ◌∙◌}
use mathlib.Core.List.{List, ◌++◌, append_assoc, append-nil}
use lib.ListN.{length, take, drop, get_or, set, length-append, length-drop}
use lib.Seq.{sets, sets-eq, take_at, drop-cons, drop-length, drop-drop, length-take-le}
use Rattle.answer.specs.Stores.{cat, sets_append, sets_front}
use Rattle.image_write.specs.Bytes.{bytes}

pub bytes_length : (n v : ℕ) → length (bytes n v) ≡ n
unfolding bytes
bytes_length zero v = refl
bytes_length (suc n) v = ap suc (bytes_length n (v / 256))

-- records of one length
pub cat_length : (f : ℕ → List ℕ) (m n : ℕ) → ((i : ℕ) → length (f i) ≡ m) → length (cat f n) ≡ m * n
unfolding cat
cat_length f m zero h = omega arith
cat_length f m (suc n) h = rw (length-append, cat_length f m n h, h n, mul-suc) refl

pub cat_same : (f g : ℕ → List ℕ) (n : ℕ) → ((k : ℕ) → k < n → f k ≡ g k) → cat f n ≡ cat g n
unfolding cat
cat_same f g zero h = refl
cat_same f g (suc n) h = rw (cat_same f g n (λ k l. h k (omega arith)), h n (omega arith)) refl

pub cat_mono : (f : ℕ → List ℕ) (m n : ℕ) → m ≤ n → length (cat f m) ≤ length (cat f n)
unfolding cat
cat_mono f m zero h = let z : m ≡ 0 = omega arith in rw z (omega arith)
cat_mono f m (suc n) h =
    elim (dec_le m n) [
      | yes k ↦ rw length-append (omega (arith, cat_mono f m n k))
      | no k ↦ let z : m ≡ suc n = omega arith in rw z (le_refl _)
    ]

pub cat_more : (f : ℕ → List ℕ) (i : ℕ) → cat f (i + 1) ≡ cat f i ++ f i
unfolding cat
cat_more f i = rw add-one refl

-- a record has room where all have
pub cat_room : (f : ℕ → List ℕ) (i n : ℕ) → i < n → length (cat f i) + length (f i) ≤ length (cat f n)
cat_room f i n h = omega (arith, cat_mono f (i + 1) n (omega arith), ap length (cat_more f i) ∙ length-append (cat f i) (f i))

-- one record more: the law of every loop that writes
pub cat_turn : (f : ℕ → List ℕ) (m : ℕ) → ((k : ℕ) → length (f k) ≡ m) → (l : List ℕ) (at i : ℕ)
    → sets (sets l at (cat f i)) (at + m * i) (f i) ≡ sets l at (cat f (i + 1))
unfolding cat
cat_turn f m h l at i = rw (← cat_length f m i h, sets_append, add-one) refl

-- all of a list is stored anew
pub sets_all : (vs l : List ℕ) → length vs ≡ length l → sets l 0 vs ≡ vs
sets_all vs l e = sets-eq vs l 0 (omega arith) ∙ rw (zero-add, e, drop-length) (append-nil vs)

pub take_sets : (vs l : List ℕ) (k : ℕ) → length vs ≡ k → k ≤ length l → take k (sets l 0 vs) ≡ vs
take_sets vs l k e h = rw (sets_front vs l (omega arith)) (take_at vs (drop (length vs) l) k e)

-- a part that was lent comes home
pub part_home : (xs vs : List ℕ) (a k : ℕ) → length vs ≡ k → a + k ≤ length xs → take a xs ++ (vs ++ drop k (drop a xs)) ≡ sets xs a vs
part_home xs vs a k e h = rw (drop-drop, ← e) (sym (sets-eq vs xs a (omega arith) ∙ append_assoc (take a xs) vs (drop (a + length vs) xs)))

-- the part from a to a + k, as the borrow checker states it
pub part_length : (xs : List ℕ) (a k : ℕ) → a + k ≤ length xs → length (take (a + k - a) (drop a xs)) ≡ k
part_length xs a k h = rw (add-sub_cancel_left a k) (length-take-le k (drop a xs) (simp length-drop (omega arith)))

pub copy_turn : (l s : List ℕ) (i : ℕ) → i < length s → sets l i (drop i s) ≡ sets (set l i (get_or s i 0)) (i + 1) (drop (i + 1) s)
copy_turn l s i h = rw (drop-cons s i 0 h, add-one) refl
