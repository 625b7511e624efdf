-- Bytes that are read and written again: a list of bytes is what its numbers spell. So of an image whose sentences hold, `encode` gives the bytes back.
use mathlib.Core.Path.{◌≡◌, refl, sym, ap, ◌∙◌}
use Prim.Native.Nat.{ℕ, zero, suc, ◌+◌, ◌*◌, ◌/◌, ◌%◌, ◌^◌, ◌≤◌, ◌<◌, ◌-◌}
use native.Mathlib.Nat.{pow-suc, mul-suc, lt_of_lt_of_le, zero-add, mul_assoc}
use native.Mathlib.Decide.{dec_le, dec_lt}
use native.Mathlib.Omega.{arith}
use mathlib.Core.Logic.{◌≢◌, inr}
use mathlib.Core.List.{List, [], ◌∷◌, ◌++◌, append-nil}
use mathlib.Core.Bool.{false, cond}
use lib.Dec.{eqb}
use lib.ListN.{length, take, drop, get_or, length-take, length-drop}
use lib.Seq.{sets, length-sets, take-add, take-take, drop-drop, take-length, take_all, length-take-le, get_or-take, get_or-drop}
use borrow.Author.Tests.{lt-ltb, eq-eqb, ne_eqb}
use Rattle.tables.specs.Rows.{at3, at3_same, at3_other, get_d_sets_out, get_d_sets_in}
use Rattle.answer.specs.Stores.{cat}
use Rattle.image_write.specs.Bytes.{bytes, value, le}
use Rattle.image_write.specs.Encode.{object_bytes, thread_bytes, slot_bytes, domain_bytes, domain_part, domains_bytes, top, live}
use Rattle.image_write.proofs.Bytes.{cat_length, cat_same}
use Rattle.image_write.proofs.Turns.{thread_dead, threads_length}
use Rattle.image.specs.Read.{object_in, enter, entered, domain_of, domain_in, domains_in}
use Rattle.image.proofs.Turns.{pow_most, domain_length}
use Rattle.image_laws.proofs.Place.{At, at_cat, groups}

-- every number of a list is below k; a list of bytes is one below 256
abbrev pub Below : ℕ → List ℕ → Type 0
Below k xs = (i : ℕ) → get_or xs i 0 < k

below_tail : (k x : ℕ) (xs : List ℕ) → Below k (x ∷ xs) → Below k xs
below_tail k x xs h i = h (suc i)

below_take : (k n : ℕ) (xs : List ℕ) → 0 < k → Below k xs → Below k (take n xs)
below_take k zero xs p h i = p
below_take k (suc n) [] p h i = p
below_take k (suc n) (x ∷ xs) p h zero = h 0
below_take k (suc n) (x ∷ xs) p h (suc i) = below_take k n xs p (below_tail k x xs h) i

below_drop : (k n : ℕ) (xs : List ℕ) → Below k xs → Below k (drop n xs)
below_drop k n xs h i = rw get_or-drop (h (n + i))

value_below : (xs : List ℕ) → Below 256 xs → value xs < 256 ^ length xs
unfolding value
value_below [] h = omega arith
value_below (x ∷ xs) h = rw pow-suc (omega (arith, value_below xs (below_tail 256 x xs h), h 0))

pub le_below : (b : List ℕ) (n at : ℕ) → Below 256 b → le n b at < 256 ^ n
le_below b n at h =
    lt_of_lt_of_le (value_below (take n (drop at b)) (below_take 256 n (drop at b) (omega arith) (below_drop 256 at b h)))
    (pow_most (length (take n (drop at b))) n (rw length-take (omega arith)))

-- ---- numbers

bytes_value : (xs : List ℕ) → Below 256 xs → bytes (length xs) (value xs) ≡ xs
unfolding bytes value
bytes_value [] h = refl
bytes_value (x ∷ xs) h =
    let p : x < 256 = h 0 in
    let m : (value xs * 256 + x) % 256 ≡ x = omega arith in
    let d : (value xs * 256 + x) / 256 ≡ value xs = omega arith in
    rw (m, d, bytes_value xs (below_tail 256 x xs h)) refl

-- the n bytes at a place, read and written again
pub again : (b : List ℕ) (n at : ℕ) → Below 256 b → at + n ≤ length b → bytes n (le n b at) ≡ take n (drop at b)
again b n at h l =
    let e : length (take n (drop at b)) ≡ n = length-take-le n (drop at b) (rw length-drop (omega arith)) in
    rw e at (bytes_value (take n (drop at b)) (below_take 256 n (drop at b) (omega arith) (below_drop 256 at b h)))

value_append : (xs ys : List ℕ) → value (xs ++ ys) ≡ value xs + 256 ^ length xs * value ys
unfolding value
value_append [] ys = omega arith
value_append (x ∷ xs) ys =
    let p : ℕ = 256 ^ length xs in
    let e : p * 256 * value ys ≡ p * value ys * 256 = rw mul_assoc (omega arith) in
    rw (value_append xs ys, pow-suc) (omega arith)

-- a number in two parts
pub le_split : (b : List ℕ) (m n at : ℕ) → at + m ≤ length b → le (m + n) b at ≡ le m b at + 256 ^ m * le n b (at + m)
le_split b m n at l =
    let e : length (take m (drop at b)) ≡ m = length-take-le m (drop at b) (rw length-drop (omega arith)) in
    ap value (take-add m n (drop at b)) ∙ value_append (take m (drop at b)) (take n (drop m (drop at b))) ∙ rw (e, drop-drop) refl

-- two neighbouring parts are one
pub joined : (b : List ℕ) (at m n : ℕ) → take m (drop at b) ++ take n (drop (at + m) b) ≡ take (m + n) (drop at b)
joined b at m n = rw (← drop-drop m at b) (sym (take-add m n (drop at b)))

-- number j of record i
pub cat_get : (f : ℕ → List ℕ) (m : ℕ) → ((k : ℕ) → length (f k) ≡ m) → (n i j : ℕ) → i < n → j < m → get_or (cat f n) (m * i + j) 0 ≡ get_or (f i) j 0
cat_get f m l n i j p q =
    let a : At (cat f n) (m * i) (f i) = rw zero-add at (at_cat (cat f n) 0 f m l i n p (take-length (cat f n))) in
    let h : j < length (f i) = rw (l i) q in
    sym (get_or-drop (m * i) (cat f n) j 0) ∙ sym (get_or-take (length (f i)) (drop (m * i) (cat f n)) j 0 h) ∙ ap (λ (xs : List ℕ). get_or xs j 0) a

module _ (b : List ℕ) (h : Below 256 b) where
  -- ---- domains

  domain_again : (r : List ℕ) → Below 256 r → length r ≡ 192 → domain_bytes (domain_of r) ≡ r
  unfolding domain_bytes domain_of
  domain_again r g l =
      cat_same (slot_bytes (domain_of r)) (λ (k : ℕ). take 4 (drop (4 * k) r)) 48
      (λ k p.
      let e : 1 * k + 0 ≡ k = omega arith in
      let v : get_or (domain_of r) k 0 ≡ le 4 r (4 * k) = rw e at (cat_get (λ (j : ℕ). le 4 r (4 * j) ∷ []) 1 (λ j. refl) 48 k 0 p (omega arith)) in
      ap (bytes 4) v ∙ again r 4 (4 * k) g (omega arith))
      ∙ groups 4 r 48
      ∙ take_all 192 r (omega arith)

  pub domains_again : (at : ℕ) → at + 1536 ≤ length b → domains_bytes (domains_in b at) ≡ take 1536 (drop at b)
  unfolding domains_bytes domains_in
  domains_again at l =
      cat_same (domain_part (domains_in b at)) (λ (d : ℕ). take 192 (drop (192 * d) (drop at b))) 8
      (λ d p.
      let r : List ℕ = take 192 (drop (at + 192 * d) b) in
      let n : length r ≡ 192 = length-take-le 192 (drop (at + 192 * d) b) (rw length-drop (omega arith)) in
      let a : take 48 (drop (48 * d) (cat (domain_in b at) 8)) ≡ domain_in b at d =
      rw (zero-add, domain_length) at (at_cat (cat (domain_in b at) 8) 0 (domain_in b at) 48 (λ k. domain_length _) d 8 p (take-length (cat (domain_in b at) 8))) in
      ap domain_bytes a ∙ domain_again r (below_take 256 192 (drop (at + 192 * d) b) (omega arith) (below_drop 256 (at + 192 * d) b h)) n ∙ rw drop-drop refl)
      ∙ groups 192 (drop at b) 8

  -- ---- objects

  module _ (z : List ℕ) (lz : length z ≡ 512) (hz : (i : ℕ) → get_or z i 0 ≡ 0) (m : ℕ) (pm : m ≤ 256) where
    entry_long : (k : ℕ) → length (object_in b k) ≡ 2
    unfolding object_in
    entry_long k = refl

    all_long : length (cat (object_in b) m) ≡ 2 * m
    all_long = cat_length (object_in b) 2 m entry_long

    number_at : (k j : ℕ) → k < m → j < 2 → get_or (sets z 0 (cat (object_in b) m)) (2 * k + j) 0 ≡ get_or (object_in b k) j 0
    number_at k j p q =
        rw zero-add at (get_d_sets_in (cat (object_in b) m) z 0 (2 * k + j) (rw all_long (omega arith)) (omega arith))
        ∙ cat_get (object_in b) 2 entry_long m k j p q

    pub head_at : (k : ℕ) → k < m → get_or (sets z 0 (cat (object_in b) m)) (2 * k) 0 ≡ le 4 b (16 + 12 * k)
    unfolding object_in
    head_at k p = let e : 2 * k + 0 ≡ 2 * k = omega arith in rw e at (number_at k 0 p (omega arith))

    pub word_at : (k : ℕ) → k < m → get_or (sets z 0 (cat (object_in b) m)) (2 * k + 1) 0 ≡ le 8 b (20 + 12 * k)
    unfolding object_in
    word_at k p = number_at k 1 p (omega arith)

    pub free_behind : (k : ℕ) → m ≤ k → get_or (sets z 0 (cat (object_in b) m)) (2 * k) 0 ≡ 0
    free_behind k p = get_d_sets_out (cat (object_in b) m) z 0 (2 * k) (inr (rw all_long (omega arith))) ∙ hz (2 * k)

    pub objects_again : 16 + 12 * m ≤ length b → cat (object_bytes (sets z 0 (cat (object_in b) m))) m ≡ take (12 * m) (drop 16 b)
    unfolding object_bytes
    objects_again l =
        cat_same (object_bytes (sets z 0 (cat (object_in b) m))) (λ (k : ℕ). take 12 (drop (12 * k) (drop 16 b))) m
        (λ k p.
        let e : 16 + 12 * k + 4 ≡ 20 + 12 * k = omega arith in
        rw (head_at k p, word_at k p, again b 4 (16 + 12 * k) h (omega arith), again b 8 (20 + 12 * k) h (omega arith), drop-drop)
        (rw e at (joined b (16 + 12 * k) 4 8)))
        ∙ groups 12 (drop 16 b) m

-- the count is that of the last object taken
pub top_is : (os : List ℕ) (n m : ℕ) → m ≤ n → ((k : ℕ) → m ≤ k → get_or os (2 * k) 0 ≡ 0) → ((k : ℕ) → suc k ≡ m → get_or os (2 * k) 0 ≢ 0) → top os n ≡ m
unfolding top
top_is os zero m p f g = omega arith
top_is os (suc n) m p f g =
    elim (dec_le m n) [
      | yes q ↦ rw (eq-eqb _ _ (f n q)) (top_is os n m q f g)
      | no q ↦ let e : suc n ≡ m = omega arith in rw (ne_eqb _ _ (g n e)) e
    ]

-- ---- threads

-- nothing more is written from x on
cat_stays : (f : ℕ → List ℕ) (x n : ℕ) → x ≤ n → ((k : ℕ) → x ≤ k → f k ≡ []) → cat f n ≡ cat f x
unfolding cat
cat_stays f x zero p g = let e : x ≡ 0 = omega arith in rw e refl
cat_stays f x (suc n) p g =
    elim (dec_le x n) [
      | yes q ↦ rw (g n q) (append-nil (cat f n) ∙ cat_stays f x n q g)
      | no q ↦ let e : x ≡ suc n = omega arith in rw e refl
    ]

-- the bytes of a thread's three numbers
abbrev row_bytes : ℕ → ℕ → ℕ → ℕ → List ℕ
row_bytes t r d g = cond (eqb r 0) [] (bytes 1 t ++ bytes 1 (r - 1) ++ bytes 2 d ++ bytes 4 g)

module _ (b : List ℕ) (h : Below 256 b) (at : ℕ) (z : List ℕ) (lz : length z ≡ 192) (hz : (i : ℕ) → get_or z i 0 ≡ 0) where
  abbrev id : ℕ → ℕ
  id i = le 1 b (at + 8 * i)

  enters : (p : ℕ) (ts : List ℕ) → le 1 b p < 64 → enter b p ts ≡ sets ts (3 * le 1 b p) ((le 1 b (p + 1) + 1) ∷ le 2 b (p + 2) ∷ le 4 b (p + 4) ∷ [])
  unfolding enter
  enters p ts q = rw (lt-ltb (le 1 b p) 64 q) refl

  -- the record at p, read and written again
  row_again : (p : ℕ) → p + 8 ≤ length b → row_bytes (le 1 b p) (le 1 b (p + 1) + 1) (le 2 b (p + 2)) (le 4 b (p + 4)) ≡ take 8 (drop p b)
  row_again p l =
      let e₀ : eqb (le 1 b (p + 1) + 1) 0 ≡ false = ne_eqb (le 1 b (p + 1) + 1) 0 (λ q. let v : le 1 b (p + 1) + 1 ≡ 0 = q in omega arith) in
      let e₁ : le 1 b (p + 1) + 1 - 1 ≡ le 1 b (p + 1) = omega arith in
      rw (e₀, e₁, again b 1 p h (omega arith), again b 1 (p + 1) h (omega arith), again b 2 (p + 2) h (omega arith), again b 4 (p + 4) h (omega arith), joined b p 1 1, joined b p 2 2, joined b p 4 4) refl

  abbrev row : ℕ → List ℕ
  row p = (le 1 b (p + 1) + 1) ∷ le 2 b (p + 2) ∷ le 4 b (p + 4) ∷ []

  pub entered_long : (n : ℕ) → ((i : ℕ) → i < n → id i < 64) → length (entered b at z n) ≡ 192
  unfolding entered
  entered_long zero f = lz
  entered_long (suc n) f =
      rw (enters (at + 8 * n) (entered b at z n) (f n (omega arith)))
      (length-sets (entered b at z n) (3 * id n) (row (at + 8 * n)) ∙ entered_long n (λ i q. f i (omega arith)))

  -- whose id is above all that were read is dead
  quiet : (n : ℕ) → ((i : ℕ) → i < n → id i < 64) → (t : ℕ) → ((i : ℕ) → i < n → id i < t) → get_or (entered b at z n) (3 * t) 0 ≡ 0
  unfolding entered
  quiet zero f t g = hz (3 * t)
  quiet (suc n) f t g =
      let q : id n < t = g n (omega arith) in
      rw (enters (at + 8 * n) (entered b at z n) (f n (omega arith)))
      (get_d_sets_out (row (at + 8 * n)) (entered b at z n) (3 * id n) (3 * t) (inr (omega arith))
      ∙ quiet n (λ i p. f i (omega arith)) t (λ i p. g i (omega arith)))

  -- n records with rising ids, read and written again
  pub threads_again :
      (n : ℕ) → at + 8 * n ≤ length b → ((i : ℕ) → i < n → id i < 64) → ((i j : ℕ) → i < j → j < n → id i < id j) →
      (t : ℕ) → ((i : ℕ) → i < n → id i < t) → cat (thread_bytes (entered b at z n)) t ≡ take (8 * n) (drop at b)
  unfolding entered thread_bytes cat
  threads_again zero l f r t g = cat_stays (thread_bytes z) 0 t (omega arith) (λ k p. thread_dead z k (hz (3 * k)))
  threads_again (suc n) l f r t g =
      let p : ℕ = at + 8 * n in
      let x : ℕ = id n in
      let old : List ℕ = entered b at z n in
      let new : List ℕ = sets old (3 * x) (row p) in
      let e : entered b at z (suc n) ≡ new = enters p old (f n (omega arith)) in
      let xt : x < t = g n (omega arith) in
      let x64 : x < 64 = f n (omega arith) in
      let m : length old ≡ 192 = entered_long n (λ i q. f i (omega arith)) in
      let later : cat (thread_bytes new) t ≡ cat (thread_bytes new) (suc x) =
      cat_stays (thread_bytes new) (suc x) t xt
      (λ k q.
      thread_dead new k
      (get_d_sets_out (row p) old (3 * x) (3 * k) (inr (omega arith))
      ∙ quiet n (λ i w. f i (omega arith)) k (λ i w. let u : id i < x = r i n w (omega arith) in omega arith))) in
      let before : cat (thread_bytes new) x ≡ take (8 * n) (drop at b) =
      cat_same (thread_bytes new) (thread_bytes old) x (λ k q. at3_other (row_bytes k) old k x _ _ _ (λ u. omega arith))
      ∙ threads_again n (omega arith) (λ i q. f i (omega arith)) (λ i j q u. r i j q (omega arith)) x (λ i q. r i n q (omega arith)) in
      let here : thread_bytes new x ≡ take 8 (drop p b) = at3_same (row_bytes x) old x _ _ _ (omega arith) ∙ row_again p (omega arith) in
      ap (λ (v : List ℕ). cat (thread_bytes v) t) e ∙ later ∙ rw (before, here, mul-suc) (joined b at (8 * n) 8)

  pub live_again :
      (n : ℕ) → at + 8 * n ≤ length b → ((i : ℕ) → i < n → id i < 64) → ((i j : ℕ) → i < j → j < n → id i < id j) → live (entered b at z n) 64 ≡ n
  live_again n l f r =
      let e = sym (threads_length (entered b at z n) 64) ∙ ap length (threads_again n l f r 64 f) in
      let m : length (take (8 * n) (drop at b)) ≡ 8 * n = length-take-le (8 * n) (drop at b) (rw length-drop (omega arith)) in
      omega arith

  -- what was read of record i stands at its id, and nothing at another number
  module _ {A : Type 0} (f : ℕ → ℕ → ℕ → A) where
    pub row_kept :
        (n : ℕ) → ((i : ℕ) → i < n → id i < 64) → ((i j : ℕ) → i < j → j < n → id i < id j) → (i : ℕ) → i < n →
        at3 f (entered b at z n) (id i) ≡ f (le 1 b (at + 8 * i + 1) + 1) (le 2 b (at + 8 * i + 2)) (le 4 b (at + 8 * i + 4))
    unfolding entered
    row_kept zero g r i p = absurd (omega arith)
    row_kept (suc n) g r i p =
        let old : List ℕ = entered b at z n in
        let m : length old ≡ 192 = entered_long n (λ j q. g j (omega arith)) in
        let x64 : id n < 64 = g n (omega arith) in
        elim (dec_lt i n) [
          | yes q ↦
              let u : id i < id n = r i n q (omega arith) in
              rw (enters (at + 8 * n) old x64)
              (at3_other f old (id i) (id n) (le 1 b (at + 8 * n + 1) + 1) (le 2 b (at + 8 * n + 2)) (le 4 b (at + 8 * n + 4)) (λ w. omega arith)
              ∙ row_kept n (λ j q. g j (omega arith)) (λ j k q v. r j k q (omega arith)) i q)
          | no q ↦
              let w : i ≡ n = omega arith in
              rw (w, enters (at + 8 * n) old x64) (at3_same f old (id n) (le 1 b (at + 8 * n + 1) + 1) (le 2 b (at + 8 * n + 2)) (le 4 b (at + 8 * n + 4)) (omega arith))
        ]

    pub none_kept : (n : ℕ) → ((i : ℕ) → i < n → id i < 64) → (t : ℕ) → ((i : ℕ) → i < n → id i ≢ t) → at3 f (entered b at z n) t ≡ f 0 0 0
    unfolding entered
    none_kept zero g t o = rw (hz (3 * t), hz (3 * t + 1), hz (3 * t + 2)) refl
    none_kept (suc n) g t o =
        rw (enters (at + 8 * n) (entered b at z n) (g n (omega arith)))
        (at3_other f (entered b at z n) t (id n) (le 1 b (at + 8 * n + 1) + 1) (le 2 b (at + 8 * n + 2)) (le 4 b (at + 8 * n + 4)) (o n (omega arith))
        ∙ none_kept n (λ j q. g j (omega arith)) t (λ j q. o j (omega arith)))

-- ---- slots, number by number

part_in : (n x k : ℕ) (l : List ℕ) → x + n ≤ k → take n (drop x (take k l)) ≡ take n (drop x l)
part_in n zero k l h = take-take n k l (omega arith)
part_in n (suc x) zero l h = absurd (omega arith)
part_in n (suc x) (suc k) [] h = refl
part_in n (suc x) (suc k) (y ∷ l) h = part_in n x k l (omega arith)

pub slot_number : (b : List ℕ) (at d j : ℕ) → d < 8 → j < 48 → get_or (domains_in b at) (48 * d + j) 0 ≡ le 4 b (at + 192 * d + 4 * j)
unfolding domains_in domain_of
slot_number b at d j p q =
    let r : List ℕ = take 192 (drop (at + 192 * d) b) in
    let e : 1 * j + 0 ≡ j = omega arith in
    cat_get (domain_in b at) 48 (λ k. domain_length _) 8 d j p q
    ∙ rw e at (cat_get (λ (k : ℕ). le 4 r (4 * k) ∷ []) 1 (λ k. refl) 48 j 0 q (omega arith))
    ∙ ap value (part_in 4 (4 * j) 192 (drop (at + 192 * d) b) (omega arith) ∙ ap (take 4) (drop-drop (4 * j) (at + 192 * d) b))
