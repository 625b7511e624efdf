-- Laws of the scans: what a loop over the slots has found at each turn, and what the three scans mean.
use Prim.Native.Nat.{ℕ, zero, suc, ◌+◌, ◌-◌, ◌≤◌, ◌<◌}
use native.Mathlib.Numerals.{add-one}
use native.Mathlib.Nat.{not-suc-le-zero, le_refl, eq-or-lt_of_le, le_of_suc-le-suc}
use native.Mathlib.Decide.{dec_lt}
use native.Mathlib.Omega.{arith}
use mathlib.Core.Path.{◌≡◌, refl, sym, ap, ◌∙◌}
use mathlib.Core.Bool.{Bool, true, false, true≢false}
use mathlib.Core.Logic.{⊎_elim, by_cases}
use lib.Dec.{ltb}
use borrow.Author.Tests.{lt-ltb, le-ltb, ltb-true, ltb-false}
use Rattle.std.specs.Prelude.{List, length, Option, Some, None, MatchOption, slice_index_or}
use Rattle.std.specs.Bool.{MatchBool}
use Rattle.std.specs.List.{HoldsAt, AllWithin, filter}
use Rattle.std.specs.Prelude.{take, cond}
use Rattle.std.proofs.lemmas.List.{take_all}
use Rattle.std.proofs.lemmas.List.Filters.{length-filter_more}
use Rattle.mem_domain.specs.Scan.{count_to, first_from, lowest, any_to, found}

module _ (f : ℕ → Bool) where
  -- a turn at which the test passes, one at which it does not, and the end
  pub first_here : (k m : ℕ) → f k ≡ true → first_from f k (suc m) ≡ k
  unfolding first_from
  first_here k m e = rw e

  pub first_past : (k m : ℕ) → f k ≡ false → first_from f k (suc m) ≡ first_from f (suc k) m
  unfolding first_from
  first_past k m e = rw e

  pub first_end : (k : ℕ) → first_from f k 0 ≡ k
  unfolding first_from
  first_end k = refl

  -- the same where the loop's k and n are at hand
  pub turn_hit : (k n : ℕ) → k < n → f k ≡ true → first_from f k (n - k) ≡ k
  turn_hit k n l e = let s : n - k ≡ suc (n - (k + 1)) = omega arith in rw s (first_here k (n - (k + 1)) e)

  pub turn_miss : (k n : ℕ) → k < n → f k ≡ false → first_from f k (n - k) ≡ first_from f (k + 1) (n - (k + 1))
  turn_miss k n l e =
      let s : n - k ≡ suc (n - (k + 1)) = omega arith in rw s (first_past k (n - (k + 1)) e ∙ ap (λ j. first_from f j (n - (k + 1))) (sym (add-one k)))

  pub turn_end : (k n : ℕ) → n ≤ k → first_from f k (n - k) ≡ k
  turn_end k n l = let s : n - k ≡ 0 = omega arith in rw s (first_end k)

  first_up : (b : Bool) (k m : ℕ) → f k ≡ b → ((j : ℕ) → first_from f j m ≤ j + m) → first_from f k (suc m) ≤ k + suc m
  first_up true k m e up = omega (arith, first_here k m e)
  first_up false k m e up = omega (arith, first_past k m e, up (suc k))

  pub first_le : (m k : ℕ) → first_from f k m ≤ k + m
  first_le zero k = omega (arith, first_end k)
  first_le (suc m) k = first_up (f k) k m refl (first_le m)

  -- the number found passes
  hit : (b : Bool) (k m : ℕ) → f k ≡ b → ((j : ℕ) → first_from f j m < j + m → f (first_from f j m) ≡ true) → first_from f k (suc m) < k + suc m
      → f (first_from f k (suc m)) ≡ true
  hit true k m e more l = rw (first_here k m e) e
  hit false k m e more l = rw (first_past k m e) (more (suc k) (omega (arith, first_past k m e)))

  pub first_hit : (m k : ℕ) → first_from f k m < k + m → f (first_from f k m) ≡ true
  first_hit zero k l = absurd (omega (arith, first_end k))
  first_hit (suc m) k l = hit (f k) k m refl (first_hit m) l

  -- none before it does
  before : (b : Bool) (k m : ℕ) → f k ≡ b → ((i j : ℕ) → i ≤ j → j < first_from f i m → f j ≡ false) → (j : ℕ) → k ≤ j → j < first_from f k (suc m)
      → f j ≡ false
  before true k m e more j l h = absurd (omega (arith, first_here k m e))
  before false k m e more j l h =
      ⊎_elim (λ (q : k ≡ j). rw (← q) e) (λ (q : k < j). more (suc k) j (omega arith) (omega (arith, first_past k m e))) (eq-or-lt_of_le l)

  pub first_before : (m k j : ℕ) → k ≤ j → j < first_from f k m → f j ≡ false
  first_before zero k j l h = absurd (omega (arith, first_end k))
  first_before (suc m) k j l h = before (f k) k m refl (first_before m) j l h

  -- the lowest number below n that passes is at most n, passes if it is below, and none before it does
  pub lowest_le : (n : ℕ) → lowest f n ≤ n
  lowest_le n = omega (arith, first_le n 0)

  pub lowest_hit : (n : ℕ) → lowest f n < n → f (lowest f n) ≡ true
  lowest_hit n l = first_hit n 0 (omega arith)

  pub lowest_before : (n j : ℕ) → j < lowest f n → f j ≡ false
  lowest_before n j l = first_before n 0 j (omega arith) l

  -- no other number is so; and it is n where none passes
  pub lowest_is : (n k : ℕ) → k < n → f k ≡ true → ((j : ℕ) → j < k → f j ≡ false) → lowest f n ≡ k
  lowest_is n k l e none =
      by_cases (dec_lt (lowest f n) k) (λ (p : lowest f n < k). absurd (true≢false (sym (lowest_hit n (omega arith)) ∙ none (lowest f n) p)))
      (λ p.
      by_cases (dec_lt k (lowest f n)) (λ (q : k < lowest f n). absurd (true≢false (sym e ∙ lowest_before n k q))) (λ q. omega arith))

  pub lowest_none : (n : ℕ) → ((j : ℕ) → j < n → f j ≡ false) → lowest f n ≡ n
  lowest_none n none =
      by_cases (dec_lt (lowest f n) n) (λ (p : lowest f n < n). absurd (true≢false (sym (lowest_hit n p) ∙ none (lowest f n) p)))
      (λ p. omega (arith, lowest_le n))

  -- some number below n passes: by one that does, and by the lowest; none: by all
  pub any_at : (n k : ℕ) → k < n → f k ≡ true → any_to f n ≡ true
  any_at n k l e =
      by_cases (dec_lt (lowest f n) n) (λ (p : lowest f n < n). lt-ltb (lowest f n) n p)
      (λ p. absurd (true≢false (sym e ∙ lowest_before n k (omega arith))))

  pub any_none : (n : ℕ) → ((j : ℕ) → j < n → f j ≡ false) → any_to f n ≡ false
  any_none n none = le-ltb (lowest f n) n (omega (arith, lowest_none n none))

  pub any_hit : (n : ℕ) → any_to f n ≡ true → f (lowest f n) ≡ true
  any_hit n e = lowest_hit n (ltb-true (lowest f n) n e)

  pub any_miss : (n k : ℕ) → any_to f n ≡ false → k < n → f k ≡ false
  any_miss n k e l = lowest_before n k (omega (arith, ltb-false (lowest f n) n e))

  -- a loop that has come to the end has found none
  pub turn_none : (k n : ℕ) → n ≤ k → lowest f n ≡ first_from f k (n - k) → any_to f n ≡ false
  turn_none k n l e = le-ltb (lowest f n) n (omega (arith, turn_end k n l))

  -- a turn of a count, and its bound
  pub count_none : count_to f 0 ≡ 0
  unfolding count_to
  count_none = refl

  pub count_hit : (k : ℕ) → f k ≡ true → count_to f (k + 1) ≡ count_to f k + 1
  unfolding count_to
  count_hit k e = rw (add-one k, e)

  pub count_miss : (k : ℕ) → f k ≡ false → count_to f (k + 1) ≡ count_to f k
  unfolding count_to
  count_miss k e = rw (add-one k, e) (omega arith)

  count_turn : (b : Bool) (k : ℕ) → f k ≡ b → count_to f k ≤ k → count_to f (suc k) ≤ suc k
  count_turn true k e h = rw (← add-one k) (omega (arith, count_hit k e))
  count_turn false k e h = rw (← add-one k) (omega (arith, count_miss k e))

  pub count_le : (n : ℕ) → count_to f n ≤ n
  count_le zero = omega (arith, count_none)
  count_le (suc n) = count_turn (f n) n refl (count_le n)

  -- none of them passes; all of them do; one of them does not
  pub count_zero : (n : ℕ) → ((k : ℕ) → k < n → f k ≡ false) → count_to f n ≡ 0
  count_zero zero e = count_none
  count_zero (suc n) e = rw (← add-one n) (count_miss n (e n (le_refl _)) ∙ count_zero n (λ k l. e k (omega arith)))

  pub count_all : (n : ℕ) → ((k : ℕ) → k < n → f k ≡ true) → count_to f n ≡ n
  count_all zero e = count_none
  count_all (suc n) e = rw (← add-one n) (omega (arith, count_hit n (e n (le_refl _)), count_all n (λ k l. e k (omega arith))))

  pub count_lack : (n k : ℕ) → k < n → f k ≡ false → count_to f n < n
  count_lack zero k l e = absurd (not-suc-le-zero l)
  count_lack (suc n) k l e =
      ⊎_elim (λ (h : k ≡ n). rw (← add-one n) (omega (arith, count_miss n (rw h at e), count_le n)))
      (λ (h : k < n). lack (f n) n refl (count_lack n k h e)) (eq-or-lt_of_le (le_of_suc-le-suc l))
    where
      lack : (b : Bool) (m : ℕ) → f m ≡ b → count_to f m < m → count_to f (suc m) < suc m
      lack true m d h = rw (← add-one m) (omega (arith, count_hit m d))
      lack false m d h = rw (← add-one m) (omega (arith, count_miss m d))

-- tests that agree below n find and count alike
pub lowest_same : (f g : ℕ → Bool) (n : ℕ) → ((k : ℕ) → k < n → f k ≡ g k) → lowest f n ≡ lowest g n
lowest_same f g n e =
    by_cases (dec_lt (lowest g n) n) (λ (p : lowest g n < n).
    lowest_is f n (lowest g n) p (e (lowest g n) p ∙ lowest_hit g n p) (λ j l. e j (omega arith) ∙ lowest_before g n j l))
    (λ p.
    let q : lowest g n ≡ n = omega (arith, lowest_le g n) in
    lowest_none f n (λ j l. e j l ∙ lowest_before g n j (omega arith)) ∙ sym q)

pub any_same : (f g : ℕ → Bool) (n : ℕ) → ((k : ℕ) → k < n → f k ≡ g k) → any_to f n ≡ any_to g n
any_same f g n e = ap (λ k. ltb k n) (lowest_same f g n e)

pub count_same : (f g : ℕ → Bool) (n : ℕ) → ((k : ℕ) → k < n → f k ≡ g k) → count_to f n ≡ count_to g n
unfolding count_to
count_same f g zero e = refl
count_same f g (suc n) e = rw (e n (le_refl _), count_same f g n (λ k h. e k (omega arith)))

-- tests that differ at one number only, which passes the second
pub count_gain : (f g : ℕ → Bool) (n k : ℕ) → k < n → ((j : ℕ) → (j ≡ k → ⊥) → f j ≡ g j) → f k ≡ false → g k ≡ true
    → count_to g n ≡ count_to f n + 1
count_gain f g zero k l same p q = absurd (not-suc-le-zero l)
count_gain f g (suc n) k l same p q =
    ⊎_elim (λ (e : k ≡ n).
    let below : count_to f n ≡ count_to g n = count_same f g n (λ j h. same j (λ i. omega arith)) in
    rw (← add-one n) (omega (arith, count_hit g n (rw e at q), count_miss f n (rw e at p))))
    (λ (h : k < n).
    last (f n) n refl (sym (same n (λ i. omega arith))) (count_gain f g n k h same p q)) (eq-or-lt_of_le (le_of_suc-le-suc l))
  where
    last : (b : Bool) (m : ℕ) → f m ≡ b → g m ≡ f m → count_to g m ≡ count_to f m + 1 → count_to g (suc m) ≡ count_to f (suc m) + 1
    last true m e d h = rw (← add-one m) (omega (arith, count_hit f m e, count_hit g m (d ∙ e)))
    last false m e d h = rw (← add-one m) (omega (arith, count_miss f m e, count_miss g m (d ∙ e)))

-- ---- what an iterator over the slots has found, as a scan by number

module _ {A : Type 0} (t : A → Bool) (l : List A) (d : A) (n : ℕ) (w : length l ≡ n) where
  -- the test by number
  abbrev pub at : ℕ → Bool
  at k = t (slice_index_or l k d)

  pub any_is : (r : Bool)
      → MatchBool r ((k : ℕ) × (k < length l) × HoldsAt (λ x. t x ≡ true) l k) (AllWithin (λ x. t x ≡ false) l 0 (length l)) → r ≡ any_to at n
  any_is true (k, h, e) = sym (any_at at n k (omega arith) (e d))
  any_is false e = sym (any_none at n (λ k h. e k d (omega arith) (omega arith)))

  pub found_is : (r : Option ℕ)
      → MatchOption r (AllWithin (λ x. t x ≡ false) l 0 (length l)) (λ i. (i < length l) × HoldsAt (λ x. t x ≡ true) l i × AllWithin (λ x. t x ≡ false) l 0 i)
      → r ≡ found at n
  found_is None e = rw (any_none at n (λ k h. e k d (omega arith) (omega arith))) refl
  found_is (Some i) (h, e, b) = rw (any_at at n i (omega arith) (e d), lowest_is at n i (omega arith) (e d) (λ j g. b j d (omega arith) g)) refl

  counted_to : (i : ℕ) → i ≤ n → length (filter t (take i l)) ≡ count_to at i
  unfolding count_to
  counted_to zero h = refl
  counted_to (suc i) h = rw (← add-one i) (length-filter_more t l i d (omega arith) ∙ ap (λ m. m + cond (at i) 1 0) (counted_to i (omega arith)))

  pub count_is : (r : ℕ) → r ≡ length (filter t l) → r ≡ count_to at n
  count_is r e = e ∙ ap (λ k. length (filter t k)) (sym (take_all n l (omega arith))) ∙ counted_to n (omega arith)
