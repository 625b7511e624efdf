-- Laws of tests: parts of a conjunction, one of a disjunction, and a test that every number below n passes.
use Prim.Native.Nat.{ℕ, zero, suc, ◌+◌, ◌<◌}
use native.Mathlib.Numerals.{add-one}
use native.Mathlib.Nat.{not-suc-le-zero, le_refl, eq-or-lt_of_le, le_of_suc-le-suc}
use native.Mathlib.Omega.{arith}
use mathlib.Core.Path.{◌≡◌, refl, sym, ap, ◌∙◌}
use mathlib.Core.Bool.{Bool, true, false, ◌&&◌, ◌||◌, true≢false}
use mathlib.Core.Logic.{◌⊎◌, inl, inr, ⊎_elim}
use Rattle.std.specs.List.{list_all, range_with_len}
use Rattle.domain_rules.specs.Scan.{all_to}
pub use Rattle.answer.specs.Tests.{both_true}

pub both : {a b : Bool} → a ≡ true → b ≡ true → a && b ≡ true
both p q = rw (p, q)

pub either_true : (a b : Bool) → a || b ≡ true → (a ≡ true) ⊎ (b ≡ true)
either_true true b e = inl refl
either_true false b e = inr e

pub or_left : (a b : Bool) → a ≡ true → a || b ≡ true
or_left a b e = rw e

pub or_right : (a b : Bool) → b ≡ true → a || b ≡ true
or_right true b e = refl
or_right false b e = e

-- what is not true is false
pub isnt_true : (a : Bool) → (a ≡ true → ⊥) → a ≡ false
isnt_true true f = absurd (f refl)
isnt_true false f = refl

module _ (f : ℕ → Bool) where
  pub all_none : all_to f 0 ≡ true
  unfolding all_to
  all_none = refl

  pub all_step : (k : ℕ) → all_to f (k + 1) ≡ (all_to f k && f k)
  unfolding all_to
  all_step k = rw add-one

  pub all_more : (k : ℕ) → all_to f k ≡ true → f k ≡ true → all_to f (k + 1) ≡ true
  unfolding all_to
  all_more k p q = rw (add-one, p, q)

  -- every number below n passes
  pub all_at : (n k : ℕ) → all_to f n ≡ true → k < n → f k ≡ true
  unfolding all_to
  all_at zero k e h = absurd (not-suc-le-zero h)
  all_at (suc n) k e h =
      ⊎_elim (λ p. rw p (both_true (all_to f n) (f n) e).1) (λ l. all_at n k (both_true (all_to f n) (f n) e).0 l) (eq-or-lt_of_le (le_of_suc-le-suc h))

  pub all_from : (n : ℕ) → ((k : ℕ) → k < n → f k ≡ true) → all_to f n ≡ true
  unfolding all_to
  all_from zero g = refl
  all_from (suc n) g = both (all_from n (λ k h. g k (omega arith))) (g n (le_refl _))

  -- one that fails, and so does the whole
  pub all_fails : (n k : ℕ) → k < n → f k ≡ false → all_to f n ≡ false
  all_fails n k h e = isnt_true (all_to f n) (λ t. true≢false (sym (all_at n k t h) ∙ e))

-- two tests that agree below n
pub all_same : (f g : ℕ → Bool) (n : ℕ) → ((k : ℕ) → k < n → f k ≡ g k) → all_to f n ≡ all_to g n
unfolding all_to
all_same f g zero e = refl
all_same f g (suc n) e = rw (e n (le_refl _), all_same f g n (λ k h. e k (omega arith)))

-- ---- a test of each number in a range, as `all` of an iterator makes it
and_assoc : (a b c : Bool) → (a && b) && c ≡ a && (b && c)
and_assoc true b c = refl
and_assoc false b c = refl

all_front : (f : ℕ → Bool) (n : ℕ) → all_to f (suc n) ≡ f 0 && all_to (λ k. f (suc k)) n
unfolding all_to
all_front f zero = and_true (f 0)
  where
    and_true : (b : Bool) → true && b ≡ b && true
    and_true true = refl
    and_true false = refl
all_front f (suc n) = rw (all_front f n) (and_assoc (f 0) (all_to (λ k. f (suc k)) n) (f (suc n)))

all_from_on : (f : ℕ → Bool) (a n : ℕ) → list_all f (range_with_len a n) ≡ all_to (λ k. f (a + k)) n
unfolding all_to
all_from_on f a zero = refl
all_from_on f a (suc n) =
    rw (all_from_on f (a + 1) n, all_front (λ k. f (a + k)) n)
    (let e : a + 0 ≡ a = omega arith in rw e (ap (λ b. f a && b) (all_same (λ k. f (a + 1 + k)) (λ k. f (a + suc k)) n (λ k h. ap f (omega arith)))))

pub all_range : (f : ℕ → Bool) (n : ℕ) → list_all f (range_with_len 0 n) ≡ all_to f n
all_range f n = all_from_on f 0 n ∙ all_same (λ k. f (0 + k)) f n (λ k h. ap f (omega arith))
