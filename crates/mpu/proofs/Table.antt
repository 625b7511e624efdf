-- Laws of tables read by number: which entry decides, and tests that pass at each entry.
use Prim.Native.Nat.{ℕ, zero, suc, ◌+◌, ◌-◌, ◌<◌}
use native.Mathlib.Numerals.{add-one}
use mathlib.Core.Path.{◌≡◌, refl, sym, ap, ◌∙◌}
use mathlib.Core.Bool.{Bool, true, false, cond, ◌&&◌, ◌||◌, false≢true, true≢false, and-true}
use mathlib.Core.Logic.{⊎_elim, ◌⊎◌, inl, inr}
use native.Mathlib.Nat.{not-suc-le-zero, le_refl, eq-or-lt_of_le, le_of_suc-le-suc}
use native.Mathlib.Omega.{arith}
use Rattle.mpu.specs.Table.{last_of}
use Rattle.domain_rules.specs.Scan.{all_to}
use Rattle.domain_rules.proofs.All.{all_none, all_more, all_fails}

-- the deciding entry gives the same where the same entries are on and give the same
pub last_same : (f g : ℕ → Bool) (u v : ℕ → ℕ) (n : ℕ) → ((k : ℕ) → k < n → f k ≡ g k) → ((k : ℕ) → k < n → u k ≡ v k) → last_of f u n ≡ last_of g v n
unfolding last_of
last_same f g u v zero e d = refl
last_same f g u v (suc n) e d = rw (e n (le_refl _), d n (le_refl _), last_same f g u v n (λ k h. e k (omega arith)) (λ k h. d k (omega arith)))

pub last_zero : (f : ℕ → Bool) (val : ℕ → ℕ) → last_of f val 0 ≡ 0
unfolding last_of
last_zero f val = refl

pub last_on : (f : ℕ → Bool) (val : ℕ → ℕ) (k : ℕ) → f k ≡ true → last_of f val (k + 1) ≡ val k
unfolding last_of
last_on f val k e = rw (add-one, e)

pub last_off : (f : ℕ → Bool) (val : ℕ → ℕ) (k : ℕ) → f k ≡ false → last_of f val (k + 1) ≡ last_of f val k
unfolding last_of
last_off f val k e = rw (add-one, e)

-- the one entry that is on decides; none: 0
pub last_none : (f : ℕ → Bool) (val : ℕ → ℕ) (n : ℕ) → ((k : ℕ) → k < n → f k ≡ false) → last_of f val n ≡ 0
unfolding last_of
last_none f val zero e = refl
last_none f val (suc n) e = rw (e n (le_refl _)) (last_none f val n (λ k h. e k (omega arith)))

last_finds_step : (f : ℕ → Bool) (val : ℕ → ℕ) (n k : ℕ) (b : Bool) → f n ≡ b → f k ≡ true → (f n ≡ true → n ≡ k) → k < suc n
    → (k < n → last_of f val n ≡ val k) → cond b (val n) (last_of f val n) ≡ val k
last_finds_step f val n k true q e u h ih = ap val (u q)
last_finds_step f val n k false q e u h ih =
    ih (⊎_elim (λ i. absurd (false≢true (sym q ∙ (rw i at e)))) (λ j. j) (eq-or-lt_of_le (le_of_suc-le-suc h)))

pub last_finds : (f : ℕ → Bool) (val : ℕ → ℕ) (n k : ℕ) → k < n → f k ≡ true → ((j : ℕ) → j < n → f j ≡ true → j ≡ k) → last_of f val n ≡ val k
unfolding last_of
last_finds f val zero k h e u = absurd (not-suc-le-zero h)
last_finds f val (suc n) k h e u =
    last_finds_step f val n k (f n) refl e (u n (le_refl _)) h (λ l. last_finds f val n k l e (λ j i. u j (omega arith)))

-- what decides is on
pub record Hit (f : ℕ → Bool) (val : ℕ → ℕ) (n : ℕ) : Type 0 where
  pub place : ℕ
  pub below : place < n
  pub on : f place ≡ true
  pub decides : last_of f val n ≡ val place

last_hit_step : (f : ℕ → Bool) (val : ℕ → ℕ) (n : ℕ) (b : Bool) → f n ≡ b → 0 < cond b (val n) (last_of f val n)
    → (0 < last_of f val n → Hit f val n) → last_of f val (n + 1) ≡ cond b (val n) (last_of f val n) → Hit f val (suc n)
last_hit_step f val n true q h ih s = record { place = n; below = le_refl _; on = q; decides = rw (← add-one n) s }
last_hit_step f val n false q h ih s =
    let w = ih h in
    record { place = w.place; below = omega (arith, w.below); on = w.on; decides = (rw (← add-one n) s) ∙ w.decides }

pub last_step : (f : ℕ → Bool) (val : ℕ → ℕ) (n : ℕ) → last_of f val (n + 1) ≡ cond (f n) (val n) (last_of f val n)
unfolding last_of
last_step f val n = rw add-one

pub last_hit : (f : ℕ → Bool) (val : ℕ → ℕ) (n : ℕ) → 0 < last_of f val n → Hit f val n
unfolding last_of
last_hit f val zero h = absurd (not-suc-le-zero h)
last_hit f val (suc n) h = last_hit_step f val n (f n) refl h (last_hit f val n) (last_step f val n)

-- where the test does not pass at each, it fails at one
pub record Fails (f : ℕ → Bool) (n : ℕ) : Type 0 where
  pub place : ℕ
  pub below : place < n
  pub failed : f place ≡ false

all_false_step : (f : ℕ → Bool) (n : ℕ) (b : Bool) → f n ≡ b → (all_to f n ≡ false → Fails f n) → (all_to f n && b) ≡ false → Fails f (suc n)
all_false_step f n false q r e = record { place = n; below = le_refl _; failed = q }
all_false_step f n true q r e =
    let w = r (sym (and-true (all_to f n)) ∙ e) in
    record { place = w.place; below = omega (arith, w.below); failed = w.failed }

pub all_false : (f : ℕ → Bool) (n : ℕ) → all_to f n ≡ false → Fails f n
unfolding all_to
all_false f zero e = absurd (true≢false e)
all_false f (suc n) e = all_false_step f n (f n) refl (all_false f n) e

-- either part of a test
pub both_false : (a b : Bool) → a || b ≡ false → (a ≡ false) × (b ≡ false)
both_false true b e = absurd (true≢false e)
both_false false b e = (refl, e)

pub one_false : (a b : Bool) → a && b ≡ false → (a ≡ false) ⊎ (b ≡ false)
one_false true b e = inr e
one_false false b e = inl refl

-- a loop from the last entry down, at its turn k: the entry below is on, or it is not
pub last_here : (f : ℕ → Bool) (val : ℕ → ℕ) (k : ℕ) → 0 < k → f (k - 1) ≡ true → last_of f val k ≡ val (k - 1)
last_here f val k h e = let s : k - 1 + 1 ≡ k = omega arith in rw s at (last_on f val (k - 1) e)

pub last_down : (f : ℕ → Bool) (val : ℕ → ℕ) (k : ℕ) → 0 < k → f (k - 1) ≡ false → last_of f val k ≡ last_of f val (k - 1)
last_down f val k h e = let s : k - 1 + 1 ≡ k = omega arith in rw s at (last_off f val (k - 1) e)

-- for `search`: what a loop over a scan needs, and what one over a table needs
pub ruleset scans = (all_none, all_more, all_fails)

pub ruleset turns = (last_zero, last_on, last_off)
