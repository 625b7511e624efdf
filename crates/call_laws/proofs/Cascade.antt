-- The law of the cascade, once: of tests in a row the first that holds refuses, with the code beside it; where none holds, what stands behind them
-- is the answer.
use Prim.Native.Nat.{ℕ, zero, suc, ◌<◌}
use native.Mathlib.Nat.{not-suc-le-zero, zero-lt-suc}
use native.Mathlib.Omega.{arith}
use mathlib.Core.Path.{◌≡◌, refl, sym, ap, ◌∙◌}
use mathlib.Core.Logic.{◌↔◌}
use mathlib.Core.Bool.{Bool, true, false, true≢false, false≢true}
use mathlib.Core.List.{List, [], ◌∷◌, ◌++◌}
use lib.ListN.{get_or}
use Rattle.answer.specs.declared.Answer.{Answer}
use Rattle.answer.specs.declared.Code.{Code}
use Rattle.answer.specs.declared.Code.TheVariants.{Ok, Einval, Eperm, Ebadf, Eaddrinuse, Enospc, Enoent}
use Rattle.answer.specs.Answer.{number_of, code_of, refused}
use Rattle.answer.specs.Given.{one_of}
use Rattle.answer.proofs.Cases.{code_of_number}
use Rattle.judging.specs.Judge.{◌⇒◌⨾◌}

-- ---- one test

module _ (b : Bool) (n : Code) (rest : Answer) where
  pub stop : b ≡ true → (b ⇒ n ⨾ rest) ≡ refused n
  unfolding ◌⇒◌⨾◌
  stop e = rw e

  pub pass : b ≡ false → (b ⇒ n ⨾ rest) ≡ rest
  unfolding ◌⇒◌⨾◌
  pass e = rw e

-- two cascades with the same first test
pub past : (b : Bool) (n : Code) (x y : Answer) → (b ≡ false → x ≡ y) → (b ⇒ n ⨾ x) ≡ (b ⇒ n ⨾ y)
unfolding ◌⇒◌⨾◌
past true n x y f = refl
past false n x y f = f refl

-- ---- tests in a row

abbrev pub Test : Type 0
Test = Bool × Code

unfoldable pub first_of : List Test → Answer → Answer
first_of [] rest = rest
first_of (x ∷ l) rest = x.0 ⇒ x.1 ⨾ first_of l rest

-- behind the last there is no test
abbrev pub no_test : Test
no_test = (false, Ok)

abbrev pub test_at : List Test → ℕ → Test
test_at l i = get_or l i no_test

-- test i holds and none before it
pub record FirstAt (l : List Test) (i : ℕ) : Type 0 where
  pub holds : (test_at l i).0 ≡ true
  pub before : (j : ℕ) → j < i → (test_at l j).0 ≡ false

-- none of them holds
abbrev pub None : List Test → Type 0
None l = (i : ℕ) → (test_at l i).0 ≡ false

pub refuses : (l : List Test) (rest : Answer) (i : ℕ) → FirstAt l i → first_of l rest ≡ refused (test_at l i).1
unfolding first_of
refuses [] rest i f = absurd (false≢true f.holds)
refuses (x ∷ l) rest zero f = stop _ _ _ f.holds
refuses (x ∷ l) rest (suc i) f =
    pass _ _ _ (f.before 0 (zero-lt-suc i)) ∙ refuses l rest i (record { holds = f.holds; before = λ j h. f.before (suc j) (omega arith) })

pub lets : (l : List Test) (rest : Answer) → None l → first_of l rest ≡ rest
unfolding first_of
lets [] rest f = refl
lets (x ∷ l) rest f = pass _ _ _ (f 0) ∙ lets l rest (λ i. f (suc i))

-- one of the two is so
pub data Verdict (l : List Test) : Type 0 where
  by : (i : ℕ) → FirstAt l i → Verdict l
  none : None l → Verdict l

none_cons : (x : Test) (l : List Test) → x.0 ≡ false → None l → None (x ∷ l)
none_cons x l e f zero = e
none_cons x l e f (suc i) = f i

before_cons : (x : Test) (l : List Test) (i : ℕ) → x.0 ≡ false → ((j : ℕ) → j < i → (test_at l j).0 ≡ false) → (j : ℕ) → j < suc i → (test_at (x ∷ l) j).0 ≡ false
before_cons x l i e f zero h = e
before_cons x l i e f (suc j) h = f j (omega arith)

behind : (x : Test) (l : List Test) → x.0 ≡ false → Verdict l → Verdict (x ∷ l)
behind x l e (by i f) = by (suc i) (record { holds = f.holds; before = before_cons x l i e f.before })
behind x l e (none f) = none (none_cons x l e f)

pub verdict : (l : List Test) → Verdict l
verdict [] = none (λ i. refl)
verdict (x ∷ l) = go x.0 refl (verdict l)
  where
    go : (b : Bool) → x.0 ≡ b → Verdict l → Verdict (x ∷ l)
    go true e v = by 0 (record { holds = e; before = λ j h. absurd (not-suc-le-zero h) })
    go false e v = behind x l e v

-- there is one first at most
pub first_unique : (l : List Test) (i j : ℕ) → FirstAt l i → FirstAt l j → i ≡ j
first_unique l zero zero f g = refl
first_unique l zero (suc j) f g = absurd (true≢false (sym f.holds ∙ g.before 0 (zero-lt-suc j)))
first_unique l (suc i) zero f g = absurd (true≢false (sym g.holds ∙ f.before 0 (zero-lt-suc i)))
first_unique [] (suc i) (suc j) f g = absurd (false≢true f.holds)
first_unique (x ∷ l) (suc i) (suc j) f g =
    ap suc
    (first_unique l i j (record { holds = f.holds; before = λ k h. f.before (suc k) (omega arith) })
    (record { holds = g.holds; before = λ k h. g.before (suc k) (omega arith) }))

-- ---- codes

-- what a test refuses with: upstream's six errors
abbrev pub refusals : List Code
refusals = Einval ∷ Eperm ∷ Ebadf ∷ Eaddrinuse ∷ Enospc ∷ Enoent ∷ []

unfoldable pub Refusals : List Test → Type 0
Refusals [] = Unit {0}
Refusals (x ∷ l) = (one_of refusals (number_of x.1) ≡ true) × Refusals l

pub refusals_append : (l m : List Test) → Refusals l → Refusals m → Refusals (l ++ m)
unfolding Refusals
refusals_append [] m f g = g
refusals_append (x ∷ l) m f g = (f.0, refusals_append l m f.1 g)

pub refusal_at : (l : List Test) (i : ℕ) → Refusals l → (test_at l i).0 ≡ true → one_of refusals (number_of (test_at l i).1) ≡ true
unfolding Refusals
refusal_at [] i f e = absurd (false≢true e)
refusal_at (x ∷ l) zero f e = f.0
refusal_at (x ∷ l) (suc i) f e = refusal_at l i f.1 e

-- none of them is OK
not_ok : (n : ℕ) → one_of refusals n ≡ true → 0 < n
unfolding one_of
not_ok zero e = absurd (false≢true e)
not_ok (suc n) e = zero-lt-suc n

-- two names with one number are one
pub same_name : (m n : Code) → number_of m ≡ number_of n → m ≡ n
same_name m n e =
    let p = code_of_number m in
    let q = code_of_number n in
    let r : code_of (number_of m) ≡ code_of (number_of n) = ap code_of e in
    cc

-- the first test that holds refuses with n
pub record By (l : List Test) (n : Code) : Type 0 where
  pub test : ℕ
  pub first : FirstAt l test
  pub code : (test_at l test).1 ≡ n

module _ (l : List Test) (rest : Answer) (r : Refusals l) where
  -- OK exactly when none holds, and what stands behind is OK
  pub ok_exactly : ((first_of l rest).code ≡ 0) ↔ (None l × (rest.code ≡ 0))
  ok_exactly = (go (verdict l), λ p. ap (λ a. a.code) (lets l rest p.0) ∙ p.1)
    where
      go : Verdict l → (first_of l rest).code ≡ 0 → None l × (rest.code ≡ 0)
      go (by i f) e = absurd (omega (arith, ap (λ a. a.code) (refuses l rest i f), not_ok _ (refusal_at l i r f.holds)))
      go (none f) e = (f, ap (λ a. a.code) (sym (lets l rest f)) ∙ e)

  -- a refusal with n exactly when the first test that holds has n, where what stands behind is OK
  pub code_exactly : (n : Code) → 0 < number_of n → rest.code ≡ 0 → ((first_of l rest).code ≡ number_of n) ↔ By l n
  code_exactly n z k = (go (verdict l), λ b. ap (λ a. a.code) (refuses l rest b.test b.first) ∙ ap number_of b.code)
    where
      go : Verdict l → (first_of l rest).code ≡ number_of n → By l n
      go (by i f) e = record { test = i; first = f; code = same_name (test_at l i).1 n (ap (λ a. a.code) (sym (refuses l rest i f)) ∙ e) }
      go (none f) e = absurd (omega (arith, ap (λ a. a.code) (lets l rest f)))
