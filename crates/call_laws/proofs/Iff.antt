-- A test and what it says, both ways, put together as the tests are.
use Prim.Native.Nat.{ℕ, ◌<◌, ◌≤◌}
use mathlib.Core.Path.{◌≡◌, refl}
use mathlib.Core.Logic.{◌↔◌, ◌⊎◌, inl, inr, ⊎_elim, ◌≢◌}
use mathlib.Core.Bool.{Bool, true, false, not, ◌&&◌, ◌||◌, true≢false}
use lib.Dec.{eqb, ltb, leb}
use borrow.Author.Tests.{ltb-true, ltb-false, leb-false, eqb-true, eqb-false, lt-ltb, le-ltb, lt-leb, eq-eqb, ne_eqb, not-false}
use Rattle.answer.specs.declared.Answer.{Answer}
use Rattle.answer.specs.declared.Code.{Code}
use Rattle.answer.specs.Answer.{number_of, done}
use Rattle.domain_rules.proofs.All.{both_true, both, either_true, or_left, or_right}
use Rattle.judging.specs.Judge.{◌⇒◌⨾◌}
use Rattle.judging.specs.Passed.{ok}
use Rattle.call_laws.proofs.Cascade.{pass}

-- ---- numbers

pub lt_iff : (m n : ℕ) → (ltb m n ≡ true) ↔ (m < n)
lt_iff m n = (ltb-true m n, lt-ltb m n)

pub eq_iff : (m n : ℕ) → (eqb m n ≡ true) ↔ (m ≡ n)
eq_iff m n = (eqb-true m n, eq-eqb m n)

pub ne_iff : (m n : ℕ) → (eqb m n ≡ false) ↔ (m ≢ n)
ne_iff m n = (eqb-false m n, ne_eqb m n)

-- a test that is not passed
pub gt_iff : (m n : ℕ) → (leb m n ≡ false) ↔ (n < m)
gt_iff m n = (leb-false m n, lt-leb m n)

pub le_iff : (m n : ℕ) → (ltb m n ≡ false) ↔ (n ≤ m)
le_iff m n = (ltb-false m n, le-ltb m n)

-- ---- tests

pub not_iff : (b : Bool) {P : Type 0} → ((b ≡ true) ↔ P) → ((not b ≡ false) ↔ P)
not_iff b (f, g) = (λ e. f (not-false b e), λ p. rw (g p))

pub unless_iff : (b : Bool) → (not b ≡ false) ↔ (b ≡ true)
unless_iff b = not_iff b (λ e. e, λ e. e)

pub same_iff : {P : Type 0} → P ↔ P
same_iff = (λ p. p, λ p. p)

pub and_iff : (a b : Bool) {P Q : Type 0} → ((a ≡ true) ↔ P) → ((b ≡ true) ↔ Q) → ((a && b ≡ true) ↔ (P × Q))
and_iff a b (f, g) (h, k) = (λ e. (f (both_true a b e).0, h (both_true a b e).1), λ p. both (g p.0) (k p.1))

pub or_iff : (a b : Bool) {P Q : Type 0} → ((a ≡ true) ↔ P) → ((b ≡ true) ↔ Q) → ((a || b ≡ true) ↔ (P ⊎ Q))
or_iff a b (f, g) (h, k) = (λ e. ⊎_elim (λ x. inl (f x)) (λ x. inr (h x)) (either_true a b e), λ p. ⊎_elim (λ x. or_left a b (g x)) (λ x. or_right a b (k x)) p)

pub nor_iff : (a b : Bool) {P Q : Type 0} → ((a ≡ false) ↔ P) → ((b ≡ false) ↔ Q) → ((a || b ≡ false) ↔ (P × Q))
nor_iff true b (f, g) (h, k) = (λ e. absurd (true≢false e), λ p. absurd (true≢false (g p.0)))
nor_iff false b (f, g) (h, k) = (λ e. (f refl, h e), λ p. k p.1)

-- ---- a cascade's OK

-- one test, and what stands behind it
pub step_iff : (b : Bool) (n : Code) (rest : Answer) {P Q : Type 0} → 0 < number_of n → ((b ≡ false) ↔ P) → ((rest.code ≡ 0) ↔ Q) → (((b ⇒ n ⨾ rest).code ≡ 0) ↔ (P × Q))
step_iff b n rest z (f, g) (h, k) = (λ e. let p = ok b n rest z e in (f p.test, h p.rest), λ p. rw (pass b n rest (g p.0)) (k p.1))

-- the last test
pub last_iff : (b : Bool) (n : Code) {P : Type 0} → 0 < number_of n → ((b ≡ false) ↔ P) → (((b ⇒ n ⨾ done).code ≡ 0) ↔ P)
last_iff b n z (f, g) = (λ e. f (ok b n done z e).test, λ p. rw (pass b n done (g p)))
