-- A number with one set digit is the power of two that its trailing zeros say; and the SIZE of a power of two.
use Prim.Native.Nat.{ℕ, zero, suc, ◌+◌, ◌/◌, ◌%◌, ◌^◌, ◌-◌, ◌<◌, ◌≤◌}
use mathlib.Core.Path.{◌≡◌, refl, sym, ap, ◌∙◌}
use mathlib.Core.Logic.{by_cases}
use native.Mathlib.Nat.{pow-suc, one-mul, add-zero}
use native.Mathlib.Numerals.{add-one}
use native.Mathlib.Decide.{dec_lt}
use native.Mathlib.Omega.{arith}
use borrow.Author.Tests.{eq-eqb, ne_eqb, eqb-true}
use lib.Dec.{eqb}
use lib.Pow.{pow-lt, pow_pos}
use lib.Count.{ones, ones_step, ones-le, ones_cat, count_trailing_zeros, trailing_le, under}
use Rattle.mpu.proofs.Table.{last_finds, last_none, last_hit}
use Rattle.planner.specs.Planner.{field_for}

no_ones : (k n : ℕ) → n < 2 ^ k → ones n ≡ 0 → n ≡ 0
no_ones zero n h e = omega arith
no_ones (suc k) n h e =
    let p = pow-suc 2 k in
    let s = ones_step n in
    let r : n / 2 ≡ 0 = no_ones k (n / 2) (omega arith) (omega arith) in
    omega arith

one_power_step : (k n d t : ℕ) → n % 2 ≡ d → n < 2 ^ suc k → ones n ≡ 1 → (ones (n / 2) ≡ 1 → n / 2 ≡ 2 ^ t) → n ≡ 2 ^ under d t
one_power_step k n zero t q h e ih =
    let s = ones_step n in
    let r = ih (omega arith) in
    let p = pow-suc 2 t in
    omega arith
one_power_step k n (suc d) t q h e ih =
    let p = pow-suc 2 k in
    let s = ones_step n in
    let r : n / 2 ≡ 0 = no_ones k (n / 2) (omega arith) (omega arith) in
    omega arith

pub one_power : (k n : ℕ) → n < 2 ^ k → ones n ≡ 1 → n ≡ 2 ^ count_trailing_zeros k n
unfolding count_trailing_zeros
one_power zero n h e = absurd (let l = ones-le 0 n h in omega arith)
one_power (suc k) n h e =
    one_power_step k n (n % 2) (count_trailing_zeros k (n / 2)) refl h e
    (λ o. one_power k (n / 2) (let p = pow-suc 2 k in omega arith) o)

pub pow_inj : (i j : ℕ) → 2 ^ i ≡ 2 ^ j → i ≡ j
pow_inj i j e =
    by_cases (dec_lt i j) (λ l. absurd (let p = pow-lt l in omega arith))
    (λ n. by_cases (dec_lt j i) (λ l. absurd (let p = pow-lt l in omega arith)) (λ m. omega arith))

pub field_of : (s size : ℕ) → s < 32 → 2 ^ (s + 1) ≡ size → field_for size ≡ s
unfolding field_for
field_of s size h e =
    last_finds _ _ 32 s h (eq-eqb _ _ e)
    (λ j l t. let q = pow_inj (j + 1) (s + 1) (eqb-true _ _ t ∙ sym e) in omega arith)

pub field_none : (size : ℕ) → ((s : ℕ) → s < 32 → 2 ^ (s + 1) ≡ size → ⊥) → field_for size ≡ 0
unfolding field_for
field_none size h = last_none _ _ 32 (λ j l. ne_eqb _ _ (h j l))

field_at : (size t : ℕ) → t ≤ 32 → size ≡ 2 ^ t → field_for size ≡ t - 1
field_at size zero h e = field_none size (λ s l q. let p = pow_inj (s + 1) 0 (q ∙ e) in omega arith)
field_at size (suc t) h e =
    let r : suc t - 1 ≡ t = omega arith in
    rw r (field_of t size (omega arith) (rw add-one (sym e)))

-- a power of two has one set digit
pub power_one : (j : ℕ) → ones (2 ^ j) ≡ 1
unfolding ones
power_one j = let e = ones_cat j 1 0 (pow_pos j) in simp (one-mul, add-zero) at e

-- where there is not one set digit there is no SIZE, and where there is one it is one less than the trailing zeros
pub field_not_one : (size : ℕ) → (ones size ≡ 1 → ⊥) → field_for size ≡ 0
field_not_one size h = field_none size (λ s l e. h (rw (← e) (power_one (s + 1))))

pub field_one : (size : ℕ) → size < 2 ^ 32 → ones size ≡ 1 → field_for size ≡ count_trailing_zeros 32 size - 1
field_one size f o = field_at size (count_trailing_zeros 32 size) (trailing_le 32 size) (one_power 32 size f o)

-- what the SIZE says is so
pub record Sized (size : ℕ) : Type 0 where
  pub power : 2 ^ (field_for size + 1) ≡ size
  pub small : field_for size < 32

pub field_right : (size : ℕ) → 0 < field_for size → Sized size
unfolding field_for
field_right size h =
    let w = last_hit (λ s. eqb (2 ^ (s + 1)) size) (λ s. s) 32 h in
    record { power = ap (λ (s : ℕ). 2 ^ (s + 1)) w.decides ∙ eqb-true _ _ w.on; small = rw w.decides w.below }

pub field_pos : (size : ℕ) → 0 < field_for size → 0 < size
field_pos size h = let w = field_right size h in let p = pow_pos (field_for size + 1) in omega (arith, w.power)
