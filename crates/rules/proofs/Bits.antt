-- The mask of live threads, and what it means that a word lies within it.
use Prim.Native.Nat.{ℕ, zero, suc, ◌+◌, ◌<◌, min}
use native.Mathlib.Decide.{ℕ_discrete}
use native.Mathlib.Numerals.{add-one}
use native.Mathlib.Omega.{arith}
use mathlib.Core.Path.{◌≡◌, refl, sym, ap, ◌∙◌}
use mathlib.Core.Bool.{Bool, true, false, cond, true≢false}
use mathlib.Core.List.{List}
use lib.Bits.{bit_and}
use borrow.Author.Tests.{eqb-true, eq-eqb}
use Rattle.bits.specs.Bit.{bit_of, is_set, set_bit, bit_lt, bit_and_lem, bit_ext, set_same, set_other, zero_bit}
use Rattle.tables.specs.Table.{thread_at}
use Rattle.rules.specs.Rules.{is_live, live_to}

pub set_one : (w t : ℕ) → is_set w t ≡ true → bit_of w t ≡ 1
unfolding is_set
set_one w t e = eqb-true (bit_of w t) 1 e

pub one_set : (w t : ℕ) → bit_of w t ≡ 1 → is_set w t ≡ true
unfolding is_set
one_set w t e = eq-eqb (bit_of w t) 1 e

pub zero_unset : (t : ℕ) → is_set 0 t ≡ true → ⊥
zero_unset t e = let z : bit_of 0 t ≡ 0 = zero_bit t in omega (arith, set_one 0 t e)

-- every bit of w is one of m's
pub within_says : (w m t : ℕ) → bit_and w m ≡ w → is_set w t ≡ true → is_set m t ≡ true
within_says w m t e s =
    one_set m t (omega (arith, set_one w t s, sym (bit_and_lem w m t) ∙ ap (λ x. bit_of x t) e, bit_lt m t))

pub within_from : (w m : ℕ) → ((t : ℕ) → is_set w t ≡ true → is_set m t ≡ true) → bit_and w m ≡ w
within_from w m f = bit_ext (bit_and w m) w (λ t. bit_and_lem w m t ∙ go t (bit_of w t) refl (bit_lt w t))
  where
    go : (t b : ℕ) → bit_of w t ≡ b → b < 2 → min (bit_of w t) (bit_of m t) ≡ bit_of w t
    go t zero e h = rw e (omega arith)
    go t (suc zero) e h = omega (arith, e, set_one m t (f t (one_set w t e)))
    go t (suc (suc b)) e h = absurd (omega arith)

-- ---- the mask

pub live_none : (ts : List ℕ) → live_to ts 0 ≡ 0
unfolding live_to
live_none ts = refl

pub live_hit : (ts : List ℕ) (t : ℕ) → is_live (thread_at ts t) ≡ true → live_to ts (t + 1) ≡ set_bit (live_to ts t) t
unfolding live_to
live_hit ts t e = rw (add-one, e)

pub live_miss : (ts : List ℕ) (t : ℕ) → is_live (thread_at ts t) ≡ false → live_to ts (t + 1) ≡ live_to ts t
unfolding live_to
live_miss ts t e = rw (add-one, e)

-- a bit of the mask is a live thread's, below n
pub record Lives (ts : List ℕ) (n t : ℕ) : Type 0 where
  pub below : t < n
  pub live : is_live (thread_at ts t) ≡ true

says_step : (ts : List ℕ) (n t : ℕ) (b : Bool) → is_live (thread_at ts n) ≡ b → (is_set (live_to ts n) t ≡ true → Lives ts n t) →
    is_set (cond b (set_bit (live_to ts n) n) (live_to ts n)) t ≡ true → Dec (t ≡ n) → Lives ts (suc n) t
says_step ts n t true e ih s (yes p) = record { below = omega arith; live = rw p e }
says_step ts n t true e ih s (no p) =
    let w = ih (one_set (live_to ts n) t (sym (set_other (live_to ts n) n t p) ∙ set_one (set_bit (live_to ts n) n) t s)) in
    record { below = omega (arith, w.below); live = w.live }
says_step ts n t false e ih s p = let w = ih s in record { below = omega (arith, w.below); live = w.live }

pub live_says : (ts : List ℕ) (n t : ℕ) → is_set (live_to ts n) t ≡ true → Lives ts n t
unfolding live_to
live_says ts zero t s = absurd (zero_unset t s)
live_says ts (suc n) t s = says_step ts n t (is_live (thread_at ts n)) refl (live_says ts n t) s (ℕ_discrete t n)

has_step : (ts : List ℕ) (n t : ℕ) (b : Bool) → is_live (thread_at ts n) ≡ b → (t < n → is_set (live_to ts n) t ≡ true) → t < suc n →
    is_live (thread_at ts t) ≡ true → Dec (t ≡ n) → is_set (cond b (set_bit (live_to ts n) n) (live_to ts n)) t ≡ true
has_step ts n t true e ih h l (yes p) = rw p (one_set (set_bit (live_to ts n) n) n (set_same (live_to ts n) n))
has_step ts n t true e ih h l (no p) =
    one_set (set_bit (live_to ts n) n) t (set_other (live_to ts n) n t p ∙ set_one (live_to ts n) t (ih (omega arith)))
has_step ts n t false e ih h l (yes p) = absurd (true≢false (sym l ∙ ap (λ x. is_live (thread_at ts x)) p ∙ e))
has_step ts n t false e ih h l (no p) = ih (omega arith)

pub live_has : (ts : List ℕ) (n t : ℕ) → t < n → is_live (thread_at ts t) ≡ true → is_set (live_to ts n) t ≡ true
unfolding live_to
live_has ts zero t h l = absurd (omega arith)
live_has ts (suc n) t h l = has_step ts n t (is_live (thread_at ts n)) refl (λ g. live_has ts n t g l) h l (ℕ_discrete t n)
