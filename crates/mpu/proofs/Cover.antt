-- The cover theorem. Two things that are asked at every address, and that change at cut points only, are equal everywhere once they are equal at
-- 0 and at every cut. The cut points are any test, so that sub-regions and regions of another architecture are cut by it as well.
use Prim.Native.Nat.{ℕ, zero, suc, ◌<◌}
use mathlib.Core.Path.{◌≡◌, refl, sym, ap₂, ◌∙◌}
use mathlib.Core.Bool.{Bool, true, false, not, ◌&&◌}
use mathlib.Core.Logic.{by_cases, ◌⊎◌, inl, inr}
use native.Mathlib.Decide.{dec_le}
use native.Mathlib.Omega.{arith}
use borrow.Author.Tests.{le-leb, lt-leb, lt-ltb, le-ltb, eqb-true, eqb-false, not-true, not-false}
use lib.Dec.{leb, ltb, eqb}
use Rattle.domain_rules.specs.Scan.{all_to}
use Rattle.mpu.specs.Mpu.{within}
use Rattle.domain_rules.proofs.All.{all_at, both_true}
use Rattle.mpu.proofs.Table.{all_false, one_false}

-- f changes at the cut points only
abbrev pub Steps : {A : Type 0} → (ℕ → Bool) → (ℕ → A) → Type 0
Steps cut f = (a : ℕ) → cut (suc a) ≡ false → f (suc a) ≡ f a

module _ {A : Type 0} (f g : ℕ → A) (cut : ℕ → Bool) (top : ℕ) (steps-f : Steps cut f) (steps-g : Steps cut g)
    (start : 0 < top → f 0 ≡ g 0) (edges : (e : ℕ) → cut e ≡ true → e < top → f e ≡ g e) where
  cover_step : (a : ℕ) (b : Bool) → cut (suc a) ≡ b → suc a < top → (a < top → f a ≡ g a) → f (suc a) ≡ g (suc a)
  cover_step a true c h ih = edges (suc a) c h
  cover_step a false c h ih = steps-f a c ∙ ih (omega arith) ∙ sym (steps-g a c)

  -- THE COVER THEOREM
  pub cover : (a : ℕ) → a < top → f a ≡ g a
  cover zero h = start h
  cover (suc a) h = cover_step a (cut (suc a)) refl h (cover a)

-- a number is an end of one of the first n windows
abbrev pub is_end : (ℕ → ℕ) → (ℕ → ℕ) → ℕ → ℕ → Bool
is_end lo hi n a = not (all_to (λ k. not (eqb a (lo k)) && not (eqb a (hi k))) n)

-- a window is entered and left at its ends only
start_same : (p a : ℕ) → (suc a ≡ p → ⊥) → leb p (suc a) ≡ leb p a
start_same p a n =
    by_cases (dec_le p a) (λ h. le-leb p (suc a) (omega arith) ∙ sym (le-leb p a h))
    (λ m. lt-leb p (suc a) (omega arith) ∙ sym (lt-leb p a (omega arith)))

end_same : (p a : ℕ) → (suc a ≡ p → ⊥) → ltb (suc a) p ≡ ltb a p
end_same p a n =
    by_cases (dec_le p a) (λ h. le-ltb (suc a) p (omega arith) ∙ sym (le-ltb a p h))
    (λ m. lt-ltb (suc a) p (omega arith) ∙ sym (lt-ltb a p (omega arith)))

pub within_same : (lo hi a : ℕ) → (suc a ≡ lo → ⊥) → (suc a ≡ hi → ⊥) → within lo hi (suc a) ≡ within lo hi a
within_same lo hi a p q = ap₂ ◌&&◌ (start_same lo a p) (end_same hi a q)

-- what is no end leaves each window as it was
pub windows_same : (lo hi : ℕ → ℕ) (n a : ℕ) → is_end lo hi n (suc a) ≡ false → (k : ℕ) → k < n
    → within (lo k) (hi k) (suc a) ≡ within (lo k) (hi k) a
windows_same lo hi n a e k h =
    let b = both_true _ _ (all_at (λ k. not (eqb (suc a) (lo k)) && not (eqb (suc a) (hi k))) n k (not-false _ e) h) in
    within_same (lo k) (hi k) a (eqb-false _ _ (not-true _ b.0)) (eqb-false _ _ (not-true _ b.1))

-- what is an end is a window's start or its end
pub record Ends (lo hi : ℕ → ℕ) (n a : ℕ) : Type 0 where
  pub place : ℕ
  pub below : place < n
  pub one : (a ≡ lo place) ⊎ (a ≡ hi place)

pub end_of_lem : (lo hi : ℕ → ℕ) (n a : ℕ) → is_end lo hi n a ≡ true → Ends lo hi n a
end_of_lem lo hi n a e =
    let w = all_false (λ k. not (eqb a (lo k)) && not (eqb a (hi k))) n (not-true _ e) in
    record {
      place = w.place;
      below = w.below;
      one = elim (one_false (not (eqb a (lo w.place))) (not (eqb a (hi w.place))) w.failed) [
        | inl z ↦ inl (eqb-true _ _ (not-false _ z))
        | inr z ↦ inr (eqb-true _ _ (not-false _ z))
      ];
    }
