-- When the checker gives which answer, in words about every address: each answer exactly when its sentence holds.
use Prim.Native.Nat.{ℕ, ◌<◌}
use mathlib.Core.Path.{◌≡◌, refl, ap}
use mathlib.Core.List.{List, [], ◌∷◌}
use mathlib.Core.Bool.{Bool, true, false, cond, not, ◌&&◌}
use native.Mathlib.Omega.{arith}
use borrow.Author.Tests.{eqb-true, eqb-false, eq-eqb, ne_eqb}
use Rattle.std.specs.Prelude.{Result, Ok, Err}
use Rattle.answer.specs.Answer.{refused, done, done_or}
use Rattle.answer.specs.declared.Answer.{Answer}
use Rattle.answer.specs.declared.Code.{Code}
use Rattle.answer.specs.declared.Code.TheVariants.{Ok as Ok·code, Value, Differs}
use Rattle.answer.specs.Given.{one_of, either}
use Rattle.mem_partition.specs.declared.MemPartition.{MemPartition}
use Rattle.mem_domain.specs.declared.MemDomain.{MemDomain}
use Rattle.domain_rules.specs.Sound.{domain_sound}
use Rattle.mpu.specs.Mpu.{plan_ok, rights_of_plan, rights_of_domain, agree_at, addresses, same_rights, verdict, checked}
use Rattle.domain_rules.proofs.All.{all_at, all_from, all_fails}
use Rattle.mpu.proofs.Table.{all_false}

-- at every address the plan gives what the domain gives
abbrev pub Equal : List MemPartition → List ℕ → Type 0
Equal l plan = (a : ℕ) → a < addresses → rights_of_plan plan a ≡ rights_of_domain l a

-- an address at which it does not
pub record Differ (l : List MemPartition) (plan : List ℕ) : Type 0 where
  pub at : ℕ
  pub below : at < addresses
  pub differ : rights_of_plan plan at ≡ rights_of_domain l at → ⊥

module _ (l : List MemPartition) (plan : List ℕ) where
  pub same_means : same_rights l plan ≡ true → Equal l plan
  unfolding same_rights agree_at
  same_means t a h = eqb-true _ _ (all_at _ addresses a t h)

  pub same_when : Equal l plan → same_rights l plan ≡ true
  unfolding same_rights agree_at
  same_when e = all_from _ addresses (λ a h. eq-eqb _ _ (e a h))

  pub differ_means : same_rights l plan ≡ false → Differ l plan
  unfolding same_rights agree_at
  differ_means t = let w = all_false _ addresses t in record { at = w.place; below = w.below; differ = eqb-false _ _ w.failed }

  pub differ_when : Differ l plan → same_rights l plan ≡ false
  unfolding same_rights agree_at
  differ_when w = all_fails _ addresses w.at w.below (ne_eqb _ _ w.differ)

-- the three answers, by the two tests that lead to them
abbrev pick : Bool → Bool → Answer
pick v s = done_or (cond (not v) (Err Value) (cond s (Ok tt) (Err Differs)))

other : {A : Type 0} (x y : Answer) → x ≡ y → (x.code ≡ y.code → ⊥) → A
other x y e n = absurd (n (ap (λ (r : Answer). r.code) e))

pick_ok : (v s : Bool) → pick v s ≡ done → (v ≡ true) × (s ≡ true)
pick_ok true true e = (refl, refl)
pick_ok true false e = other _ _ e (λ n. omega arith)
pick_ok false s e = other _ _ e (λ n. omega arith)

pick_differs : (v s : Bool) → pick v s ≡ refused Differs → (v ≡ true) × (s ≡ false)
pick_differs true true e = other _ _ e (λ n. omega arith)
pick_differs true false e = (refl, refl)
pick_differs false s e = other _ _ e (λ n. omega arith)

pick_value : (v s : Bool) → pick v s ≡ refused Value → v ≡ false
pick_value true true e = other _ _ e (λ n. omega arith)
pick_value true false e = other _ _ e (λ n. omega arith)
pick_value false s e = refl

module _ (d : MemDomain) (plan : List ℕ) where
  -- the record keeps the rules and the plan is well formed
  abbrev pub formed : Bool
  formed = domain_sound d && plan_ok plan

  -- OK: exactly when both are well formed and rights are equal at every address
  pub ok_means : checked d plan ≡ done → (formed ≡ true) × Equal d.partitions plan
  unfolding checked verdict
  ok_means e = let w = pick_ok formed (same_rights d.partitions plan) e in (w.0, same_means _ plan w.1)

  pub ok_when : formed ≡ true → Equal d.partitions plan → checked d plan ≡ done
  unfolding checked verdict
  ok_when f e = rw (f, same_when d.partitions plan e)

  -- DIFFERS: exactly when both are well formed and there is an address where rights differ
  pub differs_means : checked d plan ≡ refused Differs → (formed ≡ true) × Differ d.partitions plan
  unfolding checked verdict
  differs_means e = let w = pick_differs formed (same_rights d.partitions plan) e in (w.0, differ_means _ plan w.1)

  pub differs_when : formed ≡ true → Differ d.partitions plan → checked d plan ≡ refused Differs
  unfolding checked verdict
  differs_when f w = rw (f, differ_when d.partitions plan w)

  -- VALUE: exactly when the record breaks a rule or the plan is ill-formed
  pub value_means : checked d plan ≡ refused Value → formed ≡ false
  unfolding checked verdict
  value_means e = pick_value formed (same_rights d.partitions plan) e

  pub value_when : formed ≡ false → checked d plan ≡ refused Value
  unfolding checked verdict
  value_when f = rw f

-- which answers there are at all: OK, VALUE, DIFFERS
abbrev pub check_codes : List Code
check_codes = Ok·code ∷ Value ∷ Differs ∷ []

pub check_given : (d : MemDomain) (plan : List ℕ) → one_of check_codes (checked d plan).code ≡ true
unfolding checked verdict one_of
check_given d plan =
    let code : Result (Unit {0}) Code → ℕ = λ r. (done_or r).code in
    either code check_codes (not (domain_sound d && plan_ok plan)) _ _ refl (either code check_codes (same_rights d.partitions plan) _ _ refl refl)
