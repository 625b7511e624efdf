-- The lengths of three tables, tested.
use Prim.Native.Nat.{ℕ}
use mathlib.Core.Path.{◌≡◌, refl, ap}
use borrow.Author.Tests.{eq-eqb}
use mathlib.Core.Bool.{Bool, true, false, cond}
use mathlib.Core.List.{List}
use lib.ListN.{length}
use Rattle.answer.specs.Answer.{refused}
use Rattle.answer.specs.declared.Code.TheVariants.{Value}
use Rattle.tables.specs.Table.{sized, Sized}
use Rattle.tables.specs.Laws.{sizes}
use Rattle.tables.specs.State.{state_of}
use Rattle.decoding.specs.declared.Call.{Call}
use Rattle.judging.specs.Judge.{judge, judge_in}

module _ (os ts ss : List ℕ) where
  pub by_sized : sized (length os) (length ts) (length ss) ≡ true → Sized os ts ss
  by_sized e = let p = sizes _ _ _ e in record { objects = p.0; threads = p.1; slots = p.2 }

  module _ (c : Call) where
    pub sized_by : sized (length os) (length ts) (length ss) ≡ true → judge_in os ts ss c ≡ judge (state_of os ts ss) c
    unfolding judge_in
    sized_by e = ap (λ (b : Bool). cond b (judge (state_of os ts ss) c) (refused Value)) e

    pub unsized : sized (length os) (length ts) (length ss) ≡ false → judge_in os ts ss c ≡ refused Value
    unfolding judge_in
    unsized e = ap (λ (b : Bool). cond b (judge (state_of os ts ss) c) (refused Value)) e

    -- by what the lengths are, and are not
    pub judged_of : Sized os ts ss → judge_in os ts ss c ≡ judge (state_of os ts ss) c
    unfolding sized
    judged_of z = sized_by (rw (eq-eqb _ _ z.objects, eq-eqb _ _ z.threads, eq-eqb _ _ z.slots) refl)

    pub refused_of : (Sized os ts ss → ⊥) → judge_in os ts ss c ≡ refused Value
    refused_of n = go (sized (length os) (length ts) (length ss)) refl
      where
        go : (b : Bool) → sized (length os) (length ts) (length ss) ≡ b → judge_in os ts ss c ≡ refused Value
        go true e = absurd (n (by_sized e))
        go false e = unsized e
