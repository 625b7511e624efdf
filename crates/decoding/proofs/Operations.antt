-- The operation that a number names in the code is the one that it is by the rules.
use Rattle.std.specs.Prelude.{ℕ, ◌≡◌, Bool, true, false, cond, eqb, Option, Some, None, refl}
use Rattle.std.proofs.Common.{sym, ap, ◌∙◌}
use Rattle.decoding.specs.declared.Operation.{Operation}
use Rattle.decoding.specs.declared.Operation.TheVariants.{Validate, Grant, Release, Check, Exit, Create, Delete, Revoke, Init, Uninit, Recycle, MakePublic, CreateThread, End, Inherit, Assign, Add, Remove}
use Rattle.decoding.specs.Calls.{Op, unknown, op_of, named, meant, operation_of}

step : (b : Bool) (x : Operation) (r : Option Operation) (rest : Op) → meant r ≡ rest → meant (cond b (Some x) r) ≡ cond b (named x) rest
step true x r rest e = refl
step false x r rest e = e

pub operation_means : (n : ℕ) → meant (operation_of n) ≡ op_of n
unfolding operation_of op_of
operation_means n =
    step (eqb n 0) Validate _ _
    (step (eqb n 1) Grant _ _
    (step (eqb n 2) Release _ _
    (step (eqb n 3) Check _ _
    (step (eqb n 4) Exit _ _
    (step (eqb n 16) Create _ _
    (step (eqb n 17) Delete _ _
    (step (eqb n 18) Revoke _ _
    (step (eqb n 19) Init _ _
    (step (eqb n 20) Uninit _ _
    (step (eqb n 21) Recycle _ _
    (step (eqb n 22) MakePublic _ _
    (step (eqb n 23) CreateThread _ _
    (step (eqb n 24) End _ _
    (step (eqb n 25) Inherit _ _
    (step (eqb n 26) Assign _ _
    (step (eqb n 27) Add _ _
    (step (eqb n 28) Remove _ _ refl)))))))))))))))))

-- for a match on that: what the number is by the rules
pub is_named : (n : ℕ) (o : Operation) → Some o ≡ operation_of n → op_of n ≡ named o
is_named n o e = sym (ap meant e ∙ operation_means n)

pub is_unknown : (n : ℕ) → None ≡ operation_of n → op_of n ≡ unknown
is_unknown n e = sym (ap meant e ∙ operation_means n)
