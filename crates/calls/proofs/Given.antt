-- Which answers there are at all (docs/SPEC.md, 1.9 and 1.10), over the promises of `call` and `run` themselves.
use Prim.Native.Nat.{ℕ, ◌*◌}
use mathlib.Core.Path.{◌≡◌, refl, ap}
use mathlib.Core.Bool.{true}
use mathlib.Core.List.{List, [], ◌∷◌}
use lib.Dec.{ltb}
use lib.ListN.{length}
use Rattle.answer.specs.declared.Answer.{Answer}
use Rattle.std.specs.Prelude.{Result}
use Rattle.answer.specs.declared.Code.{Code}
use Rattle.answer.specs.declared.Code.TheVariants.{Ok, Einval, Eperm, Ebadf, Eaddrinuse, Enospc, Enoent, Short, Value, Room}
use Rattle.answer.specs.Given.{one_of, either, one_of_more}
use Rattle.tables.specs.State.{state_of}
use Rattle.rules.specs.Rules.{keeps_test}
use Rattle.judging.specs.Judge.{heard}
use Rattle.call_laws.proofs.Order.{heard_given}
use Rattle.calls.specs.Calls.{Ran}
use Rattle.calls.specs.Calls.{parts_in, answered, Called, run_answer, run_result, ran_by, Run}

-- of `call`: OK, upstream's six errors, SHORT, VALUE
abbrev pub call_codes : List Code
call_codes = Ok ∷ Einval ∷ Eperm ∷ Ebadf ∷ Eaddrinuse ∷ Enospc ∷ Enoent ∷ Short ∷ Value ∷ []

answered_given : (os ts ss bs : List ℕ) → one_of call_codes (answered os ts ss bs).code ≡ true
unfolding answered one_of
answered_given os ts ss bs =
    either (λ (a : Answer). a.code) call_codes (keeps_test os ts ss) _ _
    (one_of_more (Ok ∷ Einval ∷ Eperm ∷ Ebadf ∷ Eaddrinuse ∷ Enospc ∷ Enoent ∷ Short ∷ []) (Value ∷ []) (heard (state_of os ts ss) bs).code
    (heard_given (state_of os ts ss) bs)) refl

pub call_given : {os ts ss bs os' ts' ss' : List ℕ} {r : Answer} → Called os ts ss bs r os' ts' ss' → one_of call_codes r.code ≡ true
call_given {os} {ts} {ss} {bs} c = rw (ap (λ (a : Answer). a.code) c.answer) (answered_given os ts ss bs)

-- of `run`: OK, VALUE, ROOM
abbrev pub run_codes : List Code
run_codes = Ok ∷ Value ∷ Room ∷ []

run_answer_given : (os ts ss log out : List ℕ) → one_of run_codes (run_answer os ts ss log out).code ≡ true
unfolding run_answer run_result one_of
run_answer_given os ts ss log out =
    let code : Result ℕ Code → ℕ = λ r. (ran_by r).code in
    either code run_codes (keeps_test os ts ss) _ _ (either code run_codes (ltb (length out) (2 * parts_in (length log))) _ _ refl refl) refl

pub run_given : {os ts ss log out os' ts' ss' out' : List ℕ} {r : Ran} → Run os ts ss log out r os' ts' ss' out' → one_of run_codes r.code ≡ true
run_given {os} {ts} {ss} {log} {out} c = rw (ap (λ (a : Ran). a.code) c.answer) (run_answer_given os ts ss log out)
