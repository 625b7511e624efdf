-- What a call and a run over a log leave and answer, of tables of any length and content: VALUE where they are no state that keeps the rules.
-- The meaning of one call is in judging/specs; here it is carried to the tables of numbers and folded over a log (docs/SPEC.md, 7.5, 7.22 and 7.88 to 7.93).
use Rattle.std.specs.Prelude.{ℕ, zero, suc, ◌+◌, ◌*◌, ◌/◌, ◌%◌, ◌≡◌, cond, List, eqb, ltb, length, set, take, drop, Result, Ok, Err}
use Rattle.answer.specs.declared.Answer.{Answer}
use Rattle.answer.specs.declared.Code.{Code}
use Rattle.answer.specs.declared.Code.TheVariants.{Value, Room}
use Rattle.answer.specs.Answer.{number_of, refused, done}
use Rattle.tables.specs.State.{State, state_of, flat_objects, flat_threads, flat_domains}
use Rattle.rules.specs.Rules.{keeps_test}
use Rattle.judging.specs.Judge.{heard}
use Rattle.judging.specs.Change.{left}

-- ---- tables after: those of the state after; tables that keep no rules stay as they are
module _ (os ts ss : List ℕ) (after : State → State) where
  abbrev pub objects_left : List ℕ
  objects_left = cond (keeps_test os ts ss) (flat_objects (after (state_of os ts ss)).objects) os

  abbrev pub threads_left : List ℕ
  threads_left = cond (keeps_test os ts ss) (flat_threads (after (state_of os ts ss)).threads) ts

  abbrev pub slots_left : List ℕ
  slots_left = cond (keeps_test os ts ss) (flat_domains (after (state_of os ts ss)).domains) ss

-- ---- one call

-- VALUE before all else (SPEC 7.5)
unfoldable pub answered : List ℕ → List ℕ → List ℕ → List ℕ → Answer
answered os ts ss bs = cond (keeps_test os ts ss) (heard (state_of os ts ss) bs) (refused Value)

-- the answer and the three tables (SPEC 7.22)
pub record Called (os ts ss bs : List ℕ) (r : Answer) (os' ts' ss' : List ℕ) : Type 0 where
  pub answer : r ≡ answered os ts ss bs
  pub objects : os' ≡ objects_left os ts ss (λ s. left s bs)
  pub threads : ts' ≡ threads_left os ts ss (λ s. left s bs)
  pub slots : ss' ≡ slots_left os ts ss (λ s. left s bs)

-- ---- a log

-- its k-th part: sixteen bytes, or what is left at the end
abbrev pub part_at : List ℕ → ℕ → List ℕ
part_at log k = take 16 (drop (16 * k) log)

-- how many parts a log of n bytes has
abbrev pub parts_in : ℕ → ℕ
parts_in n = n / 16 + cond (eqb (n % 16) 0) 0 1

-- the state after the first k parts, each heard as a call
unfoldable pub ran_to : State → List ℕ → ℕ → State
ran_to s log zero = s
ran_to s log (suc k) = left (ran_to s log k) (part_at log k)

-- an answer in its place: code and value, two numbers a call
unfoldable pub put_answer : List ℕ → ℕ → Answer → List ℕ
put_answer out k a = set (set out (2 * k) a.code) (2 * k + 1) a.value

-- the answers of the first k parts, over what the buffer held
unfoldable pub answers_to : State → List ℕ → List ℕ → ℕ → List ℕ
answers_to s log out zero = out
answers_to s log out (suc k) = put_answer (answers_to s log out k) k (heard (ran_to s log k) (part_at log k))

-- bad state VALUE, then too little room ROOM; else OK with the number of answers (SPEC 7.89)
unfoldable pub run_result : List ℕ → List ℕ → List ℕ → List ℕ → List ℕ → Result ℕ Code
run_result os ts ss log out =
    cond (keeps_test os ts ss)
    (cond (ltb (length out) (2 * parts_in (length log))) (Err Room) (Ok (parts_in (length log))))
    (Err Value)

-- the same as a number of the table and how many answers were written, as C gets it: none on a refusal
pub record Ran : Type 0 where
  pub code : ℕ
  pub answers : ℕ

abbrev pub ran_with : ℕ → ℕ → Ran
ran_with code n = record { code = code; answers = n }

abbrev pub ran_by : Result ℕ Code → Ran
ran_by (Ok n) = ran_with done.code n
ran_by (Err e) = ran_with (number_of e) 0

unfoldable pub run_answer : List ℕ → List ℕ → List ℕ → List ℕ → List ℕ → Ran
run_answer os ts ss log out = ran_by (run_result os ts ss log out)

-- how many parts are run: all, or none where the run is refused
abbrev pub ran_parts : List ℕ → List ℕ → List ℕ → List ℕ → List ℕ → ℕ
ran_parts os ts ss log out = (run_answer os ts ss log out).answers

-- what a run answers, and every lent slice after it (SPEC 7.92, 7.93)
pub record Run (os ts ss log out : List ℕ) (r : Ran) (os' ts' ss' out' : List ℕ) : Type 0 where
  pub answer : r ≡ run_answer os ts ss log out
  pub objects : os' ≡ objects_left os ts ss (λ s. ran_to s log (ran_parts os ts ss log out))
  pub threads : ts' ≡ threads_left os ts ss (λ s. ran_to s log (ran_parts os ts ss log out))
  pub slots : ss' ≡ slots_left os ts ss (λ s. ran_to s log (ran_parts os ts ss log out))
  pub buffer : out' ≡ answers_to (state_of os ts ss) log out (ran_parts os ts ss log out)

-- the same of the Result
pub record Ends (os ts ss log out : List ℕ) (r : Result ℕ Code) (os' ts' ss' out' : List ℕ) : Type 0 where
  pub answer : r ≡ run_result os ts ss log out
  pub run : Run os ts ss log out (ran_by r) os' ts' ss' out'
