-- Runs of calls, and what thread t sees of one (docs/SPEC.md, 8.16 to 8.21): its own calls, the grants to it with the flag that they reveal, others' exits.
use Rattle.std.specs.Prelude.{ℕ, ◌≡◌, Bool, true, false, cond, List, [], ◌∷◌, ◌++◌, eqb}
use Rattle.answer.specs.declared.Answer.{Answer}
use Rattle.userspace.specs.Userspace.{initialised}
use Rattle.tables.specs.State.{State, object}
use Rattle.decoding.specs.declared.Call.{Call}
use Rattle.decoding.specs.Calls.{Op, validate, grant, release, check, exit, sup, unknown, op_of}
use Rattle.judging.specs.Judge.{supervisor, may_use, judge}
use Rattle.judging.specs.Change.{after}
use Rattle.isolation.specs.View.{bit_at}

-- the state after a run
unfoldable pub run : State → List Call → State
run s [] = s
run s (c ∷ cs) = run (after s c) cs

-- no caller of the run is a supervisor when it calls
unfoldable pub Unprivileged : State → List Call → Type 0
Unprivileged s [] = Unit {0}
Unprivileged s (c ∷ cs) = (supervisor s c.caller ≡ false) × Unprivileged (after s c) cs

-- ---- what t sees of a call

pub data Event : Type 0 where
  asked : Call → Event  -- its own call
  given : ℕ → Bool → Event  -- an object granted to it, and whether that is initialised
  ended : ℕ → Event  -- who exited

pub data Seen : Type 0 where
  nothing : Seen
  seen : Event → Seen

-- of another's call that was accepted
unfoldable pub witnessed : Op → State → ℕ → Call → Seen
witnessed validate s t c = nothing
witnessed grant s t c = cond (eqb c.b t) (seen (given c.a (initialised (object s c.a)))) nothing
witnessed release s t c = nothing
witnessed check s t c = nothing
witnessed exit s t c = seen (ended c.caller)
witnessed (sup p) s t c = nothing
witnessed unknown s t c = nothing

unfoldable pub event : State → ℕ → Call → Seen
event s t c = cond (eqb c.caller t) (seen (asked c)) (cond (eqb (judge s c).code 0) (witnessed (op_of c.op) s t c) nothing)

-- ---- what t sees of a run

unfoldable pub noted : Seen → List Event → List Event
noted nothing l = l
noted (seen e) l = e ∷ l

unfoldable pub trace : State → ℕ → List Call → List Event
trace s t [] = []
trace s t (c ∷ cs) = noted (event s t c) (trace (after s c) t cs)

-- the answers to t's own calls
unfoldable pub answers : State → ℕ → List Call → List Answer
answers s t [] = []
answers s t (c ∷ cs) = cond (eqb c.caller t) (judge s c ∷ answers (after s c) t cs) (answers (after s c) t cs)

-- ---- who gave t its bit on object h

-- the call was a supervisor's, or an accepted grant of just that by a caller who had access to the object
pub data GainBy (s : State) (c : Call) (h t : ℕ) : Type 0 where
  by_supervisor : supervisor s c.caller ≡ true → GainBy s c h t
  by_grant : op_of c.op ≡ grant → c.a ≡ h → c.b ≡ t → may_use s c.caller h ≡ true → GainBy s c h t

-- the call of a run at which t got it: what went before, the state that it met, and that it was accepted there
pub record GainIn (s : State) (cs : List Call) (h t : ℕ) : Type 0 where
  pub before : List Call
  pub call : Call
  pub rest : List Call
  pub split : cs ≡ before ++ call ∷ rest
  pub lacked : bit_at (run s before) h t ≡ false
  pub accepted : (judge (run s before) call).code ≡ 0
  pub has : bit_at (after (run s before) call) h t ≡ true
  pub by : GainBy (run s before) call h t
