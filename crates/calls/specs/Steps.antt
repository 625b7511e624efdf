-- What a step inside promises of tables that keep the rules: the answer, the state after, and that the rules hold again.
use Rattle.std.specs.Prelude.{◌≡◌, List, ℕ}
use Rattle.answer.specs.declared.Answer.{Answer}
use Rattle.tables.specs.State.{State, state_of}
use Rattle.rules.specs.Rules.{Sound}
use Rattle.judging.specs.Judge.{heard}
use Rattle.decoding.specs.declared.Call.{Call}
use Rattle.decoding.specs.Calls.{Op}
use Rattle.judging.specs.Change.{object_change, thread_change, domain_change, left}
use Rattle.applying.specs.Apply.{enact_objects, enact_threads, enact_slots}
use Rattle.calls.specs.Calls.{put_answer, ran_to, answers_to}

-- the three tables after an operation: each after its change
pub record Applied (o : Op) (c : Call) (os ts ss os' ts' ss' : List ℕ) : Type 0 where
  pub objects : os' ≡ enact_objects (object_change o c) os
  pub threads : ts' ≡ enact_threads (thread_change o c) ts
  pub slots : ss' ≡ enact_slots (domain_change o c) ss

pub record Stepped (a : Answer) (s : State) (r : Answer) (os ts ss : List ℕ) : Type 0 where
  pub answer : r ≡ a
  pub state : state_of os ts ss ≡ s
  pub sound : Sound os ts ss

-- the same with the answer in its place k of a buffer
pub record Told (s : State) (bs : List ℕ) (k : ℕ) (out os ts ss out' : List ℕ) : Type 0 where
  pub state : state_of os ts ss ≡ left s bs
  pub sound : Sound os ts ss
  pub buffer : out' ≡ put_answer out k (heard s bs)

-- n parts of a log have been heard
pub record Ranged (s : State) (log out : List ℕ) (n : ℕ) (os ts ss out' : List ℕ) : Type 0 where
  pub state : state_of os ts ss ≡ ran_to s log n
  pub sound : Sound os ts ss
  pub buffer : out' ≡ answers_to s log out n
