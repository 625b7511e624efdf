-- The tables that `call` and `run` leave: those of tables that keep the rules keep them again, and stand for the state after.
use Prim.Native.Nat.{ℕ, zero, suc, ◌<◌}
use native.Mathlib.Decide.{dec_lt, ℕ_discrete}
use native.Mathlib.Omega.{arith}
use mathlib.Core.Path.{◌≡◌, refl, sym, ap, ◌∙◌}
use mathlib.Core.List.{List}
use lib.ListN.{length}
use Rattle.answer.specs.declared.Answer.{Answer}
use Rattle.tables.specs.State.{State, state_of, objects_back, threads_back, domains_back, flat_objects, flat_threads, flat_domains}
use Rattle.rules.specs.Rules.{Sound}
use Rattle.rules.proofs.Rules.{sound_test}
use Rattle.decoding.specs.Calls.{call_of}
use Rattle.judging.specs.Judge.{judge_in, heard}
use Rattle.judging.specs.Change.{left}
use Rattle.calls.specs.Calls.{Ran}
use Rattle.calls.specs.Calls.{Called, part_at, ran_to, objects_left, threads_left, slots_left, ran_parts, Run}
use Rattle.calls.specs.Steps.{Stepped, Ranged}
use Rattle.calls.proofs.Laws.{step_refused, step_done, hear_short, hear_long, hear_whole, call_heard}

-- ---- the tables that `call` leaves

-- the tables that a call of tables that keep the rules leaves stand for the state after it
data Left (s : State) (bs : List ℕ) : Type 0 where
  some : {r : Answer} {os ts ss : List ℕ} → Stepped (heard s bs) (left s bs) r os ts ss → Left s bs

module _ {os ts ss : List ℕ} (sound : Sound os ts ss) (bs : List ℕ) where
  -- there are such tables
  some_left : Left (state_of os ts ss) bs
  some_left = go (ℕ_discrete (length bs) 16) (dec_lt (length bs) 16) (ℕ_discrete (judge_in os ts ss (call_of bs)).code 0)
    where
      go : Dec (length bs ≡ 16) → Dec (length bs < 16) → Dec ((judge_in os ts ss (call_of bs)).code ≡ 0) → Left (state_of os ts ss) bs
      go (yes e) d (yes z) = some (hear_whole (state_of os ts ss) bs e refl (step_done sound (call_of bs) (judge_in os ts ss (call_of bs)) refl z refl refl refl))
      go (yes e) d (no n) = some (hear_whole (state_of os ts ss) bs e refl (step_refused sound (call_of bs) (judge_in os ts ss (call_of bs)) refl n))
      go (no n) (yes h) d = some (hear_short sound bs h)
      go (no n) (no f) d = some (hear_long sound bs (omega arith))

  -- and the promise fixes them
  pub state_left : {r : Answer} {os' ts' ss' : List ℕ} → Called os ts ss bs r os' ts' ss' → Stepped (heard (state_of os ts ss) bs) (left (state_of os ts ss) bs) r os' ts' ss'
  state_left {r} {os'} {ts'} {ss'} d = go some_left
    where
      go : Left (state_of os ts ss) bs → Stepped (heard (state_of os ts ss) bs) (left (state_of os ts ss) bs) r os' ts' ss'
      go (some w) =
          let k = call_heard os ts ss bs (sound_test os ts ss sound) w in
          rw (d.answer ∙ sym k.answer, d.objects ∙ sym k.objects, d.threads ∙ sym k.threads, d.slots ∙ sym k.slots) w

-- ---- the tables after n parts of a log

-- tables that keep the rules and stand for a state
data Tables (s : State) : Type 0 where
  those : {os ts ss : List ℕ} → Sound os ts ss → state_of os ts ss ≡ s → Tables s

-- there are such tables after every part
next : {s : State} (bs : List ℕ) → Tables s → Tables (left s bs)
next {s} bs (those {os} {ts} {ss} z e) = go (some_left z bs)
  where
    go : Left (state_of os ts ss) bs → Tables (left s bs)
    go (some w) = those w.sound (w.state ∙ ap (λ (x : State). left x bs) e)

some_ran : {os ts ss : List ℕ} → Sound os ts ss → (log : List ℕ) (n : ℕ) → Tables (ran_to (state_of os ts ss) log n)
unfolding ran_to
some_ran z log zero = those z refl
some_ran z log (suc n) = next (part_at log n) (some_ran z log n)

-- and the equations fix them
module _ {os ts ss : List ℕ} (sound : Sound os ts ss) (log : List ℕ) (n : ℕ) {os' ts' ss' : List ℕ}
    (po : os' ≡ objects_left os ts ss (λ s. ran_to s log n)) (pt : ts' ≡ threads_left os ts ss (λ s. ran_to s log n)) (ps : ss' ≡ slots_left os ts ss (λ s. ran_to s log n)) where
  pub ran_left : Sound os' ts' ss' × (state_of os' ts' ss' ≡ ran_to (state_of os ts ss) log n)
  ran_left = go (some_ran sound log n)
    where
      go : Tables (ran_to (state_of os ts ss) log n) → Sound os' ts' ss' × (state_of os' ts' ss' ≡ ran_to (state_of os ts ss) log n)
      go (those {os = os''} {ts = ts''} {ss = ss''} z e) =
          let k = sound_test os ts ss sound in
          let eo : os' ≡ os'' = (rw k at po) ∙ ap (λ (x : State). flat_objects x.objects) (sym e) ∙ objects_back z.fit in
          let et : ts' ≡ ts'' = (rw k at pt) ∙ ap (λ (x : State). flat_threads x.threads) (sym e) ∙ threads_back z.fit in
          let es : ss' ≡ ss'' = (rw k at ps) ∙ ap (λ (x : State). flat_domains x.domains) (sym e) ∙ domains_back z.fit in
          (rw (eo, et, es) z, rw (eo, et, es) e)

-- the tables that `run` leaves: the state after the parts that were heard
pub run_left : {os ts ss log out os' ts' ss' out' : List ℕ} {r : Ran} → Run os ts ss log out r os' ts' ss' out' → Sound os ts ss
    → Ranged (state_of os ts ss) log out (ran_parts os ts ss log out) os' ts' ss' out'
run_left {os} {ts} {ss} {log} {out} d sound =
    let l = ran_left sound log (ran_parts os ts ss log out) d.objects d.threads d.slots in
    record { state = l.1; sound = l.0; buffer = d.buffer }
