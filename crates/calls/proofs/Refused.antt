-- A refusal leaves everything lent as it was, over the promises of `call` and `run` themselves. And what an OK of each says of what it met.
use Prim.Native.Nat.{ℕ, ◌*◌, ◌≤◌, ◌<◌}
use native.Mathlib.Decide.{dec_lt, ℕ_discrete}
use native.Mathlib.Omega.{arith}
use mathlib.Core.Path.{◌≡◌, refl, sym, ap, ◌∙◌}
use mathlib.Core.Logic.{◌≢◌}
use mathlib.Core.Bool.{Bool, true, false, cond}
use mathlib.Core.List.{List}
use lib.Dec.{ltb}
use lib.ListN.{length}
use borrow.Author.Tests.{ne_eqb, ltb-false}
use Rattle.answer.specs.declared.Answer.{Answer}
use Rattle.answer.specs.declared.Code.TheVariants.{Ok, Value, Room}
use Rattle.answer.specs.Answer.{number_of}
use Rattle.tables.specs.State.{State, state_of, Fit, objects_back, threads_back, domains_back, flat_objects, flat_threads, flat_domains}
use Rattle.rules.specs.Rules.{Sound, keeps_test}
use Rattle.decoding.specs.Calls.{call_of}
use Rattle.judging.specs.Judge.{judge, heard}
use Rattle.judging.specs.Change.{left}
use Rattle.call_laws.proofs.Order.{heard_short, heard_long, heard_whole}
use Rattle.calls.specs.Calls.{Ran}
use Rattle.calls.specs.Calls.{answered, Called, parts_in, ran_to, answers_to, run_answer, run_result, ran_with, ran_parts, Run}
use Rattle.rules.proofs.Rules.{test_sound}

-- nothing was changed
pub record Untouched (os ts ss os' ts' ss' : List ℕ) : Type 0 where
  pub objects : os' ≡ os
  pub threads : ts' ≡ ts
  pub slots : ss' ≡ ss

left_refused : (s : State) (bs : List ℕ) → (heard s bs).code ≢ 0 → left s bs ≡ s
unfolding left
left_refused s bs n = rw (ne_eqb (heard s bs).code 0 n) refl

-- tables that keep the rules are the flat form of their own state, and the state after is that one; others stay in any case
tables :
    (os ts ss : List ℕ) (s : State) (b : Bool) → keeps_test os ts ss ≡ b → (b ≡ true → s ≡ state_of os ts ss) →
    Untouched os ts ss (cond b (flat_objects s.objects) os) (cond b (flat_threads s.threads) ts) (cond b (flat_domains s.domains) ss)
tables os ts ss s false e p = record { objects = refl; threads = refl; slots = refl }
tables os ts ss s true e p =
    let f : Fit os ts ss = (test_sound os ts ss e).fit in
    record {
      objects = ap (λ (x : State). flat_objects x.objects) (p refl) ∙ objects_back f;
      threads = ap (λ (x : State). flat_threads x.threads) (p refl) ∙ threads_back f;
      slots = ap (λ (x : State). flat_domains x.domains) (p refl) ∙ domains_back f;
    }

-- ---- of `call`

-- an answer other than OK
same_state : (os ts ss bs : List ℕ) → (answered os ts ss bs).code ≢ 0 → keeps_test os ts ss ≡ true → left (state_of os ts ss) bs ≡ state_of os ts ss
unfolding answered
same_state os ts ss bs n e = left_refused (state_of os ts ss) bs (λ z. n (rw e z))

pub refused_untouched : {os ts ss bs os' ts' ss' : List ℕ} {r : Answer} → Called os ts ss bs r os' ts' ss' → r.code ≢ 0 → Untouched os ts ss os' ts' ss'
refused_untouched {os} {ts} {ss} {bs} c n =
    let m : (answered os ts ss bs).code ≢ 0 = λ z. n (ap (λ (a : Answer). a.code) c.answer ∙ z) in
    let t = tables os ts ss (left (state_of os ts ss) bs) (keeps_test os ts ss) refl (same_state os ts ss bs m) in
    record { objects = c.objects ∙ t.objects; threads = c.threads ∙ t.threads; slots = c.slots ∙ t.slots }

-- OK: the tables keep the rules, the bytes are sixteen, and their call is answered OK
pub record Accepted (os ts ss bs : List ℕ) : Type 0 where
  pub sound : Sound os ts ss
  pub whole : length bs ≡ 16
  pub code : (judge (state_of os ts ss) (call_of bs)).code ≡ 0

heard_ok : (s : State) (bs : List ℕ) → (heard s bs).code ≡ 0 → length bs ≡ 16
heard_ok s bs z = go (ℕ_discrete (length bs) 16) (dec_lt (length bs) 16)
  where
    go : Dec (length bs ≡ 16) → Dec (length bs < 16) → length bs ≡ 16
    go (yes e) d = e
    go (no n) (yes h) = absurd (omega (arith, ap (λ (a : Answer). a.code) (heard_short s bs h)))
    go (no n) (no h) = absurd (omega (arith, ap (λ (a : Answer). a.code) (heard_long s bs (omega arith))))

answered_ok : (os ts ss bs : List ℕ) (b : Bool) → keeps_test os ts ss ≡ b → (answered os ts ss bs).code ≡ 0 → Accepted os ts ss bs
unfolding answered
answered_ok os ts ss bs false e z = let z : number_of Value ≡ 0 = rw e at z in absurd (omega arith)
answered_ok os ts ss bs true e z =
    let z : (heard (state_of os ts ss) bs).code ≡ 0 = rw e at z in
    let w = heard_ok (state_of os ts ss) bs z in
    record { sound = test_sound os ts ss e; whole = w; code = ap (λ (a : Answer). a.code) (sym (heard_whole (state_of os ts ss) bs w)) ∙ z }

pub call_accepted : {os ts ss bs os' ts' ss' : List ℕ} {r : Answer} → Called os ts ss bs r os' ts' ss' → r.code ≡ 0 → Accepted os ts ss bs
call_accepted {os} {ts} {ss} {bs} c z = answered_ok os ts ss bs (keeps_test os ts ss) refl (ap (λ (a : Answer). a.code) (sym c.answer) ∙ z)

-- ---- of `run`

-- OK: the tables keep the rules, there was room, and every part was heard
pub record Finished (os ts ss log out : List ℕ) : Type 0 where
  pub sound : Sound os ts ss
  pub room : 2 * parts_in (length log) ≤ length out
  pub parts : ran_parts os ts ss log out ≡ parts_in (length log)

module _ (os ts ss log out : List ℕ) where
  -- the answer by the two tests
  by_tests : (b d : Bool) → keeps_test os ts ss ≡ b → ltb (length out) (2 * parts_in (length log)) ≡ d
      → run_answer os ts ss log out ≡ cond b (cond d (ran_with (number_of Room) 0) (ran_with (number_of Ok) (parts_in (length log)))) (ran_with (number_of Value) 0)
  unfolding run_answer run_result
  by_tests true true e f = rw (e, f)
  by_tests true false e f = rw (e, f)
  by_tests false d e f = rw e

  none_run : (b d : Bool) → keeps_test os ts ss ≡ b → ltb (length out) (2 * parts_in (length log)) ≡ d → (run_answer os ts ss log out).code ≢ 0
      → ran_parts os ts ss log out ≡ 0
  none_run false d e f n = ap (λ (x : Ran). x.answers) (by_tests false d e f)
  none_run true true e f n = ap (λ (x : Ran). x.answers) (by_tests true true e f)
  none_run true false e f n = absurd (n (ap (λ (x : Ran). x.code) (by_tests true false e f)))

  all_run : (b d : Bool) → keeps_test os ts ss ≡ b → ltb (length out) (2 * parts_in (length log)) ≡ d → (run_answer os ts ss log out).code ≡ 0
      → Finished os ts ss log out
  all_run false d e f z = absurd (omega (arith, ap (λ (x : Ran). x.code) (by_tests false d e f)))
  all_run true true e f z = absurd (omega (arith, ap (λ (x : Ran). x.code) (by_tests true true e f)))
  all_run true false e f z =
      record {
        sound = test_sound os ts ss e;
        room = ltb-false (length out) (2 * parts_in (length log)) f;
        parts = ap (λ (x : Ran). x.answers) (by_tests true false e f);
      }

-- no part heard
no_state : (s : State) (log : List ℕ) (n : ℕ) → n ≡ 0 → ran_to s log n ≡ s
unfolding ran_to
no_state s log n e = rw e

no_answers : (s : State) (log out : List ℕ) (n : ℕ) → n ≡ 0 → answers_to s log out n ≡ out
unfolding answers_to
no_answers s log out n e = rw e

-- an answer other than OK: the buffer too
pub run_untouched : {os ts ss log out os' ts' ss' out' : List ℕ} {r : Ran} → Run os ts ss log out r os' ts' ss' out' → r.code ≢ 0 → Untouched os ts ss os' ts' ss' × (out' ≡ out)
run_untouched {os} {ts} {ss} {log} {out} c n =
    let m : (run_answer os ts ss log out).code ≢ 0 = λ z. n (ap (λ (a : Ran). a.code) c.answer ∙ z) in
    let k = none_run os ts ss log out (keeps_test os ts ss) (ltb (length out) (2 * parts_in (length log))) refl refl m in
    let t = tables os ts ss (ran_to (state_of os ts ss) log (ran_parts os ts ss log out)) (keeps_test os ts ss) refl (λ _. no_state (state_of os ts ss) log _ k) in
    (record { objects = c.objects ∙ t.objects; threads = c.threads ∙ t.threads; slots = c.slots ∙ t.slots }, c.buffer ∙ no_answers (state_of os ts ss) log out _ k)

pub run_finished : {os ts ss log out os' ts' ss' out' : List ℕ} {r : Ran} → Run os ts ss log out r os' ts' ss' out' → r.code ≡ 0 → Finished os ts ss log out
run_finished {os} {ts} {ss} {log} {out} c z =
    all_run os ts ss log out (keeps_test os ts ss) (ltb (length out) (2 * parts_in (length log))) refl refl (ap (λ (a : Ran). a.code) (sym c.answer) ∙ z)
