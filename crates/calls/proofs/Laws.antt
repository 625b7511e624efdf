-- The steps, over lists: from what the crates below promise to the state after and the rules.
use Prim.Native.Nat.{ℕ, zero, suc, ◌+◌, ◌-◌, ◌*◌, ◌/◌, ◌%◌, ◌≤◌, ◌<◌}
use native.Mathlib.Numerals.{add-one}
use native.Mathlib.Omega.{arith}
use mathlib.Core.Path.{◌≡◌, refl, sym, ap, ◌∙◌}
use mathlib.Core.Logic.{◌≢◌}
use mathlib.Core.Bool.{Bool, true, false, cond}
use lib.Dec.{ltb}
use mathlib.Core.List.{List, [], ◌∷◌}
use lib.Seq.{take_all}
use lib.ListN.{length, get_or, set, take, drop, length-set, length-take, length-drop}
use borrow.Author.Tests.{eq-eqb, ne_eqb, lt-ltb, le-ltb}
use Rattle.answer.specs.declared.Answer.{Answer}
use Rattle.answer.specs.declared.Code.TheVariants.{Ok as Ok·code, Short, Einval, Value, Room}
use Rattle.std.specs.Prelude.{Result, Ok, Err}
use Rattle.answer.specs.declared.Code.{Code}
use Rattle.answer.specs.Answer.{number_of, refused}
use Rattle.tables.specs.Table.{sized}
use Rattle.tables.specs.State.{State, state_of, Fit, objects_back, threads_back, domains_back, flat_objects, flat_threads, flat_domains}
use Rattle.rules.specs.Rules.{Sound, keeps_test}
use Rattle.decoding.specs.declared.Call.{Call}
use Rattle.decoding.specs.Calls.{Op, unknown, op_of, call_of}
use Rattle.judging.specs.Judge.{judge, heard, judge_in}
use Rattle.judging.specs.Change.{object_change, thread_change, domain_change, after, left}
use Rattle.judging.proofs.Sizes.{sized_by}
use Rattle.applying.specs.Apply.{enact_in, enact_objects, enact_threads, enact_slots}
use Rattle.applying.proofs.Picture.{fit_after}
use Rattle.applying.proofs.InRange.{applied_ok}
use Rattle.call_laws.proofs.Keeps.{keeps_after}
use Rattle.call_laws.proofs.Order.{heard_short, heard_long, heard_whole, left_other, left_whole}
use Rattle.calls.specs.Calls.{answered, Called, part_at, parts_in, put_answer, ran_to, answers_to, run_answer, run_result, ran_by, ran_with, ran_parts, Run, Ends}
use Rattle.calls.specs.Calls.{Ran}
use Rattle.calls.specs.Steps.{Applied, Stepped, Told, Ranged}

module _ {os ts ss : List ℕ} (sound : Sound os ts ss) where
  -- tables that keep the rules have the right lengths
  its_lengths : sized (length os) (length ts) (length ss) ≡ true
  unfolding sized
  its_lengths = rw (eq-eqb _ _ sound.fit.objects, eq-eqb _ _ sound.fit.threads, eq-eqb _ _ sound.fit.slots)

  judged : (c : Call) → judge_in os ts ss c ≡ judge (state_of os ts ss) c
  judged c = sized_by os ts ss c its_lengths

  -- nothing was changed
  pub stays : {a : Answer} {s : State} (r : Answer) → r ≡ a → s ≡ state_of os ts ss → Stepped a s r os ts ss
  stays r e p = record { answer = e; state = sym p; sound = sound }

  module _ (c : Call) (r : Answer) (e : r ≡ judge_in os ts ss c) where
    says : (judge (state_of os ts ss) c).code ≡ r.code
    says = ap (λ (a : Answer). a.code) (sym (e ∙ judged c))

    pub step_refused : r.code ≢ 0 → Stepped (judge (state_of os ts ss) c) (after (state_of os ts ss) c) r os ts ss
    unfolding after
    step_refused ne = stays r (e ∙ judged c) (rw (says, ne_eqb r.code 0 ne))

    pub step_done :
        {os' ts' ss' : List ℕ} → r.code ≡ 0 →
        os' ≡ enact_objects (object_change (op_of c.op) c) os →
        ts' ≡ enact_threads (thread_change (op_of c.op) c) ts →
        ss' ≡ enact_slots (domain_change (op_of c.op) c) ss →
        Stepped (judge (state_of os ts ss) c) (after (state_of os ts ss) c) r os' ts' ss'
    step_done {os'} {ts'} {ss'} z po pt ps =
        let ok : (judge (state_of os ts ss) c).code ≡ 0 = says ∙ z in
        let state : state_of os' ts' ss' ≡ after (state_of os ts ss) c = rw (po, pt, ps) (applied_ok os ts ss sound.fit c ok) in
        let fit : Fit os' ts' ss' = rw (po, pt, ps) (fit_after os ts ss sound.fit (op_of c.op) c) in
        record {
          answer = e ∙ judged c;
          state = state;
          sound = record { fit = fit; keeps = rw state (keeps_after (state_of os ts ss) c sound.keeps) };
        }

    -- an operation that has a name, applied
    pub step_named : (o : Op) → op_of c.op ≡ o → {os' ts' ss' : List ℕ} → r.code ≡ 0 → Applied o c os ts ss os' ts' ss'
        → Stepped (judge (state_of os ts ss) c) (after (state_of os ts ss) c) r os' ts' ss'
    step_named o n z a = step_done z (rw n a.objects) (rw n a.threads) (rw n a.slots)

    -- one that has none changes nothing
    pub step_unknown : op_of c.op ≡ unknown → r.code ≡ 0 → Stepped (judge (state_of os ts ss) c) (after (state_of os ts ss) c) r os ts ss
    unfolding object_change thread_change domain_change enact_in
    step_unknown u z = step_named unknown u z (record { objects = refl; threads = refl; slots = refl })

  -- bytes as they come
  module _ (bs : List ℕ) where
    pub hear_short : length bs < 16 → Stepped (heard (state_of os ts ss) bs) (left (state_of os ts ss) bs) (refused Short) os ts ss
    hear_short h =
        stays (refused Short) (sym (heard_short (state_of os ts ss) bs h)) (left_other (state_of os ts ss) bs (λ e. omega arith))

    pub hear_long : 16 < length bs → Stepped (heard (state_of os ts ss) bs) (left (state_of os ts ss) bs) (refused Einval) os ts ss
    hear_long h =
        stays (refused Einval) (sym (heard_long (state_of os ts ss) bs h)) (left_other (state_of os ts ss) bs (λ e. omega arith))

-- sixteen bytes are a call
pub hear_whole :
    (s : State) (bs : List ℕ) {c : Call} {r : Answer} {os ts ss : List ℕ} → length bs ≡ 16 → c ≡ call_of bs → Stepped (judge s c) (after s c) r os ts ss →
    Stepped (heard s bs) (left s bs) r os ts ss
hear_whole s bs {c} h e p =
    record {
      answer = p.answer ∙ ap (judge s) e ∙ sym (heard_whole s bs h);
      state = p.state ∙ ap (after s) e ∙ sym (left_whole s bs h);
      sound = p.sound;
    }

-- ---- tables that stand for a state are its tables
module _ {s : State} {os ts ss : List ℕ} (sound : Sound os ts ss) (state : state_of os ts ss ≡ s) where
  objects_are : os ≡ flat_objects s.objects
  objects_are = sym (objects_back sound.fit) ∙ ap (λ (x : State). flat_objects x.objects) state

  threads_are : ts ≡ flat_threads s.threads
  threads_are = sym (threads_back sound.fit) ∙ ap (λ (x : State). flat_threads x.threads) state

  slots_are : ss ≡ flat_domains s.domains
  slots_are = sym (domains_back sound.fit) ∙ ap (λ (x : State). flat_domains x.domains) state

-- ---- one call
module _ (os ts ss bs : List ℕ) where
  pub call_refused : keeps_test os ts ss ≡ false → Called os ts ss bs (refused Value) os ts ss
  unfolding answered
  call_refused e = record { answer = rw e; objects = rw e; threads = rw e; slots = rw e }

  pub call_heard :
      {r : Answer} {os' ts' ss' : List ℕ} → keeps_test os ts ss ≡ true → Stepped (heard (state_of os ts ss) bs) (left (state_of os ts ss) bs) r os' ts' ss' →
      Called os ts ss bs r os' ts' ss'
  unfolding answered
  call_heard e p = record { answer = rw e p.answer; objects = rw e (objects_are p.sound p.state); threads = rw e (threads_are p.sound p.state); slots = rw e (slots_are p.sound p.state) }

-- ---- a log, part by part
pub told :
    (s : State) (bs : List ℕ) (k : ℕ) {r : Answer} {os ts ss out out' : List ℕ} → Stepped (heard s bs) (left s bs) r os ts ss → out' ≡ put_answer out k r →
    Told s bs k out os ts ss out'
told s bs k {r} {os} {ts} {ss} {out} p e = record { state = p.state; sound = p.sound; buffer = e ∙ ap (put_answer out k) p.answer }

-- an answer is put in place: the buffer's length stays
pub put_length : (out : List ℕ) (k : ℕ) (a : Answer) → length (put_answer out k a) ≡ length out
unfolding put_answer
put_length out k a = length-set (set out (2 * k) a.code) (2 * k + 1) a.value ∙ length-set out (2 * k) a.code

answers_none : (s : State) (log out : List ℕ) → length (answers_to s log out 0) ≡ length out
unfolding answers_to
answers_none s log out = refl

answers_one : (s : State) (log out : List ℕ) (n : ℕ) → length (answers_to s log out (suc n)) ≡ length (answers_to s log out n)
unfolding answers_to
answers_one s log out n = put_length (answers_to s log out n) n (heard (ran_to s log n) (part_at log n))

pub told_length : {s : State} {bs : List ℕ} {k : ℕ} {out os ts ss out' : List ℕ} → Told s bs k out os ts ss out' → length out' ≡ length out
told_length {s} {bs} {k} {out} p = ap length p.buffer ∙ put_length out k (heard s bs)

-- the k-th part, as the code cuts it: sixteen bytes, a call
pub told_at :
    (s : State) (log : List ℕ) (k : ℕ) {c : Call} {r : Answer} {os ts ss out out' : List ℕ} → 16 * k + 16 ≤ length log →
    c ≡ call_of (take (16 * k + 16 - 16 * k) (drop (16 * k) log)) → Stepped (judge s c) (after s c) r os ts ss → out' ≡ put_answer out k r →
    Told s (part_at log k) k out os ts ss out'
told_at s log k h e p q =
    let n : 16 * k + 16 - 16 * k ≡ 16 = omega arith in
    let l : length (part_at log k) ≡ 16 = omega (arith, length-take 16 (drop (16 * k) log), length-drop (16 * k) log) in
    told s (part_at log k) k (hear_whole s (part_at log k) l (rw n at e) p) q

module _ (s : State) (log out : List ℕ) where
  -- nothing yet
  pub ran_none : {os ts ss : List ℕ} → Sound os ts ss → state_of os ts ss ≡ s → Ranged s log out 0 os ts ss out
  unfolding ran_to answers_to
  ran_none h e = record { state = e; sound = h; buffer = refl }

  -- one part more
  pub ran_more :
      {k : ℕ} {os ts ss out₁ os' ts' ss' out₂ : List ℕ} → Ranged s log out k os ts ss out₁ →
      Told (state_of os ts ss) (part_at log k) k out₁ os' ts' ss' out₂ → Ranged s log out (k + 1) os' ts' ss' out₂
  unfolding ran_to answers_to
  ran_more {k} {os} {ts} {ss} {out₁} p q =
      record {
        state = rw add-one (q.state ∙ ap (λ (x : State). left x (part_at log k)) p.state);
        sound = q.sound;
        buffer =
            rw add-one
            (q.buffer
            ∙ ap (λ (x : State). put_answer out₁ k (heard x (part_at log k))) p.state
            ∙ ap (λ (x : List ℕ). put_answer x k (heard (ran_to s log k) (part_at log k))) p.buffer);
      }

  pub ran_all : {k n : ℕ} {os ts ss out' : List ℕ} → k ≡ n → Ranged s log out k os ts ss out' → Ranged s log out n os ts ss out'
  ran_all e p = record { state = p.state ∙ ap (ran_to s log) e; sound = p.sound; buffer = p.buffer ∙ ap (answers_to s log out) e }

  -- a last part under sixteen bytes
  last_short : (k : ℕ) → k ≡ length log / 16 → length (part_at log k) < 16
  last_short k e = omega (arith, length-take 16 (drop (16 * k) log), length-drop (16 * k) log)

  pub ran_short :
      {k : ℕ} {os ts ss out₁ out₂ : List ℕ} → k ≡ length log / 16 → length log % 16 ≢ 0 → Ranged s log out k os ts ss out₁ →
      out₂ ≡ put_answer out₁ k (refused Short) → Ranged s log out (parts_in (length log)) os ts ss out₂
  ran_short {k} {os} {ts} {ss} e ne p q =
      let h : length (part_at log k) < 16 = last_short k e in
      let all : k + 1 ≡ parts_in (length log) = rw (ne_eqb _ 0 ne) (omega (arith, e)) in
      ran_all all (ran_more p (told (state_of os ts ss) (part_at log k) k (hear_short p.sound (part_at log k) h) q))

  pub ran_even :
      {k : ℕ} {os ts ss out₁ : List ℕ} → k ≡ length log / 16 → length log % 16 ≡ 0 → Ranged s log out k os ts ss out₁ →
      Ranged s log out (parts_in (length log)) os ts ss out₁
  ran_even {k} e z p = let all : k ≡ parts_in (length log) = rw (eq-eqb _ 0 z) (omega (arith, e)) in ran_all all p

-- a log of one call
only_part : (bs : List ℕ) → length bs ≡ 16 → part_at bs 0 ≡ bs
only_part bs h = take_all 16 bs (omega arith)

pub heard_one :
    (s : State) (bs : List ℕ) (a b : ℕ) {os ts ss out : List ℕ} → length bs ≡ 16 → Ranged s bs (a ∷ b ∷ []) 1 os ts ss out →
    Stepped (heard s bs) (left s bs) (record { code = get_or out 0 0; value = get_or out 1 0 }) os ts ss
unfolding ran_to answers_to put_answer
heard_one s bs a b h p =
    record {
      answer =
          ap (λ (x : List ℕ). record { code = get_or x 0 0; value = get_or x 1 0 }) p.buffer
          ∙ ap (λ (x : List ℕ). heard s x) (only_part bs h);
      state = p.state ∙ ap (λ (x : List ℕ). left s x) (only_part bs h);
      sound = p.sound;
    }

-- the buffer's length stays, and has room for a last part
pub ranged_length :
    {s : State} {log out : List ℕ} {n : ℕ} {os ts ss out' : List ℕ} → Ranged s log out n os ts ss out' → length out' ≡ length out
ranged_length {s} {log} {out} {n} p = ap length p.buffer ∙ go n
  where
    go : (n : ℕ) → length (answers_to s log out n) ≡ length out
    go zero = answers_none s log out
    go (suc n) = answers_one s log out n ∙ go n

pub room_short : (n m : ℕ) → n % 16 ≢ 0 → 2 * parts_in n ≤ m → 2 * (n / 16) + 1 < m
room_short n m ne h = let e : parts_in n ≡ n / 16 + 1 = rw (ne_eqb _ 0 ne) in omega (arith, e)

-- ---- a run
module _ (os ts ss log out : List ℕ) where
  pub run_unsound : keeps_test os ts ss ≡ false → Run os ts ss log out (ran_with (number_of Value) 0) os ts ss out
  unfolding run_answer run_result answers_to
  run_unsound e =
      let a : run_answer os ts ss log out ≡ ran_with (number_of Value) 0 = rw e in
      record {
        answer = sym a;
        objects = rw e;
        threads = rw e;
        slots = rw e;
        buffer = ap (λ (x : Ran). answers_to (state_of os ts ss) log out x.answers) (sym a);
      }

  -- the rules hold, and n parts were heard
  ran :
      (n : ℕ) {r : Ran} {os' ts' ss' out' : List ℕ} → keeps_test os ts ss ≡ true → run_answer os ts ss log out ≡ r → r.answers ≡ n →
      Ranged (state_of os ts ss) log out n os' ts' ss' out' → Run os ts ss log out r os' ts' ss' out'
  ran n {r} e a z p =
      let m : n ≡ ran_parts os ts ss log out = sym (ap (λ (x : Ran). x.answers) a ∙ z) in
      let q = ran_all (state_of os ts ss) log out m p in
      record {
        answer = sym a;
        objects = rw e (objects_are q.sound q.state);
        threads = rw e (threads_are q.sound q.state);
        slots = rw e (slots_are q.sound q.state);
        buffer = q.buffer;
      }

  module _ (e : keeps_test os ts ss ≡ true) where
    pub run_room : Sound os ts ss → length out < 2 * parts_in (length log) → Run os ts ss log out (ran_with (number_of Room) 0) os ts ss out
    unfolding run_answer run_result
    run_room sound h = ran 0 e (rw (e, lt-ltb _ _ h)) refl (ran_none (state_of os ts ss) log out sound refl)

    pub run_done :
        {os' ts' ss' out' : List ℕ} → 2 * parts_in (length log) ≤ length out →
        Ranged (state_of os ts ss) log out (parts_in (length log)) os' ts' ss' out' →
        Run os ts ss log out (ran_with (number_of Ok·code) (parts_in (length log))) os' ts' ss' out'
    unfolding run_answer run_result
    run_done h p = ran (parts_in (length log)) e (rw (e, le-ltb _ _ h)) refl p

-- the same of the Result: what the tests lead to, with what was promised of the numbers
module _ (os ts ss log out : List ℕ) where
  pub ends_unsound : keeps_test os ts ss ≡ false → Ends os ts ss log out (Err Value) os ts ss out
  unfolding run_result
  ends_unsound e = record { answer = rw e; run = run_unsound os ts ss log out e }

  pub ends_room : keeps_test os ts ss ≡ true → Sound os ts ss → length out < 2 * parts_in (length log) → Ends os ts ss log out (Err Room) os ts ss out
  unfolding run_result
  ends_room e sound h = record { answer = rw (e, lt-ltb _ _ h); run = run_room os ts ss log out e sound h }

  pub ends_done :
      keeps_test os ts ss ≡ true → {os' ts' ss' out' : List ℕ} → 2 * parts_in (length log) ≤ length out →
      Ranged (state_of os ts ss) log out (parts_in (length log)) os' ts' ss' out' → Ends os ts ss log out (Ok (parts_in (length log))) os' ts' ss' out'
  unfolding run_result
  ends_done e h p = record { answer = rw (e, le-ltb _ _ h); run = run_done os ts ss log out e h p }

-- an Err is never OK's number
pub never_ok : (os ts ss log out : List ℕ) (e : Code) → Err e ≡ run_result os ts ss log out → number_of e ≢ 0
unfolding run_result
never_ok os ts ss log out e q = go (keeps_test os ts ss) (ltb (length out) (2 * parts_in (length log))) q
  where
    go : (a b : Bool) → Err e ≡ cond a (cond b (Err Room) (Ok (parts_in (length log)))) (Err Value) → number_of e ≢ 0
    go true true p z = absurd (omega (arith, ap (λ (r : Result ℕ Code). (ran_by r).code) p))
    go true false p z = absurd (cc)
    go false b p z = absurd (omega (arith, ap (λ (r : Result ℕ Code). (ran_by r).code) p))
