-- The theorems on whole runs, on the tables of numbers and the buffer of answers, through the promise of `calls::run` itself.
use Prim.Native.Nat.{ℕ, zero, suc, ◌+◌, ◌*◌, ◌/◌, ◌%◌, ◌≤◌, ◌<◌}
use native.Mathlib.Decide.{ℕ_discrete}
use native.Mathlib.Omega.{arith}
use mathlib.Core.Path.{◌≡◌, refl, sym, ap, ◌∙◌}
use mathlib.Core.Bool.{Bool, true, false, cond, false≢true}
use mathlib.Core.List.{List, [], ◌∷◌, ◌++◌}
use lib.Dec.{eqb}
use lib.ListN.{length, get_or}
use borrow.Author.Tests.{eq-eqb, ne_eqb}
use Rattle.answer.specs.declared.Answer.{Answer}
use Rattle.tables.specs.State.{State, state_of, objects_back, threads_back, domains_back, flat_objects, flat_threads, flat_domains}
use Rattle.rules.specs.Rules.{Sound, Keeps}
use Rattle.rules.proofs.Rules.{sound_test}
use Rattle.decoding.specs.declared.Call.{Call}
use Rattle.decoding.specs.Calls.{call_of}
use Rattle.judging.specs.Judge.{judge, heard}
use Rattle.judging.specs.Change.{after, left}
use Rattle.call_laws.proofs.Keeps.{keeps_left}
use Rattle.call_laws.proofs.Order.{heard_whole, left_other, left_whole}
use Rattle.call_laws.proofs.Changes.{after_refused}
use Rattle.calls.specs.Calls.{Ran}
use Rattle.calls.specs.Calls.{part_at, parts_in, ran_to, answers_to, ran_parts, Run}
use Rattle.calls.specs.Steps.{Ranged}
use Rattle.calls.proofs.Refused.{run_untouched, Finished, run_finished}
use Rattle.calls.proofs.Left.{run_left}
use Rattle.calls.proofs.Answers.{holds}
use Rattle.isolation.specs.View.{bit_at, Agree}
use Rattle.isolation.specs.Trace.{run, Unprivileged, trace, answers, GainBy}
use Rattle.isolation.proofs.Gain.{gain_call}
use Rattle.isolation.proofs.Runs.{noninterference}
use Rattle.isolation_cases.proofs.Tables.{calls_to, whole_part, log_runs, log_ends}

-- ---- the tables that `run` leaves
module _ {os ts ss log out os' ts' ss' out' : List ℕ} {r : Ran} (d : Run os ts ss log out r os' ts' ss' out') where
  -- after an OK every part was heard
  all_left : (f : Finished os ts ss log out) → state_of os' ts' ss' ≡ ran_to (state_of os ts ss) log (parts_in (length log))
  all_left f = (run_left d f.sound).state ∙ ap (ran_to (state_of os ts ss) log) f.parts

  all_told : (f : Finished os ts ss log out) → out' ≡ answers_to (state_of os ts ss) log out (parts_in (length log))
  all_told f = d.buffer ∙ ap (answers_to (state_of os ts ss) log out) f.parts

-- ---- where a permission came from

-- the k-th answer in a buffer
abbrev pub answer_in : List ℕ → ℕ → Answer
answer_in out k = record { code = get_or out (2 * k) 0; value = get_or out (2 * k + 1) 0 }

-- the place of a log at which t got its bit on h: sixteen bytes, whose call met the state after the parts before it and was answered OK, as the buffer has it
pub record GainAt (s : State) (log out : List ℕ) (h t : ℕ) : Type 0 where
  pub place : ℕ
  pub whole : length (part_at log place) ≡ 16
  pub lacked : bit_at (ran_to s log place) h t ≡ false
  pub has : bit_at (ran_to s log (suc place)) h t ≡ true
  pub accepted : (judge (ran_to s log place) (call_of (part_at log place))).code ≡ 0
  pub told : (answer_in out place).code ≡ 0
  pub by : GainBy (ran_to s log place) (call_of (part_at log place)) h t

-- the part before which it lacked the bit and behind which it has it
record Found (s : State) (log : List ℕ) (n h t : ℕ) : Type 0 where
  place : ℕ
  inside : place < n
  lacked : bit_at (ran_to s log place) h t ≡ false
  has : bit_at (ran_to s log (suc place)) h t ≡ true

found : (n : ℕ) (s : State) (log : List ℕ) (h t : ℕ) → bit_at s h t ≡ false → bit_at (ran_to s log n) h t ≡ true → Found s log n h t
unfolding ran_to
found zero s log h t l p = absurd (false≢true (sym l ∙ p))
found (suc n) s log h t l p = go (bit_at (ran_to s log n) h t) refl (found n s log h t l)
  where
    go : (b : Bool) → bit_at (ran_to s log n) h t ≡ b → (bit_at (ran_to s log n) h t ≡ true → Found s log n h t) → Found s log (suc n) h t
    go true e earlier = let f = earlier e in record { place = f.place; inside = omega (arith, f.inside); lacked = f.lacked; has = f.has }
    go false e earlier = record { place = n; inside = omega arith; lacked = e; has = p }

keeps_ran : (n : ℕ) (s : State) (log : List ℕ) → Keeps s → Keeps (ran_to s log n)
unfolding ran_to
keeps_ran zero s log k = k
keeps_ran (suc n) s log k = keeps_left (ran_to s log n) (part_at log n) (keeps_ran n s log k)

-- what that part is
gain_part : (s : State) (bs : List ℕ) (h t : ℕ) → Keeps s → bit_at s h t ≡ false → bit_at (left s bs) h t ≡ true
    → (length bs ≡ 16) × ((judge s (call_of bs)).code ≡ 0) × GainBy s (call_of bs) h t
gain_part s bs h t k l p = go (ℕ_discrete (length bs) 16) (ℕ_discrete (judge s (call_of bs)).code 0)
  where
    still : left s bs ≡ s → ⊥
    still e = false≢true (sym l ∙ ap (λ (x : State). bit_at x h t) (sym e) ∙ p)

    go : Dec (length bs ≡ 16) → Dec ((judge s (call_of bs)).code ≡ 0) → (length bs ≡ 16) × ((judge s (call_of bs)).code ≡ 0) × GainBy s (call_of bs) h t
    go (yes w) (yes z) = (w, z, gain_call s (call_of bs) h t l (ap (λ (x : State). bit_at x h t) (sym (left_whole s bs w)) ∙ p) k)
    go (yes w) (no n) = absurd (still (left_whole s bs w ∙ after_refused s (call_of bs) n))
    go (no n) d = absurd (still (left_other s bs n))

-- a bit that t holds after any run, on any tables, and did not before: the run was answered OK, and there is such a place
pub gain_tables :
    (h t : ℕ) {os ts ss log out os' ts' ss' out' : List ℕ} {r : Ran} → Run os ts ss log out r os' ts' ss' out' →
    bit_at (state_of os ts ss) h t ≡ false → bit_at (state_of os' ts' ss') h t ≡ true → (r.code ≡ 0) × GainAt (state_of os ts ss) log out' h t
unfolding ran_to
gain_tables h t {os} {ts} {ss} {log} {out} {os'} {ts'} {ss'} {out'} {r} d l p = go (ℕ_discrete r.code 0)
  where
    bit : State → Bool
    bit x = bit_at x h t

    named : Finished os ts ss log out → GainAt (state_of os ts ss) log out' h t
    named f =
        let s = state_of os ts ss in
        let w = found (parts_in (length log)) s log h t l (ap bit (sym (all_left d f)) ∙ p) in
        let g = gain_part (ran_to s log w.place) (part_at log w.place) h t (keeps_ran w.place s log f.sound.keeps) w.lacked w.has in
        let a = holds s log out (parts_in (length log)) w.place f.room w.inside in
        record {
          place = w.place;
          whole = g.0;
          lacked = w.lacked;
          has = w.has;
          accepted = g.1;
          told =
              ap (λ (x : List ℕ). (answer_in x w.place).code) (all_told d f)
              ∙ a.code
              ∙ ap (λ (x : Answer). x.code) (heard_whole (ran_to s log w.place) (part_at log w.place) g.0)
              ∙ g.1;
          by = g.2;
        }

    go : Dec (r.code ≡ 0) → (r.code ≡ 0) × GainAt (state_of os ts ss) log out' h t
    go (yes z) = (z, named (run_finished d z))
    go (no n) =
        let u = (run_untouched d n).0 in
        let e : state_of os' ts' ss' ≡ state_of os ts ss = rw (u.objects, u.threads, u.slots) in
        absurd (false≢true (sym l ∙ ap bit (sym e) ∙ p))

-- ---- noninterference

-- the calls of a log: its parts of sixteen bytes
abbrev pub calls_of : List ℕ → List Call
calls_of log = calls_to log (length log / 16)

-- of the first n calls of a log those of thread t, and what the buffer holds for them, in order
unfoldable pub replies_to : List ℕ → List ℕ → ℕ → ℕ → List Answer
replies_to log out t zero = []
replies_to log out t (suc k) = cond (eqb (call_of (part_at log k)).caller t) (replies_to log out t k ++ answer_in out k ∷ []) (replies_to log out t k)

abbrev pub replies_of : List ℕ → List ℕ → ℕ → List Answer
replies_of log out t = replies_to log out t (length log / 16)

-- the state after all parts is that after its calls
whole_state : (s : State) (log : List ℕ) → ran_to s log (parts_in (length log)) ≡ run s (calls_of log)
whole_state s log = go (ℕ_discrete (length log % 16) 0)
  where
    calls : ran_to s log (length log / 16) ≡ run s (calls_of log)
    calls = log_runs (length log / 16) s log (omega arith)

    go : Dec (length log % 16 ≡ 0) → ran_to s log (parts_in (length log)) ≡ run s (calls_of log)
    go (yes z) = let e : parts_in (length log) ≡ length log / 16 = rw (eq-eqb _ 0 z) (omega arith) in ap (ran_to s log) e ∙ calls
    go (no n) =
        let e : parts_in (length log) ≡ suc (length log / 16) = rw (ne_eqb _ 0 n) (omega arith) in
        ap (ran_to s log) e ∙ log_ends (length log / 16) s log (omega arith) ∙ calls

-- one call more at the end: its answer, if it is t's
pushed : (x y : Bool) (a b : Answer) (l : List Answer) → cond x (a ∷ cond y (l ++ b ∷ []) l) (cond y (l ++ b ∷ []) l) ≡ cond y (cond x (a ∷ l) l ++ b ∷ []) (cond x (a ∷ l) l)
pushed true true a b l = refl
pushed true false a b l = refl
pushed false true a b l = refl
pushed false false a b l = refl

answers_last : (cs : List Call) (s : State) (t : ℕ) (c : Call)
    → answers s t (cs ++ c ∷ []) ≡ cond (eqb c.caller t) (answers s t cs ++ judge (run s cs) c ∷ []) (answers s t cs)
unfolding answers run
answers_last [] s t c = refl
answers_last (d ∷ cs) s t c =
    rw (answers_last cs (after s d) t c) (pushed (eqb d.caller t) (eqb c.caller t) (judge s d) (judge (run (after s d) cs) c) (answers (after s d) t cs))

heard_call : (n : ℕ) (s : State) (log : List ℕ) → 16 * suc n ≤ length log → heard (ran_to s log n) (part_at log n) ≡ judge (run s (calls_to log n)) (call_of (part_at log n))
heard_call n s log h =
    heard_whole (ran_to s log n) (part_at log n) (whole_part log n h)
    ∙ ap (λ (x : State). judge x (call_of (part_at log n))) (log_runs n s log (omega arith))

-- the buffer holds t's answers
replies_are :
    (n : ℕ) (s : State) (log out : List ℕ) (t : ℕ) → 16 * n ≤ length log → ((k : ℕ) → k < n → answer_in out k ≡ heard (ran_to s log k) (part_at log k)) →
    replies_to log out t n ≡ answers s t (calls_to log n)
unfolding replies_to calls_to answers
replies_are zero s log out t h f = refl
replies_are (suc n) s log out t h f =
    rw (replies_are n s log out t (omega arith) (λ k l. f k (omega arith)), f n (omega arith) ∙ heard_call n s log h)
    (sym (answers_last (calls_to log n) s t (call_of (part_at log n))))

-- what an OK of `run` says of the views and the buffer
record ByCalls (s s' : State) (log out' : List ℕ) : Type 0 where
  state : s' ≡ run s (calls_of log)
  replies : (t : ℕ) → replies_of log out' t ≡ answers s t (calls_of log)

by_calls : {os ts ss log out os' ts' ss' out' : List ℕ} {r : Ran} → Run os ts ss log out r os' ts' ss' out' → Finished os ts ss log out
    → ByCalls (state_of os ts ss) (state_of os' ts' ss') log out'
by_calls {os} {ts} {ss} {log} {out} {os'} {ts'} {ss'} {out'} d f =
    record {
      state = all_left d f ∙ whole_state (state_of os ts ss) log;
      replies = λ t. replies_are (length log / 16) (state_of os ts ss) log out' t (omega arith) there;
    }
  where
    inside : length log / 16 ≤ parts_in (length log)
    inside = omega arith

    there : (k : ℕ) → k < length log / 16 → answer_in out' k ≡ heard (ran_to (state_of os ts ss) log k) (part_at log k)
    there k h =
        let a = holds (state_of os ts ss) log out (parts_in (length log)) k f.room (omega (arith, inside)) in
        rw (all_told d f) (λ i. record { code = a.code i; value = a.value i })

-- two runs that are answered OK, without a supervisor's call, that begin alike to u and show it the same: the same answers to u's own calls, where the
-- buffers hold them, and tables that agree on its view afterwards
pub noninterference_tables :
    (u : ℕ) {os₁ ts₁ ss₁ log₁ out₁ os₁' ts₁' ss₁' out₁' os₂ ts₂ ss₂ log₂ out₂ os₂' ts₂' ss₂' out₂' : List ℕ} {r₁ r₂ : Ran} →
    Run os₁ ts₁ ss₁ log₁ out₁ r₁ os₁' ts₁' ss₁' out₁' → Run os₂ ts₂ ss₂ log₂ out₂ r₂ os₂' ts₂' ss₂' out₂' → r₁.code ≡ 0 → r₂.code ≡ 0 →
    Agree (state_of os₁ ts₁ ss₁) (state_of os₂ ts₂ ss₂) u →
    Unprivileged (state_of os₁ ts₁ ss₁) (calls_of log₁) → Unprivileged (state_of os₂ ts₂ ss₂) (calls_of log₂) →
    trace (state_of os₁ ts₁ ss₁) u (calls_of log₁) ≡ trace (state_of os₂ ts₂ ss₂) u (calls_of log₂) →
    (replies_of log₁ out₁' u ≡ replies_of log₂ out₂' u) × Agree (state_of os₁' ts₁' ss₁') (state_of os₂' ts₂' ss₂') u
noninterference_tables u {os₁} {ts₁} {ss₁} {log₁} {out₁} {os₁'} {ts₁'} {ss₁'} {out₁'} {os₂} {ts₂} {ss₂} {log₂} d₁ d₂ z₁ z₂ g q₁ q₂ p =
    let f₁ = run_finished d₁ z₁ in
    let f₂ = run_finished d₂ z₂ in
    let w₁ = by_calls d₁ f₁ in
    let w₂ = by_calls d₂ f₂ in
    let i = noninterference (calls_of log₁) (calls_of log₂) (state_of os₁ ts₁ ss₁) (state_of os₂ ts₂ ss₂) u f₁.sound.keeps f₂.sound.keeps g q₁ q₂ p in
    (w₁.replies u ∙ i.replies ∙ sym (w₂.replies u), rw (w₁.state, w₂.state) i.view)
