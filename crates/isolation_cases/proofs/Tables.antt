-- The theorems on the tables of numbers, through the promise of `calls::call` itself: a thread's own calls, the others', and where a permission came from.
-- Bytes and tables of any number and content, unless a theorem says more; and a log as a run of calls.
use Prim.Native.Nat.{ℕ, zero, suc, ◌-◌, ◌*◌, ◌≤◌, ◌<◌, min}
use native.Mathlib.Decide.{dec_lt, ℕ_discrete}
use native.Mathlib.Omega.{arith}
use mathlib.Core.Path.{◌≡◌, refl, sym, ap, ◌∙◌}
use mathlib.Core.Logic.{◌≢◌}
use mathlib.Core.Bool.{true, false, false≢true}
use mathlib.Core.List.{List, [], ◌∷◌, ◌++◌}
use lib.ListN.{length, length-take, length-drop}
use Rattle.answer.specs.declared.Answer.{Answer}
use Rattle.tables.specs.State.{State, state_of}
use Rattle.rules.specs.Rules.{Sound}
use Rattle.decoding.specs.declared.Call.{Call}
use Rattle.decoding.specs.Calls.{grant, exit, op_of, call_of}
use Rattle.judging.specs.Judge.{supervisor, judge_in, heard}
use Rattle.judging.specs.Change.{after, left}
use Rattle.call_laws.proofs.Order.{left_other, left_whole}
use Rattle.calls.specs.Calls.{Called, part_at, ran_to}
use Rattle.calls.proofs.Left.{state_left}
use Rattle.calls.proofs.Refused.{Untouched, refused_untouched, Accepted, call_accepted}
use Rattle.isolation.specs.View.{bit_at, Agree, GivenOf, GoneOf}
use Rattle.isolation.specs.Trace.{run, GainBy}
use Rattle.isolation.proofs.Views.{agree_refl}
use Rattle.isolation.proofs.Own.{Alike, own_bytes}
use Rattle.isolation.proofs.Others.{others_call, others_grant, others_exit}
use Rattle.isolation.proofs.Gain.{gain_call}

-- ---- a thread's own call

-- two runs of `call` on tables that agree on t's view: the same answer, and tables that agree on it again
pub own_tables :
    (t : ℕ) (bs : List ℕ) {os₁ ts₁ ss₁ os₂ ts₂ ss₂ os₁' ts₁' ss₁' os₂' ts₂' ss₂' : List ℕ} {r₁ r₂ : Answer} → (call_of bs).caller ≡ t →
    Sound os₁ ts₁ ss₁ → Sound os₂ ts₂ ss₂ → Agree (state_of os₁ ts₁ ss₁) (state_of os₂ ts₂ ss₂) t → supervisor (state_of os₁ ts₁ ss₁) t ≡ false →
    Called os₁ ts₁ ss₁ bs r₁ os₁' ts₁' ss₁' → Called os₂ ts₂ ss₂ bs r₂ os₂' ts₂' ss₂' →
    Alike r₁ r₂ (state_of os₁' ts₁' ss₁') (state_of os₂' ts₂' ss₂') t
own_tables t bs {os₁} {ts₁} {ss₁} {os₂} {ts₂} {ss₂} e z₁ z₂ g u d₁ d₂ =
    let p = state_left z₁ bs d₁ in
    let q = state_left z₂ bs d₂ in
    let a = own_bytes (state_of os₁ ts₁ ss₁) (state_of os₂ ts₂ ss₂) t bs e z₁.keeps z₂.keeps g u in
    record { answer = p.answer ∙ a.answer ∙ sym q.answer; view = rw (p.state, q.state) a.view }

-- ---- any one call, of tables that keep the rules or not

module _ {os ts ss bs os' ts' ss' : List ℕ} {r : Answer} (d : Called os ts ss bs r os' ts' ss') where
  accepted_state : Accepted os ts ss bs → state_of os' ts' ss' ≡ after (state_of os ts ss) (call_of bs)
  accepted_state w = (state_left w.sound bs d).state ∙ left_whole (state_of os ts ss) bs w.whole

  refused_state : r.code ≢ 0 → state_of os' ts' ss' ≡ state_of os ts ss
  refused_state n = let t = refused_untouched d n in rw (t.objects, t.threads, t.slots)

  -- another unprivileged thread's: u's view stays, unless it was accepted and is a grant to u or an exit
  pub others_tables :
      (u : ℕ) → supervisor (state_of os ts ss) (call_of bs).caller ≡ false → (call_of bs).caller ≢ u →
      (r.code ≡ 0 → op_of (call_of bs).op ≡ grant → (call_of bs).b ≢ u) → (r.code ≡ 0 → op_of (call_of bs).op ≢ exit) →
      Agree (state_of os ts ss) (state_of os' ts' ss') u
  others_tables u p n ng nx = go (ℕ_discrete r.code 0)
    where
      go : Dec (r.code ≡ 0) → Agree (state_of os ts ss) (state_of os' ts' ss') u
      go (yes z) =
          let w = call_accepted d z in rw (accepted_state w) (others_call (state_of os ts ss) (call_of bs) u w.sound.keeps p n (λ _. ng z) (λ _. nx z))
      go (no m) = rw (refused_state m) (agree_refl (state_of os ts ss) u)

  -- bytes that are not sixteen change no number
  pub bytes_tables : length bs ≢ 16 → Untouched os ts ss os' ts' ss'
  bytes_tables n = refused_untouched d (λ z. n (call_accepted d z).whole)

  -- the two exceptions: what a grant to u and another's exit change of u's view
  pub others_grant_tables :
      (u : ℕ) → r.code ≡ 0 → op_of (call_of bs).op ≡ grant → (call_of bs).b ≡ u → GivenOf (state_of os ts ss) (state_of os' ts' ss') (call_of bs).a u
  others_grant_tables u z o q =
      let w = call_accepted d z in rw (accepted_state w) (others_grant (state_of os ts ss) (call_of bs) u w.sound.keeps w.code o q)

  pub others_exit_tables :
      (u : ℕ) → r.code ≡ 0 → op_of (call_of bs).op ≡ exit → (call_of bs).caller ≢ u → GoneOf (state_of os ts ss) (state_of os' ts' ss') (call_of bs).caller u
  others_exit_tables u z o n =
      let w = call_accepted d z in rw (accepted_state w) (others_exit (state_of os ts ss) (call_of bs) u w.sound.keeps n w.code o)

  -- a bit that t holds afterwards and did not before: the answer was OK, to a supervisor or to a grant of just that by a caller with access
  pub gain_call_tables :
      (h t : ℕ) → bit_at (state_of os ts ss) h t ≡ false → bit_at (state_of os' ts' ss') h t ≡ true →
      (r.code ≡ 0) × Accepted os ts ss bs × GainBy (state_of os ts ss) (call_of bs) h t
  gain_call_tables h t n p = go (ℕ_discrete r.code 0)
    where
      go : Dec (r.code ≡ 0) → (r.code ≡ 0) × Accepted os ts ss bs × GainBy (state_of os ts ss) (call_of bs) h t
      go (yes z) =
          let w = call_accepted d z in
          (z, w, gain_call (state_of os ts ss) (call_of bs) h t n (ap (λ (x : State). bit_at x h t) (sym (accepted_state w)) ∙ p) w.sound.keeps)
      go (no m) = absurd (false≢true (sym n ∙ ap (λ (x : State). bit_at x h t) (sym (refused_state m)) ∙ p))

-- ---- a log is a run of calls

-- the calls of its first n parts
unfoldable pub calls_to : List ℕ → ℕ → List Call
calls_to log zero = []
calls_to log (suc k) = calls_to log k ++ call_of (part_at log k) ∷ []

run_last : (cs : List Call) (s : State) (c : Call) → run s (cs ++ c ∷ []) ≡ after (run s cs) c
unfolding run
run_last [] s c = refl
run_last (d ∷ cs) s c = run_last cs (after s d) c

pub whole_part : (log : List ℕ) (k : ℕ) → 16 * suc k ≤ length log → length (part_at log k) ≡ 16
whole_part log k h = simp (length-take, length-drop) (omega arith)

-- so what is proved of runs is proved of the state that `calls::run` promises after the whole parts of a log
pub log_runs : (n : ℕ) (s : State) (log : List ℕ) → 16 * n ≤ length log → ran_to s log n ≡ run s (calls_to log n)
unfolding ran_to calls_to run
log_runs zero s log h = refl
log_runs (suc k) s log h =
    left_whole (ran_to s log k) (part_at log k) (whole_part log k h)
    ∙ ap (λ (x : State). after x (call_of (part_at log k))) (log_runs k s log (omega arith))
    ∙ sym (run_last (calls_to log k) s (call_of (part_at log k)))

-- and a last part of under sixteen bytes changes nothing
pub log_ends : (n : ℕ) (s : State) (log : List ℕ) → length log < 16 * suc n → ran_to s log (suc n) ≡ ran_to s log n
unfolding ran_to
log_ends n s log h = left_other (ran_to s log n) (part_at log n) (λ e. short (sym e ∙ simp (length-take, length-drop)))
  where
    short : 16 ≡ min 16 (length log - 16 * n) → ⊥
    short e = omega arith
