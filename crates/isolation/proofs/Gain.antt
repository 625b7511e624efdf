-- A permission that a thread did not have came at some call, from a caller with access to that object at that moment or from a supervisor.
use Prim.Native.Nat.{ℕ}
use native.Mathlib.Decide.{ℕ_discrete}
use mathlib.Core.Path.{◌≡◌, refl, sym, ap, ◌∙◌}
use mathlib.Core.Logic.{◌≢◌}
use mathlib.Core.Bool.{Bool, true, false, false≢true}
use mathlib.Core.List.{List, [], ◌∷◌}
use Rattle.tables.specs.State.{State}
use Rattle.rules.specs.Rules.{Keeps}
use Rattle.decoding.specs.declared.Call.{Call}
use Rattle.judging.specs.Judge.{supervisor, judge}
use Rattle.judging.specs.Change.{after}
use Rattle.call_laws.proofs.Keeps.{keeps_after}
use Rattle.call_laws.proofs.Operations.{grant_ok_means}
use Rattle.call_laws.proofs.Changes.{after_refused}
use Rattle.isolation.specs.View.{bit_at}
use Rattle.isolation.specs.Trace.{run, GainBy, by_supervisor, by_grant, GainIn}
use Rattle.isolation.proofs.Step.{Step, refuses, validates, checks, grants, releases, exits, step}
use Rattle.isolation.proofs.Others.{put_bits}

module _ (s : State) (c : Call) (h t : ℕ) (n : bit_at s h t ≡ false) (p : bit_at (after s c) h t ≡ true) where
  -- what stays gives nothing
  stays_not : bit_at s h t ≡ bit_at (after s c) h t → ⊥
  stays_not e = false≢true (sym n ∙ e ∙ p)

  still_not : after s c ≡ s → ⊥
  still_not e = stays_not (ap (λ (x : State). bit_at x h t) (sym e))

  gain_accepted : (judge s c).code ≡ 0
  gain_accepted = go (ℕ_discrete (judge s c).code 0)
    where
      go : Dec ((judge s c).code ≡ 0) → (judge s c).code ≡ 0
      go (yes e) = e
      go (no f) = absurd (still_not (after_refused s c f))

  gain_step : Step s c → GainBy s c h t
  gain_step (refuses _ e) = absurd (still_not e)
  gain_step (validates _ _ e) = absurd (still_not e)
  gain_step (checks _ _ e) = absurd (still_not e)
  gain_step (grants e o r) = go (ℕ_discrete h c.a) (ℕ_discrete t c.b)
    where
      go : Dec (h ≡ c.a) → Dec (t ≡ c.b) → GainBy s c h t
      go (yes x) (yes y) = by_grant o (sym x) (sym y) (rw x (grant_ok_means s c o e).access)
      go (yes x) (no y) = absurd (stays_not (put_bits r h t (λ _. y)))
      go (no x) y = absurd (stays_not (put_bits r h t (λ q. absurd (x q))))
  gain_step (releases e o r) = go (ℕ_discrete h c.a) (ℕ_discrete t c.caller)
    where
      go : Dec (h ≡ c.a) → Dec (t ≡ c.caller) → GainBy s c h t
      go (yes x) (yes y) = absurd (false≢true (sym r.here.bit ∙ (rw (x, y) at p)))
      go (yes x) (no y) = absurd (stays_not (put_bits r h t (λ _. y)))
      go (no x) y = absurd (stays_not (put_bits r h t (λ q. absurd (x q))))
  gain_step (exits e o r) = go (ℕ_discrete t c.caller)
    where
      go : Dec (t ≡ c.caller) → GainBy s c h t
      go (yes y) = absurd (false≢true (sym (r.objects h).bit ∙ (rw y at p)))
      go (no y) = absurd (stays_not (sym ((r.objects h).others t y)))

  -- one call
  pub gain_call : Keeps s → GainBy s c h t
  gain_call k = go (supervisor s c.caller) refl
    where
      go : (b : Bool) → supervisor s c.caller ≡ b → GainBy s c h t
      go true e = by_supervisor e
      go false e = gain_step (step s c k e)

-- any run
pub gain : (cs : List Call) (s : State) (h t : ℕ) → Keeps s → bit_at s h t ≡ false → bit_at (run s cs) h t ≡ true → GainIn s cs h t
unfolding run
gain [] s h t k n p = absurd (false≢true (sym n ∙ p))
gain (c ∷ cs) s h t k n p = go (bit_at (after s c) h t) refl (λ m. gain cs (after s c) h t (keeps_after s c k) m p)
  where
    go : (b : Bool) → bit_at (after s c) h t ≡ b → (bit_at (after s c) h t ≡ false → GainIn (after s c) cs h t) → GainIn s (c ∷ cs) h t
    go true q later =
        record { before = []; call = c; rest = cs; split = refl; lacked = n; accepted = gain_accepted s c h t n q; has = q; by = gain_call s c h t n q k }
    go false q later =
        let r = later q in
        record {
          before = c ∷ r.before;
          call = r.call;
          rest = r.rest;
          split = ap (λ l. c ∷ l) r.split;
          lacked = r.lacked;
          accepted = r.accepted;
          has = r.has;
          by = r.by;
        }
