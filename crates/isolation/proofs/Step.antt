-- What a call by an unprivileged caller does, whatever it is: one of six things. And what all six leave as it was.
use Prim.Native.Nat.{ℕ}
use native.Mathlib.Decide.{ℕ_discrete}
use mathlib.Core.Path.{◌≡◌, refl, sym, ap, ◌∙◌}
use mathlib.Core.Logic.{◌≢◌}
use mathlib.Core.Bool.{Bool, true, false, true≢false}
use Rattle.userspace.specs.declared.KernelObject.{KernelObject}
use Rattle.tables.specs.State.{State, object, thread, domain}
use Rattle.rules.specs.Rules.{Keeps}
use Rattle.decoding.specs.declared.Call.{Call}
use Rattle.decoding.specs.Calls.{Op, validate, grant, release, check, exit, sup, unknown, op_of}
use Rattle.judging.specs.Judge.{supervisor, is_unknown, is_privileged, judge}
use Rattle.judging.specs.Change.{after}
use Rattle.judging.specs.Passed.{in_range}
use Rattle.call_laws.proofs.Changes.{BitIs, OneObject, Ended, after_refused, validate_does, check_does, grant_does, release_does, exit_does}

pub data Step (s : State) (c : Call) : Type 0 where
  refuses : (judge s c).code ≢ 0 → after s c ≡ s → Step s c
  validates : (judge s c).code ≡ 0 → op_of c.op ≡ validate → after s c ≡ s → Step s c
  checks : (judge s c).code ≡ 0 → op_of c.op ≡ check → after s c ≡ s → Step s c
  grants : (judge s c).code ≡ 0 → op_of c.op ≡ grant → OneObject s (after s c) c.a (BitIs true c.b) → Step s c
  releases : (judge s c).code ≡ 0 → op_of c.op ≡ release → OneObject s (after s c) c.a (BitIs false c.caller) → Step s c
  exits : (judge s c).code ≡ 0 → op_of c.op ≡ exit → Ended s (after s c) c.caller → Step s c

pub step : (s : State) (c : Call) → Keeps s → supervisor s c.caller ≡ false → Step s c
unfolding is_unknown is_privileged
step s c k u = go (ℕ_discrete (judge s c).code 0)
  where
    by : (judge s c).code ≡ 0 → (o : Op) → op_of c.op ≡ o → Step s c
    by e validate o = validates e o (validate_does s c k e o)
    by e grant o = grants e o (grant_does s c k e o)
    by e release o = releases e o (release_does s c k e o)
    by e check o = checks e o (check_does s c k e o)
    by e exit o = exits e o (exit_does s c k e o)
    by e (sup p) o = absurd (true≢false (sym ((in_range s c e).rank (ap is_privileged o)) ∙ u))
    by e unknown o = absurd (true≢false (sym (ap is_unknown o) ∙ (in_range s c e).known))

    go : Dec ((judge s c).code ≡ 0) → Step s c
    go (yes e) = by e (op_of c.op) refl
    go (no n) = refuses n (after_refused s c n)

-- ---- what stays: types, flags, slots, and every thread but one

pub record Fixed (s s' : State) : Type 0 where
  pub kinds : (h : ℕ) → (object s' h).obj_type ≡ (object s h).obj_type
  pub flags : (h : ℕ) → (object s' h).flags ≡ (object s h).flags
  pub domains : (d : ℕ) → domain s' d ≡ domain s d

pub fixed_refl : (s : State) → Fixed s s
fixed_refl s = record { kinds = λ h. refl; flags = λ h. refl; domains = λ d. refl }

pub fixed_trans : {s s' s'' : State} → Fixed s s' → Fixed s' s'' → Fixed s s''
fixed_trans f g =
    record { kinds = λ h. g.kinds h ∙ f.kinds h; flags = λ h. g.flags h ∙ f.flags h; domains = λ d. g.domains d ∙ f.domains d }

same_domains : (s s' : State) → s'.domains ≡ s.domains → (d : ℕ) → domain s' d ≡ domain s d
unfolding domain
same_domains s s' e d = rw e

pub same_threads : (s s' : State) → s'.threads ≡ s.threads → (u : ℕ) → thread s' u ≡ thread s u
unfolding thread
same_threads s s' e u = rw e

-- a field of one object that its change leaves stays everywhere
pub one_field : {A : Type 0} (f : KernelObject → A) {s s' : State} {a : ℕ} {R : KernelObject → KernelObject → Type 0} → OneObject s s' a R → f (object s' a) ≡ f (object s a) → (h : ℕ) → f (object s' h) ≡ f (object s h)
one_field f {s} {s'} {a} r e h = go (ℕ_discrete h a)
  where
    go : Dec (h ≡ a) → f (object s' h) ≡ f (object s h)
    go (yes q) = rw q e
    go (no n) = ap f (r.others h n)

module _ {s s' : State} where
  pub one_fixed : {a t : ℕ} {b : Bool} → OneObject s s' a (BitIs b t) → Fixed s s'
  one_fixed r =
      record {
        kinds = one_field (λ o. o.obj_type) r r.here.kind;
        flags = one_field (λ o. o.flags) r r.here.flags;
        domains = same_domains s s' r.domains;
      }

  pub ended_fixed : {v : ℕ} → Ended s s' v → Fixed s s'
  ended_fixed r = record { kinds = λ h. (r.objects h).kind; flags = λ h. (r.objects h).flags; domains = same_domains s s' r.domains }

  pub still_fixed : s' ≡ s → Fixed s s'
  still_fixed e = rw e (fixed_refl s)
