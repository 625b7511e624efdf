-- Another unprivileged thread's call leaves t's view as it was, but for an accepted grant to t and for the other's exit; and what these two change of it.
use Prim.Native.Nat.{ℕ, ◌<◌}
use native.Mathlib.Decide.{ℕ_discrete}
use mathlib.Core.Path.{◌≡◌, sym, ap}
use mathlib.Core.Logic.{◌≢◌, inr}
use mathlib.Core.Bool.{Bool, true, false}
use Rattle.userspace.specs.Userspace.{THREADS}
use Rattle.tables.specs.State.{State, thread, domain}
use Rattle.rules.specs.Rules.{is_live, Keeps}
use Rattle.decoding.specs.declared.Call.{Call}
use Rattle.decoding.specs.Calls.{grant, exit, op_of}
use Rattle.judging.specs.Judge.{supervisor, judge}
use Rattle.judging.specs.Change.{after}
use Rattle.call_laws.proofs.Conditions.{access_iff}
use Rattle.call_laws.proofs.Operations.{grant_ok_means}
use Rattle.call_laws.proofs.Changes.{BitIs, OneObject, Ended, grant_does, exit_does}
use Rattle.isolation.specs.View.{bit_at, Agree, GivenOf, GoneOf}
use Rattle.isolation.proofs.Step.{Step, refuses, validates, checks, grants, releases, exits, step, same_threads, one_fixed, ended_fixed}
use Rattle.isolation.proofs.Views.{access_by, agree_refl, agree_kept}

-- ---- one bit of one object

-- every bit but the one stays
pub put_bits : {s s' : State} {a v : ℕ} {b : Bool} → OneObject s s' a (BitIs b v) → (h u : ℕ) → (h ≡ a → u ≢ v) → bit_at s h u ≡ bit_at s' h u
put_bits {s} {s'} {a} {v} r h u n = go (ℕ_discrete h a)
  where
    go : Dec (h ≡ a) → bit_at s h u ≡ bit_at s' h u
    go (yes e) = rw e (sym (r.here.others u (n e)))
    go (no d) = rw (r.others h d)

pub put_agree : {s s' : State} {a v : ℕ} {b : Bool} {t : ℕ} → OneObject s s' a (BitIs b v) → t ≢ v → Agree s s' t
put_agree {s} {s'} {a} {v} {b} {t} r n = agree_kept (one_fixed r) (same_threads s s' r.threads) (λ h. put_bits r h t (λ _. n))

-- ---- a call by another leaves the view

pub others_call :
    (s : State) (c : Call) (t : ℕ) → Keeps s → supervisor s c.caller ≡ false → c.caller ≢ t →
    ((judge s c).code ≡ 0 → op_of c.op ≡ grant → c.b ≢ t) → ((judge s c).code ≡ 0 → op_of c.op ≢ exit) → Agree s (after s c) t
others_call s c t k u n ng nx = go (step s c k u)
  where
    go : Step s c → Agree s (after s c) t
    go (refuses _ e) = rw e (agree_refl s t)
    go (validates _ _ e) = rw e (agree_refl s t)
    go (checks _ _ e) = rw e (agree_refl s t)
    go (grants e o r) = put_agree r (λ q. ng e o (sym q))
    go (releases e o r) = put_agree r (λ q. n (sym q))
    go (exits e o r) = absurd (nx e o)

-- ---- a grant to t

given : {s s' : State} {a t : ℕ} → t < THREADS → OneObject s s' a (BitIs true t) → GivenOf s s' a t
given {s} {s'} {a} {t} b r =
    let f = one_fixed r in
    let p : (u : ℕ) → thread s' u ≡ thread s u = same_threads s s' r.threads in
    record {
      types = λ h. sym (f.kinds h);
      publics = λ h. rw (f.flags h);
      lives = λ u. rw (p u);
      handles = λ u _. rw (p u);
      own = sym (p t);
      slots = λ _. rw (p t) (sym (f.domains (thread s t).domain));
      bit = r.here.bit;
      bits = λ h n. put_bits r h t (λ e. absurd (n e));
      opens = (access_iff s' t a).1 (inr (inr (b, r.here.bit)));
      access = λ h n. access_by s s' t h (rw (p t)) (rw (f.flags h)) (put_bits r h t (λ e. absurd (n e)));
      inits = λ h. rw (f.flags h);
    }

pub others_grant :
    (s : State) (c : Call) (t : ℕ) → Keeps s → (judge s c).code ≡ 0 → op_of c.op ≡ grant → c.b ≡ t → GivenOf s (after s c) c.a t
others_grant s c t k e o q = rw (← q) (given (grant_ok_means s c o e).target (grant_does s c k e o))

-- ---- another's exit

gone : {s s' : State} {v t : ℕ} → t ≢ v → Ended s s' v → GoneOf s s' v t
gone {s} {s'} {v} {t} n r =
    let f = ended_fixed r in
    record {
      types = λ h. sym (f.kinds h);
      publics = λ h. rw (f.flags h);
      own = sym (r.others t n);
      bits = λ h. sym ((r.objects h).others t n);
      inits = λ h _. rw (f.flags h);
      slots = λ _. rw (r.others t n) (sym (f.domains (thread s t).domain));
      dead = ap is_live r.here;
      lives = λ u d. rw (r.others u d);
      handles = λ u d _. rw (r.others u d);
    }

pub others_exit : (s : State) (c : Call) (t : ℕ) → Keeps s → c.caller ≢ t → (judge s c).code ≡ 0 → op_of c.op ≡ exit → GoneOf s (after s c) c.caller t
others_exit s c t k n e o = gone (λ q. n (sym q)) (exit_does s c k e o)
