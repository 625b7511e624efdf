-- What the rules give, call by call and in whole runs: an unprivileged caller changes no type, no flag, no slot and no thread but its own record, and that only
-- by its exit; memory rights change only by a supervisor's calls; no access comes from an exit.
use Prim.Native.Nat.{ℕ, ◌<◌}
use native.Mathlib.Decide.{ℕ_discrete}
use native.Mathlib.Omega.{arith}
use mathlib.Core.Path.{◌≡◌, refl, sym, ap, ◌∙◌, subst}
use mathlib.Core.Logic.{◌≢◌, ◌↔◌}
use mathlib.Core.Bool.{Bool, true, false, cond, ◌&&◌, ◌||◌, false≢true}
use mathlib.Core.List.{List, [], ◌∷◌}
use lib.Dec.{eqb}
use Rattle.domain_rules.proofs.All.{both_true}
use Rattle.bits.specs.Bit.{is_set}
use Rattle.userspace_decide.specs.Decide.{INITIALISED, PUBLIC}
use Rattle.userspace.specs.Userspace.{THREADS, initialised, public}
use Rattle.tables.specs.Table.{nobody}
use Rattle.tables.specs.State.{State, object, thread, domain}
use Rattle.rules.specs.Rules.{is_live, is_supervisor, Keeps}
use Rattle.mem_check.specs.Memory.{is_covered}
use Rattle.decoding.specs.declared.Call.{Call}
use Rattle.decoding.specs.Calls.{check, exit, op_of}
use Rattle.judging.specs.Judge.{live, supervisor, type_of, may_use, judge}
use Rattle.judging.specs.Change.{after}
use Rattle.call_laws.proofs.Keeps.{keeps_after}
use Rattle.call_laws.proofs.Operations.{check_ok_means, check_ok_when}
use Rattle.call_laws.proofs.Changes.{Ended, after_refused, exit_does}
use Rattle.isolation.specs.Trace.{run, Unprivileged}
use Rattle.isolation.specs.Rights.{may_touch, asks_byte, NoSupervisor}
use Rattle.isolation.proofs.Step.{Step, refuses, validates, checks, grants, releases, exits, step, Fixed, fixed_refl, fixed_trans, same_threads, one_fixed, ended_fixed, still_fixed}
use Rattle.isolation.proofs.Views.{access_by}
use Rattle.isolation.proofs.Own.{ended_access}

-- ---- one call by an unprivileged caller

-- a thread's record is as it was, or all zero by its own exit
pub data Remains (s : State) (c : Call) (t : ℕ) : Type 0 where
  same : thread (after s c) t ≡ thread s t → Remains s c t
  gone : (judge s c).code ≡ 0 → op_of c.op ≡ exit → t ≡ c.caller → thread (after s c) t ≡ nobody → Remains s c t

module _ (s : State) (c : Call) (k : Keeps s) (u : supervisor s c.caller ≡ false) where
  pub unprivileged_fixed : Fixed s (after s c)
  unprivileged_fixed = go (step s c k u)
    where
      go : Step s c → Fixed s (after s c)
      go (refuses _ e) = still_fixed e
      go (validates _ _ e) = still_fixed e
      go (checks _ _ e) = still_fixed e
      go (grants _ _ r) = one_fixed r
      go (releases _ _ r) = one_fixed r
      go (exits _ _ r) = ended_fixed r

  pub unprivileged_type : (h : ℕ) → type_of (after s c) h ≡ type_of s h
  unprivileged_type = unprivileged_fixed.kinds

  pub unprivileged_public : (h : ℕ) → public (object (after s c) h) ≡ public (object s h)
  unprivileged_public h = ap (λ (f : ℕ). is_set f PUBLIC) (unprivileged_fixed.flags h)

  pub unprivileged_init : (h : ℕ) → initialised (object (after s c) h) ≡ initialised (object s h)
  unprivileged_init h = ap (λ (f : ℕ). is_set f INITIALISED) (unprivileged_fixed.flags h)

  pub unprivileged_slots : (d : ℕ) → domain (after s c) d ≡ domain s d
  unprivileged_slots = unprivileged_fixed.domains

  pub unprivileged_thread : (t : ℕ) → Remains s c t
  unprivileged_thread t = go (step s c k u)
    where
      by : (judge s c).code ≡ 0 → op_of c.op ≡ exit → Ended s (after s c) c.caller → Dec (t ≡ c.caller) → Remains s c t
      by e o r (yes q) = gone e o q (ap (thread (after s c)) q ∙ r.here)
      by e o r (no n) = same (r.others t n)

      go : Step s c → Remains s c t
      go (refuses _ e) = same (rw e)
      go (validates _ _ e) = same (rw e)
      go (checks _ _ e) = same (rw e)
      go (grants _ _ r) = same (same_threads s (after s c) r.threads t)
      go (releases _ _ r) = same (same_threads s (after s c) r.threads t)
      go (exits e o r) = by e o r (ℕ_discrete t c.caller)

  -- another's record: its role, its domain, its handle
  pub unprivileged_others : (t : ℕ) → t ≢ c.caller → thread (after s c) t ≡ thread s t
  unprivileged_others t n = go (unprivileged_thread t)
    where
      go : Remains s c t → thread (after s c) t ≡ thread s t
      go (same e) = e
      go (gone _ _ q _) = absurd (n q)

  -- nobody becomes a supervisor
  pub no_rise : (t : ℕ) → supervisor s t ≡ false → supervisor (after s c) t ≡ false
  no_rise t v = go (unprivileged_thread t)
    where
      go : Remains s c t → supervisor (after s c) t ≡ false
      go (same e) = ap is_supervisor e ∙ v
      go (gone _ _ _ e) = ap is_supervisor e

-- ---- memory rights

-- they go by the thread's record and the slots
touch_same : (s s' : State) (t : ℕ) → thread s' t ≡ thread s t → domain s' (thread s t).domain ≡ domain s (thread s t).domain
    → (write : Bool) (x : ℕ) → may_touch s' t write x ≡ may_touch s t write x
unfolding may_touch
touch_same s s' t e d write x = rw (e, d)

touch_dead : (s : State) (t : ℕ) → live s t ≡ false → (write : Bool) (x : ℕ) → may_touch s t write x ≡ false
unfolding may_touch
touch_dead s t e write x = rw e

-- a call that changed a right of t was a supervisor's, or t's own exit, which left it none
pub data RightsBy (s : State) (c : Call) (t : ℕ) : Type 0 where
  by_supervisor : supervisor s c.caller ≡ true → RightsBy s c t
  by_own_exit : op_of c.op ≡ exit → t ≡ c.caller → ((write : Bool) (x : ℕ) → may_touch (after s c) t write x ≡ false) → RightsBy s c t

pub memory_rights : (s : State) (c : Call) (t : ℕ) (write : Bool) (x : ℕ) → Keeps s → may_touch (after s c) t write x ≢ may_touch s t write x → RightsBy s c t
memory_rights s c t write x k n = go (supervisor s c.caller) refl
  where
    by : supervisor s c.caller ≡ false → Remains s c t → RightsBy s c t
    by u (same e) = absurd (n (touch_same s (after s c) t e (unprivileged_slots s c k u (thread s t).domain) write x))
    by u (gone _ o q e) = by_own_exit o q (touch_dead (after s c) t (ap is_live e))

    go : (b : Bool) → supervisor s c.caller ≡ b → RightsBy s c t
    go true e = by_supervisor e
    go false e = by e (unprivileged_thread s c k e t)

-- and they are what the memory check of one byte answers
is_check : (t : ℕ) (write : Bool) (x : ℕ) → op_of (asks_byte t write x).op ≡ check
unfolding op_of
is_check t write x = refl

right_is : (write : Bool) → eqb (cond write 1 0) 1 ≡ write
right_is true = refl
right_is false = refl

right_small : (write : Bool) → cond write 1 0 < 2
right_small true = omega arith
right_small false = omega arith

pub touch_checked :
    (s : State) (t : ℕ) (write : Bool) (x : ℕ) → t < THREADS → x < 4294967295 → ((judge s (asks_byte t write x)).code ≡ 0) ↔ (may_touch s t write x ≡ true)
unfolding may_touch
touch_checked s t write x b e = (there, back)
  where
    held : live s t ≡ true → (v : Bool) → supervisor s t ≡ v → (v ≡ false → is_covered (domain s (thread s t).domain) write x ≡ true)
        → live s t && (v || is_covered (domain s (thread s t).domain) write x) ≡ true
    held l true p f = rw l
    held l false p f = rw (l, f refl)

    there : (judge s (asks_byte t write x)).code ≡ 0 → live s t && (supervisor s t || is_covered (domain s (thread s t).domain) write x) ≡ true
    there a =
        let g = check_ok_means s (asks_byte t write x) (is_check t write x) a in
        held g.lives (supervisor s t) refl (λ v. rw (right_is write) at (g.covered v x (omega arith) (omega arith)))

    back : live s t && (supervisor s t || is_covered (domain s (thread s t).domain) write x) ≡ true → (judge s (asks_byte t write x)).code ≡ 0
    back a =
        let (l, p) = both_true (live s t) _ a in
        check_ok_when s (asks_byte t write x) (is_check t write x)
        (record {
          caller = b;
          lives = l;
          unused_a = refl;
          right = right_small write;
          length = λ q. omega arith;
          ends = omega arith;
          covered = λ v y m n. let q : y ≡ x = omega arith in rw (q, right_is write) (rw v at p);
        })

-- ---- access and exits

-- who has access after an exit, anybody's, had it before
pub no_access_by_exit : (s : State) (c : Call) (t h : ℕ) → Keeps s → op_of c.op ≡ exit → may_use (after s c) t h ≡ true → may_use s t h ≡ true
no_access_by_exit s c t h k o p = go (ℕ_discrete (judge s c).code 0)
  where
    by : Ended s (after s c) c.caller → Dec (t ≡ c.caller) → may_use s t h ≡ true
    by r (yes e) = ended_access t (subst (Ended s (after s c)) (sym e) r) h p
    by r (no n) = access_by s (after s c) t h (rw (r.others t n)) (rw (r.objects h).flags) (sym ((r.objects h).others t n)) ∙ p

    go : Dec ((judge s c).code ≡ 0) → may_use s t h ≡ true
    go (yes e) = by (exit_does s c k e o) (ℕ_discrete t c.caller)
    go (no n) = rw (after_refused s c n) at p

-- ---- runs

stays_quiet : (s : State) (c : Call) → Keeps s → supervisor s c.caller ≡ false → (cs : List Call) → NoSupervisor s cs → NoSupervisor (after s c) cs
unfolding NoSupervisor
stays_quiet s c k u [] q = tt
stays_quiet s c k u (d ∷ cs) q = (no_rise s c k u d.caller q.0, stays_quiet s c k u cs q.1)

-- the callers' roles at the start decide: without a supervisor's call no thread becomes one
pub quiet : (cs : List Call) (s : State) → Keeps s → NoSupervisor s cs → Unprivileged s cs
unfolding NoSupervisor Unprivileged
quiet [] s k q = tt
quiet (c ∷ cs) s k q = (q.0, quiet cs (after s c) (keeps_after s c k) (stays_quiet s c k q.0 cs q.1))

pub run_fixed : (cs : List Call) (s : State) → Keeps s → Unprivileged s cs → Fixed s (run s cs)
unfolding run Unprivileged
run_fixed [] s k q = fixed_refl s
run_fixed (c ∷ cs) s k q = fixed_trans (unprivileged_fixed s c k q.0) (run_fixed cs (after s c) (keeps_after s c k) q.1)

-- a thread that lives at the end has the record that it had, so its role and domain
pub run_thread : (cs : List Call) (s : State) (t : ℕ) → Keeps s → Unprivileged s cs → live (run s cs) t ≡ true → thread (run s cs) t ≡ thread s t
unfolding run Unprivileged
run_thread [] s t k q l = refl
run_thread (c ∷ cs) s t k q l = go (run_thread cs (after s c) t (keeps_after s c k) q.1 l) (unprivileged_thread s c k q.0 t)
  where
    go : thread (run (after s c) cs) t ≡ thread (after s c) t → Remains s c t → thread (run (after s c) cs) t ≡ thread s t
    go e (same p) = e ∙ p
    go e (gone _ _ _ p) = absurd (false≢true (sym (ap is_live (e ∙ p)) ∙ l))

-- and the memory rights that it had
pub run_rights :
    (cs : List Call) (s : State) (t : ℕ) → Keeps s → Unprivileged s cs → live (run s cs) t ≡ true →
    (write : Bool) (x : ℕ) → may_touch (run s cs) t write x ≡ may_touch s t write x
run_rights cs s t k q l write x = touch_same s (run s cs) t (run_thread cs s t k q l) ((run_fixed cs s k q).domains (thread s t).domain) write x
