-- The pass over the threads: what holds after t turns, and what the code may answer then.
use Prim.Native.Nat.{ℕ, zero, suc, ◌+◌, ◌/◌, ◌%◌, ◌≤◌, ◌<◌}
use native.Mathlib.Decide.{ℕ_discrete}
use native.Mathlib.Omega.{arith}
use mathlib.Core.Path.{◌≡◌, refl, sym, ap, ◌∙◌}
use mathlib.Core.Logic.{◌≢◌}
use mathlib.Core.Bool.{Bool, true, false, cond, not, ◌&&◌, ◌||◌}
use mathlib.Core.List.{List}
use lib.Dec.{eqb}
use Rattle.std.proofs.Common.{Some, None}
use lib.ListN.{length, get_or, set, length-set, replicate}
use lib.Seq.{get_or-set_same, get_or-set_other}
use borrow.Author.Tests.{eq-eqb, ne_eqb, not-true, not-false}
use Rattle.domain_rules.specs.Scan.{all_to}
use Rattle.domain_rules.proofs.All.{both, all_step, all_fails, all_none, all_more, isnt_true}
use Rattle.bits.specs.Bit.{bit_of, is_set, set_bit, set_same, set_other}
use Rattle.userspace.specs.Userspace.{THREADS}
use Rattle.tables.specs.declared.Thread.{Thread}
use Rattle.tables.specs.Table.{HANDLES, thread_at}
use Rattle.rules.proofs.Rules.{live_handle}
use Rattle.rules.specs.Rules.{live_to, thread_ok, unserved, thread_sound, is_served, serving, judged_threads}
use Rattle.rules.proofs.Bits.{one_set, zero_unset, live_none, live_hit, live_miss}

and_true_right : (b : Bool) → (b && true) ≡ b
and_true_right true = refl
and_true_right false = refl

and_false_right : (b : Bool) → (b && false) ≡ false
and_false_right true = refl
and_false_right false = refl

or_true : (b : Bool) → (b || true) ≡ true
or_true true = refl
or_true false = refl

bits_same : (v w t : ℕ) → bit_of v t ≡ bit_of w t → is_set v t ≡ is_set w t
unfolding is_set
bits_same v w t e = rw e

-- ---- the set of handles
zeros : (i : ℕ) → ◌≡◌ {A = ℕ} (get_or (replicate 4 0) i 0) 0
zeros zero = refl
zeros (suc zero) = refl
zeros (suc (suc zero)) = refl
zeros (suc (suc (suc zero))) = refl
zeros (suc (suc (suc (suc i)))) = refl

none_served : (h : ℕ) → is_served (replicate 4 0) h ≡ false
unfolding is_served
none_served h = rw (zeros (h / 64)) (isnt_true (is_set 0 (h % 64)) (zero_unset (h % 64)))

pub served_same : (l : List ℕ) (h : ℕ) → h / 64 < length l → is_served (serving l h) h ≡ true
unfolding is_served serving
served_same l h g =
    rw (get_or-set_same l (h / 64) (set_bit (get_or l (h / 64) 0) (h % 64)) 0 g)
    (one_set _ _ (set_same (get_or l (h / 64) 0) (h % 64)))

pub served_other : (l : List ℕ) (h k : ℕ) → k ≢ h → h / 64 < length l → is_served (serving l h) k ≡ is_served l k
unfolding is_served serving
served_other l h k ne g = go (ℕ_discrete (k / 64) (h / 64))
  where
    go : Dec (k / 64 ≡ h / 64) → is_set (get_or (set l (h / 64) (set_bit (get_or l (h / 64) 0) (h % 64))) (k / 64) 0) (k % 64) ≡ is_set (get_or l (k / 64) 0) (k % 64)
    go (yes e) =
        rw (e, get_or-set_same l (h / 64) (set_bit (get_or l (h / 64) 0) (h % 64)) 0 g) (bits_same _ _ (k % 64) (set_other (get_or l (h / 64) 0) (h % 64) (k % 64) (λ q. ne (omega arith))))
    go (no f) = rw (get_or-set_other l (h / 64) (k / 64) (set_bit (get_or l (h / 64) 0) (h % 64)) 0 f)

-- ---- after t turns
pub record Passing (os ts : List ℕ) (live : ℕ) (served : List ℕ) (t : ℕ) : Type 0 where
  pub within : t ≤ THREADS
  pub sound : all_to (thread_sound os ts) t ≡ true
  pub lives : live ≡ live_to ts t
  pub size : length served ≡ 4
  pub handles : (h : ℕ) → h < HANDLES → is_served served h ≡ not (unserved ts h t)

module _ (os ts : List ℕ) where
  pub pass_none : Passing os ts 0 (replicate 4 0) 0
  pass_none =
      record {
        within = omega arith;
        sound = all_none (thread_sound os ts);
        lives = sym (live_none ts);
        size = refl;
        handles = λ h l. none_served h ∙ sym (ap not (all_none (λ u. eqb (thread_at ts u).role 0 || not (eqb (thread_at ts u).handle h))));
      }

  module _ (live : ℕ) (served : List ℕ) (t : ℕ) (p : Passing os ts live served t) (l : t < THREADS) where
    step : (h : ℕ) → unserved ts h (t + 1) ≡ (unserved ts h t && (eqb (thread_at ts t).role 0 || not (eqb (thread_at ts t).handle h)))
    step h = all_step (λ u. eqb (thread_at ts u).role 0 || not (eqb (thread_at ts u).handle h)) t

    stays : (h : ℕ) → eqb (thread_at ts t).role 0 ≡ true → unserved ts h (t + 1) ≡ unserved ts h t
    stays h e = step h ∙ rw e (and_true_right (unserved ts h t))

    sound_dead : thread_ok os (thread_at ts t) ≡ true → eqb (thread_at ts t).role 0 ≡ true → thread_sound os ts t ≡ true
    unfolding thread_sound
    sound_dead k z = both k (rw z)

    pub pass_dead : thread_ok os (thread_at ts t) ≡ true → (thread_at ts t).role ≡ 0 → Passing os ts live served (t + 1)
    pass_dead k z =
        let e : eqb (thread_at ts t).role 0 ≡ true = eq-eqb _ 0 z in
        record {
          within = omega arith;
          sound = all_more (thread_sound os ts) t p.sound (sound_dead k e);
          lives = p.lives ∙ sym (live_miss ts t (ap not e));
          size = p.size;
          handles = λ h g. p.handles h g ∙ sym (ap not (stays h e));
        }

    sound_live : thread_ok os (thread_at ts t) ≡ true → unserved ts (thread_at ts t).handle t ≡ true → thread_sound os ts t ≡ true
    unfolding thread_sound
    sound_live k u = both k (rw u (or_true (eqb (thread_at ts t).role 0)))

    unsound_served : ((thread_at ts t).role ≡ 0 → ⊥) → unserved ts (thread_at ts t).handle t ≡ false → thread_sound os ts t ≡ false
    unfolding thread_sound
    unsound_served z u = rw (ne_eqb _ 0 z, u) (and_false_right (thread_ok os (thread_at ts t)))

    unsound_bad : thread_ok os (thread_at ts t) ≡ false → thread_sound os ts t ≡ false
    unfolding thread_sound
    unsound_bad k = rw k

    pub pass_live :
        thread_ok os (thread_at ts t) ≡ true → ((thread_at ts t).role ≡ 0 → ⊥) → (thread_at ts t).handle < HANDLES → is_served served (thread_at ts t).handle ≡ false →
        Passing os ts (set_bit live t) (serving served (thread_at ts t).handle) (t + 1)
    unfolding serving
    pass_live k z b s =
        let e : eqb (thread_at ts t).role 0 ≡ false = ne_eqb _ 0 z in
        let u : unserved ts (thread_at ts t).handle t ≡ true = not-false _ (sym (p.handles _ b) ∙ s) in
        let g : (thread_at ts t).handle / 64 < length served = rw p.size (omega arith) in
        record {
          within = omega arith;
          sound = all_more (thread_sound os ts) t p.sound (sound_live k u);
          lives = ap (λ x. set_bit x t) p.lives ∙ sym (live_hit ts t (ap not e));
          size = length-set served _ _ ∙ p.size;
          handles = λ h q. each h q g e (ℕ_discrete h (thread_at ts t).handle);
        }
      where
        each :
            (h : ℕ) → h < HANDLES → (thread_at ts t).handle / 64 < length served → eqb (thread_at ts t).role 0 ≡ false → Dec (h ≡ (thread_at ts t).handle) →
            is_served (serving served (thread_at ts t).handle) h ≡ not (unserved ts h (t + 1))
        each h q g e (yes r) =
            rw (step h, e, r, eq-eqb (thread_at ts t).handle (thread_at ts t).handle refl, and_false_right (unserved ts (thread_at ts t).handle t)) (served_same served (thread_at ts t).handle g)
        each h q g e (no r) =
            rw (step h, e, ne_eqb (thread_at ts t).handle h (λ w. r (sym w)), and_true_right (unserved ts h t)) (served_other served (thread_at ts t).handle h r g ∙ p.handles h q)

    fails : thread_sound os ts t ≡ false → None ≡ judged_threads os ts
    unfolding judged_threads
    fails e = rw (all_fails (thread_sound os ts) THREADS t l e)

    pub pass_bad : thread_ok os (thread_at ts t) ≡ false → None ≡ judged_threads os ts
    pass_bad k = fails (unsound_bad k)

    pub pass_twice : ((thread_at ts t).role ≡ 0 → ⊥) → (thread_at ts t).handle < HANDLES → is_served served (thread_at ts t).handle ≡ true → None ≡ judged_threads os ts
    pass_twice z b s = fails (unsound_served z (not-true _ (sym (p.handles _ b) ∙ s)))

  pub pass_all : (live : ℕ) (served : List ℕ) (t : ℕ) → Passing os ts live served t → THREADS ≤ t → Some live ≡ judged_threads os ts
  unfolding judged_threads
  pass_all live served t p l =
      let e : t ≡ THREADS = omega (arith, p.within) in
      rw (rw e at p.sound) (ap (λ x. Some x) (p.lives ∙ ap (live_to ts) e))

-- ---- the same as the code has it: the record that was loaded, and what the turn left behind
module _ (os ts : List ℕ) {live : ℕ} {served : List ℕ} {t : ℕ} {r : Thread} (p : Passing os ts live served t) (l : t < THREADS) (e : r ≡ thread_at ts t) where
  pub turn_bad : thread_ok os r ≡ false → None ≡ judged_threads os ts
  turn_bad k = pass_bad os ts live served t p l (rw (← e) k)

  pub turn_twice : thread_ok os r ≡ true → (r.role ≡ 0 → ⊥) → is_served served r.handle ≡ true → None ≡ judged_threads os ts
  turn_twice k z s =
      pass_twice os ts live served t p l (λ q. z (ap (λ x. x.role) e ∙ q)) (rw e at (live_handle os r k z)) (rw e at s)

  pub turn_dead : {live' : ℕ} {served' : List ℕ} → thread_ok os r ≡ true → r.role ≡ 0 → live' ≡ live → served' ≡ served → Passing os ts live' served' (t + 1)
  turn_dead k z a b = rw (a, b) (pass_dead os ts live served t p l (rw (← e) k) (rw (← e) z))

  pub turn_live :
      {live' : ℕ} {served' : List ℕ} → thread_ok os r ≡ true → (r.role ≡ 0 → ⊥) → is_served served r.handle ≡ false → live' ≡ set_bit live t →
      served' ≡ serving served r.handle → Passing os ts live' served' (t + 1)
  turn_live k z s a b =
      rw (a, b, e)
      (pass_live os ts live served t p l (rw (← e) k) (λ q. z (ap (λ x. x.role) e ∙ q)) (rw e at (live_handle os r k z)) (rw e at s))

-- ---- what the pass's answer says
pub judged_none : (os ts : List ℕ) → None ≡ judged_threads os ts → all_to (thread_sound os ts) THREADS ≡ false
unfolding judged_threads
judged_none os ts e = go (all_to (thread_sound os ts) THREADS) e
  where
    go : (b : Bool) → None ≡ cond b (Some (live_to ts THREADS)) None → b ≡ false
    go true q = absurd (cc)
    go false q = refl

pub judged_some : (os ts : List ℕ) (live : ℕ) → Some live ≡ judged_threads os ts → (all_to (thread_sound os ts) THREADS ≡ true) × (live ≡ live_to ts THREADS)
unfolding judged_threads
judged_some os ts live e = go (all_to (thread_sound os ts) THREADS) e
  where
    go : (b : Bool) → Some live ≡ cond b (Some (live_to ts THREADS)) None → (b ≡ true) × (live ≡ live_to ts THREADS)
    go true q = (refl, cc)
    go false q = absurd (cc)
