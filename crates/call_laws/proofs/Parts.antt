-- The rules of a state taken apart by its records: what one object, one thread, one domain has to keep. A change of a record then owes that record's
-- part alone.
use Prim.Native.Nat.{ℕ, ◌≤◌, ◌<◌}
use native.Mathlib.Decide.{ℕ_discrete}
use native.Mathlib.Omega.{arith}
use mathlib.Core.Path.{◌≡◌, refl, sym, ap, ap₂, ◌∙◌}
use mathlib.Core.Logic.{◌≢◌, ◌⊎◌}
use mathlib.Core.Bool.{Bool, true, false, cond, ◌&&◌, true≢false}
use mathlib.Core.List.{List, []}
use lib.Dec.{ltb, lit<, lit≤}
use lib.ListN.{length, get_or}
use Rattle.domain_rules.specs.Sound.{SlotsKeep}
use Rattle.userspace.specs.declared.KernelObject.{KernelObject}
use Rattle.bits.specs.Bit.{is_set, set_bit, clear_bit, set_lt, clear_lt, is_set_other, is_clear_same, is_clear_other, is_zero}
use Rattle.userspace_decide.specs.Decide.{INITIALISED}
use Rattle.userspace.specs.Userspace.{THREADS, holds, with_word, with_flags, changed_at, done, refused, new_object, granted, revoked, recycled, initiated}
use Rattle.tables.specs.declared.Thread.{Thread}
use Rattle.tables.specs.Table.{HANDLES, DOMAINS, no_object, nobody}
use Rattle.tables.specs.State.{State, object, thread, domain}
use Rattle.rules.specs.Rules.{is_live, Keeps}
use Rattle.judging.specs.Change.{inherited}

-- the thread at t of a list
abbrev pub thread_in : List Thread → ℕ → Thread
thread_in ts t = get_or ts t nobody

-- object o may stand at handle h beside these threads
pub record FineObject (ts : List Thread) (h : ℕ) (o : KernelObject) : Type 0 where
  pub types : o.obj_type ≤ 15
  pub flags : o.flags ≤ 15
  pub free : o.obj_type ≡ 0 → o ≡ no_object
  pub bits : (t : ℕ) → is_set o.word t ≡ true → is_live (thread_in ts t) ≡ true
  pub body : (t : ℕ) → is_live (thread_in ts t) ≡ true → (thread_in ts t).handle ≡ h → o.obj_type ≡ 1

-- a thread's record by itself
pub record FineThread (r : Thread) : Type 0 where
  pub dead : is_live r ≡ false → r ≡ nobody
  pub role : r.role ≤ 2
  pub home : is_live r ≡ true → (r.domain < DOMAINS) ⊎ (r.domain ≡ 255)
  pub handle : is_live r ≡ true → r.handle < HANDLES

-- no two live threads have one handle
abbrev pub Alone : List Thread → Type 0
Alone ts = (t u : ℕ) → is_live (thread_in ts t) ≡ true → is_live (thread_in ts u) ≡ true → (thread_in ts t).handle ≡ (thread_in ts u).handle → t ≡ u

pub record Parts (s : State) : Type 0 where
  pub objects_size : length s.objects ≡ HANDLES
  pub threads_size : length s.threads ≡ THREADS
  pub domains_size : length s.domains ≡ DOMAINS
  pub object : (h : ℕ) → FineObject s.threads h (get_or s.objects h no_object)
  pub thread : (t : ℕ) → FineThread (thread_in s.threads t)
  pub alone : Alone s.threads
  pub slots : (d : ℕ) → d < DOMAINS → SlotsKeep (get_or s.domains d [])

pub parts : {s : State} → Keeps s → Parts s
unfolding object thread domain
parts {s} k =
    record {
      objects_size = k.objects_size;
      threads_size = k.threads_size;
      domains_size = k.domains_size;
      object = λ h. record { types = k.types h; flags = k.flags h; free = k.free h; bits = k.bits h; body = λ t l e. ap (λ x. (get_or s.objects x no_object).obj_type) (sym e) ∙ k.bodies t l };
      thread = λ t. record { dead = k.dead t; role = k.roles t; home = k.homes t; handle = k.handles t };
      alone = k.alone;
      slots = k.slots;
    }

pub whole : {s : State} → Parts s → Keeps s
unfolding object thread domain
whole p =
    record {
      objects_size = p.objects_size;
      threads_size = p.threads_size;
      domains_size = p.domains_size;
      types = λ h. (p.object h).types;
      flags = λ h. (p.object h).flags;
      free = λ h. (p.object h).free;
      bits = λ h. (p.object h).bits;
      dead = λ t. (p.thread t).dead;
      roles = λ t. (p.thread t).role;
      homes = λ t. (p.thread t).home;
      handles = λ t. (p.thread t).handle;
      bodies = λ t l. (p.object _).body t l refl;
      alone = p.alone;
      slots = p.slots;
    }

-- ---- an object that changes

-- a change at a thread is the new record or the old one
pub changed_keeps : (P : KernelObject → Type 0) (t : ℕ) (o o' : KernelObject) → P o → P o' → P (changed_at t o o').object
unfolding changed_at
changed_keeps P t o o' p q = go (ltb t THREADS)
  where
    go : (b : Bool) → P (cond b (done o') (refused o)).object
    go true = q
    go false = p

pub clear_zero : (t : ℕ) → clear_bit 0 t ≡ 0
unfolding clear_bit
clear_zero t = refl

-- nothing comes of a free handle
pub revoked_none : (t : ℕ) → (revoked no_object t).object ≡ no_object
unfolding revoked
revoked_none t = changed_keeps (λ x. x ≡ no_object) t no_object (with_word no_object (clear_bit 0 t)) refl (ap (with_word no_object) (clear_zero t))

-- a bit that is set after a clearing was set before, and is another
pub clear_set : (w t u : ℕ) → is_set (clear_bit w t) u ≡ true → is_set w u ≡ true
clear_set w t u e = go (ℕ_discrete u t)
  where
    go : Dec (u ≡ t) → is_set w u ≡ true
    go (yes q) = absurd (true≢false (sym e ∙ ap (is_set (clear_bit w t)) q ∙ is_clear_same w t))
    go (no n) = sym (is_clear_other w t u n) ∙ e

-- four flags stay four flags
pub flags_set : (n k : ℕ) → n ≤ 15 → k < 4 → set_bit n k ≤ 15
flags_set n k b l = omega (arith, set_lt 4 n k (omega arith) l)

pub flags_clear : (n k : ℕ) → n ≤ 15 → clear_bit n k ≤ 15
flags_clear n k b = omega (arith, clear_lt 4 n k (omega arith))

module _ {ts : List Thread} {h : ℕ} {o : KernelObject} (f : FineObject ts h o) where
  -- another word: every bit a live thread's, and 0 where the handle is free
  pub fine_word : (w : ℕ) → (o ≡ no_object → w ≡ 0) → ((t : ℕ) → is_set w t ≡ true → is_live (thread_in ts t) ≡ true) → FineObject ts h (with_word o w)
  fine_word w z b =
      record { types = f.types; flags = f.flags; free = λ e. ap₂ with_word (f.free e) (z (f.free e)); bits = b; body = f.body }

  -- other flags of a taken handle
  pub fine_flags : (n : ℕ) → o.obj_type ≢ 0 → n ≤ 15 → FineObject ts h (with_flags o n)
  fine_flags n y b = record { types = f.types; flags = b; free = λ e. absurd (y e); bits = f.bits; body = f.body }

  -- the bit of a live thread is set, on a taken handle
  pub fine_granted : (t : ℕ) → o.obj_type ≢ 0 → is_live (thread_in ts t) ≡ true → FineObject ts h (granted o t).object
  unfolding granted
  fine_granted t y l =
      changed_keeps (FineObject ts h) t o (with_word o (set_bit o.word t)) f (fine_word (set_bit o.word t) (λ e. absurd (y (ap (λ x. x.obj_type) e))) bit)
    where
      bit : (u : ℕ) → is_set (set_bit o.word t) u ≡ true → is_live (thread_in ts u) ≡ true
      bit u e = go (ℕ_discrete u t)
        where
          go : Dec (u ≡ t) → is_live (thread_in ts u) ≡ true
          go (yes q) = rw q l
          go (no n) = f.bits u (sym (is_set_other o.word t u n) ∙ e)

  -- a bit is cleared, on any handle
  pub fine_revoked : (t : ℕ) → FineObject ts h (revoked o t).object
  unfolding revoked
  fine_revoked t =
      changed_keeps (FineObject ts h) t o (with_word o (clear_bit o.word t)) f
      (fine_word (clear_bit o.word t) (λ e. ap (λ x. clear_bit x.word t) e ∙ clear_zero t) (λ u e. f.bits u (clear_set o.word t u e)))

  -- recycled by a live thread: its bit alone, the initialised flag
  pub fine_recycled : (t : ℕ) → o.obj_type ≢ 0 → is_live (thread_in ts t) ≡ true → FineObject ts h (recycled o t).object
  unfolding recycled
  fine_recycled t y l =
      changed_keeps (FineObject ts h) t o (with_word (initiated o) (set_bit 0 t)) f
      (record { types = f.types; flags = flags_set o.flags INITIALISED f.flags (lit< tt); free = λ e. absurd (y e); bits = bit; body = f.body })
    where
      bit : (u : ℕ) → is_set (set_bit 0 t) u ≡ true → is_live (thread_in ts u) ≡ true
      bit u e = go (ℕ_discrete u t)
        where
          go : Dec (u ≡ t) → is_live (thread_in ts u) ≡ true
          go (yes q) = rw q l
          go (no n) = absurd (true≢false (sym e ∙ is_set_other 0 t u n ∙ is_zero u))

  pub fine_inherited : (p c : ℕ) → is_live (thread_in ts c) ≡ true → FineObject ts h (inherited p c o)
  unfolding inherited holds
  fine_inherited p c l = go (ltb p THREADS) (is_set o.word p) refl
    where
      go : (a b : Bool) → is_set o.word p ≡ b → FineObject ts h (cond (a && b) (granted o c).object o)
      go false b e = f
      go true false e = f
      go true true e = fine_granted c (λ y. true≢false (sym e ∙ ap (λ x. is_set x.word p) (f.free y) ∙ is_zero p)) l

-- a new object of a type, or none, where no live thread has the handle
pub fine_fresh : {ts : List Thread} {h : ℕ} (y : ℕ) → y ≤ 15 → ((t : ℕ) → is_live (thread_in ts t) ≡ true → (thread_in ts t).handle ≢ h) → FineObject ts h (new_object y)
fine_fresh y b n =
    record {
      types = b;
      flags = lit≤ tt;
      free = λ e. ap new_object e;
      bits = λ t e. absurd (true≢false (sym e ∙ is_zero t));
      body = λ t l e. absurd (n t l e);
    }
