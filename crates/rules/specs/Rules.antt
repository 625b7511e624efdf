-- The rules of a state (docs/SPEC.md, 6), twice. `Keeps` has them in plain statements about records; `keeps_test` computes, on the tables of
-- numbers themselves, of any length and any content. proofs/Rules.antt shows that they say the same.
use Rattle.std.specs.Prelude.{ℕ, zero, suc, ◌+◌, ◌*◌, ◌/◌, ◌%◌, ◌≤◌, ◌<◌, ◌≡◌, ◌⊎◌, Option, Some, None, Bool, true, false, cond, not, ◌&&◌, ◌||◌, List, eqb, ltb, leb, length, get_or, set}
use Rattle.std.specs.Int.Bits.{bit_and}
use Rattle.domain_rules.specs.Scan.{all_to}
use Rattle.mem_domain.specs.Domain.{slots as SLOTS}
use Rattle.domain_rules.specs.Sound.{SlotsKeep, slots_sound}
use Rattle.bits.specs.Bit.{is_set, set_bit}
use Rattle.userspace.specs.Userspace.{THREADS}
use Rattle.tables.specs.declared.Thread.{Thread}
use Rattle.tables.specs.Table.{HANDLES, DOMAINS, no_object, nobody, object_at, thread_at, partitions_at}
use Rattle.tables.specs.State.{State, state_of, object, thread, domain, Fit}

-- a thread lives unless its role is 0; role 2 is a supervisor (SPEC 5.3)
abbrev pub is_live : Thread → Bool
is_live r = not (eqb r.role 0)

abbrev pub is_supervisor : Thread → Bool
is_supervisor r = eqb r.role 2

pub record Keeps (s : State) : Type 0 where
  -- how many objects, threads and domains there are (SPEC 6.2)
  pub objects_size : length s.objects ≡ HANDLES
  pub threads_size : length s.threads ≡ THREADS
  pub domains_size : length s.domains ≡ DOMAINS
  -- types and flags up to 15, a free handle all zero (SPEC 6.3, 6.4, 6.6)
  pub types : (h : ℕ) → (object s h).obj_type ≤ 15
  pub flags : (h : ℕ) → (object s h).flags ≤ 15
  pub free : (h : ℕ) → (object s h).obj_type ≡ 0 → object s h ≡ no_object
  -- a bit that is set is a live thread's; from 64 on there is no thread, so no bit (SPEC 6.7)
  pub bits : (h t : ℕ) → is_set (object s h).word t ≡ true → is_live (thread s t) ≡ true
  -- a dead thread's record is all zero; a live one is user or supervisor, with domain 0..7 or 255 (SPEC 6.8 to 6.10)
  pub dead : (t : ℕ) → is_live (thread s t) ≡ false → thread s t ≡ nobody
  pub roles : (t : ℕ) → (thread s t).role ≤ 2
  pub homes : (t : ℕ) → is_live (thread s t) ≡ true → ((thread s t).domain < DOMAINS) ⊎ ((thread s t).domain ≡ 255)
  -- its handle is below 256, taken, of type Thread, and serves no other live thread (SPEC 6.11, 6.12)
  pub handles : (t : ℕ) → is_live (thread s t) ≡ true → (thread s t).handle < HANDLES
  pub bodies : (t : ℕ) → is_live (thread s t) ≡ true → (object s (thread s t).handle).obj_type ≡ 1
  pub alone : (t u : ℕ) → is_live (thread s t) ≡ true → is_live (thread s u) ≡ true → (thread s t).handle ≡ (thread s u).handle → t ≡ u
  -- an active slot is valid with an allowed attr, no two active slots of a domain overlap, a free slot is all zero (SPEC 6.13)
  pub slots : (d : ℕ) → d < DOMAINS → SlotsKeep (domain s d)

-- three tables of numbers keep the rules (SPEC 6.1, 6.5): they fit (the raw head is judged before a record is made of it), and their picture keeps them
pub record Sound (os ts ss : List ℕ) : Type 0 where
  pub fit : Fit os ts ss
  pub keeps : Keeps (state_of os ts ss)

-- ---- the test (SPEC 6.15)

-- the live threads among the first n, a bit for each
unfoldable pub live_to : List ℕ → ℕ → ℕ
live_to ts zero = 0
live_to ts (suc t) = cond (is_live (thread_at ts t)) (set_bit (live_to ts t) t) (live_to ts t)

-- one object: a free handle is all zero; else type and flags at most 15, and every bit a live thread's
unfoldable pub object_ok : ℕ → ℕ → ℕ → Bool
object_ok live head word =
    cond (eqb (head % 256) 0) (eqb head 0 && eqb word 0) (leb (head % 256) 15 && (leb (head / 256) 15 && eqb (bit_and word live) word))

abbrev pub object_at_ok : List ℕ → ℕ → ℕ → Bool
object_at_ok os live h = object_ok live (get_or os (2 * h) 0) (get_or os (2 * h + 1) 0)

-- one thread: a dead one is all zero; a live one has role 1 or 2, domain 0..7 or 255, and the handle of an object of type Thread
unfoldable pub thread_ok : List ℕ → Thread → Bool
thread_ok os r =
    cond (eqb r.role 0) (eqb r.domain 0 && eqb r.handle 0)
    (leb r.role 2 && ((ltb r.domain DOMAINS || eqb r.domain 255) && (ltb r.handle HANDLES && eqb (object_at os r.handle).obj_type 1)))

-- no live thread below n has handle h
abbrev pub unserved : List ℕ → ℕ → ℕ → Bool
unserved ts h = all_to (λ u. eqb (thread_at ts u).role 0 || not (eqb (thread_at ts u).handle h))

unfoldable pub thread_sound : List ℕ → List ℕ → ℕ → Bool
thread_sound os ts t = thread_ok os (thread_at ts t) && (eqb (thread_at ts t).role 0 || unserved ts (thread_at ts t).handle t)

-- every domain keeps the rules of a domain
unfoldable pub domains_sound : List ℕ → Bool
domains_sound ss = all_to (λ d. slots_sound (partitions_at ss d)) DOMAINS

-- lengths, threads, objects, domains
unfoldable pub keeps_test : List ℕ → List ℕ → List ℕ → Bool
keeps_test os ts ss =
    eqb (length os) (2 * HANDLES)
    && (eqb (length ts) (3 * THREADS)
    && (eqb (length ss) (3 * (SLOTS * DOMAINS))
    && (all_to (thread_sound os ts) THREADS
    && (all_to (object_at_ok os (live_to ts THREADS)) HANDLES
    && domains_sound ss))))

-- ---- how the code goes: handles already served, as a set of 256 bits in four words

-- handle h is in the set
unfoldable pub is_served : List ℕ → ℕ → Bool
is_served set256 h = is_set (get_or set256 (h / 64) 0) (h % 64)

-- the set with handle h
unfoldable pub serving : List ℕ → ℕ → List ℕ
serving set256 h = set set256 (h / 64) (set_bit (get_or set256 (h / 64) 0) (h % 64))

-- what the pass over the threads finds: the mask of the live ones, or nothing where one breaks a rule
unfoldable pub judged_threads : List ℕ → List ℕ → Option ℕ
judged_threads os ts = cond (all_to (thread_sound os ts) THREADS) (Some (live_to ts THREADS)) None
