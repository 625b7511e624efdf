-- The rules in plain statements and the test that computes say the same, both ways.
use Prim.Native.Nat.{ℕ, ◌+◌, ◌*◌, ◌/◌, ◌%◌, ◌≤◌, ◌<◌}
use native.Mathlib.Decide.{dec_lt}
use native.Mathlib.Omega.{arith}
use mathlib.Core.Path.{◌≡◌, refl, sym, ap, ◌∙◌}
use mathlib.Core.Logic.{◌⊎◌, inl, inr, ⊎_elim}
use mathlib.Core.Bool.{Bool, true, false, cond, not, ◌&&◌, ◌||◌, true≢false, false≢true}
use mathlib.Core.List.{List}
use lib.Bits.{bit_and}
use lib.Dec.{eqb, ltb, leb}
use lib.ListN.{length, get_or}
use borrow.Author.Tests.{eqb-true, eqb-false, eq-eqb, ne_eqb, ltb-true, lt-ltb, leb-true, le-leb, not-true}
use Rattle.domain_rules.specs.Scan.{all_to}
use Rattle.mem_domain.specs.Domain.{slots as SLOTS}
use Rattle.domain_rules.specs.Sound.{slots_sound, domain_sound}
use Rattle.domain_rules.proofs.All.{both_true, both, either_true, or_left, or_right, all_at, all_from}
use Rattle.domain_rules.proofs.Sound.{slots_keep, slots_sound_lem, counted_sound}
use Rattle.bits.specs.Bit.{is_set}
use Rattle.userspace.specs.Userspace.{THREADS}
use Rattle.userspace.specs.declared.KernelObject.{KernelObject}
use Rattle.tables.specs.declared.Thread.{Thread}
use Rattle.tables.specs.Tabulate.{length_tabulate}
use Rattle.tables.specs.Table.{HANDLES, DOMAINS, no_object, nobody, object_of, object_at, thread_at, partitions_at, domain_at}
use Rattle.tables.specs.Laws.{object_out, thread_out}
use Rattle.tables.specs.State.{state_of, objects_of, threads_of, domains_of, object, thread, domain, object_of_lem, thread_of_lem, domain_of_lem}
use Rattle.rules.specs.Rules.{is_live, Keeps, Sound, live_to, object_ok, object_at_ok, thread_ok, unserved, thread_sound, domains_sound, keeps_test}
use Rattle.rules.proofs.Bits.{within_says, within_from, zero_unset, live_says, live_has}

-- ---- one object

-- what the rules say of one object, the live threads given as a mask
record ObjectKept (live : ℕ) (o : KernelObject) : Type 0 where
  types : o.obj_type ≤ 15
  flags : o.flags ≤ 15
  free : o.obj_type ≡ 0 → o ≡ no_object
  bits : (t : ℕ) → is_set o.word t ≡ true → is_set live t ≡ true

module _ (live head word : ℕ) where
  object_cases :
      (b : Bool) → eqb (head % 256) 0 ≡ b →
      cond b (eqb head 0 && eqb word 0) (leb (head % 256) 15 && (leb (head / 256) 15 && eqb (bit_and word live) word)) ≡ true →
      (head < 65536) × ObjectKept live (object_of head word)
  object_cases true z e =
      let p = both_true (eqb head 0) (eqb word 0) e in
      let h0 : head ≡ 0 = eqb-true head 0 p.0 in
      let w0 : word ≡ 0 = eqb-true word 0 p.1 in (
        omega arith,
        record {
          types = omega arith;
          flags = omega arith;
          free = λ t. rw (h0, w0);
          bits = λ t s. absurd (zero_unset t (rw w0 at s));
        },
      )
  object_cases false z e =
      let p = both_true (leb (head % 256) 15) (leb (head / 256) 15 && eqb (bit_and word live) word) e in
      let q = both_true (leb (head / 256) 15) (eqb (bit_and word live) word) p.1 in
      let t : head % 256 ≤ 15 = leb-true (head % 256) 15 p.0 in
      let f : head / 256 ≤ 15 = leb-true (head / 256) 15 q.0 in (
        omega arith,
        record {
          types = t;
          flags = omega arith;
          free = λ n. absurd (eqb-false (head % 256) 0 z n);
          bits = λ n s. within_says word live n (eqb-true (bit_and word live) word q.1) s;
        },
      )

  object_says : object_ok live head word ≡ true → (head < 65536) × ObjectKept live (object_of head word)
  unfolding object_ok
  object_says e = object_cases (eqb (head % 256) 0) refl e

  object_back :
      head < 65536 → ObjectKept live (object_of head word) → (b : Bool) → eqb (head % 256) 0 ≡ b →
      cond b (eqb head 0 && eqb word 0) (leb (head % 256) 15 && (leb (head / 256) 15 && eqb (bit_and word live) word)) ≡ true
  object_back l k true z =
      let n : object_of head word ≡ no_object = k.free (eqb-true (head % 256) 0 z) in
      let f : head / 256 % 256 ≡ 0 = ap (λ o. o.flags) n in
      let t : head % 256 ≡ 0 = eqb-true (head % 256) 0 z in
      both (eq-eqb head 0 (omega arith)) (eq-eqb word 0 (ap (λ o. o.word) n))
  object_back l k false z =
      let f : head / 256 % 256 ≤ 15 = k.flags in
      both
      (le-leb (head % 256) 15 k.types)
      (both (le-leb (head / 256) 15 (omega arith)) (eq-eqb (bit_and word live) word (within_from word live k.bits)))

  object_ok_lem : head < 65536 → ObjectKept live (object_of head word) → object_ok live head word ≡ true
  unfolding object_ok
  object_ok_lem l k = object_back l k (eqb (head % 256) 0) refl

-- ---- one thread

record ThreadKept (os : List ℕ) (r : Thread) : Type 0 where
  dead : is_live r ≡ false → r ≡ nobody
  roles : r.role ≤ 2
  homes : is_live r ≡ true → (r.domain < DOMAINS) ⊎ (r.domain ≡ 255)
  handles : is_live r ≡ true → r.handle < HANDLES
  bodies : is_live r ≡ true → (object_at os r.handle).obj_type ≡ 1

all_zero : (r : Thread) → r.role ≡ 0 → r.domain ≡ 0 → r.handle ≡ 0 → r ≡ nobody
all_zero r a b c = go r.role r.domain r.handle a b c
  where
    go : (x y z : ℕ) → x ≡ 0 → y ≡ 0 → z ≡ 0 → ◌≡◌ {A = Thread} (record { role = x; domain = y; handle = z }) nobody
    go x y z e f g = rw (e, f, g)

module _ (os : List ℕ) (r : Thread) where
  home : Bool
  home = ltb r.domain DOMAINS || eqb r.domain 255

  body : Bool
  body = ltb r.handle HANDLES && eqb (object_at os r.handle).obj_type 1

  thread_cases :
      (b : Bool) → eqb r.role 0 ≡ b →
      cond b (eqb r.domain 0 && eqb r.handle 0) (leb r.role 2 && ((ltb r.domain DOMAINS || eqb r.domain 255) && (ltb r.handle HANDLES && eqb (object_at os r.handle).obj_type 1))) ≡ true →
      ThreadKept os r
  unfolding home body
  thread_cases true z e =
      let p = both_true (eqb r.domain 0) (eqb r.handle 0) e in
      let r0 : r.role ≡ 0 = eqb-true r.role 0 z in
      record {
        dead = λ d. all_zero r r0 (eqb-true r.domain 0 p.0) (eqb-true r.handle 0 p.1);
        roles = omega arith;
        homes = λ l. absurd (false≢true (ap not (sym z) ∙ l));
        handles = λ l. absurd (false≢true (ap not (sym z) ∙ l));
        bodies = λ l. absurd (false≢true (ap not (sym z) ∙ l));
      }
  thread_cases false z e =
      let p = both_true (leb r.role 2) (home && body) e in
      let q = both_true home body p.1 in
      let b = both_true (ltb r.handle HANDLES) (eqb (object_at os r.handle).obj_type 1) q.1 in
      record {
        dead = λ d. absurd (true≢false (ap not (sym z) ∙ d));
        roles = leb-true r.role 2 p.0;
        homes = λ l. ⊎_elim (λ a. inl (ltb-true r.domain DOMAINS a)) (λ a. inr (eqb-true r.domain 255 a)) (either_true (ltb r.domain DOMAINS) (eqb r.domain 255) q.0);
        handles = λ l. ltb-true r.handle HANDLES b.0;
        bodies = λ l. eqb-true (object_at os r.handle).obj_type 1 b.1;
      }

  thread_says : thread_ok os r ≡ true → ThreadKept os r
  unfolding thread_ok
  thread_says e = thread_cases (eqb r.role 0) refl e

  pub live_handle : thread_ok os r ≡ true → (r.role ≡ 0 → ⊥) → r.handle < HANDLES
  live_handle e z = (thread_says e).handles (ap not (ne_eqb r.role 0 z))

  thread_back :
      ThreadKept os r → (b : Bool) → eqb r.role 0 ≡ b →
      cond b (eqb r.domain 0 && eqb r.handle 0) (leb r.role 2 && ((ltb r.domain DOMAINS || eqb r.domain 255) && (ltb r.handle HANDLES && eqb (object_at os r.handle).obj_type 1))) ≡ true
  thread_back k true z = let n = k.dead (ap not z) in both (eq-eqb r.domain 0 (ap (λ x. x.domain) n)) (eq-eqb r.handle 0 (ap (λ x. x.handle) n))
  thread_back k false z =
      let l : is_live r ≡ true = ap not z in
      both
      (le-leb r.role 2 k.roles)
      (both
      (⊎_elim (λ a. or_left _ _ (lt-ltb r.domain DOMAINS a)) (λ a. or_right (ltb r.domain DOMAINS) _ (eq-eqb r.domain 255 a)) (k.homes l))
      (both (lt-ltb r.handle HANDLES (k.handles l)) (eq-eqb (object_at os r.handle).obj_type 1 (k.bodies l))))

  thread_ok_lem : ThreadKept os r → thread_ok os r ≡ true
  unfolding thread_ok
  thread_ok_lem k = thread_back k (eqb r.role 0) refl

-- ---- the whole state

-- whoever lives has a number below 64
pub below_64 : (ts : List ℕ) → length ts ≡ 3 * THREADS → (t : ℕ) → is_live (thread_at ts t) ≡ true → t < THREADS
below_64 ts n t l = go (dec_lt t THREADS)
  where
    go : Dec (t < THREADS) → t < THREADS
    go (yes h) = h
    go (no f) = absurd (false≢true (sym (ap is_live (thread_out ts t (omega (arith, n)))) ∙ l))

partitions_long : (ss : List ℕ) (d : ℕ) → length (partitions_at ss d) ≡ SLOTS
unfolding partitions_at
partitions_long ss d = length_tabulate SLOTS _

module _ (os ts ss : List ℕ) where
  -- the parts of the test
  record Parts : Type 0 where
    objects_long : length os ≡ 2 * HANDLES
    threads_long : length ts ≡ 3 * THREADS
    slots_long : length ss ≡ 3 * (SLOTS * DOMAINS)
    threads : all_to (thread_sound os ts) THREADS ≡ true
    objects : all_to (object_at_ok os (live_to ts THREADS)) HANDLES ≡ true
    domains : all_to (λ d. slots_sound (partitions_at ss d)) DOMAINS ≡ true

  parts : keeps_test os ts ss ≡ true → Parts
  unfolding keeps_test domains_sound
  parts e =
      let a = both_true (eqb (length os) (2 * HANDLES)) _ e in
      let b = both_true (eqb (length ts) (3 * THREADS)) _ a.1 in
      let c = both_true (eqb (length ss) (3 * (SLOTS * DOMAINS))) _ b.1 in
      let d = both_true (all_to (thread_sound os ts) THREADS) _ c.1 in
      let f = both_true (all_to (object_at_ok os (live_to ts THREADS)) HANDLES) _ d.1 in
      record {
        objects_long = eqb-true (length os) (2 * HANDLES) a.0;
        threads_long = eqb-true (length ts) (3 * THREADS) b.0;
        slots_long = eqb-true (length ss) (3 * (SLOTS * DOMAINS)) c.0;
        threads = d.0;
        objects = f.0;
        domains = f.1;
      }

  whole : Parts → keeps_test os ts ss ≡ true
  unfolding keeps_test domains_sound
  whole p =
      both (eq-eqb _ _ p.objects_long)
      (both (eq-eqb _ _ p.threads_long) (both (eq-eqb _ _ p.slots_long) (both p.threads (both p.objects p.domains))))

  module _ (p : Parts) where
    object_at_lem : (h : ℕ) → h < HANDLES → (get_or os (2 * h) 0 < 65536) × ObjectKept (live_to ts THREADS) (object_at os h)
    unfolding object_at
    object_at_lem h l =
        object_says (live_to ts THREADS) (get_or os (2 * h) 0) (get_or os (2 * h + 1) 0) (all_at (object_at_ok os (live_to ts THREADS)) HANDLES h p.objects l)

    -- every handle, also behind the end
    object_kept : (h : ℕ) → ObjectKept (live_to ts THREADS) (object (state_of os ts ss) h)
    unfolding object
    object_kept h = rw (object_of_lem os p.objects_long h) (go (dec_lt h HANDLES))
      where
        go : Dec (h < HANDLES) → ObjectKept (live_to ts THREADS) (object_at os h)
        go (yes l) = (object_at_lem h l).1
        go (no f) =
            rw (object_out os h (omega (arith, p.objects_long)))
            (record { types = omega arith; flags = omega arith; free = λ z. refl; bits = λ t s. absurd (zero_unset t s) })

    thread_at_lem : (t : ℕ) → thread (state_of os ts ss) t ≡ thread_at ts t
    unfolding thread
    thread_at_lem t = thread_of_lem ts p.threads_long t

    object_is : (h : ℕ) → object (state_of os ts ss) h ≡ object_at os h
    unfolding object
    object_is h = object_of_lem os p.objects_long h

    sound_at : (t : ℕ) → t < THREADS → (thread_ok os (thread_at ts t) ≡ true) × (eqb (thread_at ts t).role 0 || unserved ts (thread_at ts t).handle t ≡ true)
    unfolding thread_sound
    sound_at t l = both_true (thread_ok os (thread_at ts t)) _ (all_at (thread_sound os ts) THREADS t p.threads l)

    thread_kept : (t : ℕ) → ThreadKept os (thread_at ts t)
    thread_kept t = go (dec_lt t THREADS)
      where
        go : Dec (t < THREADS) → ThreadKept os (thread_at ts t)
        go (yes l) = thread_says os (thread_at ts t) (sound_at t l).0
        go (no f) =
            rw (thread_out ts t (omega (arith, p.threads_long)))
            (record { dead = λ d. refl; roles = omega arith; homes = λ l. absurd (false≢true l); handles = λ l. absurd (false≢true l); bodies = λ l. absurd (false≢true l) })

    -- a live thread's handle serves no live thread below it
    clash : (t u : ℕ) → t < u → is_live (thread_at ts t) ≡ true → is_live (thread_at ts u) ≡ true → (thread_at ts t).handle ≡ (thread_at ts u).handle → ⊥
    clash t u l a b e =
        let z : eqb (thread_at ts u).role 0 ≡ false = not-true _ b in
        let s : unserved ts (thread_at ts u).handle u ≡ true = rw z at (sound_at u (below_64 ts p.threads_long u b)).1 in
        let q : eqb (thread_at ts t).role 0 || not (eqb (thread_at ts t).handle (thread_at ts u).handle) ≡ true = all_at (λ v. eqb (thread_at ts v).role 0 || not (eqb (thread_at ts v).handle (thread_at ts u).handle)) u t s l in
        ⊎_elim
        (λ d. true≢false (sym d ∙ not-true _ a))
        (λ n. eqb-false (thread_at ts t).handle (thread_at ts u).handle (not-true _ n) e)
        (either_true (eqb (thread_at ts t).role 0) _ q)

    alone : (t u : ℕ) → is_live (thread_at ts t) ≡ true → is_live (thread_at ts u) ≡ true → (thread_at ts t).handle ≡ (thread_at ts u).handle → t ≡ u
    alone t u a b e = go (dec_lt t u) (dec_lt u t)
      where
        go : Dec (t < u) → Dec (u < t) → t ≡ u
        go (yes l) g = absurd (clash t u l a b e)
        go (no f) (yes g) = absurd (clash u t g b a (sym e))
        go (no f) (no g) = omega arith

    domain_at_lem : (d : ℕ) → d < DOMAINS → domain (state_of os ts ss) d ≡ partitions_at ss d
    unfolding domain
    domain_at_lem d l = domain_of_lem ss d l

    keeps_parts : Keeps (state_of os ts ss)
    unfolding objects_of threads_of domains_of
    keeps_parts =
        record {
          objects_size = length_tabulate HANDLES (object_at os);
          threads_size = length_tabulate THREADS (thread_at ts);
          domains_size = length_tabulate DOMAINS (partitions_at ss);
          types = λ h. (object_kept h).types;
          flags = λ h. (object_kept h).flags;
          free = λ h. (object_kept h).free;
          bits = λ h t s. rw (thread_at_lem t) (live_says ts THREADS t ((object_kept h).bits t s)).live;
          dead = λ t. rw (thread_at_lem t) (thread_kept t).dead;
          roles = λ t. rw (thread_at_lem t) (thread_kept t).roles;
          homes = λ t. rw (thread_at_lem t) (thread_kept t).homes;
          handles = λ t. rw (thread_at_lem t) (thread_kept t).handles;
          bodies = λ t. rw (thread_at_lem t, object_is (thread_at ts t).handle) (thread_kept t).bodies;
          alone = λ t u. rw (thread_at_lem t, thread_at_lem u) (alone t u);
          slots = λ d l. rw (domain_at_lem d l) (slots_keep (partitions_at ss d) (all_at (λ k. slots_sound (partitions_at ss k)) DOMAINS d p.domains l) (partitions_long ss d));
        }

  -- ---- from the test to the rules, and back
  pub test_sound : keeps_test os ts ss ≡ true → Sound os ts ss
  test_sound e =
      let p = parts e in
      record {
        fit = record { objects = p.objects_long; threads = p.threads_long; slots = p.slots_long; heads = λ h l. (object_at_lem p h l).0 };
        keeps = keeps_parts p;
      }

  module _ (s : Sound os ts ss) where
    read_thread : (t : ℕ) → thread (state_of os ts ss) t ≡ thread_at ts t
    unfolding thread
    read_thread t = thread_of_lem ts s.fit.threads t

    read_object : (h : ℕ) → object (state_of os ts ss) h ≡ object_at os h
    unfolding object
    read_object h = object_of_lem os s.fit.objects h

    read_domain : (d : ℕ) → d < DOMAINS → domain (state_of os ts ss) d ≡ partitions_at ss d
    unfolding domain
    read_domain d l = domain_of_lem ss d l

    object_fine : (h : ℕ) → ObjectKept (live_to ts THREADS) (object_at os h)
    object_fine h =
        rw (← read_object h)
        (record {
          types = s.keeps.types h;
          flags = s.keeps.flags h;
          free = s.keeps.free h;
          bits = λ t b. let l : is_live (thread_at ts t) ≡ true = rw (read_thread t) at (s.keeps.bits h t b) in live_has ts THREADS t (below_64 ts s.fit.threads t l) l;
        })

    thread_fine : (t : ℕ) → ThreadKept os (thread_at ts t)
    thread_fine t =
        rw (← read_thread t)
        (record {
          dead = s.keeps.dead t;
          roles = s.keeps.roles t;
          homes = s.keeps.homes t;
          handles = s.keeps.handles t;
          bodies = λ l. sym (ap (λ o. o.obj_type) (read_object (thread (state_of os ts ss) t).handle)) ∙ s.keeps.bodies t l;
        })

    unserved_fine : (t : ℕ) (b : Bool) → eqb (thread_at ts t).role 0 ≡ b → b || unserved ts (thread_at ts t).handle t ≡ true
    unserved_fine t true z = refl
    unserved_fine t false z = all_from _ t each
      where
        alone : (u : ℕ) → is_live (thread_at ts u) ≡ true → is_live (thread_at ts t) ≡ true → (thread_at ts u).handle ≡ (thread_at ts t).handle → u ≡ t
        alone u = rw (read_thread u, read_thread t) at (s.keeps.alone u t)

        each : (u : ℕ) → u < t → eqb (thread_at ts u).role 0 || not (eqb (thread_at ts u).handle (thread_at ts t).handle) ≡ true
        each u l = go u l (eqb (thread_at ts u).role 0) refl
          where
            go : (u : ℕ) → u < t → (b : Bool) → eqb (thread_at ts u).role 0 ≡ b → b || not (eqb (thread_at ts u).handle (thread_at ts t).handle) ≡ true
            go u l true e = refl
            go u l false e = ap not (ne_eqb _ _ (λ h. let q : u ≡ t = alone u (ap not e) (ap not z) h in omega arith))

    thread_sound_lem : (t : ℕ) → thread_sound os ts t ≡ true
    unfolding thread_sound
    thread_sound_lem t = both (thread_ok_lem os (thread_at ts t) (thread_fine t)) (unserved_fine t (eqb (thread_at ts t).role 0) refl)

    object_sound : (h : ℕ) → h < HANDLES → object_at_ok os (live_to ts THREADS) h ≡ true
    unfolding object_at
    object_sound h l = object_ok_lem (live_to ts THREADS) (get_or os (2 * h) 0) (get_or os (2 * h + 1) 0) (s.fit.heads h l) (object_fine h)

    pub sound_test : keeps_test os ts ss ≡ true
    sound_test =
        whole (record {
          objects_long = s.fit.objects;
          threads_long = s.fit.threads;
          slots_long = s.fit.slots;
          threads = all_from (thread_sound os ts) THREADS (λ t l. thread_sound_lem t);
          objects = all_from (object_at_ok os (live_to ts THREADS)) HANDLES object_sound;
          domains = all_from (λ d. slots_sound (partitions_at ss d)) DOMAINS (λ d l. slots_sound_lem (partitions_at ss d) (rw (read_domain d l) at (s.keeps.slots d l)));
        })

    -- a domain loaded from such a state keeps the rules of a domain record, its count among them: planner and checker take it
    pub loaded_sound : (d : ℕ) → d < DOMAINS → domain_sound (domain_at ss d) ≡ true
    loaded_sound d l = counted_sound (partitions_at ss d) ∙ slots_sound_lem (partitions_at ss d) (rw (read_domain d l) at (s.keeps.slots d l))
