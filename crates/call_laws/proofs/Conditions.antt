-- What each operation asks, in plain statements, and that its tests say just that: the fields, the handle, the rule.
use Prim.Native.Nat.{ℕ, ◌+◌, ◌≤◌, ◌<◌}
use native.Mathlib.Omega.{arith}
use mathlib.Core.Path.{◌≡◌, refl, sym, ap, ◌∙◌}
use mathlib.Core.Logic.{◌↔◌, ◌⊎◌, inl, inr, ◌≢◌}
use mathlib.Core.Bool.{Bool, true, false, cond, not, ◌&&◌, ◌||◌, true≢false, false≢true}
use mathlib.Core.List.{List}
use lib.Dec.{eqb, ltb, leb, lit<}
use borrow.Author.Tests.{ltb-true, leb-true, le-leb, eqb-true, eq-eqb, not-true}
use Rattle.answer.specs.declared.Answer.{Answer}
use Rattle.answer.specs.declared.Code.TheVariants.{Einval, Eperm, Ebadf}
use Rattle.answer.specs.Answer.{number_of, done, refused, code_in}
use Rattle.mem_partition.specs.declared.MemPartition.{MemPartition}
use Rattle.mem_domain.specs.Scan.{lowest, any_to}
use Rattle.mem_partition.specs.Partition.{is_free, is_active, is_valid, overlap_of, is_window, end_of}
use Rattle.mem_domain.specs.Domain.{slots as SLOTS, slot_at, free_at, window_at, clashes, addable, has_free, has_window, with_count, changed_at, added, removed}
use Rattle.mem_domain.proofs.Scan.{any_at, any_hit, any_none, any_miss}
use Rattle.mem_domain.proofs.Domain.{add_accepts, added_ok, remove_matches, removed_ok}
use Rattle.mem_domain.proofs.Slots.{no_clash, clash_none}
use Rattle.userspace.specs.declared.KernelObject.{KernelObject}
use Rattle.std.specs.Prelude.{Err}
use Rattle.userspace_names.specs.declared.InitCheck.TheVariants.{MustBeInit, MustNotBeInit}
use Rattle.domain_rules.specs.Sound.{attr_ok}
use Rattle.bits.specs.Bit.{is_set}
use Rattle.userspace_decide.specs.Decide.{init_judged, judged, answer_of}
use Rattle.userspace.specs.Userspace.{THREADS, public, holds, type_fits, access, initialised, validated}
use Rattle.tables.specs.Table.{HANDLES, DOMAINS}
use Rattle.tables.specs.State.{State, object, thread, domain}
use Rattle.mem_check.specs.Memory.{covered_run, reached, memory_rule}
use Rattle.decoding.specs.declared.Call.{Call}
use Rattle.decoding.specs.Calls.{create, delete, revoke, init, uninit, recycle, publish, thread as new_thread, end, inherit, assign, add, remove, Op, validate, grant, release, check, exit, sup, unknown, op_of}
use Rattle.judging.specs.Judge.{live, supervisor, type_of, may_use, serves_at, serves, is_mode, mode_of, well_formed, partition_of, Use, no_handle, taken, free, use_of, with_handle, rule, sup_rule, is_unknown, is_privileged, judge_op, judge}
use Rattle.judging.specs.Passed.{TakenAt, FreeAt, in_range}
use Rattle.mem_check.specs.Runs.{EveryByte, run_all, all_run}
use Rattle.call_laws.proofs.Iff.{lt_iff, eq_iff, ne_iff, gt_iff, le_iff, not_iff, unless_iff, same_iff, and_iff, or_iff, nor_iff, step_iff, last_iff}

-- ---- words of the conditions

-- 0 must be, 1 either, -1 must not be
abbrev pub Mode : ℕ → Type 0
Mode n = (n ≡ 0) ⊎ ((n ≡ 1) ⊎ (n ≡ 4294967295))

abbrev pub Attr : ℕ → Type 0
Attr n = (n ≡ 1) ⊎ ((n ≡ 3) ⊎ ((n ≡ 5) ⊎ (n ≡ 7)))

-- a domain, or none
abbrev pub Home : ℕ → Type 0
Home n = (n < DOMAINS) ⊎ (n ≡ 255)

-- type 0 fits every object
abbrev pub FitsType : ℕ → ℕ → Type 0
FitsType expected actual = (expected ≡ 0) ⊎ (expected ≡ actual)

-- mode 0: initialised; mode -1: not
abbrev pub Demand : ℕ → Bool → Type 0
Demand n i = (n ≡ 0 → i ≡ true) × (n ≡ 4294967295 → i ≡ false)

-- some number below n is so
pub record Some (n : ℕ) (P : ℕ → Type 0) : Type 0 where
  pub number : ℕ
  pub below : number < n
  pub so : P number

-- no live thread has the handle
abbrev pub Unserved : State → ℕ → Type 0
Unserved s h = (t : ℕ) → t < THREADS → live s t ≡ true → (thread s t).handle ≢ h

-- the window overlaps no active slot
abbrev pub Apart : List MemPartition → MemPartition → Type 0
Apart ps p = (k : ℕ) → k < SLOTS → is_active (slot_at ps k) ≡ true → overlap_of p (slot_at ps k) ≡ false

-- a slot is free
abbrev pub Room : List MemPartition → Type 0
Room ps = Some SLOTS (λ k. is_free (slot_at ps k) ≡ true)

-- a slot has that start and size
abbrev pub Match : List MemPartition → ℕ → ℕ → Type 0
Match ps start size = Some SLOTS (λ k. ((slot_at ps k).start ≡ start) × ((slot_at ps k).size ≡ size))

-- ---- what a state's tests say

pub live_iff : (s : State) (t : ℕ) → (live s t ≡ true) ↔ ((thread s t).role ≢ 0)
live_iff s t = (λ e. (ne_iff (thread s t).role 0).0 (not-true (eqb (thread s t).role 0) e), λ n. rw ((ne_iff (thread s t).role 0).1 n))

pub supervisor_iff : (s : State) (t : ℕ) → (supervisor s t ≡ true) ↔ ((thread s t).role ≡ 2)
supervisor_iff s t = eq_iff (thread s t).role 2

-- access: a supervisor, or public, or its bit
pub access_iff :
    (s : State) (t h : ℕ) →
    (may_use s t h ≡ true) ↔ ((supervisor s t ≡ true) ⊎ ((public (object s h) ≡ true) ⊎ ((t < THREADS) × (is_set (object s h).word t ≡ true))))
unfolding access holds
access_iff s t h = or_iff _ _ same_iff (or_iff _ _ same_iff (and_iff _ _ (lt_iff t THREADS) same_iff))

-- ---- the fields of each operation

unfoldable pub Fields : Op → Call → Type 0
Fields validate c = (c.b < 16) × (Mode c.c × (c.d ≡ 0))
Fields grant c = (c.b < THREADS) × ((c.c ≡ 0) × (c.d ≡ 0))
Fields release c = (c.b ≡ 0) × ((c.c ≡ 0) × (c.d ≡ 0))
Fields check c = (c.a ≡ 0) × (c.d < 2)
Fields exit c = (c.a ≡ 0) × ((c.b ≡ 0) × ((c.c ≡ 0) × (c.d ≡ 0)))
Fields (sup create) c = (0 < c.b) × ((c.b < 16) × ((c.c ≡ 0) × (c.d ≡ 0)))
Fields (sup delete) c = (c.b ≡ 0) × ((c.c ≡ 0) × (c.d ≡ 0))
Fields (sup revoke) c = (c.b < THREADS) × ((c.c ≡ 0) × (c.d ≡ 0))
Fields (sup init) c = (c.b ≡ 0) × ((c.c ≡ 0) × (c.d ≡ 0))
Fields (sup uninit) c = (c.b ≡ 0) × ((c.c ≡ 0) × (c.d ≡ 0))
Fields (sup recycle) c = (c.b ≡ 0) × ((c.c ≡ 0) × (c.d ≡ 0))
Fields (sup publish) c = (c.b ≡ 0) × ((c.c ≡ 0) × (c.d ≡ 0))
Fields (sup new_thread) c = (c.b < THREADS) × ((c.c < 2) × (c.d ≡ 0))
Fields (sup end) c = (c.a ≡ 0) × ((c.b < THREADS) × ((c.c ≡ 0) × (c.d ≡ 0)))
Fields (sup inherit) c = (c.a ≡ 0) × ((c.b < THREADS) × ((c.c < THREADS) × (c.d ≡ 0)))
Fields (sup assign) c = (c.a ≡ 0) × ((c.b < THREADS) × (Home c.c × (c.d ≡ 0)))
Fields (sup add) c = (c.a < DOMAINS) × Attr c.d
Fields (sup remove) c = (c.a < DOMAINS) × (c.d ≡ 0)
Fields unknown c = ⊥

zeros_iff : (m n : ℕ) → (eqb m 0 && eqb n 0 ≡ true) ↔ ((m ≡ 0) × (n ≡ 0))
zeros_iff m n = and_iff _ _ (eq_iff m 0) (eq_iff n 0)

unused_iff : (m n k : ℕ) → (eqb m 0 && (eqb n 0 && eqb k 0) ≡ true) ↔ ((m ≡ 0) × ((n ≡ 0) × (k ≡ 0)))
unused_iff m n k = and_iff _ _ (eq_iff m 0) (zeros_iff n k)

thread_iff : (t m n : ℕ) → (ltb t THREADS && (eqb m 0 && eqb n 0) ≡ true) ↔ ((t < THREADS) × ((m ≡ 0) × (n ≡ 0)))
thread_iff t m n = and_iff _ _ (lt_iff t THREADS) (zeros_iff m n)

pub mode_iff : (n : ℕ) → (is_mode n ≡ true) ↔ Mode n
mode_iff n = or_iff _ _ (eq_iff n 0) (or_iff _ _ (eq_iff n 1) (eq_iff n 4294967295))

pub attr_iff : (n : ℕ) → (attr_ok n ≡ true) ↔ Attr n
unfolding attr_ok
attr_iff n = or_iff _ _ (eq_iff n 1) (or_iff _ _ (eq_iff n 3) (or_iff _ _ (eq_iff n 5) (eq_iff n 7)))

pub fields_iff : (o : Op) (c : Call) → (well_formed o c ≡ true) ↔ Fields o c
unfolding well_formed Fields
fields_iff validate c = and_iff _ _ (lt_iff c.b 16) (and_iff _ _ (mode_iff c.c) (eq_iff c.d 0))
fields_iff grant c = thread_iff c.b c.c c.d
fields_iff release c = unused_iff c.b c.c c.d
fields_iff check c = and_iff _ _ (eq_iff c.a 0) (lt_iff c.d 2)
fields_iff exit c = and_iff _ _ (eq_iff c.a 0) (unused_iff c.b c.c c.d)
fields_iff (sup create) c = and_iff _ _ (lt_iff 0 c.b) (and_iff _ _ (lt_iff c.b 16) (zeros_iff c.c c.d))
fields_iff (sup delete) c = unused_iff c.b c.c c.d
fields_iff (sup revoke) c = thread_iff c.b c.c c.d
fields_iff (sup init) c = unused_iff c.b c.c c.d
fields_iff (sup uninit) c = unused_iff c.b c.c c.d
fields_iff (sup recycle) c = unused_iff c.b c.c c.d
fields_iff (sup publish) c = unused_iff c.b c.c c.d
fields_iff (sup new_thread) c = and_iff _ _ (lt_iff c.b THREADS) (and_iff _ _ (lt_iff c.c 2) (eq_iff c.d 0))
fields_iff (sup end) c = and_iff _ _ (eq_iff c.a 0) (thread_iff c.b c.c c.d)
fields_iff (sup inherit) c = and_iff _ _ (eq_iff c.a 0) (and_iff _ _ (lt_iff c.b THREADS) (and_iff _ _ (lt_iff c.c THREADS) (eq_iff c.d 0)))
fields_iff (sup assign) c =
    and_iff _ _ (eq_iff c.a 0)
    (and_iff _ _ (lt_iff c.b THREADS) (and_iff _ _ (or_iff _ _ (lt_iff c.c DOMAINS) (eq_iff c.c 255)) (eq_iff c.d 0)))
fields_iff (sup add) c = and_iff _ _ (lt_iff c.a DOMAINS) (attr_iff c.d)
fields_iff (sup remove) c = and_iff _ _ (lt_iff c.a DOMAINS) (eq_iff c.d 0)
fields_iff unknown c = (λ e. false≢true e, λ e. absurd e)

-- ---- the handle

-- below 256 and taken, or free, where it is one
unfoldable pub UsedAt : Use → State → ℕ → Type 0
UsedAt no_handle s h = Unit {0}
UsedAt taken s h = TakenAt s h
UsedAt free s h = FreeAt s h

pub handle_iff : (u : Use) (s : State) (h : ℕ) (rest : Answer) {P : Type 0} → ((rest.code ≡ 0) ↔ P) → (((with_handle u s h rest).code ≡ 0) ↔ (UsedAt u s h × P))
unfolding with_handle UsedAt
handle_iff no_handle s h rest (f, g) = (λ e. (tt, f e), λ p. g p.1)
handle_iff taken s h rest r =
    let (f, g) = step_iff _ _ _ (lit< tt) (gt_iff HANDLES h) (step_iff _ _ rest (lit< tt) (ne_iff (type_of s h) 0) r) in
    (λ e. let p = f e in (record { below = p.0; taken = p.1.0 }, p.1.1), λ p. g (p.0.below, (p.0.taken, p.1)))
handle_iff free s h rest r =
    let (f, g) = step_iff _ _ _ (lit< tt) (gt_iff HANDLES h) (step_iff _ _ rest (lit< tt) (not_iff (eqb (type_of s h) 0) (eq_iff (type_of s h) 0)) r) in
    (λ e. let p = f e in (record { below = p.0; free = p.1.0 }, p.1.1), λ p. g (p.0.below, (p.0.free, p.1)))

-- ---- the rule of each operation

unfoldable pub RuleHolds : Op → State → Call → Type 0
RuleHolds validate s c =
    FitsType c.b (type_of s c.a)
    × ((may_use s c.caller c.a ≡ true)
    × Demand c.c (initialised (object s c.a)))
RuleHolds grant s c =
    (may_use s c.caller c.a ≡ true) × ((live s c.b ≡ true) × (may_use s c.caller (thread s c.b).handle ≡ true))
RuleHolds release s c = may_use s c.caller c.a ≡ true
RuleHolds check s c =
    ((c.c ≢ 0) × (c.b + c.c ≤ 4294967295))
    × (supervisor s c.caller ≡ false → EveryByte (domain s (thread s c.caller).domain) (eqb c.d 1) c.b c.c)
RuleHolds exit s c = Unit {0}
RuleHolds (sup create) s c = Unit {0}
RuleHolds (sup delete) s c = Unserved s c.a
RuleHolds (sup revoke) s c = live s c.b ≡ true
RuleHolds (sup init) s c = Unit {0}
RuleHolds (sup uninit) s c = Unit {0}
RuleHolds (sup recycle) s c = Unit {0}
RuleHolds (sup publish) s c = Unit {0}
RuleHolds (sup new_thread) s c = (live s c.b ≡ false) × ((type_of s c.a ≡ 1) × Unserved s c.a)
RuleHolds (sup end) s c = live s c.b ≡ true
RuleHolds (sup inherit) s c = (live s c.b ≡ true) × (live s c.c ≡ true)
RuleHolds (sup assign) s c = live s c.b ≡ true
RuleHolds (sup add) s c = ((0 < c.c) × (c.b + c.c ≤ 4294967295)) × (Apart (domain s c.a) (partition_of c) × Room (domain s c.a))
RuleHolds (sup remove) s c = (c.c ≢ 0) × Match (domain s c.a) c.b c.c
RuleHolds unknown s c = ⊥

-- some number below n passes
any_iff : (f : ℕ → Bool) (n : ℕ) {P : ℕ → Type 0} → ((k : ℕ) → (f k ≡ true) ↔ P k) → ((any_to f n ≡ true) ↔ Some n P)
any_iff f n r =
    (λ e. record { number = lowest f n; below = ltb-true (lowest f n) n e; so = (r (lowest f n)).0 (any_hit f n e) }, λ p. any_at f n p.number p.below ((r p.number).1 p.so))

unserved_iff : (s : State) (h : ℕ) → (serves s h ≡ false) ↔ Unserved s h
unfolding serves
unserved_iff s h = (there, λ f. any_none (serves_at s h) THREADS (λ t b. back t (live s t) (eqb (thread s t).handle h) refl refl (f t b)))
  where
    there : any_to (serves_at s h) THREADS ≡ false → Unserved s h
    there e t b l q = true≢false (sym (rw (l, eq-eqb (thread s t).handle h q)) ∙ any_miss (serves_at s h) THREADS t e b)

    back : (t : ℕ) (x y : Bool) → live s t ≡ x → eqb (thread s t).handle h ≡ y → (live s t ≡ true → (thread s t).handle ≢ h) → x && y ≡ false
    back t false y p q f = refl
    back t true false p q f = refl
    back t true true p q f = absurd (f p (eqb-true (thread s t).handle h q))

pub fits_iff : (m n : ℕ) → (type_fits m n ≡ true) ↔ FitsType m n
unfolding type_fits
fits_iff m n = or_iff _ _ (eq_iff m 0) (eq_iff m n)

-- a mode's demand
init_iff : (n : ℕ) (i : Bool) → Mode n → ((answer_of (init_judged i (mode_of n))).code ≡ 0) ↔ Demand n i
init_iff n i (inl e) = rw e (zero_mode i)
  where
    zero_mode : (i : Bool) → ((answer_of (init_judged i MustBeInit)).code ≡ 0) ↔ Demand 0 i
    zero_mode true = (λ _. (λ _. refl, λ q. absurd (omega arith)), λ _. refl)
    zero_mode false = (λ q. absurd (omega arith), λ p. absurd (false≢true (p.0 refl)))
init_iff n i (inr (inl e)) = rw e (λ _. (λ q. absurd (omega arith), λ q. absurd (omega arith)), λ _. refl)
init_iff n i (inr (inr e)) = rw e (last_mode i)
  where
    last_mode : (i : Bool) → ((answer_of (init_judged i MustNotBeInit)).code ≡ 0) ↔ Demand 4294967295 i
    last_mode true = (λ q. absurd (omega arith), λ p. absurd (true≢false (p.1 refl)))
    last_mode false = (λ _. (λ q. absurd (omega arith), λ _. refl), λ _. refl)

-- validate: type, access, initialisation
validated_iff : (o : KernelObject) (e t : ℕ) (v : Bool) (n : ℕ) → Mode n
    → ((answer_of (validated o e t v (mode_of n))).code ≡ 0) ↔ (FitsType e o.obj_type × ((access o t v ≡ true) × Demand n (initialised o)))
unfolding validated judged
validated_iff o e t v n m = go (type_fits e o.obj_type) (access o t v) (fits_iff e o.obj_type) (init_iff n (initialised o) m)
  where
    go : (x y : Bool) → ((x ≡ true) ↔ FitsType e o.obj_type) → (((answer_of (init_judged (initialised o) (mode_of n))).code ≡ 0) ↔ Demand n (initialised o))
        → ((answer_of (cond x (cond y (init_judged (initialised o) (mode_of n)) (Err Eperm)) (Err Ebadf))).code ≡ 0)
        ↔ (FitsType e o.obj_type × ((y ≡ true) × Demand n (initialised o)))
    go true true (f, g) (h, k) = (λ q. (f refl, (refl, h q)), λ p. k p.1.1)
    go true false (f, g) (h, k) = (λ q. absurd (omega arith), λ p. absurd (false≢true p.1.0))
    go false y (f, g) (h, k) = (λ q. absurd (omega arith), λ p. absurd (false≢true (g p.0)))

-- memory check: the range, then every byte
memory_iff : (ps : List MemPartition) (v : Bool) (from len : ℕ) (w : Bool)
    → ((memory_rule ps v from len w).code ≡ 0) ↔ (((len ≢ 0) × (from + len ≤ 4294967295)) × (v ≡ false → EveryByte ps w from len))
unfolding memory_rule reached
memory_iff ps v from len w = go (eqb len 0 || ltb 4294967295 (from + len)) v (nor_iff _ _ (ne_iff len 0) (le_iff 4294967295 (from + len)))
  where
    run : (b : Bool) → leb len (covered_run ps w from len) ≡ b
        → ((cond {A = Answer} b done (record { code = number_of Eperm; value = from + covered_run ps w from len })).code ≡ 0) ↔ EveryByte ps w from len
    run true e = (λ _. run_all ps w from len (leb-true len (covered_run ps w from len) e), λ _. refl)
    run false e = (λ q. absurd (omega arith), λ f. absurd (true≢false (sym (le-leb len (covered_run ps w from len) (all_run ps w from len f)) ∙ e)))

    reach : ((reached from len (covered_run ps w from len)).code ≡ 0) ↔ EveryByte ps w from len
    reach = run (leb len (covered_run ps w from len)) refl

    go : (x v : Bool) → ((x ≡ false) ↔ ((len ≢ 0) × (from + len ≤ 4294967295)))
        → ((cond {A = Answer} x (refused Einval) (cond v done (reached from len (covered_run ps w from len)))).code ≡ 0)
        ↔ (((len ≢ 0) × (from + len ≤ 4294967295)) × (v ≡ false → EveryByte ps w from len))
    go true v (f, g) = (λ q. absurd (omega arith), λ p. absurd (true≢false (g p.0)))
    go false true (f, g) = (λ q. (f refl, λ e. absurd (true≢false e)), λ p. refl)
    go false false (f, g) = (λ q. (f refl, λ _. reach.0 q), λ p. reach.1 (p.1 refl))

-- add and remove
valid_iff : (p : MemPartition) → (is_valid p ≡ true) ↔ ((0 < p.size) × (end_of p ≤ 4294967295))
unfolding is_valid
valid_iff p = and_iff _ _ (lt_iff 0 p.size) (leb-true (end_of p) 4294967295, le-leb (end_of p) 4294967295)

apart_iff : (l : List MemPartition) (p : MemPartition) → (not (clashes l p) ≡ true) ↔ Apart l p
apart_iff l p = (λ e. clash_none l p (not-true (clashes l p) e), λ f. rw (no_clash l p f))

addable_iff : (l : List MemPartition) (p : MemPartition) → (addable l p ≡ true) ↔ (((0 < p.size) × (end_of p ≤ 4294967295)) × Apart l p)
unfolding addable
addable_iff l p = and_iff _ _ (valid_iff p) (apart_iff l p)

room_iff : (l : List MemPartition) → (has_free l ≡ true) ↔ Room l
unfolding has_free
room_iff l = any_iff (free_at l) SLOTS (λ k. same_iff)

match_iff : (l : List MemPartition) (start size : ℕ) → (has_window l start size ≡ true) ↔ Match l start size
unfolding has_window is_window
match_iff l start size = any_iff (window_at l start size) SLOTS (λ k. and_iff _ _ (eq_iff (slot_at l k).start start) (eq_iff (slot_at l k).size size))

added_iff : (l : List MemPartition) (p : MemPartition)
    → (code_in (added (with_count l) p).answer ≡ 0) ↔ (((0 < p.size) × (end_of p ≤ 4294967295)) × (Apart l p × Room l))
unfolding with_count changed_at
added_iff l p =
    let (f, g) = addable_iff l p in
    let (h, k) = room_iff l in
    (λ e. let (a, b) = add_accepts (with_count l) p e in ((f a).0, ((f a).1, h b)), λ q. ap (λ r. code_in r.answer) (added_ok (with_count l) p (g (q.0, q.1.0)) (k q.1.1)))

removed_iff : (l : List MemPartition) (start size : ℕ) → (code_in (removed (with_count l) start size).answer ≡ 0) ↔ ((size ≢ 0) × Match l start size)
unfolding with_count changed_at
removed_iff l start size =
    let (f, g) = ne_iff size 0 in
    let (h, k) = match_iff l start size in
    (λ e. let (a, b) = remove_matches (with_count l) start size e in (f a, h b), λ q. ap (λ r. code_in r.answer) (removed_ok (with_count l) start size (g q.0) (k q.1)))

-- nothing more is asked
done_iff : (done.code ≡ 0) ↔ Unit {0}
done_iff = (λ _. tt, λ _. refl)

pub rule_iff : (o : Op) (s : State) (c : Call) → Fields o c → ((rule o s c).code ≡ 0) ↔ RuleHolds o s c
unfolding rule sup_rule RuleHolds Fields
rule_iff validate s c f = validated_iff (object s c.a) c.b c.caller (supervisor s c.caller) c.c f.1.0
rule_iff grant s c f = step_iff _ _ _ (lit< tt) (unless_iff _) (step_iff _ _ _ (lit< tt) (unless_iff _) (last_iff _ _ (lit< tt) (unless_iff _)))
rule_iff release s c f = last_iff _ _ (lit< tt) (unless_iff _)
rule_iff check s c f = memory_iff (domain s (thread s c.caller).domain) (supervisor s c.caller) c.b c.c (eqb c.d 1)
rule_iff exit s c f = done_iff
rule_iff (sup create) s c f = done_iff
rule_iff (sup delete) s c f = last_iff _ _ (lit< tt) (unserved_iff s c.a)
rule_iff (sup revoke) s c f = last_iff _ _ (lit< tt) (unless_iff _)
rule_iff (sup init) s c f = done_iff
rule_iff (sup uninit) s c f = done_iff
rule_iff (sup recycle) s c f = done_iff
rule_iff (sup publish) s c f = done_iff
rule_iff (sup new_thread) s c f =
    step_iff _ _ _ (lit< tt) same_iff
    (step_iff _ _ _ (lit< tt) (not_iff _ (eq_iff (type_of s c.a) 1)) (last_iff _ _ (lit< tt) (unserved_iff s c.a)))
rule_iff (sup end) s c f = last_iff _ _ (lit< tt) (unless_iff _)
rule_iff (sup inherit) s c f = step_iff _ _ _ (lit< tt) (unless_iff _) (last_iff _ _ (lit< tt) (unless_iff _))
rule_iff (sup assign) s c f = last_iff _ _ (lit< tt) (unless_iff _)
rule_iff (sup add) s c f = added_iff (domain s c.a) (partition_of c)
rule_iff (sup remove) s c f = removed_iff (domain s c.a) c.b c.c
rule_iff unknown s c f = absurd f

-- ---- the whole call

-- what an OK takes: a live caller, for a privileged operation a supervisor, good fields, the handle, the rule
pub record OkAs (o : Op) (s : State) (c : Call) : Type 0 where
  pub caller : c.caller < THREADS
  pub lives : live s c.caller ≡ true
  pub rank : is_privileged o ≡ true → supervisor s c.caller ≡ true
  pub fields : Fields o c
  pub handle : UsedAt (use_of o) s c.a
  pub rule : RuleHolds o s c

rank_iff : (p v : Bool) → (p && not v ≡ false) ↔ (p ≡ true → v ≡ true)
rank_iff true true = (λ _ _. refl, λ _. refl)
rank_iff true false = (λ e. absurd (true≢false e), λ f. absurd (false≢true (f refl)))
rank_iff false v = (λ _ e. absurd (false≢true e), λ _. refl)

known : (o : Op) (c : Call) → Fields o c → is_unknown o ≡ false
unfolding is_unknown Fields
known validate c f = refl
known grant c f = refl
known release c f = refl
known check c f = refl
known exit c f = refl
known (sup p) c f = refl
known unknown c f = absurd f

-- OK exactly then
pub ok_exactly : (s : State) (c : Call) → ((judge s c).code ≡ 0) ↔ OkAs (op_of c.op) s c
unfolding judge judge_op
ok_exactly s c = (there, back)
  where
    order :
        Fields (op_of c.op) c →
        ((judge s c).code ≡ 0)
        ↔ ((c.caller < THREADS)
        × ((live s c.caller ≡ true)
        × ((is_unknown (op_of c.op) ≡ false)
        × ((is_privileged (op_of c.op) ≡ true → supervisor s c.caller ≡ true)
        × (Fields (op_of c.op) c × (UsedAt (use_of (op_of c.op)) s c.a × RuleHolds (op_of c.op) s c))))))
    order f =
        step_iff _ _ _ (lit< tt) (gt_iff THREADS c.caller)
        (step_iff _ _ _ (lit< tt) (unless_iff (live s c.caller))
        (step_iff _ _ _ (lit< tt) same_iff
        (step_iff _ _ _ (lit< tt) (rank_iff (is_privileged (op_of c.op)) (supervisor s c.caller))
        (step_iff _ _ _ (lit< tt) (not_iff _ (fields_iff (op_of c.op) c))
        (handle_iff (use_of (op_of c.op)) s c.a (rule (op_of c.op) s c) (rule_iff (op_of c.op) s c f))))))

    there : (judge s c).code ≡ 0 → OkAs (op_of c.op) s c
    there e =
        let g = (fields_iff (op_of c.op) c).0 (in_range s c e).fields in
        let (a, b) = (order g).0 e in
        record { caller = a; lives = b.0; rank = b.1.1.0; fields = g; handle = b.1.1.1.1.0; rule = b.1.1.1.1.1 }

    back : OkAs (op_of c.op) s c → (judge s c).code ≡ 0
    back k = (order k.fields).1 (k.caller, (k.lives, (known (op_of c.op) c k.fields, (k.rank, (k.fields, (k.handle, k.rule))))))
