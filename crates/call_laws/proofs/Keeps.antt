-- Each call keeps the rules, whatever the call: so once a state was judged, no VALUE can come in the middle of a run.
use Prim.Native.Nat.{ℕ, ◌%◌, ◌≤◌, ◌<◌}
use native.Mathlib.Decide.{dec_lt, ℕ_discrete}
use native.Mathlib.Omega.{arith}
use mathlib.Core.Path.{◌≡◌, refl, sym, ap, ◌∙◌}
use mathlib.Core.Logic.{◌≢◌, ◌⊎◌, inl, inr, ⊎_elim}
use mathlib.Core.Bool.{Bool, true, false, cond, not, ◌&&◌, ◌||◌, true≢false, false≢true}
use mathlib.Core.List.{List, []}
use lib.Dec.{eqb, ltb, lit<, lit≤}
use lib.ListN.{length, get_or, get_or-eq_default}
use borrow.Author.Tests.{ltb-true, eqb-true, eq-eqb, not-false}
use Rattle.mem_partition.specs.declared.MemPartition.{MemPartition}
use Rattle.mem_domain.specs.Domain.{with_count, added, removed}
use Rattle.mem_domain.proofs.Scan.{any_miss}
use Rattle.domain_rules.specs.Sound.{SlotsKeep, attr_ok}
use Rattle.domain_rules.proofs.All.{both_true, either_true}
use Rattle.userspace.specs.declared.KernelObject.{KernelObject}
use Rattle.bits.specs.Bit.{is_set, clear_bit, is_clear_same, is_zero}
use Rattle.userspace.specs.Laws.{does}
use Rattle.userspace_decide.specs.Decide.{INITIALISED, PUBLIC}
use Rattle.userspace.specs.Userspace.{THREADS, holds, new_object, with_word, granted, revoked, recycled, initiated, uninitiated, published}
use Rattle.tables.specs.declared.Thread.{Thread}
use Rattle.tables.specs.Table.{HANDLES, DOMAINS, no_object, nobody}
use Rattle.tables.specs.State.{State, object, thread, domain}
use Rattle.rules.specs.Rules.{is_live, Keeps}
use Rattle.decoding.specs.declared.Call.{Call}
use Rattle.decoding.specs.Calls.{Sup, create, delete, revoke, init, uninit, recycle, publish, thread as new_thread, end, inherit, assign, add, remove, Op, validate, grant, release, check, exit, sup, unknown, op_of, call_of}
use Rattle.judging.specs.Judge.{live, serves_at, serves, partition_of, well_formed, use_of, rule, sup_rule, judge, heard}
use Rattle.judging.specs.Change.{one, each, enact, inherited, object_change, born, moved, thread_change, domain_change, change, after, left}
use Rattle.judging.specs.Passed.{ok}
use Rattle.call_laws.proofs.Enact.{enact_length, one_keeps, each_keeps, each_at, one_same, one_other}
use Rattle.judging.specs.Passed.{PassedAs, in_range}
use Rattle.call_laws.proofs.Parts.{thread_in, FineObject, FineThread, Alone, Parts, parts, whole, fine_flags, flags_set, flags_clear, fine_granted, fine_revoked, fine_recycled, fine_inherited, fine_fresh, revoked_none}
use Rattle.call_laws.proofs.Slots.{slots_added, slots_removed}

-- ---- one table changes

module _ {s : State} (p : Parts s) where
  -- one object changes
  object_keeps : (i : ℕ) (f : KernelObject → KernelObject) → FineObject s.threads i (f (get_or s.objects i no_object))
      → Parts (record { objects = enact no_object (one i f) s.objects; threads = s.threads; domains = s.domains })
  object_keeps i f g =
      record {
        objects_size = enact_length no_object (one i f) s.objects ∙ p.objects_size;
        threads_size = p.threads_size;
        domains_size = p.domains_size;
        object = one_keeps no_object f s.objects (FineObject s.threads) p.object i g;
        thread = p.thread;
        alone = p.alone;
        slots = p.slots;
      }

  -- each object changes, and none is made of nothing
  objects_keep : (f : KernelObject → KernelObject) → f no_object ≡ no_object → ((h : ℕ) → FineObject s.threads h (f (get_or s.objects h no_object)))
      → Parts (record { objects = enact no_object (each f) s.objects; threads = s.threads; domains = s.domains })
  objects_keep f z g =
      record {
        objects_size = enact_length no_object (each f) s.objects ∙ p.objects_size;
        threads_size = p.threads_size;
        domains_size = p.domains_size;
        object = each_keeps no_object f s.objects (FineObject s.threads) p.object z g;
        thread = p.thread;
        alone = p.alone;
        slots = p.slots;
      }

  -- one domain's slots change
  domain_keeps : (i : ℕ) (f : List MemPartition → List MemPartition) → (i < DOMAINS → SlotsKeep (f (get_or s.domains i [])))
      → Parts (record { objects = s.objects; threads = s.threads; domains = enact [] (one i f) s.domains })
  domain_keeps i f g =
      record {
        objects_size = p.objects_size;
        threads_size = p.threads_size;
        domains_size = enact_length [] (one i f) s.domains ∙ p.domains_size;
        object = p.object;
        thread = p.thread;
        alone = p.alone;
        slots = one_keeps [] f s.domains (λ d l. d < DOMAINS → SlotsKeep l) p.slots i g;
      }

  -- the threads change to others, and the objects fit those
  threads_keep : (i : ℕ) (f : Thread → Thread) (os : List KernelObject) → length os ≡ HANDLES → FineThread (f (thread_in s.threads i))
      → ((h : ℕ) → FineObject (enact nobody (one i f) s.threads) h (get_or os h no_object)) → Alone (enact nobody (one i f) s.threads)
      → Parts (record { objects = os; threads = enact nobody (one i f) s.threads; domains = s.domains })
  threads_keep i f os n g o a =
      record {
        objects_size = n;
        threads_size = enact_length nobody (one i f) s.threads ∙ p.threads_size;
        domains_size = p.domains_size;
        object = o;
        thread = one_keeps nobody f s.threads (λ t r. FineThread r) p.thread i g;
        alone = a;
        slots = p.slots;
      }

-- ---- one thread's record changes

-- the same object beside other threads
fine_beside :
    {ts ts' : List Thread} {h : ℕ} {o : KernelObject} → FineObject ts h o →
    ((t : ℕ) → is_set o.word t ≡ true → is_live (thread_in ts t) ≡ true → is_live (thread_in ts' t) ≡ true) →
    ((t : ℕ) → is_live (thread_in ts' t) ≡ true → (thread_in ts' t).handle ≡ h → o.obj_type ≡ 1) → FineObject ts' h o
fine_beside f b y = record { types = f.types; flags = f.flags; free = f.free; bits = λ t e. b t e (f.bits t e); body = y }

-- what stands at u: the new record, or what was there
data Who (ts : List Thread) (i : ℕ) (r : Thread) (ts' : List Thread) (u : ℕ) : Type 0 where
  new : u ≡ i → thread_in ts' u ≡ r → Who ts i r ts' u
  old : u ≢ i → thread_in ts' u ≡ thread_in ts u → Who ts i r ts' u

who : (ts : List Thread) (i : ℕ) (f : Thread → Thread) → i < length ts → (u : ℕ) → Who ts i (f (thread_in ts i)) (enact nobody (one i f) ts) u
who ts i f b u = go (ℕ_discrete u i)
  where
    go : Dec (u ≡ i) → Who ts i (f (thread_in ts i)) (enact nobody (one i f) ts) u
    go (yes e) = new e (rw e (one_same nobody f ts i b))
    go (no n) = old n (one_other nobody f ts i u n)

-- a live thread of the new list is the new record, live, or was there before
data Alive (ts : List Thread) (i : ℕ) (r : Thread) (ts' : List Thread) (u : ℕ) : Type 0 where
  new : u ≡ i → is_live r ≡ true → (thread_in ts' u).handle ≡ r.handle → Alive ts i r ts' u
  old : u ≢ i → is_live (thread_in ts u) ≡ true → (thread_in ts' u).handle ≡ (thread_in ts u).handle → Alive ts i r ts' u

alive : {ts : List Thread} {i : ℕ} {r : Thread} {ts' : List Thread} {u : ℕ} → Who ts i r ts' u → is_live (thread_in ts' u) ≡ true → Alive ts i r ts' u
alive (new e q) l = new e (ap is_live (sym q) ∙ l) (ap (λ x. x.handle) q)
alive (old n q) l = old n (ap is_live (sym q) ∙ l) (ap (λ x. x.handle) q)

-- no other live thread has the new record's handle
alone_one :
    {ts : List Thread} {i : ℕ} {r : Thread} {ts' : List Thread} → ((u : ℕ) → Who ts i r ts' u) → Alone ts →
    ((u : ℕ) → u ≢ i → is_live r ≡ true → is_live (thread_in ts u) ≡ true → (thread_in ts u).handle ≢ r.handle) → Alone ts'
alone_one {ts} {i} {r} {ts'} w a n t u l m e = go (alive (w t) l) (alive (w u) m)
  where
    go : Alive ts i r ts' t → Alive ts i r ts' u → t ≡ u
    go (new x _ _) (new y _ _) = x ∙ sym y
    go (new x d p) (old y b q) = absurd (n u y d b (sym q ∙ sym e ∙ p))
    go (old x b p) (new y d q) = absurd (n t x d b (sym p ∙ e ∙ q))
    go (old x b p) (old y c q) = a t u b c (sym p ∙ e ∙ q)

module _ {s : State} (p : Parts s) (i : ℕ) (b : i < THREADS) where
  within : i < length s.threads
  within = rw p.threads_size b

  -- a thread's end: its record is all zero, and its bit is clear in every object
  revoked_word : (o : KernelObject) → (revoked o i).object.word ≡ clear_bit o.word i
  unfolding revoked
  revoked_word o = ap (λ x. x.object.word) (does i o (with_word o (clear_bit o.word i)) b)

  bury_keeps :
      Parts (record { objects = enact no_object (each (λ o. (revoked o i).object)) s.objects; threads = enact nobody (one i (λ r. nobody)) s.threads; domains = s.domains })
  bury_keeps =
      threads_keep p i (λ r. nobody) (enact no_object (each (λ o. (revoked o i).object)) s.objects)
      (enact_length no_object (each (λ o. (revoked o i).object)) s.objects ∙ p.objects_size)
      (record { dead = λ _. refl; role = lit≤ tt; home = λ e. absurd (false≢true e); handle = λ e. absurd (false≢true e) })
      (λ h. rw (each_at no_object (λ o. (revoked o i).object) s.objects (revoked_none i) h) (buried h))
      (alone_one at p.alone (λ u n e. absurd (false≢true e)))
    where
      at : (u : ℕ) → Who s.threads i nobody (enact nobody (one i (λ r. nobody)) s.threads) u
      at = who s.threads i (λ r. nobody) within

      stays : (o : KernelObject) (u : ℕ) → is_set (revoked o i).object.word u ≡ true → is_live (thread_in s.threads u) ≡ true
          → Who s.threads i nobody (enact nobody (one i (λ r. nobody)) s.threads) u → is_live (thread_in (enact nobody (one i (λ r. nobody)) s.threads) u) ≡ true
      stays o u e l (new q _) = absurd (true≢false (sym e ∙ ap (λ x. is_set x u) (revoked_word o) ∙ ap (is_set (clear_bit o.word i)) q ∙ is_clear_same o.word i))
      stays o u e l (old _ q) = rw q l

      served : (h u : ℕ) → Alive s.threads i nobody (enact nobody (one i (λ r. nobody)) s.threads) u
          → (thread_in (enact nobody (one i (λ r. nobody)) s.threads) u).handle ≡ h → (revoked (get_or s.objects h no_object) i).object.obj_type ≡ 1
      served h u (new _ l _) e = absurd (false≢true l)
      served h u (old _ l q) e = (fine_revoked (p.object h) i).body u l (sym q ∙ e)

      buried : (h : ℕ) → FineObject (enact nobody (one i (λ r. nobody)) s.threads) h (revoked (get_or s.objects h no_object) i).object
      buried h =
          fine_beside (fine_revoked (p.object h) i) (λ u e l. stays (get_or s.objects h no_object) u e l (at u))
          (λ u l e. served h u (alive (at u) l) e)

  -- a thread's record r: it lives if it lived, and has a handle of type Thread that no other live thread has
  thread_keeps :
      (f : Thread → Thread) → FineThread (f (thread_in s.threads i)) → is_live (f (thread_in s.threads i)) ≡ true →
      (get_or s.objects (f (thread_in s.threads i)).handle no_object).obj_type ≡ 1 →
      ((u : ℕ) → u ≢ i → is_live (thread_in s.threads u) ≡ true → (thread_in s.threads u).handle ≢ (f (thread_in s.threads i)).handle) →
      Parts (record { objects = s.objects; threads = enact nobody (one i f) s.threads; domains = s.domains })
  thread_keeps f g l y n =
      threads_keep p i f s.objects p.objects_size g
      (λ h. fine_beside (p.object h) (λ u e m. stays u m (at u)) (λ u m e. served h u (alive (at u) m) e))
      (alone_one at p.alone (λ u x _ m. n u x m))
    where
      at : (u : ℕ) → Who s.threads i (f (thread_in s.threads i)) (enact nobody (one i f) s.threads) u
      at = who s.threads i f within

      stays : (u : ℕ) → is_live (thread_in s.threads u) ≡ true → Who s.threads i (f (thread_in s.threads i)) (enact nobody (one i f) s.threads) u
          → is_live (thread_in (enact nobody (one i f) s.threads) u) ≡ true
      stays u m (new _ q) = rw q l
      stays u m (old _ q) = rw q m

      served : (h u : ℕ) → Alive s.threads i (f (thread_in s.threads i)) (enact nobody (one i f) s.threads) u
          → (thread_in (enact nobody (one i f) s.threads) u).handle ≡ h → (get_or s.objects h no_object).obj_type ≡ 1
      served h u (new _ _ q) e = ap (λ x. (get_or s.objects x no_object).obj_type) (sym e ∙ q) ∙ y
      served h u (old _ m q) e = (p.object h).body u m (sym q ∙ e)

-- ---- what the rules of the operations give

-- an object that serves no live thread is no live thread's handle
unserved : (s : State) → length s.threads ≡ THREADS → (h : ℕ) → serves s h ≡ false → (t : ℕ) → is_live (thread_in s.threads t) ≡ true → (thread_in s.threads t).handle ≢ h
unfolding serves thread
unserved s n h e t l q = go (dec_lt t THREADS)
  where
    go : Dec (t < THREADS) → ⊥
    go (yes b) = true≢false (sym (rw (l, eq-eqb (thread_in s.threads t).handle h q)) ∙ any_miss (serves_at s h) THREADS t e b)
    go (no b) = false≢true (sym (ap is_live (get_or-eq_default s.threads nobody {n = t} (rw n (omega arith)))) ∙ l)

pub inherited_none : (p c : ℕ) → inherited p c no_object ≡ no_object
unfolding inherited holds
inherited_none p c = go (ltb p THREADS) (is_set 0 p) (is_zero p)
  where
    go : (a b : Bool) → b ≡ false → cond (a && b) (granted no_object c).object no_object ≡ no_object
    go false b e = refl
    go true true e = absurd (true≢false e)
    go true false e = refl

-- a new thread's record
born_live : (c : Call) → is_live (born c) ≡ true
born_live c = go (eqb c.c 1)
  where
    go : (b : Bool) → not (eqb (cond b 2 1) 0) ≡ true
    go true = refl
    go false = refl

born_fine : (c : Call) → c.a < HANDLES → FineThread (born c)
born_fine c h =
    record { dead = λ e. absurd (true≢false (sym (born_live c) ∙ e)); role = go (eqb c.c 1); home = λ _. inr refl; handle = λ _. h }
  where
    go : (b : Bool) → cond b 2 1 ≤ 2
    go true = lit≤ tt
    go false = lit≤ tt

home : (d : ℕ) → ltb d DOMAINS || eqb d 255 ≡ true → (d < DOMAINS) ⊎ (d ≡ 255)
home d e = ⊎_elim (λ x. inl (ltb-true d DOMAINS x)) (λ x. inr (eqb-true d 255 x)) (either_true (ltb d DOMAINS) (eqb d 255) e)

-- ---- each operation

sup_keeps : (q : Sup) (s : State) (c : Call) → Parts s → PassedAs (sup q) s c → Parts (change (sup q) c s)
unfolding change object_change thread_change domain_change enact rule sup_rule well_formed use_of thread object domain
sup_keeps create s c p k =
    let (b₁, r₁) = both_true (ltb 0 c.b) (ltb c.b 16 && (eqb c.c 0 && eqb c.d 0)) k.fields in
    let (b₂, r₂) = both_true (ltb c.b 16) (eqb c.c 0 && eqb c.d 0) r₁ in
    let h = k.frees refl in
    let w : c.b % 256 ≤ 15 = omega (arith, ltb-true c.b 16 b₂) in
    object_keeps p c.a (λ o. new_object (c.b % 256))
    (fine_fresh (c.b % 256) w (λ t l e. let z : ◌≡◌ {A = ℕ} 0 1 = sym h.free ∙ (p.object c.a).body t l e in omega arith))
sup_keeps delete s c p k =
    object_keeps p c.a (λ o. no_object) (fine_fresh 0 (lit≤ tt) (unserved s p.threads_size c.a (ok _ _ _ (lit< tt) k.rule).test))
sup_keeps revoke s c p k = object_keeps p c.a (λ o. (revoked o c.b).object) (fine_revoked (p.object c.a) c.b)
sup_keeps init s c p k =
    object_keeps p c.a initiated (fine_flags (p.object c.a) _ (k.takes refl).taken (flags_set _ INITIALISED (p.object c.a).flags (lit< tt)))
sup_keeps uninit s c p k =
    object_keeps p c.a uninitiated (fine_flags (p.object c.a) _ (k.takes refl).taken (flags_clear _ INITIALISED (p.object c.a).flags))
sup_keeps recycle s c p k =
    object_keeps p c.a (λ o. (recycled o c.caller).object) (fine_recycled (p.object c.a) c.caller (k.takes refl).taken k.lives)
sup_keeps publish s c p k =
    object_keeps p c.a published (fine_flags (p.object c.a) _ (k.takes refl).taken (flags_set _ PUBLIC (p.object c.a).flags (lit< tt)))
sup_keeps new_thread s c p k =
    let (b₁, _) = both_true (ltb c.b THREADS) (ltb c.c 2 && eqb c.d 0) k.fields in
    let r₁ = ok _ _ _ (lit< tt) k.rule in
    let r₂ = ok _ _ _ (lit< tt) r₁.rest in
    let r₃ = ok _ _ _ (lit< tt) r₂.rest in
    thread_keeps p c.b (ltb-true c.b THREADS b₁) (λ r. born c) (born_fine c (k.takes refl).below) (born_live c)
    (eqb-true _ 1 (not-false (eqb (get_or s.objects c.a no_object).obj_type 1) r₂.test))
    (λ u _ l. unserved s p.threads_size c.a r₃.test u l)
sup_keeps end s c p k =
    let (_, r₁) = both_true (eqb c.a 0) (ltb c.b THREADS && (eqb c.c 0 && eqb c.d 0)) k.fields in
    let (b₂, _) = both_true (ltb c.b THREADS) (eqb c.c 0 && eqb c.d 0) r₁ in
    bury_keeps p c.b (ltb-true c.b THREADS b₂)
sup_keeps inherit s c p k =
    let r₁ = ok _ _ _ (lit< tt) k.rule in
    let r₂ = ok _ _ _ (lit< tt) r₁.rest in
    objects_keep p (inherited c.b c.c) (inherited_none c.b c.c)
    (λ h. fine_inherited (p.object h) c.b c.c (not-false (live s c.c) r₂.test))
sup_keeps assign s c p k =
    let (_, r₁) = both_true (eqb c.a 0) (ltb c.b THREADS && ((ltb c.c DOMAINS || eqb c.c 255) && eqb c.d 0)) k.fields in
    let (b₂, r₂) = both_true (ltb c.b THREADS) ((ltb c.c DOMAINS || eqb c.c 255) && eqb c.d 0) r₁ in
    let (b₃, _) = both_true (ltb c.c DOMAINS || eqb c.c 255) (eqb c.d 0) r₂ in
    let l : is_live (thread_in s.threads c.b) ≡ true = not-false (live s c.b) (ok _ _ _ (lit< tt) k.rule).test in
    let g = p.thread c.b in
    thread_keeps p c.b (ltb-true c.b THREADS b₂) (moved c.c)
    (record { dead = λ e. absurd (true≢false (sym l ∙ e)); role = g.role; home = λ _. home c.c b₃; handle = λ _. g.handle l })
    l ((p.object _).body c.b l refl) (λ u n m e. n (p.alone u c.b m l e))
sup_keeps add s c p k =
    let (b₁, r₁) = both_true (ltb c.a DOMAINS) (attr_ok c.d) k.fields in
    domain_keeps p c.a (λ ps. (added (with_count ps) (partition_of c)).domain.partitions)
    (λ d. slots_added (p.slots c.a d) (partition_of c) r₁ k.rule)
sup_keeps remove s c p k =
    domain_keeps p c.a (λ ps. (removed (with_count ps) c.b c.c).domain.partitions)
    (λ d. slots_removed (p.slots c.a d) c.b c.c k.rule)

op_keeps : (o : Op) (s : State) (c : Call) → Parts s → PassedAs o s c → Parts (change o c s)
unfolding change object_change thread_change domain_change enact rule use_of thread object
op_keeps validate s c p k = p
op_keeps grant s c p k =
    let r₁ = ok _ _ _ (lit< tt) k.rule in
    let r₂ = ok _ _ _ (lit< tt) r₁.rest in
    object_keeps p c.a (λ o. (granted o c.b).object) (fine_granted (p.object c.a) c.b (k.takes refl).taken (not-false (live s c.b) r₂.test))
op_keeps release s c p k = object_keeps p c.a (λ o. (revoked o c.caller).object) (fine_revoked (p.object c.a) c.caller)
op_keeps check s c p k = p
op_keeps exit s c p k = bury_keeps p c.caller k.caller
op_keeps (sup q) s c p k = sup_keeps q s c p k
op_keeps unknown s c p k = p

-- ---- the theorems

-- a test of the code decides between the change and the state as it was
pub decided : (n : ℕ) (x y : State) → (n ≡ 0 → Keeps x) → Keeps y → Keeps (cond (eqb n 0) x y)
decided n x y f k = go (eqb n 0) refl
  where
    go : (b : Bool) → eqb n 0 ≡ b → Keeps (cond b x y)
    go true e = f (eqb-true n 0 e)
    go false e = k

pub keeps_after : (s : State) (c : Call) → Keeps s → Keeps (after s c)
unfolding after
keeps_after s c k = decided (judge s c).code (change (op_of c.op) c s) s (λ e. whole (op_keeps (op_of c.op) s c (parts k) (in_range s c e))) k

-- bytes as they come
pub heard_judged : (s : State) (bs : List ℕ) → (heard s bs).code ≡ 0 → (judge s (call_of bs)).code ≡ 0
unfolding heard
heard_judged s bs e = (ok _ _ _ (lit< tt) (ok _ _ _ (lit< tt) e).rest).rest

pub keeps_left : (s : State) (bs : List ℕ) → Keeps s → Keeps (left s bs)
unfolding left
keeps_left s bs k =
    decided (heard s bs).code (change (op_of (call_of bs).op) (call_of bs) s) s
    (λ e. whole (op_keeps (op_of (call_of bs).op) s (call_of bs) (parts k) (in_range s (call_of bs) (heard_judged s bs e)))) k
