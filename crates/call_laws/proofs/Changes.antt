-- On OK each operation changes exactly what is named here, and all else stays: every other object, thread and domain, every field not named. A refusal
-- changes nothing.
use Rattle.answer.specs.Answer.{code_in}
use Prim.Native.Nat.{ℕ, ◌%◌, ◌<◌}
use native.Mathlib.Nat.{mod-eq_of_lt}
use native.Mathlib.Omega.{arith}
use mathlib.Core.Path.{◌≡◌, refl, sym, ap, ◌∙◌, subst}
use mathlib.Core.Logic.{◌≢◌}
use mathlib.Core.Bool.{Bool, true, false, cond, ◌||◌, or-true, or-false}
use mathlib.Core.List.{List, []}
use lib.ListN.{length, get_or, set}
use borrow.Author.Tests.{ne_eqb, lt-ltb}
use Rattle.mem_partition.specs.declared.MemPartition.{MemPartition}
use Rattle.mem_partition.specs.Partition.{empty}
use Rattle.mem_domain.specs.Domain.{slots as SLOTS, slot_at, lowest_free, lowest_window, with_count, changed_at, added, removed}
use Rattle.mem_domain.proofs.Domain.{add_accepts, add_stores, remove_matches, remove_frees}
use Rattle.mem_domain.proofs.Slots.{free_below, window_below, slot_same, slot_other}
use Rattle.userspace.specs.declared.KernelObject.{KernelObject}
use Rattle.bits.specs.Bit.{is_set, set_bit, clear_bit, is_set_same, is_set_other, is_clear_same, is_clear_other, is_zero}
use Rattle.userspace.specs.Laws.{does}
use Rattle.userspace_decide.specs.Decide.{INITIALISED, PUBLIC}
use Rattle.userspace.specs.Userspace.{THREADS, holds, new_object, with_word, with_flags, granted, revoked, recycled, initiated, uninitiated, published}
use Rattle.tables.specs.declared.Thread.{Thread}
use Rattle.tables.specs.Table.{HANDLES, DOMAINS, no_object, nobody}
use Rattle.tables.specs.State.{State, object, thread, domain}
use Rattle.rules.specs.Rules.{Keeps}
use Rattle.decoding.specs.declared.Call.{Call}
use Rattle.decoding.specs.Calls.{create, delete, revoke, init, uninit, recycle, publish, thread as new_thread, end, inherit, assign, add, remove, Op, validate, grant, release, check, exit, sup, op_of}
use Rattle.judging.specs.Judge.{partition_of, rule, sup_rule, judge}
use Rattle.judging.specs.Change.{none, one, each, enact, inherited, object_change, born, moved, thread_change, domain_change, change, after}
use Rattle.call_laws.proofs.Enact.{one_same, one_other, each_at}
use Rattle.judging.specs.Passed.{PassedAs, in_range}
use Rattle.call_laws.proofs.Parts.{revoked_none}
use Rattle.call_laws.proofs.Keeps.{inherited_none}
use Rattle.call_laws.proofs.Operations.{grant_ok_means, release_ok_means, create_ok_means, delete_ok_means, revoke_ok_means, init_ok_means, uninit_ok_means, recycle_ok_means, publish_ok_means, thread_ok_means, end_ok_means, inherit_ok_means, assign_ok_means, add_ok_means, remove_ok_means, exit_ok_means}
use Rattle.call_laws.proofs.Order.{add_value, remove_value}

-- ---- what happens to one record

-- bit t is set, or clear; every other bit, the type and the flags stay
pub record BitIs (b : Bool) (t : ℕ) (o o' : KernelObject) : Type 0 where
  pub kind : o'.obj_type ≡ o.obj_type
  pub flags : o'.flags ≡ o.flags
  pub bit : is_set o'.word t ≡ b
  pub others : (u : ℕ) → u ≢ t → is_set o'.word u ≡ is_set o.word u

-- flag k is set, or clear; every other flag, the type and the word stay
pub record FlagIs (b : Bool) (k : ℕ) (o o' : KernelObject) : Type 0 where
  pub kind : o'.obj_type ≡ o.obj_type
  pub word : o'.word ≡ o.word
  pub flag : is_set o'.flags k ≡ b
  pub others : (j : ℕ) → j ≢ k → is_set o'.flags j ≡ is_set o.flags j

-- the caller's bit alone is set, and the initialised flag; type and other flags stay
pub record Recycled (t : ℕ) (o o' : KernelObject) : Type 0 where
  pub kind : o'.obj_type ≡ o.obj_type
  pub bit : is_set o'.word t ≡ true
  pub bits : (u : ℕ) → u ≢ t → is_set o'.word u ≡ false
  pub flag : is_set o'.flags INITIALISED ≡ true
  pub others : (j : ℕ) → j ≢ INITIALISED → is_set o'.flags j ≡ is_set o.flags j

-- the child has the bit if it had it or the parent has it; every other bit, the type and the flags stay
pub record Inherits (p c : ℕ) (o o' : KernelObject) : Type 0 where
  pub kind : o'.obj_type ≡ o.obj_type
  pub flags : o'.flags ≡ o.flags
  pub child : is_set o'.word c ≡ (is_set o.word c || is_set o.word p)
  pub others : (u : ℕ) → u ≢ c → is_set o'.word u ≡ is_set o.word u

-- slot k is p; every other slot stays
pub record SlotIs (k : ℕ) (p : MemPartition) (l l' : List MemPartition) : Type 0 where
  pub below : k < SLOTS
  pub slot : slot_at l' k ≡ p
  pub others : (j : ℕ) → j ≢ k → slot_at l' j ≡ slot_at l j

-- ---- what happens to a state: one record goes over to another, all else stays

pub record OneObject (s s' : State) (h : ℕ) (R : KernelObject → KernelObject → Type 0) : Type 0 where
  pub here : R (object s h) (object s' h)
  pub others : (k : ℕ) → k ≢ h → object s' k ≡ object s k
  pub threads : s'.threads ≡ s.threads
  pub domains : s'.domains ≡ s.domains

pub record EachObject (s s' : State) (R : KernelObject → KernelObject → Type 0) : Type 0 where
  pub each : (h : ℕ) → R (object s h) (object s' h)
  pub threads : s'.threads ≡ s.threads
  pub domains : s'.domains ≡ s.domains

pub record OneThread (s s' : State) (t : ℕ) (R : Thread → Thread → Type 0) : Type 0 where
  pub here : R (thread s t) (thread s' t)
  pub others : (u : ℕ) → u ≢ t → thread s' u ≡ thread s u
  pub objects : s'.objects ≡ s.objects
  pub domains : s'.domains ≡ s.domains

pub record OneDomain (s s' : State) (d : ℕ) (R : List MemPartition → List MemPartition → Type 0) : Type 0 where
  pub here : R (domain s d) (domain s' d)
  pub others : (e : ℕ) → e ≢ d → domain s' e ≡ domain s e
  pub objects : s'.objects ≡ s.objects
  pub threads : s'.threads ≡ s.threads

-- a thread's end: its record is all zero and its bit is clear in every object
pub record Ended (s s' : State) (t : ℕ) : Type 0 where
  pub here : thread s' t ≡ nobody
  pub others : (u : ℕ) → u ≢ t → thread s' u ≡ thread s u
  pub objects : (h : ℕ) → BitIs false t (object s h) (object s' h)
  pub domains : s'.domains ≡ s.domains

-- ---- the leaf's changes say that

granted_is : (o : KernelObject) (t : ℕ) → t < THREADS → BitIs true t o (granted o t).object
unfolding granted
granted_is o t h =
    rw (does t o (with_word o (set_bit o.word t)) h)
    (record { kind = refl; flags = refl; bit = is_set_same o.word t; others = λ u n. is_set_other o.word t u n })

revoked_is : (o : KernelObject) (t : ℕ) → t < THREADS → BitIs false t o (revoked o t).object
unfolding revoked
revoked_is o t h =
    rw (does t o (with_word o (clear_bit o.word t)) h)
    (record { kind = refl; flags = refl; bit = is_clear_same o.word t; others = λ u n. is_clear_other o.word t u n })

flag_set : (o : KernelObject) (k : ℕ) → FlagIs true k o (with_flags o (set_bit o.flags k))
flag_set o k = record { kind = refl; word = refl; flag = is_set_same o.flags k; others = λ j n. is_set_other o.flags k j n }

flag_clear : (o : KernelObject) (k : ℕ) → FlagIs false k o (with_flags o (clear_bit o.flags k))
flag_clear o k = record { kind = refl; word = refl; flag = is_clear_same o.flags k; others = λ j n. is_clear_other o.flags k j n }

recycled_is : (o : KernelObject) (t : ℕ) → t < THREADS → Recycled t o (recycled o t).object
unfolding recycled
recycled_is o t h =
    rw (does t o (with_word (initiated o) (set_bit 0 t)) h)
    (record {
      kind = refl;
      bit = is_set_same 0 t;
      bits = λ u n. is_set_other 0 t u n ∙ is_zero u;
      flag = is_set_same o.flags INITIALISED;
      others = λ j n. is_set_other o.flags INITIALISED j n;
    })

inherited_is : (o : KernelObject) (p c : ℕ) → p < THREADS → c < THREADS → Inherits p c o (inherited p c o)
unfolding inherited holds
inherited_is o p c h g = rw (lt-ltb p THREADS h) (go (is_set o.word p) refl)
  where
    go : (b : Bool) → is_set o.word p ≡ b → Inherits p c o (cond b (granted o c).object o)
    go true e = let r = granted_is o c g in record { kind = r.kind; flags = r.flags; child = r.bit ∙ sym (ap (λ x. is_set o.word c || x) e ∙ or-true (is_set o.word c)); others = r.others }
    go false e = record { kind = refl; flags = refl; child = sym (ap (λ x. is_set o.word c || x) e ∙ or-false (is_set o.word c)); others = λ u n. refl }

set_is : (l : List MemPartition) → length l ≡ SLOTS → (j : ℕ) (p : MemPartition) → j < SLOTS → SlotIs j p l (set l j p)
set_is l n j p b = record { below = b; slot = slot_same l j p (rw n b); others = λ i d. slot_other l j p i d }

added_is : (l : List MemPartition) → length l ≡ SLOTS → (p : MemPartition) → code_in (added (with_count l) p).answer ≡ 0 → SlotIs (lowest_free l) p l (added (with_count l) p).domain.partitions
unfolding with_count changed_at
added_is l n p e = rw (add_stores (with_count l) p e) (set_is l n (lowest_free l) p (free_below l (add_accepts (with_count l) p e).1))

removed_is : (l : List MemPartition) → length l ≡ SLOTS → (start size : ℕ) → code_in (removed (with_count l) start size).answer ≡ 0
    → SlotIs (lowest_window l start size) empty l (removed (with_count l) start size).domain.partitions
unfolding with_count changed_at
removed_is l n start size e =
    rw (remove_frees (with_count l) start size e) (set_is l n (lowest_window l start size) empty (window_below l start size (remove_matches (with_count l) start size e).1))

-- ---- from the change of a table to the state

module _ {s : State} (k : Keeps s) (c : Call) (o : Op) where
  object_one :
      (i : ℕ) (f : KernelObject → KernelObject) (R : KernelObject → KernelObject → Type 0) → object_change o c ≡ one i f → thread_change o c ≡ none →
      domain_change o c ≡ none → i < HANDLES → R (object s i) (f (object s i)) → OneObject s (change o c s) i R
  unfolding change object enact
  object_one i f R p q r b h =
      rw (p, q, r)
      (record {
        here = rw (one_same no_object f s.objects i (rw k.objects_size b)) h;
        others = λ j n. one_other no_object f s.objects i j n;
        threads = refl;
        domains = refl;
      })

  object_each :
      (f : KernelObject → KernelObject) (R : KernelObject → KernelObject → Type 0) → object_change o c ≡ each f → thread_change o c ≡ none →
      domain_change o c ≡ none → f no_object ≡ no_object → ((h : ℕ) → R (object s h) (f (object s h))) → EachObject s (change o c s) R
  unfolding change object enact
  object_each f R p q r z h =
      rw (p, q, r) (record { each = λ j. rw (each_at no_object f s.objects z j) (h j); threads = refl; domains = refl })

  thread_one :
      (i : ℕ) (f : Thread → Thread) (R : Thread → Thread → Type 0) → object_change o c ≡ none → thread_change o c ≡ one i f →
      domain_change o c ≡ none → i < THREADS → R (thread s i) (f (thread s i)) → OneThread s (change o c s) i R
  unfolding change thread enact
  thread_one i f R p q r b h =
      rw (p, q, r)
      (record {
        here = rw (one_same nobody f s.threads i (rw k.threads_size b)) h;
        others = λ j n. one_other nobody f s.threads i j n;
        objects = refl;
        domains = refl;
      })

  domain_one :
      (i : ℕ) (f : List MemPartition → List MemPartition) (R : List MemPartition → List MemPartition → Type 0) → object_change o c ≡ none →
      thread_change o c ≡ none → domain_change o c ≡ one i f → i < DOMAINS → R (domain s i) (f (domain s i)) → OneDomain s (change o c s) i R
  unfolding change domain enact
  domain_one i f R p q r b h =
      rw (p, q, r)
      (record {
        here = rw (one_same [] f s.domains i (rw k.domains_size b)) h;
        others = λ j n. one_other [] f s.domains i j n;
        objects = refl;
        threads = refl;
      })

  thread_ends :
      (t : ℕ) → object_change o c ≡ each (λ x. (revoked x t).object) → thread_change o c ≡ one t (λ r. nobody) → domain_change o c ≡ none → t < THREADS →
      Ended s (change o c s) t
  unfolding change object thread enact
  thread_ends t p q r b =
      rw (p, q, r)
      (record {
        here = one_same nobody (λ x. nobody) s.threads t (rw k.threads_size b);
        others = λ j n. one_other nobody (λ x. nobody) s.threads t j n;
        objects = λ h. rw (each_at no_object (λ x. (revoked x t).object) s.objects (revoked_none t) h) (revoked_is (get_or s.objects h no_object) t b);
        domains = refl;
      })

-- ---- the state after a call

module _ (s : State) (c : Call) where
  pub after_ok : (judge s c).code ≡ 0 → (o : Op) → op_of c.op ≡ o → after s c ≡ change o c s
  unfolding after
  after_ok e o p = rw (e, p)

  -- a refusal changes nothing
  pub after_refused : (judge s c).code ≢ 0 → after s c ≡ s
  unfolding after
  after_refused n = rw (ne_eqb (judge s c).code 0 n)

module _ (s : State) (c : Call) (k : Keeps s) (e : (judge s c).code ≡ 0) where
  -- validate and the memory check change nothing
  pub validate_does : op_of c.op ≡ validate → after s c ≡ s
  unfolding change object_change thread_change domain_change enact
  validate_does o = after_ok s c e validate o

  pub check_does : op_of c.op ≡ check → after s c ≡ s
  unfolding change object_change thread_change domain_change enact
  check_does o = after_ok s c e check o

  -- grant sets the target's bit; release clears the caller's, revoke the thread's
  pub grant_does : op_of c.op ≡ grant → OneObject s (after s c) c.a (BitIs true c.b)
  unfolding object_change thread_change domain_change
  grant_does o =
      let g = grant_ok_means s c o e in
      rw (after_ok s c e grant o)
      (object_one k c grant c.a (λ x. (granted x c.b).object) (BitIs true c.b) refl refl refl g.handle (granted_is (object s c.a) c.b g.target))

  pub release_does : op_of c.op ≡ release → OneObject s (after s c) c.a (BitIs false c.caller)
  unfolding object_change thread_change domain_change
  release_does o =
      let g = release_ok_means s c o e in
      rw (after_ok s c e release o)
      (object_one k c release c.a (λ x. (revoked x c.caller).object) (BitIs false c.caller) refl refl refl g.handle
      (revoked_is (object s c.a) c.caller g.caller))

  pub revoke_does : op_of c.op ≡ sup revoke → OneObject s (after s c) c.a (BitIs false c.b)
  unfolding object_change thread_change domain_change
  revoke_does o =
      let g = revoke_ok_means s c o e in
      rw (after_ok s c e (sup revoke) o)
      (object_one k c (sup revoke) c.a (λ x. (revoked x c.b).object) (BitIs false c.b) refl refl refl g.handle
      (revoked_is (object s c.a) c.b g.target))

  -- create makes the leaf's new object; after delete the handle is free
  pub create_does : op_of c.op ≡ sup create → OneObject s (after s c) c.a (λ x y. y ≡ new_object c.b)
  unfolding object_change thread_change domain_change
  create_does o =
      let g = create_ok_means s c o e in
      rw (after_ok s c e (sup create) o)
      (object_one k c (sup create) c.a (λ x. new_object (c.b % 256)) (λ x y. y ≡ new_object c.b) refl refl refl g.handle
      (ap new_object (mod-eq_of_lt (omega arith))))

  pub delete_does : op_of c.op ≡ sup delete → OneObject s (after s c) c.a (λ x y. y ≡ no_object)
  unfolding object_change thread_change domain_change
  delete_does o =
      let g = delete_ok_means s c o e in
      rw (after_ok s c e (sup delete) o) (object_one k c (sup delete) c.a (λ x. no_object) (λ x y. y ≡ no_object) refl refl refl g.handle refl)

  -- init and uninit the initialised flag, make public the public flag
  pub init_does : op_of c.op ≡ sup init → OneObject s (after s c) c.a (FlagIs true INITIALISED)
  unfolding object_change thread_change domain_change
  init_does o =
      let g = init_ok_means s c o e in
      rw (after_ok s c e (sup init) o)
      (object_one k c (sup init) c.a initiated (FlagIs true INITIALISED) refl refl refl g.handle (flag_set (object s c.a) INITIALISED))

  pub uninit_does : op_of c.op ≡ sup uninit → OneObject s (after s c) c.a (FlagIs false INITIALISED)
  unfolding object_change thread_change domain_change
  uninit_does o =
      let g = uninit_ok_means s c o e in
      rw (after_ok s c e (sup uninit) o)
      (object_one k c (sup uninit) c.a uninitiated (FlagIs false INITIALISED) refl refl refl g.handle (flag_clear (object s c.a) INITIALISED))

  pub publish_does : op_of c.op ≡ sup publish → OneObject s (after s c) c.a (FlagIs true PUBLIC)
  unfolding object_change thread_change domain_change
  publish_does o =
      let g = publish_ok_means s c o e in
      rw (after_ok s c e (sup publish) o)
      (object_one k c (sup publish) c.a published (FlagIs true PUBLIC) refl refl refl g.handle (flag_set (object s c.a) PUBLIC))

  pub recycle_does : op_of c.op ≡ sup recycle → OneObject s (after s c) c.a (Recycled c.caller)
  unfolding object_change thread_change domain_change
  recycle_does o =
      let g = recycle_ok_means s c o e in
      rw (after_ok s c e (sup recycle) o)
      (object_one k c (sup recycle) c.a (λ x. (recycled x c.caller).object) (Recycled c.caller) refl refl refl g.handle
      (recycled_is (object s c.a) c.caller g.caller))

  -- exit ends the caller, end the thread
  pub exit_does : op_of c.op ≡ exit → Ended s (after s c) c.caller
  unfolding object_change thread_change domain_change
  exit_does o = let g = exit_ok_means s c o e in rw (after_ok s c e exit o) (thread_ends k c exit c.caller refl refl refl g.caller)

  pub end_does : op_of c.op ≡ sup end → Ended s (after s c) c.b
  unfolding object_change thread_change domain_change
  end_does o = let g = end_ok_means s c o e in rw (after_ok s c e (sup end) o) (thread_ends k c (sup end) c.b refl refl refl g.target)

  -- a new thread's record; the object stays as it is
  pub thread_does : op_of c.op ≡ sup new_thread → OneThread s (after s c) c.b (λ x y. y ≡ born c)
  unfolding object_change thread_change domain_change
  thread_does o =
      let g = thread_ok_means s c o e in
      rw (after_ok s c e (sup new_thread) o) (thread_one k c (sup new_thread) c.b (λ x. born c) (λ x y. y ≡ born c) refl refl refl g.number refl)

  pub assign_does : op_of c.op ≡ sup assign → OneThread s (after s c) c.b (λ x y. y ≡ moved c.c x)
  unfolding object_change thread_change domain_change
  assign_does o =
      let g = assign_ok_means s c o e in
      rw (after_ok s c e (sup assign) o) (thread_one k c (sup assign) c.b (moved c.c) (λ x y. y ≡ moved c.c x) refl refl refl g.target refl)

  pub inherit_does : op_of c.op ≡ sup inherit → EachObject s (after s c) (Inherits c.b c.c)
  unfolding object_change thread_change domain_change
  inherit_does o =
      let g = inherit_ok_means s c o e in
      rw (after_ok s c e (sup inherit) o)
      (object_each k c (sup inherit) (inherited c.b c.c) (Inherits c.b c.c) refl refl refl (inherited_none c.b c.c)
      (λ h. inherited_is (object s h) c.b c.c g.parent g.child))

  -- the rule's own answer was OK
  ruled : (o : Op) → op_of c.op ≡ o → (rule o s c).code ≡ 0
  ruled o p = (subst (λ (x : Op). PassedAs x s c) p (in_range s c e)).rule

  -- add puts the window into the slot that is answered, remove makes the one that is answered all zero
  pub add_does : op_of c.op ≡ sup add → OneDomain s (after s c) c.a (SlotIs (judge s c).value (partition_of c))
  unfolding object_change thread_change domain_change rule sup_rule
  add_does o =
      let g = add_ok_means s c o e in
      rw (after_ok s c e (sup add) o, add_value s c e o)
      (domain_one k c (sup add) c.a (λ l. (added (with_count l) (partition_of c)).domain.partitions) (SlotIs (lowest_free (domain s c.a)) (partition_of c)) refl refl refl
      g.number (added_is (domain s c.a) (k.slots c.a g.number).size (partition_of c) (ruled (sup add) o)))

  pub remove_does : op_of c.op ≡ sup remove → OneDomain s (after s c) c.a (SlotIs (judge s c).value empty)
  unfolding object_change thread_change domain_change rule sup_rule
  remove_does o =
      let g = remove_ok_means s c o e in
      rw (after_ok s c e (sup remove) o, remove_value s c e o)
      (domain_one k c (sup remove) c.a (λ l. (removed (with_count l) c.b c.c).domain.partitions) (SlotIs (lowest_window (domain s c.a) c.b c.c) empty)
      refl refl refl g.number (removed_is (domain s c.a) (k.slots c.a g.number).size c.b c.c (ruled (sup remove) o)))
