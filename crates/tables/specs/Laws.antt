-- What the accessors do to each other, once: a load after a store at the same place and at another, behind the end, the length, and two
-- stores at different places. What stands above cites these and opens no definition of Table.
use Prim.Native.Nat.{ℕ, zero, suc, ◌+◌, ◌*◌, ◌/◌, ◌%◌, ◌≤◌, ◌<◌}
use Rattle.std.proofs.Math.Decide.{ℕ_discrete, dec_lt}
use Rattle.std.specs.Prelude.{◌≡◌, ◌≢◌, true, List, eqb, length}
use Rattle.std.proofs.Math.Path.{refl, ap}
use Rattle.std.proofs.Common.{sym, ◌∙◌, arith, lt-ltb, le-ltb, eqb-true}
use Rattle.std.proofs.Math.ListN.{get_or}
use Rattle.std.proofs.Math.Seq.{length-sets}
use Rattle.answer.specs.Tests.{both_true}
use Rattle.mem_partition.specs.Partition.{empty}
use Rattle.mem_domain.specs.Domain.{slots as SLOTS}
use Rattle.mem_partition.specs.declared.MemPartition.{MemPartition}
use Rattle.userspace.specs.Userspace.{THREADS}
use Rattle.userspace.specs.declared.KernelObject.{KernelObject}
use Rattle.tables.specs.declared.Thread.{Thread}
use Rattle.tables.specs.Rows.{apart_2, apart_3, sets_comm, at2_same, at2_other, at2_out, at3_same, at3_other, at3_out}
use Rattle.tables.specs.Tabulate.{tabulate_ext, tabulate_get_d}
use Rattle.tables.specs.Table.{HANDLES, DOMAINS, sized, no_object, nobody, object_of, object_at, put_object, object_row, thread_of, thread_at, put_thread, thread_row, partition_of, partition_at, put_partition, partition_row, slot_at, put_slot, partitions_at, put_to}

-- three lengths that pass the test are a state's
pub sizes : (m n k : ℕ) → sized m n k ≡ true → (m ≡ 2 * HANDLES) × (n ≡ 3 * THREADS) × (k ≡ 3 * (SLOTS * DOMAINS))
unfolding sized
sizes m n k z =
    let p = both_true (eqb m (2 * HANDLES)) _ z in
    let q = both_true (eqb n (3 * THREADS)) _ p.1 in
    (eqb-true _ _ p.0, eqb-true _ _ q.0, eqb-true _ _ q.1)

-- ---- objects

-- type and flags are bytes
pub record Bytes (o : KernelObject) : Type 0 where
  pub type : o.obj_type < 256
  pub flags : o.flags < 256

-- a head is taken apart again
head_type : (t f : ℕ) → t < 256 → (t + 256 * f) % 256 ≡ t
head_type t f h = omega arith

head_flags : (t f : ℕ) → t < 256 → f < 256 → (t + 256 * f) / 256 % 256 ≡ f
head_flags t f h g = omega arith

pub row_object : (o : KernelObject) → Bytes o → object_of (o.obj_type + 256 * o.flags) o.word ≡ o
row_object o b = rw (head_type o.obj_type o.flags b.type, head_flags o.obj_type o.flags b.type b.flags)

module _ (xs : List ℕ) (h : ℕ) where
  pub object_length : (o : KernelObject) → length (put_object xs h o) ≡ length xs
  unfolding put_object
  object_length o = length-sets xs (2 * h) (object_row o)

  pub object_same : (o : KernelObject) → 2 * h + 1 < length xs → Bytes o → object_at (put_object xs h o) h ≡ o
  unfolding object_at put_object
  object_same o l b = at2_same object_of xs h (o.obj_type + 256 * o.flags) o.word l ∙ row_object o b

  pub object_other : (k : ℕ) (o : KernelObject) → k ≢ h → object_at (put_object xs k o) h ≡ object_at xs h
  unfolding object_at put_object
  object_other k o ne = at2_other object_of xs h k (o.obj_type + 256 * o.flags) o.word ne

  pub object_out : length xs ≤ 2 * h → object_at xs h ≡ no_object
  unfolding object_at
  object_out l = at2_out object_of xs h l

  pub object_comm : (k : ℕ) (o p : KernelObject) → h ≢ k → put_object (put_object xs h o) k p ≡ put_object (put_object xs k p) h o
  unfolding put_object
  object_comm k o p ne = sets_comm (object_row o) (object_row p) xs (2 * h) (2 * k) (apart_2 h k ne)

-- ---- threads

module _ (xs : List ℕ) (t : ℕ) where
  pub thread_length : (r : Thread) → length (put_thread xs t r) ≡ length xs
  unfolding put_thread
  thread_length r = length-sets xs (3 * t) (thread_row r)

  pub thread_same : (r : Thread) → 3 * t + 2 < length xs → thread_at (put_thread xs t r) t ≡ r
  unfolding thread_at put_thread
  thread_same r l = at3_same thread_of xs t r.role r.domain r.handle l

  pub thread_other : (u : ℕ) (r : Thread) → u ≢ t → thread_at (put_thread xs u r) t ≡ thread_at xs t
  unfolding thread_at put_thread
  thread_other u r ne = at3_other thread_of xs t u r.role r.domain r.handle ne

  pub thread_out : length xs ≤ 3 * t → thread_at xs t ≡ nobody
  unfolding thread_at
  thread_out l = at3_out thread_of xs t l

  pub thread_comm : (u : ℕ) (r s : Thread) → t ≢ u → put_thread (put_thread xs t r) u s ≡ put_thread (put_thread xs u s) t r
  unfolding put_thread
  thread_comm u r s ne = sets_comm (thread_row r) (thread_row s) xs (3 * t) (3 * u) (apart_3 t u ne)

-- ---- partitions

module _ (xs : List ℕ) (i : ℕ) where
  pub partition_length : (p : MemPartition) → length (put_partition xs i p) ≡ length xs
  unfolding put_partition
  partition_length p = length-sets xs (3 * i) (partition_row p)

  pub partition_same : (p : MemPartition) → 3 * i + 2 < length xs → partition_at (put_partition xs i p) i ≡ p
  unfolding partition_at put_partition
  partition_same p l = at3_same partition_of xs i p.start p.size p.attr l

  pub partition_other : (j : ℕ) (p : MemPartition) → j ≢ i → partition_at (put_partition xs j p) i ≡ partition_at xs i
  unfolding partition_at put_partition
  partition_other j p ne = at3_other partition_of xs i j p.start p.size p.attr ne

  pub partition_out : length xs ≤ 3 * i → partition_at xs i ≡ empty
  unfolding partition_at
  partition_out l = at3_out partition_of xs i l

  pub partition_comm : (j : ℕ) (p q : MemPartition) → i ≢ j → put_partition (put_partition xs i p) j q ≡ put_partition (put_partition xs j q) i p
  unfolding put_partition
  partition_comm j p q ne = sets_comm (partition_row p) (partition_row q) xs (3 * i) (3 * j) (apart_3 i j ne)

-- ---- a domain: its partitions from 16 d on

module _ (xs : List ℕ) (d : ℕ) (ps : List MemPartition) where
  pub put_length : (n : ℕ) → length (put_to xs d ps n) ≡ length xs
  unfolding put_to
  put_length zero = refl
  put_length (suc n) = partition_length (put_to xs d ps n) (SLOTS * d + n) (get_or ps n empty) ∙ put_length n

  -- a partition that is none of the n stays
  pub put_other : (n i : ℕ) → ((k : ℕ) → k < n → SLOTS * d + k ≢ i) → partition_at (put_to xs d ps n) i ≡ partition_at xs i
  unfolding put_to
  put_other zero i ne = refl
  put_other (suc n) i ne =
      partition_other (put_to xs d ps n) i (SLOTS * d + n) (get_or ps n empty) (ne n (omega arith))
      ∙ put_other n i (λ k h. ne k (omega arith))

  -- slot k of the n is the list's
  pub put_same : (n k : ℕ) → k < n → 3 * (SLOTS * d + k) + 2 < length xs → partition_at (put_to xs d ps n) (SLOTS * d + k) ≡ get_or ps k empty
  unfolding put_to
  put_same zero k h l = absurd (omega arith)
  put_same (suc n) k h l = go (λ g. put_same n k g l) (ℕ_discrete k n)
    where
      at_last : k ≡ n → partition_at (put_to xs d ps (suc n)) (SLOTS * d + k) ≡ get_or ps k empty
      at_last e =
          rw e (partition_same (put_to xs d ps n) (SLOTS * d + n) (get_or ps n empty) (rw (put_length n) (omega arith)))

      go : (k < n → partition_at (put_to xs d ps n) (SLOTS * d + k) ≡ get_or ps k empty) → Dec (k ≡ n) → partition_at (put_to xs d ps (suc n)) (SLOTS * d + k) ≡ get_or ps k empty
      go ih (yes e) = at_last e
      go ih (no ne) =
          partition_other (put_to xs d ps n) (SLOTS * d + k) (SLOTS * d + n) (get_or ps n empty) (λ e. ne (omega arith)) ∙ ih (omega arith)

  -- what was stored is loaded, 16 slots as they were given
  pub domain_same : 48 * d + 48 ≤ length xs → length ps ≡ SLOTS → partitions_at (put_to xs d ps SLOTS) d ≡ ps
  unfolding partitions_at
  domain_same l e =
      tabulate_ext SLOTS _ (λ k. get_or ps k empty) (λ k h. put_same SLOTS k h (omega arith))
      ∙ rw (← e) (tabulate_get_d ps empty)

  -- another domain stays
  pub domain_other : (c : ℕ) → c ≢ d → partitions_at (put_to xs d ps SLOTS) c ≡ partitions_at xs c
  unfolding partitions_at
  domain_other c ne =
      tabulate_ext SLOTS _ (λ k. partition_at xs (SLOTS * c + k)) (λ k h. put_other SLOTS (SLOTS * c + k) (λ j g e. ne (omega arith)))

  -- a partition outside the n may be stored before or after them
  pub put_past : (n i : ℕ) (q : MemPartition) → ((k : ℕ) → k < n → SLOTS * d + k ≢ i) → put_partition (put_to xs d ps n) i q ≡ put_to (put_partition xs i q) d ps n
  unfolding put_to
  put_past zero i q ne = refl
  put_past (suc n) i q ne =
      partition_comm (put_to xs d ps n) (SLOTS * d + n) i (get_or ps n empty) q (ne n (omega arith))
      ∙ ap (λ l. put_partition l (SLOTS * d + n) (get_or ps n empty)) (put_past n i q (λ k h. ne k (omega arith)))

-- two domains may be stored in either order
pub domain_comm :
    (xs : List ℕ) (c d : ℕ) (ps qs : List MemPartition) (n : ℕ) → c ≢ d → n ≤ SLOTS →
    put_to (put_to xs c ps SLOTS) d qs n ≡ put_to (put_to xs d qs n) c ps SLOTS
unfolding put_to
domain_comm xs c d ps qs zero ne h = refl
domain_comm xs c d ps qs (suc n) ne h =
    ap (λ l. put_partition l (SLOTS * d + n) (get_or qs n empty)) (domain_comm xs c d ps qs n ne (omega arith))
    ∙ put_past (put_to xs d qs n) c ps SLOTS (SLOTS * d + n) (get_or qs n empty) (λ k g e. ne (omega arith))

-- ---- slot k of domain d, with no slot from 16 on

-- another slot, or another domain
abbrev pub Elsewhere : ℕ → ℕ → ℕ → ℕ → Type 0
Elsewhere d k e j = d ≡ e → k ≡ j → ⊥

numbers_differ : (d k e j : ℕ) → k < SLOTS → j < SLOTS → Elsewhere d k e j → SLOTS * d + k ≢ SLOTS * e + j
numbers_differ d k e j h g ne q = ne (omega arith) (omega arith)

module _ (xs : List ℕ) (d k : ℕ) (p : MemPartition) where
  put_in : k < SLOTS → put_slot xs d k p ≡ put_partition xs (SLOTS * d + k) p
  unfolding put_slot
  put_in h = rw (lt-ltb k SLOTS h)

  put_out : SLOTS ≤ k → put_slot xs d k p ≡ xs
  unfolding put_slot
  put_out h = rw (le-ltb k SLOTS h)

  at_in : (ys : List ℕ) (e j : ℕ) → j < SLOTS → slot_at ys e j ≡ partition_at ys (SLOTS * e + j)
  unfolding slot_at
  at_in ys e j h = rw (lt-ltb j SLOTS h)

  at_out : (ys : List ℕ) (e j : ℕ) → SLOTS ≤ j → slot_at ys e j ≡ empty
  unfolding slot_at
  at_out ys e j h = rw (le-ltb j SLOTS h)

  pub slot_length : length (put_slot xs d k p) ≡ length xs
  slot_length = go (dec_lt k SLOTS)
    where
      go : Dec (k < SLOTS) → length (put_slot xs d k p) ≡ length xs
      go (yes h) = ap length (put_in h) ∙ partition_length xs (SLOTS * d + k) p
      go (no f) = ap length (put_out (omega arith))

  pub slot_same : k < SLOTS → 3 * (SLOTS * d + k) + 2 < length xs → slot_at (put_slot xs d k p) d k ≡ p
  slot_same h l = at_in (put_slot xs d k p) d k h ∙ rw (put_in h) (partition_same xs (SLOTS * d + k) p l)

  pub slot_other : (e j : ℕ) → Elsewhere d k e j → slot_at (put_slot xs d k p) e j ≡ slot_at xs e j
  slot_other e j ne = go (dec_lt k SLOTS) (dec_lt j SLOTS)
    where
      go : Dec (k < SLOTS) → Dec (j < SLOTS) → slot_at (put_slot xs d k p) e j ≡ slot_at xs e j
      go (no f) g = ap (λ l. slot_at l e j) (put_out (omega arith))
      go (yes h) (no f) = at_out (put_slot xs d k p) e j (omega arith) ∙ sym (at_out xs e j (omega arith))
      go (yes h) (yes g) =
          at_in (put_slot xs d k p) e j g
          ∙ rw (put_in h) (partition_other xs (SLOTS * e + j) (SLOTS * d + k) p (numbers_differ d k e j h g ne))
          ∙ sym (at_in xs e j g)

pub slot_comm :
    (xs : List ℕ) (d k e j : ℕ) (p q : MemPartition) → Elsewhere d k e j →
    put_slot (put_slot xs d k p) e j q ≡ put_slot (put_slot xs e j q) d k p
slot_comm xs d k e j p q ne = go (dec_lt k SLOTS) (dec_lt j SLOTS)
  where
    go : Dec (k < SLOTS) → Dec (j < SLOTS) → put_slot (put_slot xs d k p) e j q ≡ put_slot (put_slot xs e j q) d k p
    go (no f) g =
        ap (λ l. put_slot l e j q) (put_out xs d k p (omega arith)) ∙ sym (put_out (put_slot xs e j q) d k p (omega arith))
    go (yes h) (no f) =
        put_out (put_slot xs d k p) e j q (omega arith) ∙ sym (ap (λ l. put_slot l d k p) (put_out xs e j q (omega arith)))
    go (yes h) (yes g) =
        put_in (put_slot xs d k p) e j q g
        ∙ ap (λ l. put_partition l (SLOTS * e + j) q) (put_in xs d k p h)
        ∙ partition_comm xs (SLOTS * d + k) (SLOTS * e + j) p q (numbers_differ d k e j h g ne)
        ∙ sym (put_in (put_slot xs e j q) d k p h ∙ ap (λ l. put_partition l (SLOTS * d + k) p) (put_in xs e j q g))
