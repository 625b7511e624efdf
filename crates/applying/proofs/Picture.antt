-- The tables after a call are the picture of the state after it: for tables of the right lengths, once the record that a change names is of its table.
use Prim.Native.Nat.{ℕ, zero, suc, ◌*◌, ◌/◌, ◌≤◌, ◌<◌}
use native.Mathlib.Decide.{ℕ_discrete, dec_lt}
use native.Mathlib.Nat.{not-suc-le-zero, mod-lt, zero-lt-suc}
use native.Mathlib.Omega.{arith}
use mathlib.Core.Path.{◌≡◌, refl, sym, ap, ◌∙◌}
use mathlib.Core.Logic.{◌≢◌, inl, inr}
use mathlib.Core.Bool.{Bool, true, false, cond, not, ◌||◌}
use mathlib.Core.List.{List, [], ◌∷◌, map}
use lib.ListN.{length, get_or, set, length-set}
use lib.Dec.{eqb}
use Rattle.answer.specs.Answer.{number_of}
use Rattle.answer.specs.declared.Code.TheVariants.{Einval, Enospc, Enoent}
use Rattle.mem_partition.specs.Partition.{empty}
use Rattle.mem_domain.specs.Domain.{Changed as DomainChanged, slots as SLOTS, with_count, addable, has_free, lowest_free, has_window, lowest_window, refused, added, removed, changed_at}
use Rattle.mem_partition.specs.declared.MemPartition.{MemPartition}
use Rattle.userspace.specs.declared.KernelObject.{KernelObject}
use Rattle.bits.specs.Bit.{set_bit, set_lt, clear_lt}
use Rattle.userspace.specs.Userspace.{THREADS, holds, granted, revoked, recycled, changed_at as object_changed_at}
use Rattle.userspace.specs.Laws.{refuses, does}
use Rattle.tables.specs.declared.Thread.{Thread}
use Rattle.tables.specs.Rows.{Outside, get_d_sets_out, get_d_sets_at}
use Rattle.tables.specs.Tabulate.{tabulate, length_tabulate, get_d_tabulate, tabulate_ext, tabulate_set}
use Rattle.tables.specs.Table.{HANDLES, DOMAINS, no_object, nobody, object_at, put_object, object_row, thread_at, put_thread, partitions_at}
use Rattle.tables.specs.Laws.{Bytes, object_length, object_same, object_other, thread_length, thread_same, thread_other, put_length, domain_same, domain_other}
use Rattle.tables.specs.State.{objects_of, threads_of, domains_of, state_of, Heads, Fit}
use Rattle.decoding.specs.declared.Call.{Call}
use Rattle.decoding.specs.Calls.{create, delete, revoke, init, uninit, recycle, publish, thread, end, inherit, assign, add, remove, Op, validate, grant, release, check, exit, sup, unknown}
use Rattle.judging.specs.Judge.{partition_of}
use Rattle.judging.specs.Change.{Change, none, one, each, enact, inherited, object_change, thread_change, domain_change, change}
use Rattle.applying.specs.Apply.{each_to, enact_in, enact_objects, enact_threads, enact_slots, put_slots}

-- ---- changes, whatever the records

-- the record that a change names is one of n
abbrev pub Within : {A : Type 0} → ℕ → Change A → Type 0
Within n none = Unit {0}
Within n (one i f) = i < n
Within n (each f) = Unit {0}

-- a change makes good records of good ones
abbrev pub Keeps : {A : Type 0} → (A → Type 0) → Change A → Type 0
Keeps Good none = Unit {0}
Keeps {A} Good (one i f) = (x : A) → Good x → Good (f x)
Keeps {A} Good (each f) = (x : A) → Good x → Good (f x)

map_tabulate : {A : Type 0} (n : ℕ) (f : A → A) (g : ℕ → A) → map f (tabulate n g) ≡ tabulate n (λ k. f (g k))
unfolding tabulate
map_tabulate zero f g = refl
map_tabulate (suc n) f g = ap (λ l. f (g 0) ∷ l) (map_tabulate n f (λ k. g (suc k)))

-- a table of n records: a good record that is stored is loaded, the others stay, what is loaded is good, and a store keeps the table's form
record Laws {A : Type 0} (load : List ℕ → ℕ → A) (put : List ℕ → ℕ → A → List ℕ) (n : ℕ) (Good : A → Type 0) (Form : List ℕ → Type 0) : Type 0 where
  same : (xs : List ℕ) (i : ℕ) (x : A) → Form xs → i < n → Good x → load (put xs i x) i ≡ x
  other : (xs : List ℕ) (i j : ℕ) (x : A) → j ≢ i → load (put xs i x) j ≡ load xs j
  good : (xs : List ℕ) (i : ℕ) → Good (load xs i)
  form : (xs : List ℕ) (i : ℕ) (x : A) → Form xs → Good x → Form (put xs i x)

module _
    {A : Type 0} {load : List ℕ → ℕ → A} {put : List ℕ → ℕ → A → List ℕ} {n : ℕ} {Good : A → Type 0} {Form : List ℕ → Type 0}
    (laws : Laws load put n Good Form)
  where
    module _ (f : A → A) (keeps : (x : A) → Good x → Good (f x)) (xs : List ℕ) (fits : Form xs) where
      one_picture : (z : A) (i : ℕ) → i < n → tabulate n (load (put xs i (f (load xs i)))) ≡ set (tabulate n (load xs)) i (f (get_or (tabulate n (load xs)) i z))
      one_picture z i h =
          tabulate_set n (load xs) (load (put xs i (f (load xs i)))) i z (λ k g ne. laws.other xs i k (f (load xs i)) ne)
          ∙ ap (set (tabulate n (load xs)) i)
          (laws.same xs i (f (load xs i)) fits h (keeps (load xs i) (laws.good xs i)) ∙ ap f (sym (get_d_tabulate n (load xs) i z h)))

      each_form : (k : ℕ) → Form (each_to load put f xs k)
      unfolding each_to
      each_form zero = fits
      each_form (suc k) =
          laws.form (each_to load put f xs k) k (f (load (each_to load put f xs k) k)) (each_form k) (keeps _ (laws.good (each_to load put f xs k) k))

      -- after k turns: the records from k on are as they were, those before are rewritten
      each_ahead : (k j : ℕ) → k ≤ j → load (each_to load put f xs k) j ≡ load xs j
      unfolding each_to
      each_ahead zero j h = refl
      each_ahead (suc k) j h = laws.other (each_to load put f xs k) k j (f (load (each_to load put f xs k) k)) (λ e. omega arith) ∙ each_ahead k j (omega arith)

      each_done : (k j : ℕ) → k ≤ n → j < k → load (each_to load put f xs k) j ≡ f (load xs j)
      unfolding each_to
      each_done zero j h l = absurd (not-suc-le-zero l)
      each_done (suc k) j h l = go (each_done k j (omega arith)) (ℕ_discrete j k)
        where
          go : (j < k → load (each_to load put f xs k) j ≡ f (load xs j)) → Dec (j ≡ k) → load (each_to load put f xs (suc k)) j ≡ f (load xs j)
          go ih (yes e) =
              rw e
              (laws.same (each_to load put f xs k) k (f (load (each_to load put f xs k) k)) (each_form k) (omega arith) (keeps _ (laws.good (each_to load put f xs k) k))
              ∙ ap f (each_ahead k k (omega arith)))
          go ih (no ne) = laws.other (each_to load put f xs k) k j (f (load (each_to load put f xs k) k)) ne ∙ ih (omega arith)

      each_picture : tabulate n (load (each_to load put f xs n)) ≡ map f (tabulate n (load xs))
      each_picture =
          tabulate_ext n (load (each_to load put f xs n)) (λ k. f (load xs k)) (λ k h. each_done n k (omega arith) h) ∙ sym (map_tabulate n f (load xs))

    -- the picture of the table after is the picture before, changed
    pictured : (z : A) (ch : Change A) → Keeps Good ch → Within n ch → (xs : List ℕ) → Form xs → tabulate n (load (enact_in load put n ch xs)) ≡ enact z ch (tabulate n (load xs))
    unfolding enact_in enact
    pictured z none k w xs h = refl
    pictured z (one i f) k w xs h = one_picture f k xs h z i w
    pictured z (each f) k w xs h = each_picture f k xs h

    -- and the table keeps its form, whatever it names
    formed : (ch : Change A) → Keeps Good ch → (xs : List ℕ) → Form xs → Form (enact_in load put n ch xs)
    unfolding enact_in
    formed none k xs h = h
    formed (one i f) k xs h = laws.form xs i (f (load xs i)) h (k (load xs i) (laws.good xs i))
    formed (each f) k xs h = each_form f k xs h n

-- ---- objects

-- 512 numbers, the heads two bytes
pub record ObjectTable (xs : List ℕ) : Type 0 where
  pub size : length xs ≡ 2 * HANDLES
  pub heads : Heads xs HANDLES

loaded_bytes : (xs : List ℕ) (h : ℕ) → Bytes (object_at xs h)
unfolding object_at
loaded_bytes xs h = record { type = mod-lt (get_or xs (2 * h) 0) (zero-lt-suc 255); flags = mod-lt (get_or xs (2 * h) 0 / 256) (zero-lt-suc 255) }

away : (h k : ℕ) → k ≢ h → Outside (2 * h) 2 (2 * k)
away h k ne = go (dec_lt k h)
  where
    go : Dec (k < h) → Outside (2 * h) 2 (2 * k)
    go (yes l) = inl (omega arith)
    go (no f) = inr (omega arith)

object_form : (xs : List ℕ) (h : ℕ) (o : KernelObject) → ObjectTable xs → Bytes o → ObjectTable (put_object xs h o)
unfolding put_object
object_form xs h o t b = record { size = object_length xs h o ∙ t.size; heads = λ k l. go k l (ℕ_discrete k h) }
  where
    go : (k : ℕ) → k < HANDLES → Dec (k ≡ h) → get_or (put_object xs h o) (2 * k) 0 < 65536
    go k l (yes e) =
        let s = t.size in
        let q = get_d_sets_at (object_row o) xs (2 * h) 0 (2 * k) (omega arith) (omega arith) (omega arith) in
        let p = b.type in
        let r = b.flags in
        omega arith
    go k l (no ne) = rw (get_d_sets_out (object_row o) xs (2 * h) (2 * k) (away h k ne)) (t.heads k l)

-- what stays the same, or has bytes itself, has bytes either way
changed_bytes : (t : ℕ) (o p : KernelObject) → Bytes o → Bytes p → Bytes (object_changed_at t o p).object
changed_bytes t o p b q = go (dec_lt t THREADS)
  where
    go : Dec (t < THREADS) → Bytes (object_changed_at t o p).object
    go (yes h) = rw (does t o p h) q
    go (no g) = rw (refuses t o p (omega arith)) b

set_bytes : (t : ℕ) → t < 8 → (o : KernelObject) → Bytes o → set_bit o.flags t < 256
set_bytes t h o b = set_lt 8 o.flags t b.flags h

granted_bytes : (t : ℕ) (o : KernelObject) → Bytes o → Bytes (granted o t).object
unfolding granted
granted_bytes t o b = changed_bytes t o _ b (record { type = b.type; flags = b.flags })

revoked_bytes : (t : ℕ) (o : KernelObject) → Bytes o → Bytes (revoked o t).object
unfolding revoked
revoked_bytes t o b = changed_bytes t o _ b (record { type = b.type; flags = b.flags })

recycled_bytes : (t : ℕ) (o : KernelObject) → Bytes o → Bytes (recycled o t).object
unfolding recycled
recycled_bytes t o b = changed_bytes t o _ b (record { type = b.type; flags = set_bytes 0 (omega arith) o b })

inherited_bytes : (p t : ℕ) (o : KernelObject) → Bytes o → Bytes (inherited p t o)
unfolding inherited
inherited_bytes p t o b = go (holds o p)
  where
    go : (h : Bool) → Bytes (cond h (granted o t).object o)
    go true = granted_bytes t o b
    go false = b

pub objects_keep : (o : Op) (c : Call) → Keeps Bytes (object_change o c)
unfolding object_change
objects_keep validate c = tt
objects_keep grant c = granted_bytes c.b
objects_keep release c = revoked_bytes c.caller
objects_keep check c = tt
objects_keep exit c = revoked_bytes c.caller
objects_keep (sup create) c = λ o b. record { type = mod-lt c.b (zero-lt-suc 255); flags = omega arith }
objects_keep (sup delete) c = λ o b. record { type = omega arith; flags = omega arith }
objects_keep (sup revoke) c = revoked_bytes c.b
objects_keep (sup init) c = λ o b. record { type = b.type; flags = set_bytes 0 (omega arith) o b }
objects_keep (sup uninit) c = λ o b. record { type = b.type; flags = clear_lt 8 o.flags 0 b.flags }
objects_keep (sup recycle) c = recycled_bytes c.caller
objects_keep (sup publish) c = λ o b. record { type = b.type; flags = set_bytes 1 (omega arith) o b }
objects_keep (sup thread) c = tt
objects_keep (sup end) c = revoked_bytes c.b
objects_keep (sup inherit) c = inherited_bytes c.b c.c
objects_keep (sup assign) c = tt
objects_keep (sup add) c = tt
objects_keep (sup remove) c = tt
objects_keep unknown c = tt

object_laws : Laws object_at put_object HANDLES Bytes ObjectTable
object_laws =
    record {
      same = λ xs h o t l b. object_same xs h o (omega (arith, t.size)) b;
      other = λ xs h k o ne. object_other xs k h o (λ e. ne (sym e));
      good = loaded_bytes;
      form = object_form;
    }

module _ (ch : Change KernelObject) (keeps : Keeps Bytes ch) (xs : List ℕ) (form : ObjectTable xs) where
  pub objects_picture : Within HANDLES ch → objects_of (enact_objects ch xs) ≡ enact no_object ch (objects_of xs)
  unfolding objects_of
  objects_picture w = pictured object_laws no_object ch keeps w xs form

  pub objects_form : ObjectTable (enact_objects ch xs)
  objects_form = formed object_laws ch keeps xs form

-- ---- threads: any record will do

abbrev Any : Thread → Type 0
Any r = Unit {0}

abbrev ThreadTable : List ℕ → Type 0
ThreadTable xs = length xs ≡ 3 * THREADS

any_keeps : (ch : Change Thread) → Keeps Any ch
any_keeps none = tt
any_keeps (one i f) = λ x g. tt
any_keeps (each f) = λ x g. tt

thread_laws : Laws thread_at put_thread THREADS Any ThreadTable
thread_laws =
    record {
      same = λ xs t r e l g. thread_same xs t r (omega arith);
      other = λ xs t k r ne. thread_other xs k t r (λ e. ne (sym e));
      good = λ xs t. tt;
      form = λ xs t r e g. thread_length xs t r ∙ e;
    }

module _ (ch : Change Thread) (xs : List ℕ) (form : length xs ≡ 3 * THREADS) where
  pub threads_picture : Within THREADS ch → threads_of (enact_threads ch xs) ≡ enact nobody ch (threads_of xs)
  unfolding threads_of
  threads_picture w = pictured thread_laws nobody ch (any_keeps ch) w xs form

  pub threads_length : length (enact_threads ch xs) ≡ 3 * THREADS
  threads_length = formed thread_laws ch (any_keeps ch) xs form

-- ---- domains: of sixteen slots

abbrev pub Sixteen : List MemPartition → Type 0
Sixteen ps = length ps ≡ SLOTS

abbrev SlotTable : List ℕ → Type 0
SlotTable xs = length xs ≡ 3 * (SLOTS * DOMAINS)

loaded_sixteen : (xs : List ℕ) (d : ℕ) → Sixteen (partitions_at xs d)
unfolding partitions_at
loaded_sixteen xs d = length_tabulate SLOTS _

added_sixteen : (p : MemPartition) (ps : List MemPartition) → Sixteen ps → Sixteen (added (with_count ps) p).domain.partitions
unfolding added with_count changed_at
added_sixteen p ps e = go (not (addable ps p)) (not (has_free ps))
  where
    go : (a b : Bool) →
        Sixteen
        (cond {A = DomainChanged} a (refused Einval (with_count ps)) (
        cond b (refused Enospc (with_count ps)) (changed_at ps (lowest_free ps) p))).domain.partitions
    go true b = e
    go false true = e
    go false false = length-set ps (lowest_free ps) p ∙ e

removed_sixteen : (start size : ℕ) (ps : List MemPartition) → Sixteen ps → Sixteen (removed (with_count ps) start size).domain.partitions
unfolding removed with_count changed_at
removed_sixteen start size ps e = go (eqb size 0 || not (has_window ps start size))
  where
    go : (a : Bool) → Sixteen (cond {A = DomainChanged} a (refused Enoent (with_count ps)) (changed_at ps (lowest_window ps start size) empty)).domain.partitions
    go true = e
    go false = length-set ps (lowest_window ps start size) empty ∙ e

pub domains_keep : (o : Op) (c : Call) → Keeps Sixteen (domain_change o c)
unfolding domain_change
domains_keep validate c = tt
domains_keep grant c = tt
domains_keep release c = tt
domains_keep check c = tt
domains_keep exit c = tt
domains_keep (sup create) c = tt
domains_keep (sup delete) c = tt
domains_keep (sup revoke) c = tt
domains_keep (sup init) c = tt
domains_keep (sup uninit) c = tt
domains_keep (sup recycle) c = tt
domains_keep (sup publish) c = tt
domains_keep (sup thread) c = tt
domains_keep (sup end) c = tt
domains_keep (sup inherit) c = tt
domains_keep (sup assign) c = tt
domains_keep (sup add) c = added_sixteen (partition_of c)
domains_keep (sup remove) c = removed_sixteen c.b c.c
domains_keep unknown c = tt

slot_laws : Laws partitions_at put_slots DOMAINS Sixteen SlotTable
slot_laws =
    record {
      same = λ xs d ps e l g. domain_same xs d ps (omega arith) g;
      other = λ xs d k ps ne. domain_other xs d ps k ne;
      good = loaded_sixteen;
      form = λ xs d ps e g. put_length xs d ps SLOTS ∙ e;
    }

module _ (ch : Change (List MemPartition)) (keeps : Keeps Sixteen ch) (xs : List ℕ) (form : length xs ≡ 3 * (SLOTS * DOMAINS)) where
  pub slots_picture : Within DOMAINS ch → domains_of (enact_slots ch xs) ≡ enact [] ch (domains_of xs)
  unfolding domains_of
  slots_picture w = pictured slot_laws [] ch keeps w xs form

  pub slots_length : length (enact_slots ch xs) ≡ 3 * (SLOTS * DOMAINS)
  slots_length = formed slot_laws ch keeps xs form

-- ---- the state

-- the records that a call names are of their tables: what an OK of `judge` gives
pub record InRange (o : Op) (c : Call) : Type 0 where
  pub object : Within HANDLES (object_change o c)
  pub thread : Within THREADS (thread_change o c)
  pub domain : Within DOMAINS (domain_change o c)

module _ (os ts ss : List ℕ) (fit : Fit os ts ss) (o : Op) (c : Call) where
  object_table : ObjectTable os
  object_table = record { size = fit.objects; heads = fit.heads }

  -- the tables after are the state after
  pub applied :
      InRange o c →
      state_of (enact_objects (object_change o c) os) (enact_threads (thread_change o c) ts) (enact_slots (domain_change o c) ss) ≡ change o c (state_of os ts ss)
  unfolding change
  applied r =
      rw (
        objects_picture (object_change o c) (objects_keep o c) os object_table r.object,
        threads_picture (thread_change o c) ts fit.threads r.thread,
        slots_picture (domain_change o c) (domains_keep o c) ss fit.slots r.domain,
      )

  -- and they have the form that tables of a state have, whatever the call names
  pub fit_after : Fit (enact_objects (object_change o c) os) (enact_threads (thread_change o c) ts) (enact_slots (domain_change o c) ss)
  fit_after =
      let f = objects_form (object_change o c) (objects_keep o c) os object_table in
      record {
        objects = f.size;
        threads = threads_length (thread_change o c) ts fit.threads;
        slots = slots_length (domain_change o c) (domains_keep o c) ss fit.slots;
        heads = f.heads;
      }
