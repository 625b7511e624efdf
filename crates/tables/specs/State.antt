-- A state as records: what stands above `tables` speaks of these three lists. `state_of` is the picture of three tables of numbers, `flat..` the way back;
-- on tables of the right lengths whose heads are two bytes nothing is lost either way (docs/SPEC.md, 5.15 to 5.19).
use Rattle.std.specs.Prelude.{ℕ, zero, suc, ◌+◌, ◌*◌, ◌/◌, ◌%◌, ◌<◌, ◌≡◌, refl, List, [], ◌∷◌, ◌++◌, length, get_or, set}
use Rattle.std.proofs.Common.{sym, ◌∙◌, arith}
use Rattle.std.proofs.Math.Decide.{dec_lt}
use Rattle.std.proofs.Math.Path.{ap}
use Rattle.mem_domain.specs.Domain.{slots as SLOTS}
use Rattle.mem_partition.specs.declared.MemPartition.{MemPartition}
use Rattle.userspace.specs.Userspace.{THREADS}
use Rattle.userspace.specs.declared.KernelObject.{KernelObject}
use Rattle.tables.specs.declared.Thread.{Thread}
use Rattle.tables.specs.Rows.{at3, at2_skip, at3_skip}
use Rattle.tables.specs.Tabulate.{tabulate, get_d_tabulate, get_d_tabulate_out, tabulate_ext, tabulate_set, concat, concat_rows}
use Rattle.tables.specs.Table.{HANDLES, DOMAINS, no_object, nobody, object_of, object_at, object_row, put_object, thread_of, thread_at, thread_row, put_thread, partition_of, partition_at, partition_row, partitions_at, put_to}
use Rattle.tables.specs.Laws.{Bytes, object_same, object_other, object_out, thread_same, thread_other, thread_out, domain_same, domain_other}

pub record State : Type 0 where
  pub objects : List KernelObject  -- by handle
  pub threads : List Thread  -- by number
  pub domains : List (List MemPartition)  -- by number, each its slots

-- ---- the picture
unfoldable pub objects_of : List ℕ → List KernelObject
objects_of xs = tabulate HANDLES (object_at xs)

unfoldable pub threads_of : List ℕ → List Thread
threads_of xs = tabulate THREADS (thread_at xs)

unfoldable pub domains_of : List ℕ → List (List MemPartition)
domains_of xs = tabulate DOMAINS (partitions_at xs)

abbrev pub state_of : List ℕ → List ℕ → List ℕ → State
state_of os ts ss = record { objects = objects_of os; threads = threads_of ts; domains = domains_of ss }

-- ---- what is read of a state; behind the end the all-zero record, as the accessors have it
unfoldable pub object : State → ℕ → KernelObject
object s h = get_or s.objects h no_object

unfoldable pub thread : State → ℕ → Thread
thread s t = get_or s.threads t nobody

unfoldable pub domain : State → ℕ → List MemPartition
domain s d = get_or s.domains d []

-- ---- a load is a read of the picture
pub object_of_lem : (xs : List ℕ) → length xs ≡ 2 * HANDLES → (h : ℕ) → get_or (objects_of xs) h no_object ≡ object_at xs h
unfolding objects_of
object_of_lem xs e h = go (dec_lt h HANDLES)
  where
    go : Dec (h < HANDLES) → get_or (tabulate HANDLES (object_at xs)) h no_object ≡ object_at xs h
    go (yes l) = get_d_tabulate HANDLES (object_at xs) h no_object l
    go (no f) = get_d_tabulate_out HANDLES (object_at xs) h no_object (omega arith) ∙ sym (object_out xs h (omega arith))

pub thread_of_lem : (xs : List ℕ) → length xs ≡ 3 * THREADS → (t : ℕ) → get_or (threads_of xs) t nobody ≡ thread_at xs t
unfolding threads_of
thread_of_lem xs e t = go (dec_lt t THREADS)
  where
    go : Dec (t < THREADS) → get_or (tabulate THREADS (thread_at xs)) t nobody ≡ thread_at xs t
    go (yes l) = get_d_tabulate THREADS (thread_at xs) t nobody l
    go (no f) = get_d_tabulate_out THREADS (thread_at xs) t nobody (omega arith) ∙ sym (thread_out xs t (omega arith))

pub domain_of_lem : (xs : List ℕ) (d : ℕ) → d < DOMAINS → get_or (domains_of xs) d [] ≡ partitions_at xs d
unfolding domains_of
domain_of_lem xs d l = get_d_tabulate DOMAINS (partitions_at xs) d [] l

-- ---- a store is a `set` in the picture
pub objects_put :
    (xs : List ℕ) → length xs ≡ 2 * HANDLES → (h : ℕ) → h < HANDLES → (o : KernelObject) → Bytes o →
    objects_of (put_object xs h o) ≡ set (objects_of xs) h o
unfolding objects_of
objects_put xs e h l o b =
    tabulate_set HANDLES (object_at xs) (object_at (put_object xs h o)) h no_object (λ k g ne. object_other xs k h o (λ p. ne (sym p)))
    ∙ ap (set (tabulate HANDLES (object_at xs)) h) (object_same xs h o (omega arith) b)

pub threads_put :
    (xs : List ℕ) → length xs ≡ 3 * THREADS → (t : ℕ) → t < THREADS → (r : Thread) →
    threads_of (put_thread xs t r) ≡ set (threads_of xs) t r
unfolding threads_of
threads_put xs e t l r =
    tabulate_set THREADS (thread_at xs) (thread_at (put_thread xs t r)) t nobody (λ k g ne. thread_other xs k t r (λ p. ne (sym p)))
    ∙ ap (set (tabulate THREADS (thread_at xs)) t) (thread_same xs t r (omega arith))

pub domains_put :
    (xs : List ℕ) → length xs ≡ 3 * (SLOTS * DOMAINS) → (d : ℕ) → d < DOMAINS → (ps : List MemPartition) → length ps ≡ SLOTS →
    domains_of (put_to xs d ps SLOTS) ≡ set (domains_of xs) d ps
unfolding domains_of
domains_put xs e d l ps n =
    tabulate_set DOMAINS (partitions_at xs) (partitions_at (put_to xs d ps SLOTS)) d [] (λ k g ne. domain_other xs d ps k ne)
    ∙ ap (set (tabulate DOMAINS (partitions_at xs)) d) (domain_same xs d ps (omega arith) n)

-- ---- the way back: row behind row
unfoldable pub flat_rows : {A : Type 0} → (A → List ℕ) → List A → List ℕ
flat_rows row [] = []
flat_rows row (x ∷ l) = row x ++ flat_rows row l

abbrev pub flat_objects : List KernelObject → List ℕ
flat_objects = flat_rows object_row

abbrev pub flat_threads : List Thread → List ℕ
flat_threads = flat_rows thread_row

abbrev pub flat_domains : List (List MemPartition) → List ℕ
flat_domains ds = flat_rows partition_row (concat ds)

-- a head of two bytes is put together again
head_back : (x : ℕ) → x < 65536 → x % 256 + 256 * (x / 256 % 256) ≡ x
head_back x h = omega arith

-- heads of two bytes
abbrev pub Heads : List ℕ → ℕ → Type 0
Heads xs n = (h : ℕ) → h < n → get_or xs (2 * h) 0 < 65536

flat_objects_lem : (n : ℕ) (xs : List ℕ) → length xs ≡ 2 * n → Heads xs n → flat_objects (tabulate n (object_at xs)) ≡ xs
unfolding tabulate flat_rows object_at
flat_objects_lem zero [] e g = refl
flat_objects_lem zero (a ∷ xs) e g = absurd (omega arith)
flat_objects_lem (suc n) [] e g = absurd (omega arith)
flat_objects_lem (suc n) (a ∷ []) e g = absurd (omega arith)
flat_objects_lem (suc n) (a ∷ b ∷ xs) e g =
    ap (λ x. x ∷ b ∷ flat_objects (tabulate n (λ k. object_at (a ∷ b ∷ xs) (suc k)))) (head_back a (g 0 (omega arith)))
    ∙ ap (λ l. a ∷ b ∷ flat_objects l) (tabulate_ext n _ (object_at xs) (λ k h. at2_skip object_of a b xs k))
    ∙ ap (λ l. a ∷ b ∷ l)
    (flat_objects_lem n xs (omega arith) (λ k h. let p : 2 * suc k ≡ suc (suc (2 * k)) = omega arith in rw p at (g (suc k) (omega arith))))

-- records of three numbers, whatever they are records of
flat_triples :
    {A : Type 0} (make : ℕ → ℕ → ℕ → A) (row : A → List ℕ) → ((a b c : ℕ) → row (make a b c) ≡ a ∷ b ∷ c ∷ []) →
    (n : ℕ) (xs : List ℕ) → length xs ≡ 3 * n → flat_rows row (tabulate n (at3 make xs)) ≡ xs
unfolding tabulate flat_rows
flat_triples make row r zero [] e = refl
flat_triples make row r zero (a ∷ xs) e = absurd (omega arith)
flat_triples make row r (suc n) [] e = absurd (omega arith)
flat_triples make row r (suc n) (a ∷ []) e = absurd (omega arith)
flat_triples make row r (suc n) (a ∷ b ∷ []) e = absurd (omega arith)
flat_triples make row r (suc n) (a ∷ b ∷ c ∷ xs) e =
    ap (λ l. l ++ flat_rows row (tabulate n (λ k. at3 make (a ∷ b ∷ c ∷ xs) (suc k)))) (r a b c)
    ∙ ap (λ l. a ∷ b ∷ c ∷ flat_rows row l) (tabulate_ext n _ (at3 make xs) (λ k h. at3_skip make a b c xs k))
    ∙ ap (λ l. a ∷ b ∷ c ∷ l) (flat_triples make row r n xs (omega arith))

-- tables of the right lengths, their heads of two bytes
pub record Fit (os ts ss : List ℕ) : Type 0 where
  pub objects : length os ≡ 2 * HANDLES
  pub threads : length ts ≡ 3 * THREADS
  pub slots : length ss ≡ 3 * (SLOTS * DOMAINS)
  pub heads : Heads os HANDLES

module _ {os ts ss : List ℕ} (f : Fit os ts ss) where
  pub objects_back : flat_objects (objects_of os) ≡ os
  unfolding objects_of
  objects_back = flat_objects_lem HANDLES os f.objects f.heads

  pub threads_back : flat_threads (threads_of ts) ≡ ts
  unfolding threads_of thread_at
  threads_back = flat_triples thread_of thread_row (λ a b c. refl) THREADS ts f.threads

  pub domains_back : flat_domains (domains_of ss) ≡ ss
  unfolding domains_of partitions_at partition_at
  domains_back =
      ap (flat_rows partition_row) (concat_rows DOMAINS SLOTS (at3 partition_of ss))
      ∙ flat_triples partition_of partition_row (λ a b c. refl) (SLOTS * DOMAINS) ss f.slots

-- equal states mean equal tables
pub record Same (os ts ss os' ts' ss' : List ℕ) : Type 0 where
  pub objects : os ≡ os'
  pub threads : ts ≡ ts'
  pub slots : ss ≡ ss'

pub lossless : {os ts ss os' ts' ss' : List ℕ} → Fit os ts ss → Fit os' ts' ss' → state_of os ts ss ≡ state_of os' ts' ss' → Same os ts ss os' ts' ss'
lossless f g e =
    record {
      objects = sym (objects_back f) ∙ ap (λ s. flat_objects s.objects) e ∙ objects_back g;
      threads = sym (threads_back f) ∙ ap (λ s. flat_threads s.threads) e ∙ threads_back g;
      slots = sym (domains_back f) ∙ ap (λ s. flat_domains s.domains) e ∙ domains_back g;
    }
