-- The three tables of numbers and the records in them. Behind a table's end a record is all zero and a store does nothing: that is what
-- `get_or .. 0` and `set` say, so nobody who loads or stores has to be careful (docs/SPEC.md, 5.2 and 5.5 to 5.14).
use Rattle.std.specs.Prelude.{ℕ, zero, suc, ◌+◌, ◌*◌, ◌/◌, ◌%◌, ◌≡◌, refl, Bool, cond, ◌&&◌, List, [], ◌∷◌, eqb, ltb, length, get_or}
use Rattle.std.proofs.Common.{add-one}
use Rattle.std.proofs.lemmas.List.Edits.{sets}
use Rattle.mem_partition.specs.Partition.{empty}
use Rattle.mem_domain.specs.Domain.{with_count}
use Rattle.mem_domain.specs.Domain.{slots as SLOTS}
use Rattle.mem_partition.specs.declared.MemPartition.{MemPartition}
use Rattle.mem_domain.specs.declared.MemDomain.{MemDomain}
use Rattle.userspace.specs.Userspace.{THREADS}
use Rattle.userspace.specs.declared.KernelObject.{KernelObject}
use Rattle.tables.specs.declared.Thread.{Thread}
use Rattle.tables.specs.Rows.{at2, at3}
use Rattle.tables.specs.Tabulate.{tabulate}

-- 256 handles, 8 domains; the 64 threads and the 16 slots of a domain are the leaves' own limits
abbrev pub HANDLES : ℕ
HANDLES = 256

abbrev pub DOMAINS : ℕ
DOMAINS = 8

-- how long a state's three tables are: as a statement, and as a test of three lengths
pub record Sized (os ts ss : List ℕ) : Type 0 where
  pub objects : length os ≡ 2 * HANDLES
  pub threads : length ts ≡ 3 * THREADS
  pub slots : length ss ≡ 3 * (SLOTS * DOMAINS)

unfoldable pub sized : ℕ → ℕ → ℕ → Bool
sized m n k = eqb m (2 * HANDLES) && (eqb n (3 * THREADS) && eqb k (3 * (SLOTS * DOMAINS)))

-- ---- an object: at 2h its head, type + 256 * flags, at 2h + 1 its word
abbrev pub no_object : KernelObject
no_object = record { obj_type = 0; flags = 0; word = 0 }

abbrev pub object_of : ℕ → ℕ → KernelObject
object_of head word = record { obj_type = head % 256; flags = head / 256 % 256; word = word }

unfoldable pub object_at : List ℕ → ℕ → KernelObject
object_at xs h = at2 object_of xs h

abbrev pub object_row : KernelObject → List ℕ
object_row o = (o.obj_type + 256 * o.flags) ∷ o.word ∷ []

unfoldable pub put_object : List ℕ → ℕ → KernelObject → List ℕ
put_object xs h o = sets xs (2 * h) (object_row o)

-- ---- a thread: at 3t its role (0 dead, 1 user, 2 supervisor), its domain, its handle
abbrev pub nobody : Thread
nobody = record { role = 0; domain = 0; handle = 0 }

abbrev pub thread_of : ℕ → ℕ → ℕ → Thread
thread_of r d h = record { role = r; domain = d; handle = h }

unfoldable pub thread_at : List ℕ → ℕ → Thread
thread_at xs t = at3 thread_of xs t

abbrev pub thread_row : Thread → List ℕ
thread_row r = r.role ∷ r.domain ∷ r.handle ∷ []

unfoldable pub put_thread : List ℕ → ℕ → Thread → List ℕ
put_thread xs t r = sets xs (3 * t) (thread_row r)

-- ---- a partition, by its number in the whole table: slot k of domain d is number 16 d + k
abbrev pub partition_of : ℕ → ℕ → ℕ → MemPartition
partition_of a s r = record { start = a; size = s; attr = r }

unfoldable pub partition_at : List ℕ → ℕ → MemPartition
partition_at xs i = at3 partition_of xs i

abbrev pub partition_row : MemPartition → List ℕ
partition_row p = p.start ∷ p.size ∷ p.attr ∷ []

unfoldable pub put_partition : List ℕ → ℕ → MemPartition → List ℕ
put_partition xs i p = sets xs (3 * i) (partition_row p)

-- slot k of domain d; a domain has no slot from 16 on
unfoldable pub slot_at : List ℕ → ℕ → ℕ → MemPartition
slot_at xs d k = cond (ltb k SLOTS) (partition_at xs (SLOTS * d + k)) empty

unfoldable pub put_slot : List ℕ → ℕ → ℕ → MemPartition → List ℕ
put_slot xs d k p = cond (ltb k SLOTS) (put_partition xs (SLOTS * d + k) p) xs

-- ---- a domain: its 16 slots, and a count worked out from them
unfoldable pub partitions_at : List ℕ → ℕ → List MemPartition
partitions_at xs d = tabulate SLOTS (λ k. partition_at xs (SLOTS * d + k))

abbrev pub domain_at : List ℕ → ℕ → MemDomain
domain_at xs d = with_count (partitions_at xs d)

-- the first n slots of domain d are those of the list; the count is not kept
unfoldable pub put_to : List ℕ → ℕ → List MemPartition → ℕ → List ℕ
put_to xs d ps zero = xs
put_to xs d ps (suc k) = put_partition (put_to xs d ps k) (SLOTS * d + k) (get_or ps k empty)

abbrev pub put_domain : List ℕ → ℕ → MemDomain → List ℕ
put_domain xs d m = put_to xs d m.partitions SLOTS

-- the loop that stores a domain: nothing yet, and one slot more
pub put_none : (xs : List ℕ) (d : ℕ) (ps : List MemPartition) → xs ≡ put_to xs d ps 0
unfolding put_to
put_none xs d ps = refl

pub put_more :
    (xs : List ℕ) (d : ℕ) (ps : List MemPartition) (k : ℕ) →
    put_partition (put_to xs d ps k) (SLOTS * d + k) (get_or ps k empty) ≡ put_to xs d ps (k + 1)
unfolding put_to
put_more xs d ps k = rw add-one
