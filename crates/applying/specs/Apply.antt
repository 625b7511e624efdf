-- What a change does to a table of numbers (docs/SPEC.md, 7.95): record i is loaded, rewritten and stored, or each record is, one behind the other.
use Rattle.std.specs.Prelude.{ℕ, zero, suc, ◌%◌, List}
use Rattle.mem_partition.specs.declared.MemPartition.{MemPartition}
use Rattle.mem_domain.specs.declared.MemDomain.{MemDomain}
use Rattle.mem_domain.specs.Domain.{slots as SLOTS, added, removed}
use Rattle.userspace.specs.declared.KernelObject.{KernelObject}
use Rattle.userspace.specs.Userspace.{THREADS, new_object, initiated, uninitiated, published}
use Rattle.tables.specs.declared.Thread.{Thread}
use Rattle.tables.specs.Table.{HANDLES, DOMAINS, no_object, object_at, put_object, thread_at, put_thread, partitions_at, put_to}
use Rattle.decoding.specs.declared.Call.{Call}
use Rattle.decoding.specs.Calls.{Op, release, sup, create, delete, init, uninit, publish, end, add, remove}
use Rattle.judging.specs.Judge.{partition_of}
use Rattle.judging.specs.Change.{Change, none, one, each, object_change, thread_change}

-- ---- a table whose records are read by `load` and written by `put`

module _ {A : Type 0} (load : List ℕ → ℕ → A) (put : List ℕ → ℕ → A → List ℕ) where
  -- the first n records, each rewritten in turn
  unfoldable pub each_to : (A → A) → List ℕ → ℕ → List ℕ
  each_to f xs zero = xs
  each_to f xs (suc k) = put (each_to f xs k) k (f (load (each_to f xs k) k))

  -- the table of n records after a change
  unfoldable pub enact_in : ℕ → Change A → List ℕ → List ℕ
  enact_in n none xs = xs
  enact_in n (one i f) xs = put xs i (f (load xs i))
  enact_in n (each f) xs = each_to f xs n

abbrev pub enact_objects : Change KernelObject → List ℕ → List ℕ
enact_objects = enact_in object_at put_object HANDLES

abbrev pub enact_threads : Change Thread → List ℕ → List ℕ
enact_threads = enact_in thread_at put_thread THREADS

-- a domain's sixteen slots
abbrev pub put_slots : List ℕ → ℕ → List MemPartition → List ℕ
put_slots xs d ps = put_to xs d ps SLOTS

abbrev pub enact_slots : Change (List MemPartition) → List ℕ → List ℕ
enact_slots = enact_in partitions_at put_slots DOMAINS

-- ---- one record, whichever it is: what the code computes of it

-- the record after a change that reaches it
abbrev pub rewritten : {A : Type 0} → Change A → A → A
rewritten none x = x
rewritten (one i f) x = f x
rewritten (each f) x = f x

unfoldable pub object_after : Op → Call → KernelObject → KernelObject
object_after o c x = rewritten (object_change o c) x

-- of that: what create and delete leave
unfoldable pub whole_after : Op → Call → KernelObject → KernelObject
whole_after (sup create) c x = new_object (c.b % 256)
whole_after (sup delete) c x = no_object
whole_after _ c x = x

-- and the flags: init, uninit and make public
unfoldable pub flags_after : Op → KernelObject → KernelObject
flags_after (sup init) x = initiated x
flags_after (sup uninit) x = uninitiated x
flags_after (sup publish) x = published x
flags_after _ x = x

-- whose bit a call clears on one object, and whose on each
unfoldable pub loser : Op → Call → ℕ
loser release c = c.caller
loser _ c = c.b

unfoldable pub ended : Op → Call → ℕ
ended (sup end) c = c.b
ended _ c = c.caller

unfoldable pub thread_after : Op → Call → Thread → Thread
thread_after o c r = rewritten (thread_change o c) r

unfoldable pub domain_after : Op → Call → MemDomain → MemDomain
domain_after (sup add) c m = (added m (partition_of c)).domain
domain_after (sup remove) c m = (removed m c.b c.c).domain
domain_after _ c m = m
