-- What each call changes when it is answered OK: one of the three tables at most, but for a thread's end; a refusal changes nothing (docs/SPEC.md, 7.20 on).
use Rattle.std.specs.Prelude.{ℕ, ◌%◌, cond, List, [], map, eqb, get_or, set}
use Rattle.mem_partition.specs.declared.MemPartition.{MemPartition}
use Rattle.mem_domain.specs.Domain.{with_count, added, removed}
use Rattle.userspace.specs.declared.KernelObject.{KernelObject}
use Rattle.userspace.specs.Userspace.{holds, new_object, granted, revoked, recycled, initiated, uninitiated, published}
use Rattle.tables.specs.declared.Thread.{Thread}
use Rattle.tables.specs.Table.{no_object, nobody}
use Rattle.tables.specs.State.{State}
use Rattle.decoding.specs.declared.Call.{Call}
use Rattle.decoding.specs.Calls.{create, delete, revoke, init, uninit, recycle, publish, thread, end, inherit, assign, add, remove, Op, validate, grant, release, check, exit, sup, unknown, op_of, call_of}
use Rattle.judging.specs.Judge.{partition_of, judge, heard}

-- what happens to a table: nothing, record i goes through f, or each record does
pub data Change (A : Type 0) : Type 0 where
  none : Change A
  one : ℕ → (A → A) → Change A
  each : (A → A) → Change A

unfoldable pub enact : {A : Type 0} → A → Change A → List A → List A
enact z none l = l
enact z (one i f) l = set l i (f (get_or l i z))
enact z (each f) l = map f l

-- where the parent's bit is set the child's becomes so (SPEC 7.77)
unfoldable pub inherited : ℕ → ℕ → KernelObject → KernelObject
inherited parent child o = cond (holds o parent) (granted o child).object o

-- the objects; a type is one byte, and which types there are was judged before
unfoldable pub object_change : Op → Call → Change KernelObject
object_change validate c = none
object_change grant c = one c.a (λ o. (granted o c.b).object)
object_change release c = one c.a (λ o. (revoked o c.caller).object)
object_change check c = none
object_change exit c = each (λ o. (revoked o c.caller).object)
object_change (sup create) c = one c.a (λ o. new_object (c.b % 256))
object_change (sup delete) c = one c.a (λ o. no_object)
object_change (sup revoke) c = one c.a (λ o. (revoked o c.b).object)
object_change (sup init) c = one c.a initiated
object_change (sup uninit) c = one c.a uninitiated
object_change (sup recycle) c = one c.a (λ o. (recycled o c.caller).object)
object_change (sup publish) c = one c.a published
object_change (sup thread) c = none
object_change (sup end) c = each (λ o. (revoked o c.b).object)
object_change (sup inherit) c = each (inherited c.b c.c)
object_change (sup assign) c = none
object_change (sup add) c = none
object_change (sup remove) c = none
object_change unknown c = none

-- a new thread (SPEC 7.71): user or supervisor, no domain, its handle
abbrev pub born : Call → Thread
born c = record { role = cond (eqb c.c 1) 2 1; domain = 255; handle = c.a }

abbrev pub moved : ℕ → Thread → Thread
moved d r = record { role = r.role; domain = d; handle = r.handle }

-- the threads
unfoldable pub thread_change : Op → Call → Change Thread
thread_change validate c = none
thread_change grant c = none
thread_change release c = none
thread_change check c = none
thread_change exit c = one c.caller (λ r. nobody)
thread_change (sup create) c = none
thread_change (sup delete) c = none
thread_change (sup revoke) c = none
thread_change (sup init) c = none
thread_change (sup uninit) c = none
thread_change (sup recycle) c = none
thread_change (sup publish) c = none
thread_change (sup thread) c = one c.b (λ r. born c)
thread_change (sup end) c = one c.b (λ r. nobody)
thread_change (sup inherit) c = none
thread_change (sup assign) c = one c.b (moved c.c)
thread_change (sup add) c = none
thread_change (sup remove) c = none
thread_change unknown c = none

-- the domains
unfoldable pub domain_change : Op → Call → Change (List MemPartition)
domain_change validate c = none
domain_change grant c = none
domain_change release c = none
domain_change check c = none
domain_change exit c = none
domain_change (sup create) c = none
domain_change (sup delete) c = none
domain_change (sup revoke) c = none
domain_change (sup init) c = none
domain_change (sup uninit) c = none
domain_change (sup recycle) c = none
domain_change (sup publish) c = none
domain_change (sup thread) c = none
domain_change (sup end) c = none
domain_change (sup inherit) c = none
domain_change (sup assign) c = none
domain_change (sup add) c = one c.a (λ ps. (added (with_count ps) (partition_of c)).domain.partitions)
domain_change (sup remove) c = one c.a (λ ps. (removed (with_count ps) c.b c.c).domain.partitions)
domain_change unknown c = none

unfoldable pub change : Op → Call → State → State
change o c s =
    record {
      objects = enact no_object (object_change o c) s.objects;
      threads = enact nobody (thread_change o c) s.threads;
      domains = enact [] (domain_change o c) s.domains;
    }

-- the state after a call: a refusal changes nothing
unfoldable pub after : State → Call → State
after s c = cond (eqb (judge s c).code 0) (change (op_of c.op) c s) s

-- after bytes as they come
unfoldable pub left : State → List ℕ → State
left s bs = cond (eqb (heard s bs).code 0) (change (op_of (call_of bs).op) (call_of bs) s) s
