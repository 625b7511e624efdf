-- What each call answers: docs/SPEC.md, 7. A refusal is a test with its name; the first that holds is the answer (SPEC 7.7).
use Rattle.std.specs.Prelude.{ℕ, Bool, true, false, cond, not, ◌&&◌, ◌||◌, List, eqb, ltb, leb, length, get_or}
use Rattle.answer.specs.declared.Answer.{Answer}
use Rattle.answer.specs.declared.Code.{Code}
use Rattle.answer.specs.declared.Code.TheVariants.{Einval, Eperm, Ebadf, Eaddrinuse, Short, Value}
use Rattle.answer.specs.Answer.{refused, done, told}
use Rattle.mem_partition.specs.declared.MemPartition.{MemPartition}
use Rattle.mem_domain.specs.Scan.{any_to}
use Rattle.mem_domain.specs.Domain.{Changed, with_count, added, removed}
use Rattle.domain_rules.specs.Sound.{attr_ok}
use Rattle.userspace_names.specs.declared.InitCheck.{InitCheck}
use Rattle.userspace.specs.declared.KernelObject.{KernelObject}
use Rattle.userspace_names.specs.declared.InitCheck.TheVariants.{MustBeInit, MustNotBeInit, DontCare}
use Rattle.userspace_decide.specs.Decide.{answer_of}
use Rattle.userspace.specs.Userspace.{THREADS, access, validated}
use Rattle.tables.specs.Table.{HANDLES, DOMAINS, sized, no_object}
use Rattle.tables.specs.State.{State, state_of, object, thread, domain}
use Rattle.rules.specs.Rules.{is_live, is_supervisor}
use Rattle.mem_check.specs.Memory.{memory_rule}
use Rattle.decoding.specs.declared.Call.{Call}
use Rattle.decoding.specs.Calls.{Sup, create, delete, revoke, init, uninit, recycle, publish, thread as new_thread, end, inherit, assign, add, remove, Op, validate, grant, release, check, exit, sup, unknown, op_of, call_of}

-- ---- answers, with the values of SPEC 1.3 to 1.5: 0, but for the slot of add and remove and the address of the memory check's walk

-- the first test that holds refuses, with the name beside it
infixr 20 ◌⇒◌⨾◌
unfoldable pub ◌⇒◌⨾◌ : Bool → Code → Answer → Answer
b ⇒ n ⨾ rest = cond b (refused n) rest

-- ---- what is read of a state

abbrev pub live : State → ℕ → Bool
live s t = is_live (thread s t)

abbrev pub supervisor : State → ℕ → Bool
supervisor s t = is_supervisor (thread s t)

abbrev pub type_of : State → ℕ → ℕ
type_of s h = (object s h).obj_type

-- thread t has access to object h (SPEC 7.24)
abbrev pub may_use : State → ℕ → ℕ → Bool
may_use s t h = access (object s h) t (supervisor s t)

-- thread t lives and has object h as its handle
abbrev pub serves_at : State → ℕ → ℕ → Bool
serves_at s h t = live s t && eqb (thread s t).handle h

-- object h serves a live thread (SPEC 7.25)
unfoldable pub serves : State → ℕ → Bool
serves s h = any_to (serves_at s h) THREADS

-- ---- each field in its range, or zero where it is unused; a handle is not judged here (SPEC 7.12, and the first sentence of each operation)

abbrev zero? : ℕ → Bool
zero? n = eqb n 0

-- a validation's mode as a signed number of 32 bits: 0, 1 or -1
abbrev pub is_mode : ℕ → Bool
is_mode n = eqb n 0 || (eqb n 1 || eqb n 4294967295)

abbrev pub mode_of : ℕ → InitCheck
mode_of n = cond (eqb n 0) MustBeInit (cond (eqb n 1) DontCare MustNotBeInit)

unfoldable pub well_formed : Op → Call → Bool
well_formed validate c = ltb c.b 16 && (is_mode c.c && zero? c.d)
well_formed grant c = ltb c.b THREADS && (zero? c.c && zero? c.d)
well_formed release c = zero? c.b && (zero? c.c && zero? c.d)
well_formed check c = zero? c.a && ltb c.d 2
well_formed exit c = zero? c.a && (zero? c.b && (zero? c.c && zero? c.d))
well_formed (sup create) c = ltb 0 c.b && (ltb c.b 16 && (zero? c.c && zero? c.d))
well_formed (sup delete) c = zero? c.b && (zero? c.c && zero? c.d)
well_formed (sup revoke) c = ltb c.b THREADS && (zero? c.c && zero? c.d)
well_formed (sup init) c = zero? c.b && (zero? c.c && zero? c.d)
well_formed (sup uninit) c = zero? c.b && (zero? c.c && zero? c.d)
well_formed (sup recycle) c = zero? c.b && (zero? c.c && zero? c.d)
well_formed (sup publish) c = zero? c.b && (zero? c.c && zero? c.d)
well_formed (sup new_thread) c = ltb c.b THREADS && (ltb c.c 2 && zero? c.d)
well_formed (sup end) c = zero? c.a && (ltb c.b THREADS && (zero? c.c && zero? c.d))
well_formed (sup inherit) c = zero? c.a && (ltb c.b THREADS && (ltb c.c THREADS && zero? c.d))
well_formed (sup assign) c = zero? c.a && (ltb c.b THREADS && ((ltb c.c DOMAINS || eqb c.c 255) && zero? c.d))
well_formed (sup add) c = ltb c.a DOMAINS && attr_ok c.d
well_formed (sup remove) c = ltb c.a DOMAINS && zero? c.d
well_formed unknown c = false

-- ---- the handle

-- what field a is (SPEC 7.14, 7.16): no handle, one that must be taken, one that must be free
pub data Use : Type 0 where
  no_handle taken free : Use

unfoldable pub use_of : Op → Use
use_of validate = taken
use_of grant = taken
use_of release = taken
use_of check = no_handle
use_of exit = no_handle
use_of (sup create) = free
use_of (sup delete) = taken
use_of (sup revoke) = taken
use_of (sup init) = taken
use_of (sup uninit) = taken
use_of (sup recycle) = taken
use_of (sup publish) = taken
use_of (sup new_thread) = taken
use_of (sup end) = no_handle
use_of (sup inherit) = no_handle
use_of (sup assign) = no_handle
use_of (sup add) = no_handle
use_of (sup remove) = no_handle
use_of unknown = no_handle

-- from 256 on EBADF; then a free one EBADF, or for create a taken one EADDRINUSE (SPEC 7.15, 7.16)
unfoldable pub with_handle : Use → State → ℕ → Answer → Answer
with_handle no_handle s h rest = rest
with_handle taken s h rest = leb HANDLES h ⇒ Ebadf ⨾ eqb (type_of s h) 0 ⇒ Ebadf ⨾ rest
with_handle free s h rest = leb HANDLES h ⇒ Ebadf ⨾ not (eqb (type_of s h) 0) ⇒ Eaddrinuse ⨾ rest

-- ---- the rule (SPEC 7.17, and operation by operation 7.26 to 7.87)

-- the partition that op 27 adds
abbrev pub partition_of : Call → MemPartition
partition_of c = record { start = c.b; size = c.c; attr = c.d }

abbrev pub slot_answer : Changed → Answer
slot_answer r = told r.answer

unfoldable pub sup_rule : Sup → State → Call → Answer
sup_rule create s c = done
sup_rule delete s c = serves s c.a ⇒ Eaddrinuse ⨾ done
sup_rule revoke s c = not (live s c.b) ⇒ Einval ⨾ done
sup_rule init s c = done
sup_rule uninit s c = done
sup_rule recycle s c = done
sup_rule publish s c = done
sup_rule new_thread s c = live s c.b ⇒ Eaddrinuse ⨾ not (eqb (type_of s c.a) 1) ⇒ Ebadf ⨾ serves s c.a ⇒ Eaddrinuse ⨾ done
sup_rule end s c = not (live s c.b) ⇒ Einval ⨾ done
sup_rule inherit s c = not (live s c.b) ⇒ Einval ⨾ not (live s c.c) ⇒ Einval ⨾ done
sup_rule assign s c = not (live s c.b) ⇒ Einval ⨾ done
sup_rule add s c = slot_answer (added (with_count (domain s c.a)) (partition_of c))
sup_rule remove s c = slot_answer (removed (with_count (domain s c.a)) c.b c.c)

unfoldable pub rule : Op → State → Call → Answer
rule validate s c = answer_of (validated (object s c.a) c.b c.caller (supervisor s c.caller) (mode_of c.c))
rule grant s c =
    not (may_use s c.caller c.a) ⇒ Eperm
    ⨾ not (live s c.b) ⇒ Einval
    ⨾ not (may_use s c.caller (thread s c.b).handle) ⇒ Eperm
    ⨾ done
rule release s c = not (may_use s c.caller c.a) ⇒ Eperm ⨾ done
rule check s c = memory_rule (domain s (thread s c.caller).domain) (supervisor s c.caller) c.b c.c (eqb c.d 1)
rule exit s c = done
rule (sup p) s c = sup_rule p s c
rule unknown s c = refused Einval

-- ---- the order

unfoldable pub is_unknown : Op → Bool
is_unknown validate = false
is_unknown grant = false
is_unknown release = false
is_unknown check = false
is_unknown exit = false
is_unknown (sup p) = false
is_unknown unknown = true

unfoldable pub is_privileged : Op → Bool
is_privileged validate = false
is_privileged grant = false
is_privileged release = false
is_privileged check = false
is_privileged exit = false
is_privileged (sup p) = true
is_privileged unknown = false

-- fields, handle, rule
unfoldable pub judge_op : Op → State → Call → Answer
judge_op o s c = not (well_formed o c) ⇒ Einval ⨾ with_handle (use_of o) s c.a (rule o s c)

-- the whole order (SPEC 7.8 to 7.17)
unfoldable pub judge : State → Call → Answer
judge s c =
    leb THREADS c.caller ⇒ Einval
    ⨾ not (live s c.caller) ⇒ Eperm
    ⨾ is_unknown (op_of c.op) ⇒ Einval
    ⨾ is_privileged (op_of c.op) && not (supervisor s c.caller) ⇒ Eperm
    ⨾ judge_op (op_of c.op) s c

-- bytes as they come (SPEC 7.6)
unfoldable pub heard : State → List ℕ → Answer
heard s bs = ltb (length bs) 16 ⇒ Short ⨾ ltb 16 (length bs) ⇒ Einval ⨾ judge s (call_of bs)

-- what the tables answer: VALUE where they are no state at all (SPEC 7.94)
unfoldable pub judge_in : List ℕ → List ℕ → List ℕ → Call → Answer
judge_in os ts ss c = cond (sized (length os) (length ts) (length ss)) (judge (state_of os ts ss) c) (refused Value)

-- ---- how the code goes

-- a handle that is below 256 and taken
unfoldable pub taken_in : List KernelObject → ℕ → Bool
taken_in os h = ltb h HANDLES && not (eqb (get_or os h no_object).obj_type 0)

-- a handle and nothing else; a handle and a thread
abbrev pub bare_fields : Call → Bool
bare_fields c = zero? c.b && (zero? c.c && zero? c.d)

abbrev pub thread_fields : Call → Bool
thread_fields c = ltb c.b THREADS && (zero? c.c && zero? c.d)
