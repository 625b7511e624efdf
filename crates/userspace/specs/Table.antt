-- Upstream's record and its operations on values, taken from upstream's bodies: five fields and a table of 64 yes or no.
-- And the table of a word, with which a record here is the picture of upstream's (docs/SPEC.md, 4.25 to 4.35).
use Rattle.std.specs.Prelude.{ℕ, zero, suc, ◌+◌, ◌*◌, Bool, true, false, cond, not, List, [], ◌∷◌, leb, eqb, get_or, set, replicate, Err}
use Rattle.answer.specs.declared.Answer.{Answer}
use Rattle.answer.specs.declared.Code.TheVariants as codes
use Rattle.answer.specs.Answer.{number_of, code_in}
use Rattle.userspace_names.specs.declared.InitCheck.{InitCheck}
use Rattle.userspace_names.specs.declared.InitCheck.TheVariants.{MustBeInit, MustNotBeInit, DontCare}
use Rattle.userspace.specs.declared.KernelObject.{KernelObject}
use Rattle.bits.specs.Bit.{is_set}
use Rattle.userspace_decide.specs.Decide.{Validated, passed, answer_of}
use Rattle.userspace.specs.Userspace.{Changed, THREADS, granted, revoked, cleared_all, recycled, initiated, uninitiated, published, new_object, access, validated, initialised, public, allocated, driver, bit_answer, bit_told}

-- ---- upstream's record

-- `KernelObject`: obj_type, four flags, thread_perms
pub record Table : Type 0 where
  pub kind : ℕ
  pub flag_initialized : Bool
  pub flag_public : Bool
  pub flag_alloc : Bool
  pub flag_driver : Bool
  pub thread_perms : List Bool

-- rc, a value, and what stands behind `&mut self`
pub record Did : Type 0 where
  pub code : ℕ
  pub value : ℕ
  pub table : Table

-- `self.thread_perms = l`
abbrev pub with_perms : Table → List Bool → Table
with_perms u l = record { kind = u.kind; flag_initialized = u.flag_initialized; flag_public = u.flag_public; flag_alloc = u.flag_alloc; flag_driver = u.flag_driver; thread_perms = l }

-- `self.flag_initialized = b`
abbrev pub with_initialized : Table → Bool → Table
with_initialized u b = record { kind = u.kind; flag_initialized = b; flag_public = u.flag_public; flag_alloc = u.flag_alloc; flag_driver = u.flag_driver; thread_perms = u.thread_perms }

-- `self.flag_public = b`
abbrev pub with_public : Table → Bool → Table
with_public u b = record { kind = u.kind; flag_initialized = u.flag_initialized; flag_public = b; flag_alloc = u.flag_alloc; flag_driver = u.flag_driver; thread_perms = u.thread_perms }

-- [false; 64]
abbrev pub blank : List Bool
blank = replicate THREADS false

-- ---- upstream's operations

-- `if tid >= MAX_THREADS { return EINVAL; } ..; OK`
abbrev pub unless : ℕ → Table → Table → Did
unless tid u v = cond (leb THREADS tid) (record { code = number_of codes.Einval; value = 0; table = u }) (record { code = number_of codes.Ok; value = 0; table = v })

-- `new`
abbrev pub new_t : ℕ → Table
new_t t = record { kind = t; flag_initialized = false; flag_public = false; flag_alloc = false; flag_driver = false; thread_perms = blank }

-- `grant_access`: `self.thread_perms[tid as usize] = true`
abbrev pub grant_t : Table → ℕ → Did
grant_t u tid = unless tid u (with_perms u (set u.thread_perms tid true))

-- `revoke_access`: `self.thread_perms[tid as usize] = false`
abbrev pub revoke_t : Table → ℕ → Did
revoke_t u tid = unless tid u (with_perms u (set u.thread_perms tid false))

-- `clear_thread_perm`: `self.revoke_access(tid)`
abbrev pub clear_thread_t : Table → ℕ → Did
clear_thread_t = revoke_t

-- `clear_all_perms`
abbrev pub clear_all_t : Table → Table
clear_all_t u = with_perms u blank

-- `init_object`
abbrev pub init_t : Table → Table
init_t u = with_initialized u true

-- `uninit_object`
abbrev pub uninit_t : Table → Table
uninit_t u = with_initialized u false

-- `make_public`
abbrev pub public_t : Table → Table
public_t u = with_public u true

-- `recycle`, which requires current_tid < 64 upstream: here that is a refusal
abbrev pub recycle_t : Table → ℕ → Did
recycle_t u tid = unless tid u (init_t (with_perms u (set blank tid true)))

-- ---- upstream's queries

-- `check_access`: supervisor, public, tid >= 64, the entry
abbrev pub check_t : Table → ℕ → Bool → Bool
check_t u tid supervisor =
    cond supervisor true (cond u.flag_public true (cond (leb THREADS tid) false (get_or u.thread_perms tid false)))

-- the `match` on expected_type: Any matches all, every other type itself alone
abbrev pub type_t : ℕ → ℕ → Bool
type_t expected actual = cond (eqb expected 0) true (eqb expected actual)

-- the `match` on init_check
abbrev pub init_check_t : InitCheck → Bool → Validated
init_check_t MustBeInit i = cond (not i) (Err codes.Einval) passed
init_check_t MustNotBeInit i = cond i (Err codes.Eaddrinuse) passed
init_check_t DontCare i = passed

-- `validate`: EBADF, EPERM, then the initialisation
abbrev pub validate_t : Table → ℕ → ℕ → Bool → InitCheck → Validated
validate_t u expected tid supervisor check =
    cond (not (type_t expected u.kind)) (Err codes.Ebadf) (
    cond (not (check_t u tid supervisor)) (Err codes.Eperm) (init_check_t check u.flag_initialized))

-- `has_perm`, which requires tid < 64 upstream: here that is a refusal
abbrev pub has_perm_t : Table → ℕ → Answer
has_perm_t u tid =
    cond (leb THREADS tid)
    (record { code = number_of codes.Einval; value = 0 })
    (record { code = number_of codes.Ok; value = cond (get_or u.thread_perms tid false) 1 0 })

-- ---- the table of a word, and the picture of a record

-- f at 0, 1, .. n - 1
unfoldable pub entries : ℕ → (ℕ → Bool) → List Bool
entries zero f = []
entries (suc n) f = f zero ∷ entries n (λ k. f (suc k))

-- entry t is bit t, for the 64 threads
unfoldable pub perms_of : ℕ → List Bool
perms_of w = entries THREADS (is_set w)

-- the word of a table: the other way round
unfoldable pub word_of : List Bool → ℕ
word_of [] = 0
word_of (b ∷ l) = cond b 1 0 + word_of l * 2

-- the record as upstream has it
unfoldable pub table_of : KernelObject → Table
table_of o =
    record {
      kind = o.obj_type;
      flag_initialized = initialised o;
      flag_public = public o;
      flag_alloc = allocated o;
      flag_driver = driver o;
      thread_perms = perms_of o.word;
    }

-- what a step answers here, and the record after
pub record Stepped : Type 0 where
  pub code : ℕ
  pub value : ℕ
  pub object : KernelObject

-- a change is such a step, and its value is 0
abbrev pub step_of : Changed → Stepped
step_of c = record { code = code_in c.answer; value = 0; object = c.object }

-- the same with the table for the record
abbrev pub did_of : Stepped → Did
did_of c = record { code = c.code; value = c.value; table = table_of c.object }

-- ---- any sequence of operations and queries

-- every function of upstream's that takes or makes a record, and its two public fields that have no function: a caller reads them
pub data Op : Type 0 where
  new : ℕ → Op
  grant revoke clear_thread recycle : ℕ → Op
  clear_all init uninit make_public : Op
  check_access : ℕ → Bool → Op
  validate : ℕ → ℕ → Bool → InitCheck → Op
  is_initialized is_public is_alloc is_driver obj_type_get : Op
  has_perm : ℕ → Op

-- an operation that answers nothing
abbrev pub becomes : KernelObject → Stepped
becomes o = record { code = number_of codes.Ok; value = 0; object = o }

-- a query, which changes nothing
abbrev pub tells : Answer → KernelObject → Stepped
tells a o = record { code = a.code; value = a.value; object = o }

-- a yes or no as an answer
abbrev pub says : Bool → Answer
says b = record { code = number_of codes.Ok; value = cond b 1 0 }

-- a number as an answer
abbrev pub gives : ℕ → Answer
gives n = record { code = number_of codes.Ok; value = n }

-- the same two, upstream
abbrev pub becomes_t : Table → Did
becomes_t u = record { code = number_of codes.Ok; value = 0; table = u }

abbrev pub tells_t : Answer → Table → Did
tells_t a u = record { code = a.code; value = a.value; table = u }

-- one step here: what is answered, and the record after
unfoldable pub step : Op → KernelObject → Stepped
step (new t) o = becomes (new_object t)
step (grant t) o = step_of (granted o t)
step (revoke t) o = step_of (revoked o t)
step (clear_thread t) o = step_of (revoked o t)
step (recycle t) o = step_of (recycled o t)
step clear_all o = becomes (cleared_all o)
step init o = becomes (initiated o)
step uninit o = becomes (uninitiated o)
step make_public o = becomes (published o)
step (check_access t s) o = tells (says (access o t s)) o
step (validate e t s c) o = tells (answer_of (validated o e t s c)) o
step is_initialized o = tells (says (initialised o)) o
step is_public o = tells (says (public o)) o
step is_alloc o = tells (says (allocated o)) o
step is_driver o = tells (says (driver o)) o
step obj_type_get o = tells (gives o.obj_type) o
step (has_perm t) o = tells (bit_told (bit_answer o t)) o

-- the same step upstream
unfoldable pub step_t : Op → Table → Did
step_t (new t) u = becomes_t (new_t t)
step_t (grant t) u = grant_t u t
step_t (revoke t) u = revoke_t u t
step_t (clear_thread t) u = clear_thread_t u t
step_t (recycle t) u = recycle_t u t
step_t clear_all u = becomes_t (clear_all_t u)
step_t init u = becomes_t (init_t u)
step_t uninit u = becomes_t (uninit_t u)
step_t make_public u = becomes_t (public_t u)
step_t (check_access t s) u = tells_t (says (check_t u t s)) u
step_t (validate e t s c) u = tells_t (answer_of (validate_t u e t s c)) u
step_t is_initialized u = tells_t (says u.flag_initialized) u
step_t is_public u = tells_t (says u.flag_public) u
step_t is_alloc u = tells_t (says u.flag_alloc) u
step_t is_driver u = tells_t (says u.flag_driver) u
step_t obj_type_get u = tells_t (gives u.kind) u
step_t (has_perm t) u = tells_t (has_perm_t u t) u

-- the record after a sequence, and what it answered on the way
unfoldable pub after : List Op → KernelObject → KernelObject
after [] o = o
after (p ∷ ps) o = after ps (step p o).object

unfoldable pub heard : List Op → KernelObject → List Answer
heard [] o = []
heard (p ∷ ps) o = record { code = (step p o).code; value = (step p o).value } ∷ heard ps (step p o).object

unfoldable pub after_t : List Op → Table → Table
after_t [] u = u
after_t (p ∷ ps) u = after_t ps (step_t p u).table

unfoldable pub heard_t : List Op → Table → List Answer
heard_t [] u = []
heard_t (p ∷ ps) u = record { code = (step_t p u).code; value = (step_t p u).value } ∷ heard_t ps (step_t p u).table
