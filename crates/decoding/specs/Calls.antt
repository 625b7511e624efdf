-- A call: its sixteen bytes, and which of the eighteen operations its number names (docs/SPEC.md, 7.1 to 7.4).
use Rattle.std.specs.Prelude.{ℕ, ◌+◌, ◌*◌, cond, List, eqb, get_or, Option, Some, None}
use Rattle.decoding.specs.declared.Call.{Call}
use Rattle.decoding.specs.declared.Operation.{Operation}
use Rattle.decoding.specs.declared.Operation.TheVariants.{Validate, Grant, Release, Check, Exit, Create, Delete, Revoke, Init, Uninit, Recycle, MakePublic, CreateThread, End, Inherit, Assign, Add, Remove}

-- ---- bytes, little-endian

-- the number of four bytes at i
abbrev pub word_at : List ℕ → ℕ → ℕ
word_at bs i = get_or bs i 0 + get_or bs (i + 1) 0 * 256 + get_or bs (i + 2) 0 * 65536 + get_or bs (i + 3) 0 * 16777216

-- which bytes are which field (SPEC 7.1)
abbrev pub call_of : List ℕ → Call
call_of bs =
    record {
      op = get_or bs 0 0;
      caller = get_or bs 1 0;
      a = get_or bs 2 0 + get_or bs 3 0 * 256;
      b = word_at bs 4;
      c = word_at bs 8;
      d = word_at bs 12;
    }

-- ---- operations

-- those of supervisors only
pub data Sup : Type 0 where
  create delete revoke init uninit recycle publish thread end inherit assign add remove : Sup

pub data Op : Type 0 where
  validate grant release check exit : Op
  sup : Sup → Op
  unknown : Op

-- 0 to 4 are open to all, 16 to 28 are supervisors' (SPEC 7.2 to 7.4)
unfoldable pub op_of : ℕ → Op
op_of n =
    cond (eqb n 0) validate (
    cond (eqb n 1) grant (
    cond (eqb n 2) release (
    cond (eqb n 3) check (
    cond (eqb n 4) exit (
    cond (eqb n 16) (sup create) (
    cond (eqb n 17) (sup delete) (
    cond (eqb n 18) (sup revoke) (
    cond (eqb n 19) (sup init) (
    cond (eqb n 20) (sup uninit) (
    cond (eqb n 21) (sup recycle) (
    cond (eqb n 22) (sup publish) (
    cond (eqb n 23) (sup thread) (
    cond (eqb n 24) (sup end) (
    cond (eqb n 25) (sup inherit) (
    cond (eqb n 26) (sup assign) (
    cond (eqb n 27) (sup add) (
    cond (eqb n 28) (sup remove) (
    unknown))))))))))))))))))

-- ---- the same as the code has them

-- what each operation is
abbrev pub named : Operation → Op
named Validate = validate
named Grant = grant
named Release = release
named Check = check
named Exit = exit
named Create = sup create
named Delete = sup delete
named Revoke = sup revoke
named Init = sup init
named Uninit = sup uninit
named Recycle = sup recycle
named MakePublic = sup publish
named CreateThread = sup thread
named End = sup end
named Inherit = sup inherit
named Assign = sup assign
named Add = sup add
named Remove = sup remove

-- the operation that a number names
unfoldable pub operation_of : ℕ → Option Operation
operation_of n =
    cond (eqb n 0) (Some Validate) (
    cond (eqb n 1) (Some Grant) (
    cond (eqb n 2) (Some Release) (
    cond (eqb n 3) (Some Check) (
    cond (eqb n 4) (Some Exit) (
    cond (eqb n 16) (Some Create) (
    cond (eqb n 17) (Some Delete) (
    cond (eqb n 18) (Some Revoke) (
    cond (eqb n 19) (Some Init) (
    cond (eqb n 20) (Some Uninit) (
    cond (eqb n 21) (Some Recycle) (
    cond (eqb n 22) (Some MakePublic) (
    cond (eqb n 23) (Some CreateThread) (
    cond (eqb n 24) (Some End) (
    cond (eqb n 25) (Some Inherit) (
    cond (eqb n 26) (Some Assign) (
    cond (eqb n 27) (Some Add) (
    cond (eqb n 28) (Some Remove) (
    None))))))))))))))))))

-- what such a result is as an operation of the rules
abbrev pub meant : Option Operation → Op
meant (Some o) = named o
meant None = unknown
