-- What the permission leaf answers and changes, for any record taken literally: docs/SPEC.md, 4.1 to 4.20.
use Rattle.std.specs.Prelude.{ℕ, ◌^◌, Bool, cond, ◌&&◌, ◌||◌, ltb, eqb, Result, Ok, Err, ⊤}
use Rattle.answer.specs.declared.Answer.{Answer}
use Rattle.answer.specs.declared.Code.{Code}
use Rattle.answer.specs.declared.Code.TheVariants as codes
use Rattle.answer.specs.Answer.{code_in}
use Rattle.bits.specs.Bit.{is_set, set_bit, clear_bit}
use Rattle.userspace_names.specs.declared.ObjType.TheVariants.{Any}
use Rattle.userspace_names.specs.declared.InitCheck.{InitCheck}
use Rattle.userspace_names.specs.Names.{type_number}
use Rattle.userspace_decide.specs.Decide.{Validated, INITIALISED, PUBLIC, ALLOC, DRIVER, judged}
use Rattle.userspace.specs.declared.KernelObject.{KernelObject}

-- how many threads there are (SPEC 2.1)
abbrev pub THREADS : ℕ
THREADS = 64

-- ---- what a record says

-- the initialised flag is set
abbrev pub initialised : KernelObject → Bool
initialised o = is_set o.flags INITIALISED

-- the public flag is set
abbrev pub public : KernelObject → Bool
public o = is_set o.flags PUBLIC

-- the alloc flag is set
abbrev pub allocated : KernelObject → Bool
allocated o = is_set o.flags ALLOC

-- the driver flag is set
abbrev pub driver : KernelObject → Bool
driver o = is_set o.flags DRIVER

-- thread t's bit; a thread from 64 on has none (SPEC 4.2)
unfoldable pub holds : KernelObject → ℕ → Bool
holds o t = ltb t THREADS && is_set o.word t

-- thread t has access (SPEC 4.14)
unfoldable pub access : KernelObject → ℕ → Bool → Bool
access o t supervisor = supervisor || (public o || holds o t)

-- the record with another word
abbrev pub with_word : KernelObject → ℕ → KernelObject
with_word o w = record { obj_type = o.obj_type; flags = o.flags; word = w }

-- the record with other flags
abbrev pub with_flags : KernelObject → ℕ → KernelObject
with_flags o f = record { obj_type = o.obj_type; flags = f; word = o.word }

-- ---- what is answered

-- what grant, revoke, per-thread clear and recycle make of a record: the answer, and the record after
pub record Changed : Type 0 where
  pub answer : Result ⊤ Code
  pub object : KernelObject

-- done: OK, and the record after
abbrev pub done : KernelObject → Changed
done o = record { answer = Ok tt; object = o }

-- a refusal of a thread: EINVAL, and the record as it was
abbrev pub refused : KernelObject → Changed
refused o = record { answer = Err codes.Einval; object = o }

-- a thread from 64 on is EINVAL, and the record comes back as it was (SPEC 4.6)
unfoldable pub changed_at : ℕ → KernelObject → KernelObject → Changed
changed_at t before after = cond (ltb t THREADS) (done after) (refused before)

-- ---- operations

-- new: neither a flag nor a bit (SPEC 4.5)
abbrev pub new_object : ℕ → KernelObject
new_object t = record { obj_type = t; flags = 0; word = 0 }

-- grant: bit t becomes set, all else stays (SPEC 4.7)
unfoldable pub granted : KernelObject → ℕ → Changed
granted o t = changed_at t o (with_word o (set_bit o.word t))

-- revoke, and per-thread clear: bit t becomes clear, all else stays (SPEC 4.8, 4.9)
unfoldable pub revoked : KernelObject → ℕ → Changed
revoked o t = changed_at t o (with_word o (clear_bit o.word t))

-- clear all: the word becomes 0, all else stays (SPEC 4.10)
abbrev pub cleared_all : KernelObject → KernelObject
cleared_all o = with_word o 0

-- init: the initialised flag becomes set, all else stays (SPEC 4.11)
abbrev pub initiated : KernelObject → KernelObject
initiated o = with_flags o (set_bit o.flags INITIALISED)

-- uninit: the initialised flag becomes clear, all else stays (SPEC 4.11)
abbrev pub uninitiated : KernelObject → KernelObject
uninitiated o = with_flags o (clear_bit o.flags INITIALISED)

-- make public: the public flag becomes set, all else stays (SPEC 4.11)
abbrev pub published : KernelObject → KernelObject
published o = with_flags o (set_bit o.flags PUBLIC)

-- recycle: of the bits t's alone is set, and the initialised flag is; every other flag stays (SPEC 4.12)
unfoldable pub recycled : KernelObject → ℕ → Changed
recycled o t = changed_at t o (with_word (initiated o) (set_bit 0 t))

-- ---- queries

-- whether the bit is set; from 64 on EINVAL (SPEC 4.13)
unfoldable pub bit_answer : KernelObject → ℕ → Result Bool Code
bit_answer o t = cond (ltb t THREADS) (Ok (is_set o.word t)) (Err codes.Einval)

-- the same as a number of the table and a value
abbrev pub bit_in : Result Bool Code → ℕ
bit_in (Ok b) = cond b 1 0
bit_in (Err c) = 0

abbrev pub bit_told : Result Bool Code → Answer
bit_told r = record { code = code_in r; value = bit_in r }

-- the expected type fits (SPEC 4.15)
unfoldable pub type_fits : ℕ → ℕ → Bool
type_fits expected actual = eqb expected (type_number Any) || eqb expected actual

-- validate, of a record (SPEC 4.16 to 4.20)
unfoldable pub validated : KernelObject → ℕ → ℕ → Bool → InitCheck → Validated
validated o expected t supervisor check =
    judged (type_fits expected o.obj_type) (access o t supervisor) (initialised o) check

-- ---- a step of the code

-- the word with bit t alone, from 64 on EINVAL
unfoldable pub bit_for : ℕ → Result ℕ Code
bit_for t = cond (ltb t THREADS) (Ok (2 ^ t)) (Err codes.Einval)
