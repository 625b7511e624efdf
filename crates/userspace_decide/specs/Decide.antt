-- The flags by number, and what a validation answers of what it was told: docs/SPEC.md, 2.10 and 4.16 to 4.21.
use Rattle.std.specs.Prelude.{ℕ, Bool, cond, Result, Ok, Err, ⊤}
use Rattle.answer.specs.declared.Answer.{Answer}
use Rattle.answer.specs.declared.Code.TheVariants as codes
use Rattle.answer.specs.declared.Code.{Code}
use Rattle.answer.specs.Answer.{number_of, done_or}
use Rattle.userspace_names.specs.declared.InitCheck.{InitCheck}
use Rattle.userspace_names.specs.declared.InitCheck.TheVariants.{MustBeInit, MustNotBeInit, DontCare}

-- the flags by their bit: initialised is 1, bit 0
abbrev pub INITIALISED : ℕ
INITIALISED = 0

-- public is 2, bit 1
abbrev pub PUBLIC : ℕ
PUBLIC = 1

-- alloc is 4, bit 2
abbrev pub ALLOC : ℕ
ALLOC = 2

-- driver is 8, bit 3
abbrev pub DRIVER : ℕ
DRIVER = 3

-- what a validation answers: OK, or the name of a refusal
abbrev pub Validated : Type 0
Validated = Result ⊤ Code

abbrev pub passed : Validated
passed = Ok tt

-- the number and the value that each answer of a validation stands for (SPEC 4.21)
abbrev pub answer_of : Validated → Answer
answer_of v = done_or v

-- the same where a refusal is told by its number, whichever that is
abbrev pub number_in : Result ⊤ ℕ → ℕ
number_in (Ok x) = number_of codes.Ok
number_in (Err n) = n

-- whether the object is as the mode wants it (SPEC 4.18 to 4.20)
abbrev pub init_judged : Bool → InitCheck → Validated
init_judged i MustBeInit = cond i passed (Err codes.Einval)
init_judged i MustNotBeInit = cond i (Err codes.Eaddrinuse) passed
init_judged i DontCare = passed

-- the type is asked first, then access, then the mode (SPEC 4.16 to 4.20)
unfoldable pub judged : Bool → Bool → Bool → InitCheck → Validated
judged typeMatches hasAccess isInit check =
    cond typeMatches (cond hasAccess (init_judged isInit check) (Err codes.Eperm)) (Err codes.Ebadf)
