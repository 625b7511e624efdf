-- The types and the modes by number and by name: docs/SPEC.md, 2.8 to 2.12 and 4.23.
use Rattle.std.specs.Prelude.{ℕ, zero, suc, cond, ℤ, pos, negsuc, eqb, Option, Some, None, Result, Ok, Err}
use Rattle.userspace_names.specs.declared.ObjType.{ObjType}
use Rattle.userspace_names.specs.declared.ObjType.TheVariants.{Any, Thread, Sem, Mutex, CondVar, MsgQ, Stack, Pipe, Timer, Event, MemSlab, Fifo, Lifo, SysMutex, Futex, Mbox}
use Rattle.userspace_names.specs.declared.UnknownType.{UnknownType}
use Rattle.userspace_names.specs.declared.InitCheck.{InitCheck}
use Rattle.userspace_names.specs.declared.InitCheck.TheVariants.{MustBeInit, MustNotBeInit, DontCare}
use Rattle.userspace_names.specs.declared.UnknownCheck.{UnknownCheck}

-- the number of each type (SPEC 2.8)
abbrev pub type_number : ObjType → ℕ
type_number Any = 0
type_number Thread = 1
type_number Sem = 2
type_number Mutex = 3
type_number CondVar = 4
type_number MsgQ = 5
type_number Stack = 6
type_number Pipe = 7
type_number Timer = 8
type_number Event = 9
type_number MemSlab = 10
type_number Fifo = 11
type_number Lifo = 12
type_number SysMutex = 13
type_number Futex = 14
type_number Mbox = 15

-- the type of each number; from 16 on there is none (SPEC 2.9)
unfoldable pub type_named : ℕ → Option ObjType
type_named n =
    cond (eqb n 0) (Some Any) (
    cond (eqb n 1) (Some Thread) (
    cond (eqb n 2) (Some Sem) (
    cond (eqb n 3) (Some Mutex) (
    cond (eqb n 4) (Some CondVar) (
    cond (eqb n 5) (Some MsgQ) (
    cond (eqb n 6) (Some Stack) (
    cond (eqb n 7) (Some Pipe) (
    cond (eqb n 8) (Some Timer) (
    cond (eqb n 9) (Some Event) (
    cond (eqb n 10) (Some MemSlab) (
    cond (eqb n 11) (Some Fifo) (
    cond (eqb n 12) (Some Lifo) (
    cond (eqb n 13) (Some SysMutex) (
    cond (eqb n 14) (Some Futex) (
    cond (eqb n 15) (Some Mbox) None)))))))))))))))

-- that type, or the number that names none
abbrev pub type_or : ℕ → Option ObjType → Result ObjType UnknownType
type_or n (Some t) = Ok t
type_or n None = Err (record { number = n })

abbrev pub type_decoded : ℕ → Result ObjType UnknownType
type_decoded n = type_or n (type_named n)

-- the number of each mode (SPEC 2.11)
abbrev pub check_number : InitCheck → ℤ
check_number MustBeInit = pos 0
check_number MustNotBeInit = negsuc 0
check_number DontCare = pos 1

-- the mode of each number; any but 0, -1 and 1 names none (SPEC 2.12)
abbrev pub check_named : ℤ → Option InitCheck
check_named (pos zero) = Some MustBeInit
check_named (pos (suc zero)) = Some DontCare
check_named (pos (suc (suc n))) = None
check_named (negsuc zero) = Some MustNotBeInit
check_named (negsuc (suc n)) = None

-- that mode, or the number that names none
abbrev pub check_or : ℤ → Option InitCheck → Result InitCheck UnknownCheck
check_or n (Some c) = Ok c
check_or n None = Err (record { number = n })

abbrev pub check_decoded : ℤ → Result InitCheck UnknownCheck
check_decoded n = check_or n (check_named n)

-- a raw mode, where every number stands for some mode (SPEC 4.23)
abbrev pub mode_of : ℤ → InitCheck
mode_of (pos zero) = MustBeInit
mode_of (pos (suc n)) = DontCare
mode_of (negsuc zero) = MustNotBeInit
mode_of (negsuc (suc n)) = DontCare
