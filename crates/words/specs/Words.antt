-- A call and its answer in words, for people: the operation and its fields by name, the answer by name, the value.
-- A field has its own word before it, or is one of a few words. Addresses and starts are 0x and eight digits in base 16, lengths and sizes 0x and no zeros in
-- front, all other numbers decimal. A field that the operation does not use is left out where it is 0; where it is not, it is why the call is EINVAL, and it is
-- shown with its letter. So a line tells every byte of its call.
use Rattle.std.specs.Prelude.{ℕ, ◌+◌, ◌-◌, ◌*◌, ◌%◌, ◌^◌, Bool, true, false, cond, List, [], ◌∷◌, ◌++◌, max, length, map, get_or, ◌==◌, nat_lt}
use Rattle.std.proofs.Common.{Bor}
use Rattle.text.specs.Text.{ascii, decimal, hex}
use Rattle.decoding.specs.declared.Call.{Call}
use Rattle.words.specs.declared.Shape.{Shape}
use Rattle.words.specs.declared.Shape.TheVariants.{Decimal, Address, Size}

-- ---- names

abbrev pub Names : Type 0
Names = List (List ℕ)

-- the k-th name
abbrev pub nth : ℕ → Names → List ℕ
nth k names = get_or names k []

-- the longest has so many bytes
unfoldable pub longest : Names → ℕ
longest [] = 0
longest (name ∷ names) = max (length name) (longest names)

-- what lent names say
abbrev pub texts : List (Bor (List ℕ)) → Names
texts names = map (λ (name : Bor (List ℕ)). name.now) names

-- the operations 0 to 4, and behind them 16 to 28
abbrev pub operation_names : Names
operation_names =
    ascii "validate" ∷ ascii "grant" ∷ ascii "release" ∷ ascii "memory check" ∷ ascii "exit" ∷ ascii "create object" ∷
    ascii "delete object" ∷ ascii "revoke" ∷ ascii "init" ∷ ascii "uninit" ∷ ascii "recycle" ∷ ascii "make public" ∷
    ascii "create thread" ∷ ascii "end thread" ∷ ascii "inherit" ∷ ascii "assign" ∷ ascii "add partition" ∷ ascii "remove partition" ∷ []

abbrev pub answer_names : Names
answer_names =
    ascii "OK" ∷ ascii "EINVAL" ∷ ascii "EPERM" ∷ ascii "EBADF" ∷ ascii "EADDRINUSE" ∷ ascii "ENOSPC" ∷ ascii "ENOENT" ∷
    ascii "SHORT" ∷ ascii "MAGIC" ∷ ascii "VALUE" ∷ ascii "NOPLAN" ∷ ascii "ROOM" ∷ ascii "DIFFERS" ∷ []

abbrev pub type_names : Names
type_names =
    ascii "Any" ∷ ascii "Thread" ∷ ascii "Sem" ∷ ascii "Mutex" ∷ ascii "CondVar" ∷ ascii "MsgQ" ∷ ascii "Stack" ∷ ascii "Pipe" ∷
    ascii "Timer" ∷ ascii "Event" ∷ ascii "MemSlab" ∷ ascii "Fifo" ∷ ascii "Lifo" ∷ ascii "SysMutex" ∷ ascii "Futex" ∷ ascii "Mbox" ∷ []

abbrev pub role_names : Names
role_names = ascii "user" ∷ ascii "supervisor" ∷ []

abbrev pub access_names : Names
access_names = ascii "read" ∷ ascii "write" ∷ []

-- the modes -1, 0 and 1
abbrev pub mode_names : Names
mode_names = ascii "must not be initialised" ∷ ascii "must be initialised" ∷ ascii "initialised or not" ∷ []

-- 1 read, 2 write, 4 execute: 0 to 7, of which those without the 1 are no rights
abbrev pub rights_names : Names
rights_names =
    ascii "attr 0" ∷ ascii "r--" ∷ ascii "attr 2" ∷ ascii "rw-" ∷ ascii "attr 4" ∷ ascii "r-x" ∷ ascii "attr 6" ∷ ascii "rwx" ∷ []

-- ---- an operation, an answer

unfoldable pub unknown : ℕ → List ℕ
unknown op = ascii "operation " ++ decimal op

-- where an operation stands among the names; from 18 on it has none
unfoldable pub rank : ℕ → ℕ
rank op = cond (nat_lt op 5) op (cond (nat_lt op 16) 18 (op - 11))

unfoldable pub operation : ℕ → List ℕ
operation op = cond (nat_lt (rank op) 18) (nth (rank op) operation_names) (unknown op)

unfoldable pub answer_name : ℕ → List ℕ
answer_name code = cond (nat_lt code 13) (nth code answer_names) (decimal code)

-- ---- a field

unfoldable pub address : ℕ → List ℕ
address n = ascii "0x" ++ hex 8 n

unfoldable pub size : ℕ → List ℕ
size n = ascii "0x" ++ hex 1 n

-- how a number is told: in decimal, as an address or as a size
abbrev pub told : Shape → ℕ → List ℕ
told Decimal n = decimal n
told Address n = address n
told Size n = size n

unfoldable pub labelled : List ℕ → List ℕ → List ℕ
labelled name xs = ascii ", " ++ name ++ ascii " " ++ xs

unfoldable pub field : List ℕ → ℕ → List ℕ
field name n = labelled name (decimal n)

unfoldable pub unused : List ℕ → ℕ → List ℕ
unused name n = cond (n == 0) [] (field name n)

-- the n-th of some names, else the number
unfoldable pub named : List ℕ → Names → List ℕ → ℕ → List ℕ
named front names name n = cond (nat_lt n (length names)) (front ++ nth n names) (field name n)

unfoldable pub type : ℕ → List ℕ
type n = named (ascii ", type ") type_names (ascii "type") n

unfoldable pub role : ℕ → List ℕ
role n = named (ascii ", as ") role_names (ascii "supervisor") n

unfoldable pub access : ℕ → List ℕ
access n = named (ascii ", ") access_names (ascii "access") n

unfoldable pub rights : ℕ → List ℕ
rights n = named (ascii ", ") rights_names (ascii "attr") n

-- the domain of a thread
unfoldable pub home : ℕ → List ℕ
home n = cond (n == 255) (ascii ", no domain") (field (ascii "domain") n)

-- a mode is 32 bits with a sign; the names begin with -1
unfoldable pub mode_number : ℕ → List ℕ
mode_number n = cond (nat_lt n 2147483648) (field (ascii "mode") n) (ascii ", mode -" ++ decimal (4294967296 - n))

unfoldable pub mode : ℕ → List ℕ
mode n = cond (nat_lt ((n + 1) % 2 ^ 32) 3) (ascii ", " ++ nth ((n + 1) % 2 ^ 32) mode_names) (mode_number n)

-- ---- the fields of an operation

-- the operations on a handle, on a thread and on a domain
unfoldable pub on_handle : ℕ → Bool
on_handle op = cond (nat_lt op 3) true (cond (nat_lt op 16) false (nat_lt op 24))

unfoldable pub on_thread : ℕ → Bool
on_thread op = cond (op == 23) true (cond (op == 24) true (op == 26))

unfoldable pub on_domain : ℕ → Bool
on_domain op = cond (nat_lt op 27) false (nat_lt op 29)

unfoldable pub field_a : ℕ → ℕ → List ℕ
field_a op n = cond (on_handle op) (field (ascii "handle") n) (cond (on_domain op) (field (ascii "domain") n) (unused (ascii "unused a") n))

unfoldable pub other_b : ℕ → ℕ → List ℕ
other_b op n = cond (on_thread op) (field (ascii "thread") n) (cond (on_domain op) (labelled (ascii "start") (address n)) (unused (ascii "unused b") n))

unfoldable pub field_b : ℕ → ℕ → List ℕ
field_b op n =
    cond (op == 0) (type n) (
    cond (op == 1) (field (ascii "to") n) (
    cond (op == 3) (labelled (ascii "address") (address n)) (
    cond (op == 16) (type n) (
    cond (op == 18) (field (ascii "from") n) (
    cond (op == 25) (field (ascii "parent") n) (other_b op n))))))

unfoldable pub other_c : ℕ → ℕ → List ℕ
other_c op n = cond (on_domain op) (labelled (ascii "size") (size n)) (unused (ascii "unused c") n)

unfoldable pub field_c : ℕ → ℕ → List ℕ
field_c op n =
    cond (op == 0) (mode n) (
    cond (op == 3) (labelled (ascii "length") (size n)) (
    cond (op == 23) (role n) (
    cond (op == 25) (field (ascii "child") n) (
    cond (op == 26) (home n) (other_c op n)))))

unfoldable pub field_d : ℕ → ℕ → List ℕ
field_d op n = cond (op == 3) (access n) (cond (op == 27) (rights n) (unused (ascii "unused d") n))

-- ---- a call, an answer

unfoldable pub fields : Call → List ℕ
fields c = field_a c.op c.a ++ field_b c.op c.b ++ field_c c.op c.c ++ field_d c.op c.d

unfoldable pub call_words : Call → List ℕ
call_words c = operation c.op ++ ascii " caller " ++ decimal c.caller ++ fields c

-- the value is a number, or an address; it ends the line
unfoldable pub value_words : Bool → ℕ → List ℕ
value_words place value = cond place (address value) (decimal value) ++ ascii "\n"

unfoldable pub answer_words : Bool → ℕ → ℕ → List ℕ
answer_words place code value = ascii ": " ++ answer_name code ++ ascii " " ++ value_words place value

-- ---- the widest of each kind, in bytes

abbrev pub widest_operation : ℕ
widest_operation = 20

abbrev pub widest_field : ℕ
widest_field = 25

-- an operation, its caller, four fields
abbrev pub widest_call : ℕ
widest_call = widest_operation + 18 + 4 * widest_field

abbrev pub widest_answer : ℕ
widest_answer = 24
