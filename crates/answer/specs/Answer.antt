-- What the answers mean: the numbers of docs/SPEC.md, 1, and upstream's error.rs beside them.
use Rattle.std.specs.Prelude.{ℕ, cond, ℤ, pos, neg_ℤ, eqb, Option, Some, None, Result, Ok as Accepted, Err, ⊤}
use Rattle.answer.specs.declared.Code.{Code}
use Rattle.answer.specs.declared.Code.TheVariants.{Ok, Einval, Eperm, Ebadf, Eaddrinuse, Enospc, Enoent, Short, Magic, Value, Noplan, Room, Differs}
use Rattle.answer.specs.declared.UnknownCode.{UnknownCode}
use Rattle.answer.specs.declared.Answer.{Answer}

-- the number of each name (SPEC 1.1)
abbrev pub number_of : Code → ℕ
number_of Ok = 0
number_of Einval = 1
number_of Eperm = 2
number_of Ebadf = 3
number_of Eaddrinuse = 4
number_of Enospc = 5
number_of Enoent = 6
number_of Short = 7
number_of Magic = 8
number_of Value = 9
number_of Noplan = 10
number_of Room = 11
number_of Differs = 12

-- the name of each number; from 13 on there is none (SPEC 1.2)
unfoldable pub code_of : ℕ → Option Code
code_of n =
    cond (eqb n 0) (Some Ok) (
    cond (eqb n 1) (Some Einval) (
    cond (eqb n 2) (Some Eperm) (
    cond (eqb n 3) (Some Ebadf) (
    cond (eqb n 4) (Some Eaddrinuse) (
    cond (eqb n 5) (Some Enospc) (
    cond (eqb n 6) (Some Enoent) (
    cond (eqb n 7) (Some Short) (
    cond (eqb n 8) (Some Magic) (
    cond (eqb n 9) (Some Value) (
    cond (eqb n 10) (Some Noplan) (
    cond (eqb n 11) (Some Room) (
    cond (eqb n 12) (Some Differs) None))))))))))))

-- that name, or the number that names nothing
abbrev pub name_or : ℕ → Option Code → Result Code UnknownCode
name_or n (Some c) = Accepted c
name_or n None = Err (record { number = n })

abbrev pub decoded : ℕ → Result Code UnknownCode
decoded n = name_or n (code_of n)

-- an answer with value 0; a refusal has it, and OK where there is nothing to tell (SPEC 1.3)
abbrev pub plain : ℕ → Answer
plain n = record { code = n; value = 0 }

abbrev pub refused : Code → Answer
refused c = plain (number_of c)

abbrev pub done : Answer
done = plain (number_of Ok)

-- what a result says as a number of the table and a value: OK and what it gives, or a refusal (SPEC 1.3)
abbrev pub code_in : {A : Type 0} → Result A Code → ℕ
code_in (Accepted a) = number_of Ok
code_in (Err c) = number_of c

abbrev pub value_in : Result ℕ Code → ℕ
value_in (Accepted v) = v
value_in (Err c) = 0

abbrev pub told : Result ℕ Code → Answer
told r = record { code = code_in r; value = value_in r }

-- the same where there is nothing to tell
abbrev pub done_or : Result ⊤ Code → Answer
done_or r = plain (code_in r)

-- upstream's value
abbrev pub known : ℤ → Result ℤ Code
known z = Accepted z

-- SPEC 1.7, 1.8; error.rs: OK 0, EINVAL -22, EPERM -1, EBADF -9, EADDRINUSE -112, ENOSPC -28, ENOENT -2; else EINVAL
unfoldable pub errno_of : ℕ → Result ℤ Code
errno_of n =
    cond (eqb n 0) (known (pos 0)) (
    cond (eqb n 1) (known (neg_ℤ (pos 22))) (
    cond (eqb n 2) (known (neg_ℤ (pos 1))) (
    cond (eqb n 3) (known (neg_ℤ (pos 9))) (
    cond (eqb n 4) (known (neg_ℤ (pos 112))) (
    cond (eqb n 5) (known (neg_ℤ (pos 28))) (
    cond (eqb n 6) (known (neg_ℤ (pos 2))) (Err Einval)))))))

-- the value that stands beside the number: upstream's, or 0
abbrev pub errno_in : Result ℤ Code → ℤ
errno_in (Accepted z) = z
errno_in (Err c) = pos 0
