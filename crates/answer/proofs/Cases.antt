-- The table of answers, line by line, and that names and numbers are each other's inverse.
use Rattle.std.specs.Prelude.{ℕ, ◌<◌, ◌≤◌, ◌≡◌, pos, neg_ℤ, Some, None, Result, Err, ⊤}
use Rattle.std.proofs.Common.{refl, arith}
use Rattle.answer.specs.Tests.{gt_eqb}
use Rattle.answer.specs.Answer.{number_of, code_of, errno_of, known, value_in, done_or}
use Rattle.answer.specs.declared.Code.{Code}
use Rattle.answer.specs.declared.Code.TheVariants.{Ok, Einval, Eperm, Ebadf, Eaddrinuse, Enospc, Enoent, Short, Magic, Value, Noplan, Room, Differs}

pub ok_is_0 : errno_of 0 ≡ known (pos 0)
unfolding errno_of
ok_is_0 = refl

pub einval_is_minus_22 : errno_of 1 ≡ known (neg_ℤ (pos 22))
unfolding errno_of
einval_is_minus_22 = refl

pub eperm_is_minus_1 : errno_of 2 ≡ known (neg_ℤ (pos 1))
unfolding errno_of
eperm_is_minus_1 = refl

pub ebadf_is_minus_9 : errno_of 3 ≡ known (neg_ℤ (pos 9))
unfolding errno_of
ebadf_is_minus_9 = refl

pub eaddrinuse_is_minus_112 : errno_of 4 ≡ known (neg_ℤ (pos 112))
unfolding errno_of
eaddrinuse_is_minus_112 = refl

pub enospc_is_minus_28 : errno_of 5 ≡ known (neg_ℤ (pos 28))
unfolding errno_of
enospc_is_minus_28 = refl

pub enoent_is_minus_2 : errno_of 6 ≡ known (neg_ℤ (pos 2))
unfolding errno_of
enoent_is_minus_2 = refl

-- every other number is refused with EINVAL and value 0
pub others_are_refused : (n : ℕ) → 6 < n → errno_of n ≡ Err Einval
unfolding errno_of
others_are_refused n h = simp (gt_eqb n 0 (omega arith), gt_eqb n 1 (omega arith), gt_eqb n 2 (omega arith), gt_eqb n 3 (omega arith), gt_eqb n 4 (omega arith), gt_eqb n 5 (omega arith), gt_eqb n 6 (omega arith))

pub seven_is_refused : errno_of 7 ≡ Err Einval
seven_is_refused = others_are_refused 7 (omega arith)

pub the_largest_is_refused : errno_of 4294967295 ≡ Err Einval
the_largest_is_refused = others_are_refused 4294967295 (omega arith)

-- a name's number names it again
pub code_of_number : (c : Code) → code_of (number_of c) ≡ Some c
unfolding code_of
code_of_number Ok = refl
code_of_number Einval = refl
code_of_number Eperm = refl
code_of_number Ebadf = refl
code_of_number Eaddrinuse = refl
code_of_number Enospc = refl
code_of_number Enoent = refl
code_of_number Short = refl
code_of_number Magic = refl
code_of_number Value = refl
code_of_number Noplan = refl
code_of_number Room = refl
code_of_number Differs = refl

-- the table ends at 12
pub no_name_from_13 : (n : ℕ) → 13 ≤ n → code_of n ≡ None
unfolding code_of
no_name_from_13 n h = simp (gt_eqb n 0 (omega arith), gt_eqb n 1 (omega arith), gt_eqb n 2 (omega arith), gt_eqb n 3 (omega arith), gt_eqb n 4 (omega arith), gt_eqb n 5 (omega arith), gt_eqb n 6 (omega arith), gt_eqb n 7 (omega arith), gt_eqb n 8 (omega arith), gt_eqb n 9 (omega arith), gt_eqb n 10 (omega arith), gt_eqb n 11 (omega arith), gt_eqb n 12 (omega arith))

-- told as a number and a value, a refusal has the value 0
pub refusal_value : (c : Code) → value_in (Err c) ≡ 0
refusal_value c = refl

-- and so has all that has nothing to tell
pub done_value : (r : Result ⊤ Code) → (done_or r).value ≡ 0
done_value r = refl
