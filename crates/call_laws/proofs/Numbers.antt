-- Which number is which operation: eighteen numbers name one each, every other names none.
use Prim.Native.Nat.{ℕ}
use native.Mathlib.Decide.{ℕ_discrete}
use mathlib.Core.Path.{◌≡◌, refl, ◌∙◌}
use mathlib.Core.Logic.{◌≢◌}
use mathlib.Core.Bool.{cond}
use lib.Dec.{eqb}
use borrow.Author.Tests.{eq-eqb, ne_eqb}
use Rattle.decoding.specs.Calls.{create, delete, revoke, init, uninit, recycle, publish, thread, end, inherit, assign, add, remove, Op, validate, grant, release, check, exit, sup, unknown, op_of}

-- the number of each operation (docs/SPEC.md, 7.2 and 7.3); 29 stands for none
unfoldable pub op_number : Op → ℕ
op_number validate = 0
op_number grant = 1
op_number release = 2
op_number check = 3
op_number exit = 4
op_number (sup create) = 16
op_number (sup delete) = 17
op_number (sup revoke) = 18
op_number (sup init) = 19
op_number (sup uninit) = 20
op_number (sup recycle) = 21
op_number (sup publish) = 22
op_number (sup thread) = 23
op_number (sup end) = 24
op_number (sup inherit) = 25
op_number (sup assign) = 26
op_number (sup add) = 27
op_number (sup remove) = 28
op_number unknown = 29

-- the number of an operation names it
pub number_names : (o : Op) → op_of (op_number o) ≡ o
unfolding op_of op_number
number_names validate = refl
number_names grant = refl
number_names release = refl
number_names check = refl
number_names exit = refl
number_names (sup create) = refl
number_names (sup delete) = refl
number_names (sup revoke) = refl
number_names (sup init) = refl
number_names (sup uninit) = refl
number_names (sup recycle) = refl
number_names (sup publish) = refl
number_names (sup thread) = refl
number_names (sup end) = refl
number_names (sup inherit) = refl
number_names (sup assign) = refl
number_names (sup add) = refl
number_names (sup remove) = refl
number_names unknown = refl

-- a number that names an operation is its number
abbrev Named : ℕ → Op → Type 0
Named n o = o ≢ unknown → n ≡ op_number o

either : (n m : ℕ) (x y : Op) → m ≡ op_number x → Named n y → Named n (cond (eqb n m) x y)
either n m x y e f = go (ℕ_discrete n m)
  where
    go : Dec (n ≡ m) → Named n (cond (eqb n m) x y)
    go (yes q) = rw (eq-eqb n m q) (λ _. q ∙ e)
    go (no q) = rw (ne_eqb n m q) f

pub named_by : (n : ℕ) → op_of n ≢ unknown → n ≡ op_number (op_of n)
unfolding op_of op_number
named_by n =
    either n 0 _ _ refl
    (either n 1 _ _ refl
    (either n 2 _ _ refl
    (either n 3 _ _ refl
    (either n 4 _ _ refl
    (either n 16 _ _ refl
    (either n 17 _ _ refl
    (either n 18 _ _ refl
    (either n 19 _ _ refl
    (either n 20 _ _ refl
    (either n 21 _ _ refl
    (either n 22 _ _ refl
    (either n 23 _ _ refl
    (either n 24 _ _ refl
    (either n 25 _ _ refl
    (either n 26 _ _ refl
    (either n 27 _ _ refl
    (either n 28 _ _ refl (λ f. absurd (f refl)))))))))))))))))))
