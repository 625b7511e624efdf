-- How far a call has come in the order: one law for each step, over any operation. The code's functions cite these and take no cascade apart.
use Prim.Native.Nat.{ℕ, ◌<◌, ◌≤◌}
use mathlib.Core.Path.{◌≡◌, refl, sym, ap, ◌∙◌}
use mathlib.Core.Bool.{Bool, true, false, cond, not, ◌&&◌, false≢true}
use lib.Dec.{eqb, ltb, leb}
use lib.ListN.{get_or}
use borrow.Author.Tests.{lt-leb, le-leb, eq-eqb, ne_eqb, not-true, not-false}
use mathlib.Core.Logic.{◌≢◌}
use Rattle.domain_rules.proofs.All.{both}
use Rattle.tables.specs.declared.Thread.{Thread}
use Rattle.answer.specs.Answer.{refused}
use Rattle.answer.specs.declared.Answer.{Answer}
use Rattle.answer.specs.declared.Code.{Code}
use Rattle.answer.specs.declared.Code.TheVariants.{Einval, Eperm, Ebadf}
use Rattle.userspace.specs.Userspace.{THREADS}
use Rattle.tables.specs.Table.{HANDLES, no_object}
use Rattle.tables.specs.State.{State, object}
use Rattle.rules.specs.Rules.{is_live, is_supervisor}
use Rattle.decoding.specs.declared.Call.{Call}
use Rattle.decoding.specs.declared.Operation.{Operation}
use Rattle.decoding.specs.declared.Operation.TheVariants.{Validate, Grant, Release, Check, Exit, Create, Delete, Revoke, Init, Uninit, Recycle, MakePublic, CreateThread, End, Inherit, Assign, Add, Remove}
use Rattle.decoding.specs.Calls.{Op, op_of, named}
use Rattle.judging.specs.Judge.{◌⇒◌⨾◌, live, supervisor, well_formed, Use, taken, use_of, with_handle, rule, is_unknown, is_privileged, judge_op, judge, taken_in}

-- a callee's answer by its contract, and the branch that says what it is not
pub via_no : {x y : Bool} → x ≡ y → x ≡ false → y ≡ false
via_no p q = sym p ∙ q

pub via_yes : {x y : Bool} → x ≡ y → x ≡ true → y ≡ true
via_yes p q = sym p ∙ q

-- a test that holds stops the order, one that does not passes it on
pub stop : {b : Bool} (n : Code) (rest : Answer) → b ≡ true → (b ⇒ n ⨾ rest) ≡ refused n
unfolding ◌⇒◌⨾◌
stop n rest e = rw e

pub pass : {b : Bool} (n : Code) (rest : Answer) → b ≡ false → (b ⇒ n ⨾ rest) ≡ rest
unfolding ◌⇒◌⨾◌
pass n rest e = rw e

-- as a choice, for `grind`
pub refuses_by : (b : Bool) (n : Code) (rest : Answer) → (b ⇒ n ⨾ rest) ≡ cond b (refused n) rest
unfolding ◌⇒◌⨾◌
refuses_by b n rest = refl

pub stop_not : {b : Bool} (n : Code) (rest : Answer) → b ≡ false → (not b ⇒ n ⨾ rest) ≡ refused n
stop_not n rest e = stop n rest (ap not e)

pub pass_not : {b : Bool} (n : Code) (rest : Answer) → b ≡ true → (not b ⇒ n ⨾ rest) ≡ rest
pass_not n rest e = pass n rest (ap not e)

-- ---- the handle
taken_cases :
    (h : ℕ) (t : Bool) → ltb h HANDLES && not t ≡ true → (ltb h HANDLES ≡ true) × (t ≡ false)
taken_cases h t e = go (ltb h HANDLES) t e
  where
    go : (x y : Bool) → x && not y ≡ true → (x ≡ true) × (y ≡ false)
    go true true q = absurd (false≢true q)
    go true false q = (refl, refl)
    go false y q = absurd (false≢true q)

range : (h n : ℕ) (b : Bool) → ltb h n ≡ b → leb n h ≡ not b
range h n true e = lt-leb n h (borrow.Author.Tests.ltb-true h n e)
range h n false e = le-leb n h (borrow.Author.Tests.ltb-false h n e)

-- below 256 and taken: both tests of a taken handle, as one
taken_is :
    (s : State) (h : ℕ) (rest : Answer) →
    with_handle taken s h rest ≡ cond (taken_in s.objects h) rest (refused Ebadf)
unfolding with_handle taken_in ◌⇒◌⨾◌ object
taken_is s h rest = rw (range h HANDLES (ltb h HANDLES) refl) (go (ltb h HANDLES) (eqb (get_or s.objects h no_object).obj_type 0))
  where
    go : (x y : Bool) → cond (not x) (refused Ebadf) (cond y (refused Ebadf) rest) ≡ cond (x && not y) rest (refused Ebadf)
    go true true = refl
    go true false = refl
    go false y = refl

-- ---- one operation
module _ (o : Op) (s : State) (c : Call) where
  pub bad_fields : well_formed o c ≡ false → judge_op o s c ≡ refused Einval
  unfolding judge_op
  bad_fields e = stop_not Einval _ e

  good_fields : well_formed o c ≡ true → judge_op o s c ≡ with_handle (use_of o) s c.a (rule o s c)
  unfolding judge_op
  good_fields e = pass_not Einval _ e

  pub bad_handle : well_formed o c ≡ true → use_of o ≡ taken → taken_in s.objects c.a ≡ false → judge_op o s c ≡ refused Ebadf
  bad_handle e u h =
      good_fields e
      ∙ ap (λ (x : Use). with_handle x s c.a (rule o s c)) u
      ∙ taken_is s c.a (rule o s c)
      ∙ ap (λ (x : Bool). cond x (rule o s c) (refused Ebadf)) h

  pub to_rule : well_formed o c ≡ true → use_of o ≡ taken → taken_in s.objects c.a ≡ true → judge_op o s c ≡ rule o s c
  to_rule e u h =
      good_fields e
      ∙ ap (λ (x : Use). with_handle x s c.a (rule o s c)) u
      ∙ taken_is s c.a (rule o s c)
      ∙ ap (λ (x : Bool). cond x (rule o s c) (refused Ebadf)) h

-- ---- fields, over plain truth values
pub first_fails : {x : Bool} (y : Bool) → x ≡ false → x && y ≡ false
first_fails y p = ap (λ (b : Bool). b && y) p

pub second_fails : {x y : Bool} → x ≡ true → y ≡ false → x && y ≡ false
second_fails {x} {y} p q = ap (λ (b : Bool). b && y) p ∙ q

-- the caller's record as the code has it
module _ {me it : Thread} (e : me ≡ it) where
  pub role_dead : me.role ≡ 0 → is_live it ≡ false
  role_dead z = rw (← e, eq-eqb me.role 0 z)

  pub role_live : me.role ≢ 0 → is_live it ≡ true
  role_live z = rw (← e, ne_eqb me.role 0 z)

  pub role_sup : me.role ≡ 2 → is_supervisor it ≡ true
  role_sup z = rw (← e) (eq-eqb me.role 2 z)

  pub role_not : me.role ≢ 2 → is_supervisor it ≡ false
  role_not z = rw (← e) (ne_eqb me.role 2 z)

-- an operation that has a name is known
pub known_op : (o : Operation) → is_unknown (named o) ≡ false
unfolding is_unknown
known_op Validate = refl
known_op Grant = refl
known_op Release = refl
known_op Check = refl
known_op Exit = refl
known_op Create = refl
known_op Delete = refl
known_op Revoke = refl
known_op Init = refl
known_op Uninit = refl
known_op Recycle = refl
known_op MakePublic = refl
known_op CreateThread = refl
known_op End = refl
known_op Inherit = refl
known_op Assign = refl
known_op Add = refl
known_op Remove = refl

-- ---- the whole order
module _ (s : State) (c : Call) where
  pub bad_caller : THREADS ≤ c.caller → judge s c ≡ refused Einval
  unfolding judge
  bad_caller h = stop Einval _ (le-leb _ _ h)

  module _ (known : c.caller < THREADS) where
    pub dead_caller : live s c.caller ≡ false → judge s c ≡ refused Eperm
    unfolding judge
    dead_caller e = pass Einval _ (lt-leb _ _ known) ∙ stop_not Eperm _ e

    module _ (lives : live s c.caller ≡ true) where
      pub no_op : is_unknown (op_of c.op) ≡ true → judge s c ≡ refused Einval
      unfolding judge
      no_op u = pass Einval _ (lt-leb _ _ known) ∙ pass_not Eperm _ lives ∙ stop Einval _ u

      module _ (op : is_unknown (op_of c.op) ≡ false) where
        pub open_op : is_privileged (op_of c.op) ≡ false → judge s c ≡ judge_op (op_of c.op) s c
        unfolding judge
        open_op p = pass Einval _ (lt-leb _ _ known) ∙ pass_not Eperm _ lives ∙ pass Einval _ op ∙ pass Eperm _ (first_fails _ p)

        pub not_theirs : is_privileged (op_of c.op) ≡ true → supervisor s c.caller ≡ false → judge s c ≡ refused Eperm
        unfolding judge
        not_theirs p n = pass Einval _ (lt-leb _ _ known) ∙ pass_not Eperm _ lives ∙ pass Einval _ op ∙ stop Eperm _ (both p (ap not n))

        pub theirs : is_privileged (op_of c.op) ≡ true → supervisor s c.caller ≡ true → judge s c ≡ judge_op (op_of c.op) s c
        unfolding judge
        theirs p y = pass Einval _ (lt-leb _ _ known) ∙ pass_not Eperm _ lives ∙ pass Einval _ op ∙ pass Eperm _ (second_fails p (ap not y))
