-- What an OK says of its call before the rule: the order's tests, one by one, as plain statements. Laws, for every crate that has an OK in hand.
use Rattle.std.specs.Prelude.{ℕ, ◌<◌, ◌≡◌, refl, ◌≢◌, Bool, true, false, not, ◌&&◌, eqb}
use Rattle.std.proofs.Common.{arith, true≢false, lit<, leb-false, eqb-true}
use Rattle.std.proofs.lemmas.Bool.{false≢true, eqb-false, not-false}
use Rattle.answer.specs.declared.Answer.{Answer}
use Rattle.answer.specs.declared.Code.{Code}
use Rattle.answer.specs.Answer.{number_of}
use Rattle.userspace.specs.Userspace.{THREADS}
use Rattle.tables.specs.Table.{HANDLES}
use Rattle.tables.specs.State.{State}
use Rattle.decoding.specs.declared.Call.{Call}
use Rattle.decoding.specs.Calls.{Op, op_of}
use Rattle.judging.specs.Judge.{◌⇒◌⨾◌, live, supervisor, type_of, well_formed, Use, no_handle, taken, free, use_of, with_handle, rule, is_unknown, is_privileged, judge_op, judge}

-- field a is a handle that is below 256 and taken, or free, as the operation wants it
pub record TakenAt (s : State) (h : ℕ) : Type 0 where
  pub below : h < HANDLES
  pub taken : type_of s h ≢ 0

pub record FreeAt (s : State) (h : ℕ) : Type 0 where
  pub below : h < HANDLES
  pub free : type_of s h ≡ 0

-- the order's tests passed, up to the rule, which is OK too
pub record PassedAs (o : Op) (s : State) (c : Call) : Type 0 where
  pub caller : c.caller < THREADS
  pub lives : live s c.caller ≡ true
  pub known : is_unknown o ≡ false
  pub rank : is_privileged o ≡ true → supervisor s c.caller ≡ true
  pub fields : well_formed o c ≡ true
  pub takes : use_of o ≡ taken → TakenAt s c.a
  pub frees : use_of o ≡ free → FreeAt s c.a
  pub rule : (rule o s c).code ≡ 0

abbrev pub Passed : State → Call → Type 0
Passed s c = PassedAs (op_of c.op) s c

-- ---- one test

-- an OK says that the test did not hold and that the rest is OK
pub record Past (b : Bool) (x : Answer) : Type 0 where
  pub test : b ≡ false
  pub rest : x.code ≡ 0

pub ok : (b : Bool) (n : Code) (rest : Answer) → 0 < number_of n → (b ⇒ n ⨾ rest).code ≡ 0 → Past b rest
unfolding ◌⇒◌⨾◌
ok true n rest p e = absurd (omega arith)
ok false n rest p e = record { test = refl; rest = e }

-- ---- the handle

record Handled (u : Use) (s : State) (h : ℕ) (x : Answer) : Type 0 where
  takes : u ≡ taken → TakenAt s h
  frees : u ≡ free → FreeAt s h
  rest : x.code ≡ 0

handled : (u : Use) (s : State) (h : ℕ) (x : Answer) → (with_handle u s h x).code ≡ 0 → Handled u s h x
unfolding with_handle
handled no_handle s h x e = record { takes = λ p. let z : ◌≡◌ {A = ℕ} 0 1 = cc in absurd (omega arith); frees = λ p. let z : ◌≡◌ {A = ℕ} 0 1 = cc in absurd (omega arith); rest = e }
handled taken s h x e =
    let p = ok _ _ _ (lit< tt) e in
    let q = ok _ _ _ (lit< tt) p.rest in
    record {
      takes = λ _. record { below = leb-false HANDLES h p.test; taken = eqb-false (type_of s h) 0 q.test };
      frees = λ r. let z : ◌≡◌ {A = ℕ} 0 1 = cc in absurd (omega arith);
      rest = q.rest;
    }
handled free s h x e =
    let p = ok _ _ _ (lit< tt) e in
    let q = ok _ _ _ (lit< tt) p.rest in
    record {
      takes = λ r. let z : ◌≡◌ {A = ℕ} 0 1 = cc in absurd (omega arith);
      frees = λ _. record { below = leb-false HANDLES h p.test; free = eqb-true (type_of s h) 0 (not-false (eqb (type_of s h) 0) q.test) };
      rest = q.rest;
    }

-- ---- the order

ranked : (p v : Bool) → p && not v ≡ false → p ≡ true → v ≡ true
ranked true true e q = refl
ranked true false e q = absurd (true≢false e)
ranked false v e q = absurd (false≢true q)

pub in_range : (s : State) (c : Call) → (judge s c).code ≡ 0 → Passed s c
unfolding judge judge_op
in_range s c e =
    let o = op_of c.op in
    let p₁ = ok _ _ _ (lit< tt) e in
    let p₂ = ok _ _ _ (lit< tt) p₁.rest in
    let p₃ = ok _ _ _ (lit< tt) p₂.rest in
    let p₄ = ok _ _ _ (lit< tt) p₃.rest in
    let p₅ = ok _ _ _ (lit< tt) p₄.rest in
    let h = handled (use_of o) s c.a (rule o s c) p₅.rest in
    record {
      caller = leb-false THREADS c.caller p₁.test;
      lives = not-false (live s c.caller) p₂.test;
      known = p₃.test;
      rank = ranked (is_privileged o) (supervisor s c.caller) p₄.test;
      fields = not-false (well_formed o c) p₅.test;
      takes = h.takes;
      frees = h.frees;
      rule = h.rest;
    }
