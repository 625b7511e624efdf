-- The writer's answers, one by one in their order, and what stands in the lent buffer after each.
use Prim.Native.Nat.{ℕ, ◌<◌, ◌≤◌}
use native.Mathlib.Nat.{le_trans}
use native.Mathlib.Omega.{arith}
use mathlib.Core.Path.{◌≡◌, refl, sym, ap, ◌∙◌}
use mathlib.Core.Bool.{Bool, true, false}
use mathlib.Core.List.{List, ◌++◌}
use lib.ListN.{length, take, drop}
use lib.Seq.{sets, take-append_seam}
use borrow.Author.Tests.{lt-ltb, le-ltb}
use Rattle.answer.specs.Answer.{number_of, refused}
use Rattle.answer.specs.declared.Answer.{Answer}
use Rattle.answer.specs.declared.Code.TheVariants.{Ok, Value, Room}
use Rattle.userspace.specs.Userspace.{THREADS}
use Rattle.tables.specs.Table.{HANDLES, Sized}
use Rattle.rules.specs.Rules.{keeps_test}
use Rattle.rules.proofs.Rules.{test_sound}
use Rattle.image_write.specs.Encode.{top, live, total, encode, written, bytes_after, Written}
use Rattle.answer.specs.Stores.{sets_front}
use Rattle.image_write.proofs.Turns.{encode_length, encode_most}

-- a state that keeps the rules has tables of the right lengths
pub tables_fit : (os ts ss : List ℕ) → keeps_test os ts ss ≡ true → Sized os ts ss
tables_fit os ts ss e = let f = (test_sound os ts ss e).fit in record { objects = f.objects; threads = f.threads; slots = f.slots }

module _ (os ts ss out : List ℕ) where
  pub broken : keeps_test os ts ss ≡ false → Written os ts ss out out (refused Value)
  unfolding written bytes_after
  broken e = record { answer = rw e refl; bytes = rw e refl }

  module _ (e : keeps_test os ts ss ≡ true) where
    pub short : length out < total (top os HANDLES) (live ts THREADS) → Written os ts ss out out (refused Room)
    unfolding written bytes_after
    short k = let l = lt-ltb (length out) (length (encode os ts ss)) (rw encode_length k) in record { answer = rw (e, l) refl; bytes = rw (e, l) refl }

    pub done :
        (after : List ℕ) (v : ℕ) → total (top os HANDLES) (live ts THREADS) ≤ length out → after ≡ sets out 0 (encode os ts ss) →
        v ≡ total (top os HANDLES) (live ts THREADS) → Written os ts ss out after (record { code = number_of Ok; value = v })
    unfolding written bytes_after
    done after v k a f =
        let k' : length (encode os ts ss) ≤ length out = rw encode_length k in
        let l = le-ltb (length out) (length (encode os ts ss)) k' in
        let w : v ≡ length (encode os ts ss) = f ∙ sym (encode_length os ts ss) in
        record { answer = rw (e, l, w) refl; bytes = rw (e, l) (a ∙ sets_front (encode os ts ss) out k') }

-- what the answer says of the state, where the buffer is as long as the longest image
module _ {os ts ss before after : List ℕ} {r : Answer} (w : Written os ts ss before after r) (n : 5136 ≤ length before) where
  value_said : keeps_test os ts ss ≡ false → r.code ≡ number_of Value
  unfolding written
  value_said e = ap (λ a. a.code) w.answer ∙ rw e refl

  pub ok_said : keeps_test os ts ss ≡ true → r ≡ record { code = number_of Ok; value = length (encode os ts ss) }
  unfolding written
  ok_said e =
      let l = le-ltb (length before) (length (encode os ts ss)) (le_trans (encode_most os ts ss) n) in
      w.answer ∙ rw (e, l) refl

  pub not_ok : (r.code ≡ number_of Ok → ⊥) → keeps_test os ts ss ≡ false
  not_ok h = go (keeps_test os ts ss) refl
    where
      go : (b : Bool) → keeps_test os ts ss ≡ b → b ≡ false
      go true e = absurd (h (ap (λ a. a.code) (ok_said e)))
      go false e = refl

  pub ok : r.code ≡ number_of Ok → keeps_test os ts ss ≡ true
  ok h = go (keeps_test os ts ss) refl
    where
      go : (b : Bool) → keeps_test os ts ss ≡ b → b ≡ true
      go true e = refl
      go false e = let z : number_of Value ≡ number_of Ok = sym (value_said e) ∙ h in absurd (omega arith)

  -- the image stands in front, as long as the value says
  pub ok_long : r.code ≡ number_of Ok → r.value ≡ length (encode os ts ss)
  ok_long h = ap (λ a. a.value) (ok_said (ok h))

  pub ok_bytes : r.code ≡ number_of Ok → take r.value after ≡ encode os ts ss
  unfolding bytes_after
  ok_bytes h =
      let q : (written os ts ss (length before)).code ≡ number_of Ok = sym (ap (λ a. a.code) w.answer) ∙ h in
      let a : after ≡ encode os ts ss ++ drop (length (encode os ts ss)) before = w.bytes ∙ rw q refl in
      rw (ok_long h, a) (take-append_seam (encode os ts ss) (drop (length (encode os ts ss)) before))
