-- The reader's answers, in their order, and what each leaves: what a good header says, which images are accepted, and that a refusal changes nothing.
use Prim.Native.Nat.{ℕ, ◌≤◌, ◌<◌}
use native.Mathlib.Nat.{le_refl}
use native.Mathlib.Omega.{arith}
use mathlib.Core.Path.{◌≡◌, refl, sym, ◌∙◌}
use mathlib.Core.Bool.{Bool, true, false, cond, not}
use mathlib.Core.List.{List, []}
use lib.Dec.{eqb, leb, ltb}
use lib.ListN.{length, take, drop, replicate, length-replicate}
use borrow.Author.Tests.{ne_eqb, lt-ltb, le-ltb, ltb-false, leb-true, eqb-true}
use Rattle.answer.specs.Answer.{number_of, code_in}
use Rattle.answer.specs.declared.Answer.{Answer}
use Rattle.answer.specs.declared.Code.{Code}
use Rattle.answer.specs.declared.Code.TheVariants.{Ok as Fine, Short, Magic, Value}
use Rattle.std.proofs.Common.{Result, Ok, Err, ap}
use Rattle.std.specs.Result.{IsErrAnd}
use denote.Ref.{Bor}
use Rattle.image.specs.Told.{part_of}
use Rattle.domain_rules.proofs.All.{both_true}
use Rattle.userspace.specs.Userspace.{THREADS}
use Rattle.tables.specs.Table.{HANDLES, DOMAINS, sized}
use Rattle.image_write.specs.Bytes.{magic}
use Rattle.image_write.specs.Encode.{total, Written}
use Rattle.image_write.proofs.Answers.{not_ok, ok, ok_long, ok_bytes}
use Rattle.image_write.proofs.Turns.{encode_most}
use Rattle.image.specs.Read.{object_count, thread_count, domain_count, total_of, read_objects, read_threads, read_slots, eqs, fields_ok, headed, is_image, accepted, image_code, read_code, ReadIs}
use Rattle.image.proofs.Turns.{eqs_true}

-- ---- the header's four tests, as truth values

abbrev chain : Bool → Bool → Bool → Bool → ℕ → ℕ
chain p q r s x = cond p 7 (cond (not q) 8 (cond (not r) 9 (cond s 7 x)))

record Passed (p q r s : Bool) : Type 0 where
  long : p ≡ false
  magic : q ≡ true
  fields : r ≡ true
  whole : s ≡ false

passed : (p q r s : Bool) → chain p q r s 0 ≡ 0 → Passed p q r s
passed true q r s e = absurd (omega arith)
passed false false r s e = absurd (omega arith)
passed false true false s e = absurd (omega arith)
passed false true true true e = absurd (omega arith)
passed false true true false e = record { long = refl; magic = refl; fields = refl; whole = refl }

pass : (p q r s : Bool) (x : ℕ) → chain p q r s 0 ≡ 0 → chain p q r s x ≡ x
pass p q r s x e = let g = passed p q r s e in rw (g.long, g.magic, g.fields, g.whole) refl

stop : (p q r s : Bool) (x : ℕ) → (chain p q r s 0 ≡ 0 → ⊥) → chain p q r s x ≡ chain p q r s 0
stop true q r s x n = refl
stop false false r s x n = refl
stop false true false s x n = refl
stop false true true true x n = refl
stop false true true false x n = absurd (n refl)

module _ (b : List ℕ) where
  pub head_passes : (x : ℕ) → headed b 0 ≡ 0 → headed b x ≡ x
  unfolding headed
  head_passes x e = pass (ltb (length b) 16) (eqs (take 8 b) magic) (fields_ok (object_count b) (thread_count b) (domain_count b) (total_of b)) (ltb (length b) (total_of b)) x e

  pub head_stops : (x : ℕ) → (headed b 0 ≡ 0 → ⊥) → headed b x ≡ headed b 0
  unfolding headed
  head_stops x n = stop (ltb (length b) 16) (eqs (take 8 b) magic) (fields_ok (object_count b) (thread_count b) (domain_count b) (total_of b)) (ltb (length b) (total_of b)) x n

  -- what a good header says
  pub record HeadIs : Type 0 where
    pub long : 16 ≤ length b
    pub magic_is : take 8 b ≡ magic
    pub objects : object_count b ≤ HANDLES
    pub threads : thread_count b ≤ THREADS
    pub domains : domain_count b ≡ DOMAINS
    pub total_is : total_of b ≡ total (object_count b) (thread_count b)
    pub whole : total_of b ≤ length b

  pub head_is : headed b 0 ≡ 0 → HeadIs
  unfolding headed fields_ok
  head_is e =
      let g = passed (ltb (length b) 16) (eqs (take 8 b) magic) (fields_ok (object_count b) (thread_count b) (domain_count b) (total_of b)) (ltb (length b) (total_of b)) e in
      let m = both_true (leb (object_count b) HANDLES) _ g.fields in
      let n = both_true (leb (thread_count b) THREADS) _ m.1 in
      let d = both_true (eqb (domain_count b) DOMAINS) _ n.1 in
      record {
        long = ltb-false _ _ g.long;
        magic_is = eqs_true _ _ g.magic;
        objects = leb-true _ _ m.0;
        threads = leb-true _ _ n.0;
        domains = eqb-true _ _ d.0;
        total_is = eqb-true _ _ d.1;
        whole = ltb-false _ _ g.whole;
      }

-- the header's answers, one by one
module _ (b : List ℕ) where
  pub too_short : length b < 16 → number_of Short ≡ headed b 0
  unfolding headed
  too_short h = rw (lt-ltb (length b) 16 h) refl

  module _ (h : 16 ≤ length b) where
    pub not_magic : eqs (take 8 b) magic ≡ false → number_of Magic ≡ headed b 0
    unfolding headed
    not_magic e = rw (le-ltb (length b) 16 h, e) refl

    module _ (e : eqs (take 8 b) magic ≡ true) {m n d t : ℕ} (em : m ≡ object_count b) (en : n ≡ thread_count b) (ed : d ≡ domain_count b) (et : t ≡ total_of b) where
      pub bad_fields : fields_ok m n d t ≡ false → number_of Value ≡ headed b 0
      unfolding headed
      bad_fields f = rw (le-ltb (length b) 16 h, e, ← em, ← en, ← ed, ← et, f) refl

      pub cut_off : fields_ok m n d t ≡ true → length b < t → number_of Short ≡ headed b 0
      unfolding headed
      cut_off f l = rw (le-ltb (length b) 16 h, e, ← em, ← en, ← ed, ← et, f, lt-ltb (length b) t l) refl

      pub good_head : fields_ok m n d t ≡ true → t ≤ length b → number_of Fine ≡ headed b 0
      unfolding headed
      good_head f l = rw (le-ltb (length b) 16 h, e, ← em, ← en, ← ed, ← et, f, le-ltb (length b) t l) refl

-- ---- what is left behind

module _ (b os ts ss : List ℕ) where
  refused : (a : ℕ) → a ≡ read_code b os ts ss → (a ≡ 0 → ⊥) → ReadIs b os ts ss os ts ss [] a
  refused a e n =
      let z : eqb (read_code b os ts ss) 0 ≡ false = ne_eqb (read_code b os ts ss) 0 (λ q. n (e ∙ q)) in
      record { answer = e; rest = rw z refl; objects = rw z refl; threads = rw z refl; slots = rw z refl }

  pub wrong_size : sized (length os) (length ts) (length ss) ≡ false → ReadIs b os ts ss os ts ss [] (number_of Value)
  unfolding read_code
  wrong_size z = refused (number_of Value) (rw z refl) (λ e. omega arith)

  module _ (z : sized (length os) (length ts) (length ss) ≡ true) where
    pub wrong_head : (a : ℕ) → a ≡ headed b 0 → (a ≡ 0 → ⊥) → ReadIs b os ts ss os ts ss [] a
    unfolding read_code image_code
    wrong_head a e n = refused a (e ∙ sym (rw z (head_stops b _ (λ q. n (e ∙ q))))) n

    -- behind a good header: whether the contents are fine decides what stands in the tables
    module _ (e : headed b 0 ≡ 0) where
      pub wrong_contents : accepted b ≡ false → ReadIs b os ts ss os ts ss [] (number_of Value)
      unfolding read_code image_code
      wrong_contents n = refused (number_of Value) (sym (rw (z, n) (head_passes b (number_of Value) e))) (λ q. omega arith)

      pub right :
          accepted b ≡ true → {os' ts' ss' part : List ℕ} → os' ≡ read_objects b → ts' ≡ read_threads b → ss' ≡ read_slots b → part ≡ drop (total_of b) b →
          ReadIs b os ts ss os' ts' ss' part (number_of Fine)
      unfolding read_code image_code
      right n ro rt rs rp =
          let q : read_code b os ts ss ≡ 0 = rw (z, n) (head_passes b (number_of Fine) e) in
          record { answer = sym q; rest = rw q rp; objects = rw q ro; threads = rw q rt; slots = rw q rs }

-- ---- the writer's word on the scratch

module _ {os ts ss before after : List ℕ} {r : Answer} (b : List ℕ) (t : ℕ) (w : Written os ts ss before after r) (n : 5136 ≤ length before) where
  pub no_image : (r.code ≡ number_of Fine → ⊥) → false ≡ is_image b t os ts ss
  unfolding is_image
  no_image h = rw (not_ok w n h) refl

  pub compared : r.code ≡ number_of Fine → eqs (take r.value after) (take t b) ≡ is_image b t os ts ss
  unfolding is_image
  compared h = rw (ok_bytes w n h, ok w n h) refl

-- the buffer that the reader lends to the writer: as long as the longest image
pub long_enough : 5136 ≤ length {A = ℕ} (replicate 5136 0)
long_enough = rw length-replicate (le_refl 5136)

pub fits_room : {os ts ss after : List ℕ} {r : Answer} → Written os ts ss (replicate 5136 0) after r → r.code ≡ number_of Fine → length after ≡ 5136 → r.value ≤ length after
fits_room {os} {ts} {ss} w h l = rw (ok_long w long_enough h, l) (encode_most os ts ss)

-- a refusal that is passed on by `?`
pub passed_on : (r : Result (Bor (List ℕ)) Code) (c : Code) → IsErrAnd r (λ e. e ≡ c) → (part_of r ≡ []) × (code_in r ≡ number_of c)
passed_on (Ok p) c h = absurd h
passed_on (Err d) c h = (refl, ap number_of h)
