-- The same over the two functions' own promises: what `write` leaves, `read` reads, and the other way round.
use mathlib.Core.Path.{◌≡◌, refl, sym, ap, ◌∙◌}
use Prim.Native.Nat.{ℕ, ◌≤◌}
use native.Mathlib.Omega.{arith}
use mathlib.Core.Bool.{Bool, true, false, cond, not}
use mathlib.Core.List.{List, [], ◌∷◌, ◌++◌}
use lib.Dec.{eqb, ltb}
use lib.ListN.{length, take, drop}
use lib.Seq.{take-append_seam, length-take-le}
use borrow.Author.Tests.{le-ltb, ne_eqb}
use Rattle.answer.specs.Answer.{number_of, refused}
use Rattle.answer.specs.declared.Answer.{Answer}
use Rattle.answer.specs.declared.Code.{Code}
use Rattle.answer.specs.declared.Code.TheVariants.{Ok, Short, Magic, Value, Room}
use Rattle.answer.specs.Given.{one_of, either}
use Rattle.tables.specs.Table.{sized}
use Rattle.rules.specs.Rules.{Sound, keeps_test}
use Rattle.rules.proofs.Rules.{test_sound, sound_test}
use Rattle.image_write.specs.Bytes.{magic}
use Rattle.image_write.specs.Encode.{encode, written, bytes_after, Written}
use Rattle.image.specs.Read.{object_count, thread_count, domain_count, total_of, read_objects, read_threads, read_slots, eqs, fields_ok, headed, accepted, image_code, read_code, ReadIs}
use Rattle.image.proofs.Answers.{head_is}
use Rattle.image_laws.proofs.Round.{Back, image_ok, read_written, read_sound, written_read}

-- ---- what OK of the writer says

chain : (p q : Bool) (n : ℕ) → (cond (not p) (refused Value) (cond q (refused Room) (record { code = number_of Ok; value = n }))).code ≡ 0 → (p ≡ true) × (q ≡ false)
chain true true n e = absurd (omega arith)
chain true false n e = (refl, refl)
chain false q n e = absurd (omega arith)

module _ {os ts ss before after : List ℕ} {r : Answer} (w : Written os ts ss before after r) where
  module _ (e : r.code ≡ 0) where
    code_is : (written os ts ss (length before)).code ≡ 0
    code_is = sym (ap (λ a. a.code) w.answer) ∙ e

    parts : (keeps_test os ts ss ≡ true) × (ltb (length before) (length (encode os ts ss)) ≡ false)
    unfolding written
    parts = chain (keeps_test os ts ss) (ltb (length before) (length (encode os ts ss))) (length (encode os ts ss)) code_is

    pub written_sound : Sound os ts ss
    written_sound = test_sound os ts ss parts.0

    pub written_long : r.value ≡ length (encode os ts ss)
    unfolding written
    written_long = ap (λ a. a.value) w.answer ∙ rw (parts.0, parts.1) refl

    pub written_bytes : after ≡ encode os ts ss ++ drop (length (encode os ts ss)) before
    unfolding bytes_after
    written_bytes = w.bytes ∙ rw code_is refl

  -- a state that keeps the rules is written wherever there is room
  pub written_ok : Sound os ts ss → length (encode os ts ss) ≤ length before → r.code ≡ 0
  unfolding written
  written_ok s l = ap (λ a. a.code) w.answer ∙ rw (sound_test os ts ss s, le-ltb (length before) (length (encode os ts ss)) l) refl

-- ---- what the reader's answer says

module _ {b os ts ss os' ts' ss' part : List ℕ} {a : ℕ} (p : ReadIs b os ts ss os' ts' ss' part a) where
  -- a refusal leaves the tables and hands back an empty part
  pub refusal_keeps : (a ≡ 0 → ⊥) → (os' ≡ os) × (ts' ≡ ts) × (ss' ≡ ss) × (part ≡ [])
  refusal_keeps n =
      let z : eqb (read_code b os ts ss) 0 ≡ false = ne_eqb (read_code b os ts ss) 0 (λ q. n (p.answer ∙ q)) in
      (p.objects ∙ rw z refl, p.threads ∙ rw z refl, p.slots ∙ rw z refl, p.rest ∙ rw z refl)

  module _ (e : a ≡ 0) where
    ok_code : read_code b os ts ss ≡ 0
    ok_code = sym p.answer ∙ e

    sized_ok : (t : Bool) → cond t (image_code b) (number_of Value) ≡ 0 → image_code b ≡ 0
    sized_ok true q = q
    sized_ok false q = absurd (omega arith)

    pub image_accepted : image_code b ≡ 0
    unfolding read_code
    image_accepted = sized_ok (sized (length os) (length ts) (length ss)) ok_code

    pub tables_read : (os' ≡ read_objects b) × (ts' ≡ read_threads b) × (ss' ≡ read_slots b) × (part ≡ drop (total_of b) b)
    tables_read = (p.objects ∙ rw ok_code refl, p.threads ∙ rw ok_code refl, p.slots ∙ rw ok_code refl, p.rest ∙ rw ok_code refl)

    -- what is read keeps the rules
    pub read_keeps : Sound os' ts' ss'
    read_keeps = let t = tables_read in rw (t.0, t.1, t.2) (read_sound b image_accepted)

-- ---- the round trips

-- reading what was written gives the same tables, and hands back what lay behind
pub reads_what_was_written :
    {os ts ss before after o₀ t₀ s₀ os' ts' ss' part : List ℕ} {r : Answer} {a : ℕ} →
    Written os ts ss before after r → r.code ≡ 0 → sized (length o₀) (length t₀) (length s₀) ≡ true → ReadIs after o₀ t₀ s₀ os' ts' ss' part a →
    (a ≡ 0) × (os' ≡ os) × (ts' ≡ ts) × (ss' ≡ ss) × (part ≡ drop r.value before)
unfolding read_code
reads_what_was_written {os} {ts} {ss} {before} {after} {o₀} {t₀} {s₀} {os'} {ts'} {ss'} {part} {r} {a} w e z p =
    let rest : List ℕ = drop (length (encode os ts ss)) before in
    let back : Back after os ts ss rest = rw (written_bytes w e) (read_written os ts ss rest (written_sound w e)) in
    let ok : a ≡ 0 = p.answer ∙ rw z back.answer in
    let t = tables_read p ok in
    (ok, t.0 ∙ back.objects, t.1 ∙ back.threads, t.2 ∙ back.slots, t.3 ∙ back.rest ∙ ap (λ (n : ℕ). drop n before) (sym (written_long w e)))

-- writing what was read gives the same bytes, wherever there is room
pub writes_what_was_read :
    {b o₀ t₀ s₀ os ts ss part before after : List ℕ} {r : Answer} {a : ℕ} →
    ReadIs b o₀ t₀ s₀ os ts ss part a → a ≡ 0 → Written os ts ss before after r → total_of b ≤ length before →
    (r.code ≡ 0) × (r.value ≡ total_of b) × (take (total_of b) after ≡ take (total_of b) b)
writes_what_was_read {b} {o₀} {t₀} {s₀} {os} {ts} {ss} {part} {before} p e w l =
    let t = tables_read p e in
    let i = image_accepted p e in
    let h = head_is b (image_ok b i).0 in
    let c : encode os ts ss ≡ take (total_of b) b = rw (t.0, t.1, t.2) (written_read b i) in
    let n : length (encode os ts ss) ≡ total_of b = ap length c ∙ length-take-le (total_of b) b h.whole in
    let k = written_ok w (read_keeps p e) (rw n l) in
    (k, written_long w k ∙ n, rw (written_bytes w k, ← n) (take-append_seam (encode os ts ss) (drop (length (encode os ts ss)) before)) ∙ c)

-- ---- which answers there are at all

-- of `write`: OK, VALUE, ROOM
abbrev pub write_codes : List Code
write_codes = Ok ∷ Value ∷ Room ∷ []

written_given : (os ts ss : List ℕ) (room : ℕ) → one_of write_codes (written os ts ss room).code ≡ true
unfolding written one_of
written_given os ts ss room =
    either (λ (a : Answer). a.code) write_codes (not (keeps_test os ts ss)) _ _ refl
    (either (λ (a : Answer). a.code) write_codes (ltb room (length (encode os ts ss))) _ _ refl refl)

pub write_given : {os ts ss before after : List ℕ} {r : Answer} → Written os ts ss before after r → one_of write_codes r.code ≡ true
write_given {os} {ts} {ss} {before} w = rw (ap (λ (a : Answer). a.code) w.answer) (written_given os ts ss (length before))

-- of `read`: OK, SHORT, MAGIC, VALUE
abbrev pub read_codes : List Code
read_codes = Ok ∷ Short ∷ Magic ∷ Value ∷ []

headed_given : (b : List ℕ) (contents : ℕ) → one_of read_codes contents ≡ true → one_of read_codes (headed b contents) ≡ true
unfolding headed one_of
headed_given b contents e =
    either (λ (n : ℕ). n) read_codes (ltb (length b) 16) _ _ refl
    (either (λ (n : ℕ). n) read_codes (not (eqs (take 8 b) magic)) _ _ refl
    (either (λ (n : ℕ). n) read_codes (not (fields_ok (object_count b) (thread_count b) (domain_count b) (total_of b))) _ _ refl
    (either (λ (n : ℕ). n) read_codes (ltb (length b) (total_of b)) _ _ refl e)))

read_code_given : (b os ts ss : List ℕ) → one_of read_codes (read_code b os ts ss) ≡ true
unfolding read_code image_code one_of
read_code_given b os ts ss =
    either (λ (n : ℕ). n) read_codes (sized (length os) (length ts) (length ss)) _ _
    (headed_given b _ (either (λ (n : ℕ). n) read_codes (accepted b) _ _ refl refl)) refl

pub read_given : {b os ts ss os' ts' ss' part : List ℕ} {code : ℕ} → ReadIs b os ts ss os' ts' ss' part code → one_of read_codes code ≡ true
read_given {b} {os} {ts} {ss} r = rw r.answer (read_code_given b os ts ss)
