-- The round trips: the image of a state that keeps the rules is read as that state, whatever stands behind it, and an accepted image is what is written
-- of the state that is read off. So no two states share an image, and no two images stand for one state.
use mathlib.Core.Path.{◌≡◌, refl, sym, ap, ◌∙◌}
use Prim.Native.Nat.{ℕ, zero, suc, ◌+◌, ◌*◌, ◌/◌, ◌%◌, ◌^◌, ◌≤◌, ◌<◌, ◌-◌}
use native.Mathlib.Nat.{le_refl, zero-add}
use native.Mathlib.Numerals.{add-one}
use native.Mathlib.Decide.{dec_lt, ℕ_discrete}
use native.Mathlib.Omega.{arith}
use mathlib.Core.Bool.{Bool, true, false, cond}
use mathlib.Core.List.{List, [], ◌∷◌, ◌++◌, append_assoc}
use lib.ListN.{length, take, drop, get_or, length-append, length-drop, take-append-drop, length-replicate}
use lib.Seq.{sets, take_all, take-length, drop_at, length-take-le, get_or-take, get_or-drop}
use borrow.Author.Tests.{le-ltb, le-leb, eq-eqb, ne_eqb}
use Rattle.answer.specs.Answer.{number_of}
use Rattle.answer.specs.declared.Code.TheVariants.{Ok, Value}
use Rattle.domain_rules.proofs.All.{both_true}
use Rattle.rules.specs.Rules.{Sound, keeps_test}
use Rattle.rules.proofs.Rules.{test_sound, sound_test}
use Rattle.answer.specs.Stores.{cat, sets_front}
use Rattle.image_write.specs.Bytes.{bytes, le, magic}
use Rattle.image_write.specs.Encode.{object_bytes, thread_bytes, slot_bytes, domain_bytes, domain_part, domains_bytes, top, live, total, header, encode}
use Rattle.image_write.proofs.Bytes.{bytes_length, cat_length, cat_same, cat_turn, sets_all}
use Rattle.image_write.proofs.Turns.{live_more, live_same, header_length, object_length, thread_live, slot_length, bytes_domain, threads_length, encode_length, top_most, live_most}
use Rattle.image.specs.Read.{object_count, thread_count, domain_count, total_of, object_in, read_objects, enter, entered, read_threads, domain_of, domain_in, domains_in, read_slots, eqs, fields_ok, headed, is_image, accepted, image_code}
use Rattle.image.proofs.Turns.{eqs_true, enter_in}
use Rattle.image.proofs.Answers.{head_passes, head_stops}
use Rattle.image_laws.proofs.Fits.{head_fits, free_word, word_fits, thread_fits, number_fits}
use Rattle.image_laws.proofs.Place.{At, at_start, at_left, at_behind, at_cat, le_at, groups, singles, pair, three, zeros, zeros_from, zeros_three}

-- ---- domains

domain_back : (xs : List ℕ) → length xs ≡ 48 → ((i : ℕ) → i < 48 → get_or xs i 0 < 2 ^ 32) → domain_of (domain_bytes xs) ≡ xs
unfolding domain_of domain_bytes
domain_back xs l h =
    let b : List ℕ = cat (slot_bytes xs) 48 in
    let at : At b 0 b = take-length b in
    cat_same (λ (k : ℕ). le 4 b (4 * k) ∷ []) (λ (k : ℕ). get_or xs k 0 ∷ []) 48
    (λ k p. ap (λ (v : ℕ). v ∷ []) (le_at b (4 * k) 4 (get_or xs k 0) (h k p) (rw zero-add at (at_cat b 0 (slot_bytes xs) 4 (slot_length xs) k 48 p at))))
    ∙ singles xs 48 (omega arith)
    ∙ take_all 48 xs (omega arith)

domains_back : (b ss : List ℕ) (at : ℕ) → length ss ≡ 384 → ((i : ℕ) → i < 384 → get_or ss i 0 < 2 ^ 32) → At b at (domains_bytes ss) → domains_in b at ≡ ss
unfolding domains_in domains_bytes
domains_back b ss at l h p =
    cat_same (domain_in b at) (λ (d : ℕ). take 48 (drop (48 * d) ss)) 8
    (λ d k.
    let q : take 192 (drop (at + 192 * d) b) ≡ domain_part ss d = rw bytes_domain at (at_cat b at (domain_part ss) 192 (λ j. bytes_domain _) d 8 k p) in
    let n : length (take 48 (drop (48 * d) ss)) ≡ 48 = length-take-le 48 (drop (48 * d) ss) (rw length-drop (omega arith)) in
    ap domain_of q ∙ domain_back (take 48 (drop (48 * d) ss)) n (λ i m. rw (get_or-take 48 (drop (48 * d) ss) i 0 m, get_or-drop) (h (48 * d + i) (omega arith))))
    ∙ groups 48 ss 8
    ∙ take_all 384 ss (omega arith)

-- ---- objects

-- behind the last object that is taken all are free
pub top_free : (os : List ℕ) (n h : ℕ) → top os n ≤ h → h < n → get_or os (2 * h) 0 ≡ 0
unfolding top
top_free os zero h p q = absurd (omega arith)
top_free os (suc n) h p q =
    elim (ℕ_discrete (get_or os (2 * n) 0) 0) [
      | yes e ↦
          let p' : top os n ≤ h = rw (eq-eqb _ _ e) at p in
          elim (dec_lt h n) [ yes k ↦ top_free os n h p' k | no k ↦ let z : h ≡ n = omega arith in rw z e ]
      | no e ↦ let p' : suc n ≤ h = rw (ne_eqb _ _ e) at p in absurd (omega arith)
    ]

-- three zeros are there already
fill : (z vs : List ℕ) → length vs + 3 ≤ length z → drop (length vs) z ≡ 0 ∷ 0 ∷ 0 ∷ drop (length vs + 3) z → sets z 0 vs ≡ sets z 0 (vs ++ (0 ∷ 0 ∷ 0 ∷ []))
fill z vs p e =
    let n : length (vs ++ (0 ∷ 0 ∷ 0 ∷ [])) ≡ length vs + 3 = length-append vs (0 ∷ 0 ∷ 0 ∷ []) in
    sets_front vs z (omega arith)
    ∙ ap (λ (d : List ℕ). vs ++ d) e
    ∙ sym (sets_front (vs ++ (0 ∷ 0 ∷ 0 ∷ [])) z (omega arith) ∙ rw n (append_assoc vs (0 ∷ 0 ∷ 0 ∷ []) (drop (length vs + 3) z)))

-- what is read of a thread's record at i
pub record RowAt (b : List ℕ) (i t s d g : ℕ) : Type 0 where
  pub id : le 1 b i ≡ t
  pub supervisor : le 1 b (i + 1) ≡ s
  pub domain : le 2 b (i + 2) ≡ d
  pub handle : le 4 b (i + 4) ≡ g

abbrev triple : List ℕ → ℕ → List ℕ
triple ts t = get_or ts (3 * t) 0 ∷ get_or ts (3 * t + 1) 0 ∷ get_or ts (3 * t + 2) 0 ∷ []

module _ {os ts ss : List ℕ} (s : Sound os ts ss) where
  free_at_lem : (i : ℕ) → 2 * top os 256 ≤ i → i < 512 → get_or os i 0 ≡ 0
  free_at_lem i p q =
      let k : ℕ = i / 2 in
      let z : get_or os (2 * k) 0 ≡ 0 = top_free os 256 k (omega arith) (omega arith) in
      elim (ℕ_discrete (i % 2) 0) [
        | yes e ↦ let f : i ≡ 2 * k = omega arith in rw f z
        | no e ↦ let f : i ≡ 2 * k + 1 = omega arith in rw f (free_word s k z)
      ]

  -- an object's head, read
  pub head_read : (b : List ℕ) (k : ℕ) → k < 256 → At b (16 + 12 * k) (object_bytes os k) → le 4 b (16 + 12 * k) ≡ get_or os (2 * k) 0
  unfolding object_bytes
  head_read b k p r = le_at b (16 + 12 * k) 4 (get_or os (2 * k) 0) (omega (arith, head_fits s k p)) (at_left b (16 + 12 * k) _ _ r)

  objects_back : (b : List ℕ) → object_count b ≡ top os 256 → At b 16 (cat (object_bytes os) (top os 256)) → read_objects b ≡ os
  unfolding read_objects object_in object_bytes
  objects_back b e p =
      let m : ℕ = top os 256 in
      let n : m ≤ 256 = top_most os 256 in
      let l : length os ≡ 512 = s.fit.objects in
      let c : cat (object_in b) m ≡ take (2 * m) os =
      cat_same (object_in b) (λ (k : ℕ). take 2 (drop (2 * k) os)) m
      (λ k q.
      let r : At b (16 + 12 * k) (bytes 4 (get_or os (2 * k) 0) ++ bytes 8 (get_or os (2 * k + 1) 0)) = at_cat b 16 (object_bytes os) 12 (object_length os) k m q p in
      let f : 16 + 12 * k + length (bytes 4 (get_or os (2 * k) 0)) ≡ 20 + 12 * k = rw bytes_length (omega arith) in
      let x : le 4 b (16 + 12 * k) ≡ get_or os (2 * k) 0 = head_read b k (omega arith) r in
      let y : le 8 b (20 + 12 * k) ≡ get_or os (2 * k + 1) 0 =
      le_at b (20 + 12 * k) 8 (get_or os (2 * k + 1) 0) (word_fits s k) (at_behind b (16 + 12 * k) (20 + 12 * k) (bytes 4 (get_or os (2 * k) 0)) (bytes 8 (get_or os (2 * k + 1) 0)) r f) in
      rw (pair os (2 * k) (omega arith), x, y) refl)
      ∙ groups 2 os m in
      let t : length (take (2 * m) os) ≡ 2 * m = length-take-le (2 * m) os (omega arith) in
      rw (e, c)
      (sets_front (take (2 * m) os) (zeros 512) (rw (t, length-replicate) (omega arith))
      ∙ rw (t, ← zeros_from os 512 (2 * m) l free_at_lem) (take-append-drop (2 * m) os))

  -- ---- threads

  -- a live thread's record, read
  pub row_read :
      (b : List ℕ) (t i : ℕ) → t < 64 → (get_or ts (3 * t) 0 ≡ 0 → ⊥) → At b i (thread_bytes ts t) →
      RowAt b i t (get_or ts (3 * t) 0 - 1) (get_or ts (3 * t + 1) 0) (get_or ts (3 * t + 2) 0)
  row_read b t i p n q =
      let r : ℕ = get_or ts (3 * t) 0 in
      let d : ℕ = get_or ts (3 * t + 1) 0 in
      let g : ℕ = get_or ts (3 * t + 2) 0 in
      let k = thread_fits s t in
      let a₁ : List ℕ = bytes 1 t in
      let a₂ : List ℕ = a₁ ++ bytes 1 (r - 1) in
      let a₃ : List ℕ = a₂ ++ bytes 2 d in
      let q₄ : At b i (a₃ ++ bytes 4 g) = rw (thread_live ts t n) at q in
      let q₃ : At b i a₃ = at_left b i a₃ (bytes 4 g) q₄ in
      let q₂ : At b i a₂ = at_left b i a₂ (bytes 2 d) q₃ in
      let f₂ : i + length a₁ ≡ i + 1 = simp bytes_length in
      let f₃ : i + length a₂ ≡ i + 2 = simp (length-append, bytes_length) in
      let f₄ : i + length a₃ ≡ i + 4 = simp (length-append, bytes_length) in
      record {
        id = le_at b i 1 t (omega arith) (at_left b i a₁ (bytes 1 (r - 1)) q₂);
        supervisor = le_at b (i + 1) 1 (r - 1) (omega arith) (at_behind b i (i + 1) a₁ (bytes 1 (r - 1)) q₂ f₂);
        domain = le_at b (i + 2) 2 d (omega arith) (at_behind b i (i + 2) a₂ (bytes 2 d) q₃ f₃);
        handle = le_at b (i + 4) 4 g (omega arith) (at_behind b i (i + 4) a₃ (bytes 4 g) q₄ f₄);
      }

  module _ (b : List ℕ) (at : ℕ) (z : List ℕ) (l : length z ≡ 192) (hz : (i : ℕ) → i + 3 ≤ 192 → drop i z ≡ 0 ∷ 0 ∷ 0 ∷ drop (i + 3) z) where
    -- a record that stands in the image goes to its place
    entry : (t i : ℕ) (xs : List ℕ) → t < 64 → (get_or ts (3 * t) 0 ≡ 0 → ⊥) → At b i (thread_bytes ts t) → enter b i xs ≡ sets xs (3 * t) (triple ts t)
    entry t i xs p n q =
        let r : ℕ = get_or ts (3 * t) 0 in
        let w = row_read b t i p n q in
        let u : r - 1 + 1 ≡ r = omega arith in
        let v : 3 * t + 2 ≡ suc (suc (3 * t)) = omega arith in
        sym (enter_in b i xs t (r - 1) (get_or ts (3 * t + 1) 0) (get_or ts (3 * t + 2) 0) (sym w.id) (sym w.supervisor) (sym w.domain) (sym w.handle) p)
        ∙ rw (u, add-one (3 * t)) (rw v refl)

    threads_step : (t : ℕ) → t ≤ 64 → At b at (cat (thread_bytes ts) t) → entered b at z (live ts t) ≡ sets z 0 (cat (triple ts) t)
    unfolding cat live entered
    threads_step zero p q = refl
    threads_step (suc t) p q =
        let f : ℕ → List ℕ = thread_bytes ts in
        let q₁ : At b at (cat f t) = at_left b at (cat f t) (f t) q in
        let w : at + length (cat f t) ≡ at + 8 * live ts t = rw threads_length refl in
        let q₂ : At b (at + 8 * live ts t) (f t) = at_behind b at (at + 8 * live ts t) (cat f t) (f t) q w in
        let ih : entered b at z (live ts t) ≡ sets z 0 (cat (triple ts) t) = threads_step t (omega arith) q₁ in
        let n : length (cat (triple ts) t) ≡ 3 * t = cat_length (triple ts) 3 t (λ k. refl) in
        elim (ℕ_discrete (get_or ts (3 * t) 0) 0) [
          | yes e ↦
              let k = (thread_fits s t).dead e in
              let u : live ts (suc t) ≡ live ts t = rw add-one at (live_same ts t e) in
              let c : drop (length (cat (triple ts) t)) z ≡ 0 ∷ 0 ∷ 0 ∷ drop (length (cat (triple ts) t) + 3) z = hz (length (cat (triple ts) t)) (omega arith) in
              ap (entered b at z) u ∙ ih ∙ fill z (cat (triple ts) t) (omega arith) c ∙ ap (λ (v : List ℕ). sets z 0 (cat (triple ts) t ++ v)) (sym (rw (e, k.0, k.1) refl))
          | no e ↦
              let u : live ts (suc t) ≡ suc (live ts t) = rw (add-one t, add-one (live ts t)) at (live_more ts t e) in
              let o : 0 + 3 * t ≡ 3 * t = omega arith in
              ap (entered b at z) u
              ∙ entry t (at + 8 * live ts t) (entered b at z (live ts t)) p e q₂
              ∙ ap (λ (v : List ℕ). sets v (3 * t) (triple ts t)) ih
              ∙ rw (o, add-one t) at (cat_turn (triple ts) 3 (λ k. refl) z 0 t)
        ]

    threads_back : At b at (cat (thread_bytes ts) 64) → entered b at z (live ts 64) ≡ ts
    threads_back q =
        let m : length ts ≡ 192 = s.fit.threads in
        threads_step 64 (le_refl 64) q
        ∙ sets_all (cat (triple ts) 64) z (cat_length (triple ts) 3 64 (λ k. refl) ∙ sym l)
        ∙ cat_same (triple ts) (λ (t : ℕ). take 3 (drop (3 * t) ts)) 64 (λ t p. sym (three ts (3 * t) (omega arith)))
        ∙ groups 3 ts 64
        ∙ take_all 192 ts (omega arith)

-- ---- the header

pub eqs_refl : (a : List ℕ) → eqs a a ≡ true
unfolding eqs
eqs_refl [] = refl
eqs_refl (x ∷ a) = rw (eq-eqb x x refl, eqs_refl a) refl

pub record Header (b : List ℕ) (m n : ℕ) : Type 0 where
  pub magic_is : take 8 b ≡ magic
  pub objects : object_count b ≡ m
  pub threads : thread_count b ≡ n
  pub domains : domain_count b ≡ 8
  pub total_is : total_of b ≡ total m n

pub header_back : (b : List ℕ) (m n : ℕ) → m ≤ 256 → n ≤ 64 → At b 0 (header m n) → Header b m n
unfolding header
header_back b m n p q h =
    let a₂ : List ℕ = magic ++ bytes 2 m in
    let a₃ : List ℕ = a₂ ++ bytes 1 n in
    let a₄ : List ℕ = a₃ ++ bytes 1 8 in
    let h₄ : At b 0 a₄ = at_left b 0 a₄ (bytes 4 (total m n)) h in
    let h₃ : At b 0 a₃ = at_left b 0 a₃ (bytes 1 8) h₄ in
    let h₂ : At b 0 a₂ = at_left b 0 a₂ (bytes 1 n) h₃ in
    let f₂ : 0 + length a₂ ≡ 10 = simp bytes_length in
    let f₃ : 0 + length a₃ ≡ 11 = simp (length-append, bytes_length) in
    let f₄ : 0 + length a₄ ≡ 12 = simp (length-append, bytes_length) in
    record {
      magic_is = at_left b 0 magic (bytes 2 m) h₂;
      objects = le_at b 8 2 m (omega arith) (at_behind b 0 8 magic (bytes 2 m) h₂ refl);
      threads = le_at b 10 1 n (omega arith) (at_behind b 0 10 a₂ (bytes 1 n) h₃ f₂);
      domains = le_at b 11 1 8 (omega arith) (at_behind b 0 11 a₃ (bytes 1 8) h₄ f₃);
      total_is = le_at b 12 4 (total m n) (omega arith) (at_behind b 0 12 a₄ (bytes 4 (total m n)) h f₄);
    }

pub head_good : (b : List ℕ) (m n : ℕ) → m ≤ 256 → n ≤ 64 → total m n ≤ length b → Header b m n → headed b 0 ≡ 0
unfolding headed fields_ok
head_good b m n p q l h =
    rw (
      le-ltb (length b) 16 (omega arith),
      h.magic_is,
      eqs_refl magic,
      h.objects,
      h.threads,
      h.domains,
      h.total_is,
      le-leb m 256 p,
      le-leb n 64 q,
      eq-eqb (total m n) (total m n) refl,
      le-ltb (length b) (total m n) l,
    ) refl

-- ---- OK is a good header and accepted contents

yes_zero : (t : Bool) → cond t (number_of Ok) (number_of Value) ≡ 0 → t ≡ true
yes_zero true h = refl
yes_zero false h = absurd (omega arith)

pub image_ok : (b : List ℕ) → image_code b ≡ 0 → (headed b 0 ≡ 0) × (accepted b ≡ true)
unfolding image_code
image_ok b h =
    elim (ℕ_discrete (headed b 0) 0) [
      | yes e ↦ (e, yes_zero (accepted b) (sym (head_passes b (cond (accepted b) (number_of Ok) (number_of Value)) e) ∙ h))
      | no e ↦ absurd (e (sym (head_stops b (cond (accepted b) (number_of Ok) (number_of Value)) e) ∙ h))
    ]

pub ok_image : (b : List ℕ) → headed b 0 ≡ 0 → accepted b ≡ true → image_code b ≡ 0
unfolding image_code
ok_image b e h = rw h (head_passes b (number_of Ok) e)

module _ (b : List ℕ) (t : ℕ) (os ts ss : List ℕ) where
  pub is_image_lem : Sound os ts ss → encode os ts ss ≡ take t b → is_image b t os ts ss ≡ true
  unfolding is_image
  is_image_lem k e = rw (sound_test os ts ss k, e) (eqs_refl (take t b))

  pub image_is : is_image b t os ts ss ≡ true → (Sound os ts ss) × (encode os ts ss ≡ take t b)
  unfolding is_image
  image_is h =
      let p = both_true (keeps_test os ts ss) (eqs (encode os ts ss) (take t b)) h in
      (test_sound os ts ss p.0, eqs_true (encode os ts ss) (take t b) p.1)

-- ---- the round trips

-- b is read as that state, and r is handed back
pub record Back (b os ts ss r : List ℕ) : Type 0 where
  pub answer : image_code b ≡ 0
  pub objects : read_objects b ≡ os
  pub threads : read_threads b ≡ ts
  pub slots : read_slots b ≡ ss
  pub rest : drop (total_of b) b ≡ r

-- where the parts of an image stand
pub record Laid (b os ts ss : List ℕ) : Type 0 where
  pub header : Header b (top os 256) (live ts 64)
  pub objects : At b 16 (cat (object_bytes os) (top os 256))
  pub threads : At b (16 + 12 * top os 256) (cat (thread_bytes ts) 64)
  pub domains : At b (16 + 12 * top os 256 + 8 * live ts 64) (domains_bytes ss)

pub laid : (b os ts ss : List ℕ) → At b 0 (encode os ts ss) → Laid b os ts ss
unfolding encode
laid b os ts ss q₄ =
    let m : ℕ = top os 256 in
    let n : ℕ = live ts 64 in
    let a₁ : List ℕ = header m n in
    let a₂ : List ℕ = a₁ ++ cat (object_bytes os) m in
    let a₃ : List ℕ = a₂ ++ cat (thread_bytes ts) 64 in
    let q₃ : At b 0 a₃ = at_left b 0 a₃ (domains_bytes ss) q₄ in
    let q₂ : At b 0 a₂ = at_left b 0 a₂ (cat (thread_bytes ts) 64) q₃ in
    let f₁ : 0 + length a₁ ≡ 16 = rw header_length refl in
    let co : length (cat (object_bytes os) m) ≡ 12 * m = cat_length (object_bytes os) 12 m (object_length os) in
    let f₂ : 0 + length a₂ ≡ 16 + 12 * m = simp (length-append, header_length) (omega arith) in
    let f₃ : 0 + length a₃ ≡ 16 + 12 * m + 8 * n = simp (length-append, header_length, threads_length) (omega arith) in
    record {
      header = header_back b m n (top_most os 256) (live_most ts 64) (at_left b 0 a₁ (cat (object_bytes os) m) q₂);
      objects = at_behind b 0 16 a₁ (cat (object_bytes os) m) q₂ f₁;
      threads = at_behind b 0 (16 + 12 * m) a₂ (cat (thread_bytes ts) 64) q₃ f₂;
      domains = at_behind b 0 (16 + 12 * m + 8 * n) a₃ (domains_bytes ss) q₄ f₃;
    }

-- what is written is read, whatever stands behind
pub read_written : (os ts ss r : List ℕ) → Sound os ts ss → Back (encode os ts ss ++ r) os ts ss r
unfolding read_threads read_slots
read_written os ts ss r k =
    let b : List ℕ = encode os ts ss ++ r in
    let m : ℕ = top os 256 in
    let n : ℕ = live ts 64 in
    let l = laid b os ts ss (at_start (encode os ts ss) r) in
    let hd : Header b m n = l.header in
    let eo : read_objects b ≡ os = objects_back k b hd.objects l.objects in
    let et : read_threads b ≡ ts =
    rw (hd.objects, hd.threads) (threads_back k b (16 + 12 * m) (zeros 192) refl (λ i p. zeros_three 192 i p) l.threads) in
    let es : read_slots b ≡ ss = rw (hd.objects, hd.threads) (domains_back b ss (16 + 12 * m + 8 * n) k.fit.slots (number_fits k) l.domains) in
    let ln : length (encode os ts ss) ≡ total_of b = encode_length os ts ss ∙ sym hd.total_is in
    let en : take (total_of b) b ≡ encode os ts ss = rw (← ln) (at_start (encode os ts ss) r) in
    let hc : headed b 0 ≡ 0 = head_good b m n (top_most os 256) (live_most ts 64) (rw (length-append, encode_length) (omega arith)) hd in
    let ac : accepted b ≡ true = rw (eo, et, es) (is_image_lem b (total_of b) os ts ss k (sym en)) in
    record {
      answer = ok_image b hc ac;
      objects = eo;
      threads = et;
      slots = es;
      rest = drop_at (encode os ts ss) r (total_of b) ln;
    }

-- what is read keeps the rules
pub read_sound : (b : List ℕ) → image_code b ≡ 0 → Sound (read_objects b) (read_threads b) (read_slots b)
read_sound b h = (image_is b (total_of b) (read_objects b) (read_threads b) (read_slots b) (image_ok b h).1).0

-- what was read is written
pub written_read : (b : List ℕ) → image_code b ≡ 0 → encode (read_objects b) (read_threads b) (read_slots b) ≡ take (total_of b) b
written_read b h = (image_is b (total_of b) (read_objects b) (read_threads b) (read_slots b) (image_ok b h).1).1

-- no two states share an image
pub one_state : (os ts ss os' ts' ss' : List ℕ) → Sound os ts ss → Sound os' ts' ss' → encode os ts ss ≡ encode os' ts' ss' → (os ≡ os') × (ts ≡ ts') × (ss ≡ ss')
one_state os ts ss os' ts' ss' k k' e =
    let p = read_written os ts ss [] k in
    let q : Back (encode os ts ss ++ []) os' ts' ss' [] = rw e (read_written os' ts' ss' [] k') in
    (sym p.objects ∙ q.objects, sym p.threads ∙ q.threads, sym p.slots ∙ q.slots)

-- no two images stand for one state
pub one_image :
    (b b' : List ℕ) → image_code b ≡ 0 → image_code b' ≡ 0 → read_objects b ≡ read_objects b' → read_threads b ≡ read_threads b' → read_slots b ≡ read_slots b' →
    take (total_of b) b ≡ take (total_of b') b'
one_image b b' h h' eo et es = sym (written_read b h) ∙ rw (eo, et, es) (written_read b' h')
