-- Laws of the image's layout: a turn of each loop that writes it, and how long its parts are.
use Prim.Native.Nat.{ℕ, zero, suc, ◌+◌, ◌*◌, ◌≤◌, ◌<◌, ◌-◌}
use native.Mathlib.Nat.{add-sub_cancel_left, le_refl}
use native.Mathlib.Numerals.{add-one}
use native.Mathlib.Decide.{ℕ_discrete}
use native.Mathlib.Omega.{arith}
use mathlib.Core.Path.{◌≡◌, refl, sym, ap, ◌∙◌}
use mathlib.Core.List.{List, [], ◌++◌}
use lib.ListN.{length, take, drop, get_or, length-append}
use lib.Seq.{sets}
use borrow.Author.Tests.{eq-eqb, ne_eqb}
use Rattle.answer.specs.Stores.{behind, cat}
use Rattle.image_write.specs.Bytes.{bytes, magic}
use Rattle.image_write.specs.Encode.{object_bytes, thread_bytes, slot_bytes, domain_bytes, domain_part, domains_bytes, top, live, total, header, encode}
use Rattle.image_write.proofs.Bytes.{bytes_length, cat_length, cat_turn, part_home}

pub top_step : (os : List ℕ) (n : ℕ) → 0 < n → get_or os (2 * (n - 1)) 0 ≡ 0 → top os n ≡ top os (n - 1)
unfolding top
top_step os n h e =
    let j : n ≡ suc (n - 1) = omega arith in
    ap (top os) j ∙ rw (eq-eqb _ _ e) refl

pub top_hit : (os : List ℕ) (n : ℕ) → 0 < n → (get_or os (2 * (n - 1)) 0 ≡ 0 → ⊥) → top os n ≡ n
unfolding top
top_hit os n h e =
    let j : n ≡ suc (n - 1) = omega arith in
    ap (top os) j ∙ rw (ne_eqb _ _ e) (sym j)

pub live_more : (ts : List ℕ) (t : ℕ) → (get_or ts (3 * t) 0 ≡ 0 → ⊥) → live ts (t + 1) ≡ live ts t + 1
unfolding live
live_more ts t e = rw (add-one t, add-one (live ts t), ne_eqb _ _ e) refl

pub live_same : (ts : List ℕ) (t : ℕ) → get_or ts (3 * t) 0 ≡ 0 → live ts (t + 1) ≡ live ts t
unfolding live
live_same ts t e = rw (add-one t, eq-eqb _ _ e) refl

pub header_put : (o : List ℕ) (m n : ℕ) {o₁ o₂ o₃ o₄ o₅ : List ℕ} → o₁ ≡ sets o 0 magic → o₂ ≡ sets o₁ 8 (bytes 2 m) → o₃ ≡ sets o₂ 10 (bytes 1 n)
    → o₄ ≡ sets o₃ 11 (bytes 1 8) → o₅ ≡ sets o₄ 12 (bytes 4 (total m n)) → o₅ ≡ sets o 0 (header m n)
unfolding header
header_put o m n e₁ e₂ e₃ e₄ e₅ =
    let a₂ : List ℕ = magic ++ bytes 2 m in
    let a₃ : List ℕ = a₂ ++ bytes 1 n in
    let a₄ : List ℕ = a₃ ++ bytes 1 8 in
    let f₂ : 0 + length a₂ ≡ 10 = simp (length-append, bytes_length) in
    let f₃ : 0 + length a₃ ≡ 11 = simp (length-append, bytes_length) in
    let f₄ : 0 + length a₄ ≡ 12 = simp (length-append, bytes_length) in
    behind a₄ (bytes 4 (total m n)) o 0 12
    (behind a₃ (bytes 1 8) o 0 11 (behind a₂ (bytes 1 n) o 0 10 (behind magic (bytes 2 m) o 0 8 e₁ e₂ refl) e₃ f₂) e₄ f₃)
    e₅ f₄

pub header_length : (m n : ℕ) → length (header m n) ≡ 16
unfolding header
header_length m n = simp (length-append, bytes_length)

pub object_length : (os : List ℕ) (h : ℕ) → length (object_bytes os h) ≡ 12
unfolding object_bytes
object_length os h = rw (length-append, bytes_length, bytes_length) refl

-- a turn of `put_objects`
pub object_put : (os o l p q : List ℕ) (at h : ℕ) → l ≡ sets o at (cat (object_bytes os) h) → p ≡ sets l (at + 12 * h) (bytes 4 (get_or os (2 * h) 0))
    → q ≡ sets p (at + 12 * h + 4) (bytes 8 (get_or os (2 * h + 1) 0)) → q ≡ sets o at (cat (object_bytes os) (h + 1))
unfolding object_bytes
object_put os o l p q at h el ep eq =
    let f : at + 12 * h + length (bytes 4 (get_or os (2 * h) 0)) ≡ at + 12 * h + 4 = rw bytes_length refl in
    behind (bytes 4 (get_or os (2 * h) 0)) (bytes 8 (get_or os (2 * h + 1) 0)) l (at + 12 * h) (at + 12 * h + 4) ep eq f
    ∙ rw el (cat_turn (object_bytes os) 12 (object_length os) o at h)

pub thread_dead : (ts : List ℕ) (t : ℕ) → get_or ts (3 * t) 0 ≡ 0 → thread_bytes ts t ≡ []
unfolding thread_bytes
thread_dead ts t e = rw (eq-eqb _ _ e) refl

pub thread_live : (ts : List ℕ) (t : ℕ) → (get_or ts (3 * t) 0 ≡ 0 → ⊥)
    → thread_bytes ts t ≡ bytes 1 t ++ bytes 1 (get_or ts (3 * t) 0 - 1) ++ bytes 2 (get_or ts (3 * t + 1) 0) ++ bytes 4 (get_or ts (3 * t + 2) 0)
unfolding thread_bytes
thread_live ts t e = rw (ne_eqb _ _ e) refl

pub thread_length : (ts : List ℕ) (t : ℕ) → (get_or ts (3 * t) 0 ≡ 0 → ⊥) → length (thread_bytes ts t) ≡ 8
thread_length ts t e = ap length (thread_live ts t e) ∙ simp (length-append, bytes_length)

pub record_put : (at a b c d : ℕ) (o : List ℕ) {o₁ o₂ o₃ o₄ : List ℕ} → o₁ ≡ sets o at (bytes 1 a)
    → o₂ ≡ sets o₁ (at + 1) (bytes 1 b) → o₃ ≡ sets o₂ (at + 2) (bytes 2 c)
    → o₄ ≡ sets o₃ (at + 4) (bytes 4 d) → o₄ ≡ sets o at (bytes 1 a ++ bytes 1 b ++ bytes 2 c ++ bytes 4 d)
record_put at a b c d o e₁ e₂ e₃ e₄ =
    let a₁ : List ℕ = bytes 1 a in
    let a₂ : List ℕ = a₁ ++ bytes 1 b in
    let a₃ : List ℕ = a₂ ++ bytes 2 c in
    let f₁ : at + length a₁ ≡ at + 1 = simp bytes_length in
    let f₂ : at + length a₂ ≡ at + 2 = simp (length-append, bytes_length) in
    let f₃ : at + length a₃ ≡ at + 4 = simp (length-append, bytes_length) in
    behind a₃ (bytes 4 d) o at (at + 4) (behind a₂ (bytes 2 c) o at (at + 2) (behind a₁ (bytes 1 b) o at (at + 1) e₁ e₂ f₁) e₃ f₂) e₄ f₃

pub slot_length : (ss : List ℕ) (k : ℕ) → length (slot_bytes ss k) ≡ 4
slot_length ss k = bytes_length 4 (get_or ss k 0)

pub bytes_domain : (ss : List ℕ) → length (domain_bytes ss) ≡ 192
unfolding domain_bytes
bytes_domain ss = cat_length (slot_bytes ss) 4 48 (slot_length ss)

-- a turn of `put_domains`
pub domains_put : (ss : List ℕ) (at d : ℕ) (o l ys : List ℕ) → at + 192 * d + 192 ≤ length l → l ≡ sets o at (cat (domain_part ss) d)
    → ys ≡ domain_bytes (take (48 * d + 48 - 48 * d) (drop (48 * d) ss))
    → take (at + 192 * d) l ++ (ys ++ drop (at + 192 * d + 192 - (at + 192 * d)) (drop (at + 192 * d) l)) ≡ sets o at (cat (domain_part ss) (d + 1))
domains_put ss at d o l ys h el ey =
    let ey' : ys ≡ domain_part ss d = rw (add-sub_cancel_left (48 * d) 48) at ey in
    let n : length ys ≡ 192 = ap length ey' ∙ bytes_domain _ in
    rw (add-sub_cancel_left (at + 192 * d) 192)
    (part_home l ys (at + 192 * d) 192 n h ∙ rw (ey', el) (cat_turn (domain_part ss) 192 (λ k. bytes_domain _) o at d))

pub live_none : (ts : List ℕ) → live ts 0 ≡ 0
unfolding live
live_none ts = refl

pub threads_length : (ts : List ℕ) (n : ℕ) → length (cat (thread_bytes ts) n) ≡ 8 * live ts n
unfolding cat
threads_length ts zero = rw (live_none ts) refl
threads_length ts (suc n) =
    length-append (cat (thread_bytes ts) n) (thread_bytes ts n)
    ∙ rw (threads_length ts n)
    (elim (ℕ_discrete (get_or ts (3 * n) 0) 0) [
      | yes e ↦ rw (thread_dead ts n e, ← add-one n, live_same ts n e) (omega arith)
      | no e ↦ rw (thread_length ts n e, ← add-one n, live_more ts n e) (omega arith)
    ])

pub domains_length : (ss : List ℕ) → length (domains_bytes ss) ≡ 1536
unfolding domains_bytes
domains_length ss = cat_length (domain_part ss) 192 8 (λ d. bytes_domain _)

pub encode_length : (os ts ss : List ℕ) → length (encode os ts ss) ≡ total (top os 256) (live ts 64)
unfolding encode
encode_length os ts ss =
    simp (length-append, header_length, domains_length, threads_length, cat_length (object_bytes os) 12 (top os 256) (object_length os)) (omega arith)

pub encode_put : (os ts ss : List ℕ) (o : List ℕ) (m n a b : ℕ) {o₁ o₂ o₃ o₄ : List ℕ} → m ≡ top os 256 → n ≡ live ts 64 → a ≡ 16 + 12 * m → b ≡ a + 8 * n
    → o₁ ≡ sets o 0 (header m n) → o₂ ≡ sets o₁ 16 (cat (object_bytes os) m) → o₃ ≡ sets o₂ a (cat (thread_bytes ts) 64)
    → o₄ ≡ sets o₃ b (domains_bytes ss) → o₄ ≡ sets o 0 (encode os ts ss)
unfolding encode
encode_put os ts ss o m n a b em en ea eb e₁ e₂ e₃ e₄ =
    let h : List ℕ = header m n in
    let p : List ℕ = cat (object_bytes os) m in
    let q : List ℕ = cat (thread_bytes ts) 64 in
    let f₁ : 0 + length h ≡ 16 = rw header_length refl in
    let f₂ : 0 + length (h ++ p) ≡ a = simp (length-append, header_length, cat_length (object_bytes os) 12 m (object_length os)) (omega arith) in
    let f₃ : 0 + length (h ++ p ++ q) ≡ b = simp (length-append, header_length, threads_length, cat_length (object_bytes os) 12 m (object_length os)) (omega arith) in
    rw (← em, ← en)
    (behind (h ++ p ++ q) (domains_bytes ss) o 0 b (behind (h ++ p) q o 0 a (behind h p o 0 16 e₁ e₂ f₁) e₃ f₂) e₄ f₃)

-- how many objects and threads there can be, and so how long an image
pub top_most : (os : List ℕ) (n : ℕ) → top os n ≤ n
unfolding top
top_most os zero = le_refl 0
top_most os (suc n) =
    elim (ℕ_discrete (get_or os (2 * n) 0) 0) [
      | yes e ↦ rw (eq-eqb _ _ e) (omega (arith, top_most os n))
      | no e ↦ rw (ne_eqb _ _ e) (le_refl (suc n))
    ]

pub live_most : (ts : List ℕ) (n : ℕ) → live ts n ≤ n
unfolding live
live_most ts zero = le_refl 0
live_most ts (suc n) =
    elim (ℕ_discrete (get_or ts (3 * n) 0) 0) [
      | yes e ↦ rw (eq-eqb _ _ e) (omega (arith, live_most ts n))
      | no e ↦ rw (ne_eqb _ _ e) (omega (arith, live_most ts n))
    ]

pub encode_most : (os ts ss : List ℕ) → length (encode os ts ss) ≤ 5136
encode_most os ts ss = rw encode_length (omega (arith, top_most os 256, live_most ts 64))
