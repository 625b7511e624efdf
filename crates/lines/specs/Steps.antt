-- What functions inside promise of bytes that they put at a place: the place behind them, the buffer, and how many bytes they are at most;
-- with the laws by which pieces follow one another.
use Prim.Native.Nat.{ℕ, ◌+◌, ◌*◌, ◌/◌, ◌≤◌, ◌<◌}
use Rattle.std.proofs.Common.{zero-add, add-one, suc, sym, subst, ◌∙◌, length-append}
use native.Mathlib.Omega.{arith}
use Rattle.std.specs.Prelude.{◌≡◌, List, ◌++◌, Ok, Err}
use Rattle.answer.specs.declared.Code.TheVariants.{Einval, Room}
use Rattle.std.proofs.Math.Path.{refl}
use Rattle.std.proofs.Math.ListN.{length}
use Rattle.std.proofs.lemmas.List.Edits.{sets}
use borrow.Author.Tests.{lt-ltb, le-ltb}
use Rattle.answer.specs.Stores.{cat, behind, sets_front}
use Rattle.text.specs.Text.{decimal, Put}
use Rattle.text.specs.Laws.{decimal_most, put_count_lem, put_text}
use Rattle.lines.specs.Lines.{lines_answer, text_after, Lines}

pub record Piece (before : List ℕ) (at most : ℕ) (xs : List ℕ) (r : ℕ) (after : List ℕ) : Type 0 where
  pub next : r ≡ at + length xs
  pub text : after ≡ sets before at xs
  pub bound : length xs ≤ most

-- ---- pieces

-- what `text` put where it had room
pub piece : (t xs t' : List ℕ) (at most r : ℕ) → length xs ≤ most → at + most ≤ length t → Put t at xs r t' → Piece t at most xs (at + r) t'
piece t xs t' at most r m room p =
    let h : at + length xs ≤ length t = omega (arith, m) in
    record { next = rw (put_count_lem t at xs r t' p h) refl; text = put_text t at xs r t' p h; bound = m }

pub number_piece : (t t' : List ℕ) (at n r : ℕ) → at + 10 ≤ length t → Put t at (decimal n) r t' → Piece t at 10 (decimal n) (at + r) t'
number_piece t t' at n r room p = piece t (decimal n) t' at 10 r (decimal_most n) room p

-- one behind the other
infixl 20 ◌then◌
pub ◌then◌ : {t t₁ t₂ xs ys : List ℕ} {at m₁ m₂ r₁ r₂ : ℕ} → Piece t at m₁ xs r₁ t₁ → Piece t₁ r₁ m₂ ys r₂ t₂ → Piece t at (m₁ + m₂) (xs ++ ys) r₂ t₂
◌then◌ {t} {t₁} {t₂} {xs} {ys} {at} {m₁} {m₂} {r₁} {r₂} p q =
    record {
      next = q.next ∙ rw (p.next, length-append) (omega arith);
      text = behind xs ys t at r₁ p.text q.text (sym p.next);
      bound = rw length-append (omega (arith, p.bound, q.bound));
    }

-- the same bytes under another name, or a looser bound
pub known_as : {t t' xs ys : List ℕ} {at m r : ℕ} → xs ≡ ys → Piece t at m xs r t' → Piece t at m ys r t'
known_as {t} {t'} {xs} {ys} {at} {m} {r} e p = subst (λ (l : List ℕ). Piece t at m l r t') e p

pub loosely : {t t' xs : List ℕ} {at m r : ℕ} (m' : ℕ) → m ≤ m' → Piece t at m xs r t' → Piece t at m' xs r t'
loosely m' h p = record { next = p.next; text = p.text; bound = omega (arith, p.bound) }

-- ---- lines, one piece each

module _ (f : ℕ → List ℕ) (most : ℕ) where
  pub none_put : (t : List ℕ) → Piece t 0 (most * 0) (cat f 0) 0 t
  unfolding cat
  none_put t = record { next = refl; text = refl; bound = omega arith }

  pub one_more : {t₀ t t' : List ℕ} {k at r : ℕ} → Piece t₀ 0 (most * k) (cat f k) at t → Piece t at most (f k) r t' → Piece t₀ 0 (most * (k + 1)) (cat f (k + 1)) r t'
  unfolding cat
  one_more {k = k} p q = rw (add-one k) (loosely (most * suc k) (omega arith) (p then q))

-- ---- the three answers

module _ (f : ℕ → List ℕ) (longest : ℕ) (out : List ℕ) (n : ℕ) where
  pub few : (text : List ℕ) → length out / 2 < n → Lines f longest out n text (Err Einval) text
  unfolding lines_answer text_after
  few text h =
      let t = lt-ltb (length out) (2 * n) (omega arith) in
      record { answer = rw t refl; text = rw t refl }

  pub small : (text : List ℕ) → n ≤ length out / 2 → length text < longest * n → Lines f longest out n text (Err Room) text
  unfolding lines_answer text_after
  small text g h =
      let s = le-ltb (length out) (2 * n) (omega arith) in
      let t = lt-ltb (length text) (longest * n) h in
      record { answer = rw (s, t) refl; text = rw (s, t) refl }

  pub all : (text after : List ℕ) (r : ℕ) → n ≤ length out / 2 → longest * n ≤ length text → Piece text 0 (longest * n) (cat f n) r after
      → Lines f longest out n text (Ok r) after
  unfolding lines_answer text_after
  all text after r g h p =
      let s = le-ltb (length out) (2 * n) (omega arith) in
      let t = le-ltb (length text) (longest * n) h in
      let m : length (cat f n) ≤ length text = omega (arith, p.bound, h) in
      record { answer = rw (s, t, p.next, zero-add) refl; text = rw (s, t) (p.text ∙ sets_front (cat f n) text m) }
