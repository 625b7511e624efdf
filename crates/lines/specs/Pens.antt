-- What pieces make of a pen, and of one another.
use Rattle.std.specs.Prelude.{◌≡◌, ℕ, ◌+◌, ◌*◌, ◌≤◌, List, [], ◌++◌, length}
use Rattle.std.proofs.Common.{suc, ◌∙◌, refl, add-one, arith}
use Rattle.answer.specs.Stores.{cat}
use Rattle.text.specs.Text.{put_at, put_count}
use Rattle.lines.specs.declared.Pen.{Pen}
use Rattle.lines.specs.Steps.{Piece, ◌then◌ as ◌next◌, known_as as piece_known, loosely as piece_loosely}

-- the pen behind a piece, which was put where it has room
abbrev pub put_by : Pen → List ℕ → Pen
put_by pen xs = record { text = record pen.text { now = put_at pen.text.now pen.at xs }; at = pen.at + put_count pen.text.now pen.at xs }

-- so many bytes have room behind a pen
abbrev pub Room : Pen → ℕ → Type 0
Room pen most = pen.at + most ≤ length pen.text.now

-- a piece of at most so many bytes was put, and the pen stands behind it
pub record Wrote (before after : Pen) (most : ℕ) (xs : List ℕ) : Type 0 where
  pub same : after.text.ghost_name ≡ before.text.ghost_name
  pub kept : length after.text.now ≡ length before.text.now
  pub piece : Piece before.text.now before.at most xs after.at after.text.now

-- the same where so many bytes have room
pub record Writes (before after : Pen) (most : ℕ) (xs : List ℕ) : Type 0 where
  pub same : after.text.ghost_name ≡ before.text.ghost_name
  pub kept : length after.text.now ≡ length before.text.now
  pub piece : Room before most → Piece before.text.now before.at most xs after.at after.text.now

-- where they have none, nothing is put
abbrev pub Stays : Pen → Pen → ℕ → Type 0
Stays before after most = (Room before most → ⊥) → after ≡ before

module _ {a b : Pen} {m : ℕ} {xs : List ℕ} where
  pub in_room : Room a m → Writes a b m xs → Wrote a b m xs
  in_room h p = record { same = p.same; kept = p.kept; piece = p.piece h }

  -- the same bytes under another name, or a looser bound
  pub known_as : {ys : List ℕ} → xs ≡ ys → Writes a b m xs → Writes a b m ys
  known_as e p = record { same = p.same; kept = p.kept; piece = λ h. piece_known e (p.piece h) }

  pub loosely : (m' : ℕ) → m ≤ m' → Writes a b m xs → Writes a b m' xs
  loosely m' l p = record { same = p.same; kept = p.kept; piece = λ h. let g : Room a m = omega arith in piece_loosely m' l (p.piece g) }

-- nothing was put
pub nothing : (most : ℕ) (a : Pen) → Writes a a most []
nothing most a = record { same = refl; kept = refl; piece = λ h. record { next = omega arith; text = refl; bound = omega arith } }

-- one behind the other
infixl 20 ◌then◌
pub ◌then◌ : {a b c : Pen} {m n : ℕ} {xs ys : List ℕ} → Writes a b m xs → Writes b c n ys → Writes a c (m + n) (xs ++ ys)
◌then◌ {a} {b} {c} {m} {n} p q = record {
  same = q.same ∙ p.same;
  kept = q.kept ∙ p.kept;
  piece = λ h.
      let g : Room a m = omega arith in
      let x = p.piece g in
      let l : Room b n = omega (arith, p.kept, x.next, x.bound) in
      x next q.piece l;
}

-- ---- lines, one piece each

module _ (f : ℕ → List ℕ) (most : ℕ) where
  pub none_written : (a : Pen) → Wrote a a (most * 0) (cat f 0)
  unfolding cat
  none_written a = record { same = refl; kept = refl; piece = record { next = omega arith; text = refl; bound = omega arith } }

  pub one_more_written : {a b c : Pen} {k : ℕ} → Wrote a b (most * k) (cat f k) → Wrote b c most (f k) → Wrote a c (most * (k + 1)) (cat f (k + 1))
  unfolding cat
  one_more_written {k = k} p q =
      rw (add-one k) (record {
        same = q.same ∙ p.same;
        kept = q.kept ∙ p.kept;
        piece = piece_loosely (most * suc k) (omega arith) (p.piece next q.piece);
      })
