-- Two results that meet the contract are equal, and so is what they leave in the lent buffer.
use Rattle.std.proofs.Common.{◌≡◌, ℕ, ◌+◌, ◌≤◌, Bool, true, false, List, length, Result, refl, sym, ap, ◌∙◌, arith, leb, leb-true, leb-false}
use Rattle.lines.specs.declared.Pen.{Pen}
use Rattle.lines.specs.Pens.{Room, Writes, Stays}
use Rattle.answer.specs.declared.Code.{Code}
use Rattle.lines.proofs.Pen.word.Reads as word
use Rattle.lines.proofs.Pen.number.Reads as number
use Rattle.lines.proofs.Pen.hex.Reads as hex
use Rattle.lines.proofs.put_lines.Reads as lines
use Rattle.lines.proofs.put_lines_as.Reads as lines-as

pub word_unique :
    (κs : _) (a : _) (r₁ r₂ : Unit {0}) (s₁ s₂ : _) → word.Post κs a r₁ s₁ → word.Post κs a r₂ s₂ → (s₁.0.now ≡ s₂.0.now)
word_unique κs a r₁ r₂ s₁ s₂ p q = p.0 ∙ sym q.0

pub number_unique :
    (κs : _) (a : _) (r₁ r₂ : Unit {0}) (s₁ s₂ : _) → number.Post κs a r₁ s₁ → number.Post κs a r₂ s₂ → (s₁.0.now ≡ s₂.0.now)
number_unique κs a r₁ r₂ s₁ s₂ p q = p.0 ∙ sym q.0

pub hex_unique :
    (κs : _) (a : _) (r₁ r₂ : Unit {0}) (s₁ s₂ : _) → hex.Post κs a r₁ s₁ → hex.Post κs a r₂ s₂ → (s₁.0.now ≡ s₂.0.now)
hex_unique κs a r₁ r₂ s₁ s₂ p q = p.0 ∙ sym q.0

pub put_lines_unique :
    (κs : _) (a : _) (r₁ r₂ : Result ℕ Code) (s₁ s₂ : _) → lines.Post κs a r₁ s₁ → lines.Post κs a r₂ s₂ → (r₁ ≡ r₂) × (s₁.1.1.0.now ≡ s₂.1.1.0.now)
put_lines_unique κs a r₁ r₂ s₁ s₂ p q = (p.answer ∙ sym q.answer, p.text ∙ sym q.text)

-- the same of every form
pub put_lines_as_unique :
    (T L F D : _) (κs : _) (a : _) (r₁ r₂ : Result ℕ Code) (s₁ s₂ : _) →
    lines-as.Post T L F D κs a r₁ s₁ → lines-as.Post T L F D κs a r₂ s₂ → (r₁ ≡ r₂) × (s₁.1.1.1.0.now ≡ s₂.1.1.1.0.now)
put_lines_as_unique T L F D κs a r₁ r₂ s₁ s₂ p q = (p.answer ∙ sym q.answer, p.text ∙ sym q.text)

-- what a form's `put_line` promises leaves no byte and no place open
pub line_fixed : {a b c : Pen} {m : ℕ} {xs : List ℕ} → Writes a b m xs → Stays a b m → Writes a c m xs → Stays a c m → (b.at ≡ c.at) × (b.text.now ≡ c.text.now)
line_fixed {a} {b} {c} {m} p s q t = go (leb (a.at + m) (length a.text.now)) refl
  where
    go : (x : Bool) → leb (a.at + m) (length a.text.now) ≡ x → (b.at ≡ c.at) × (b.text.now ≡ c.text.now)
    go true e =
        let h : Room a m = leb-true _ _ e in
        ((p.piece h).next ∙ sym (q.piece h).next, (p.piece h).text ∙ sym (q.piece h).text)
    go false e =
        let n : Room a m → ⊥ = λ h. omega (arith, leb-false _ _ e) in
        (ap (λ (x : Pen). x.at) (s n ∙ sym (t n)), ap (λ (x : Pen). x.text.now) (s n ∙ sym (t n)))
