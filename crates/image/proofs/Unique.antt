-- Two results that meet the reader's contract show the same, the code or the bytes that are handed back, and the three tables are equal.
use Rattle.answer.specs.Answer.{code_in}
use Rattle.std.proofs.Common.{ℕ, ◌≡◌, List, Result, Ok, Err, sym, ap, ◌∙◌}
use denote.Ref.{Bor}
use Rattle.answer.specs.declared.Code.{Code}
use Rattle.image_write.specs.Told.{NamesRefusal}
use Rattle.image_write.proofs.Told.{one_code}
use Rattle.image.specs.Told.{part_of, seen}
use Rattle.image.proofs.read.Reads as read

same : (r₁ r₂ : Result (Bor (List ℕ)) Code) → NamesRefusal r₁ → NamesRefusal r₂ → code_in r₁ ≡ code_in r₂ → part_of r₁ ≡ part_of r₂ → seen r₁ ≡ seen r₂
same (Ok p) (Ok q) m n e f = ap Ok f
same (Ok p) (Err d) m n e f = absurd (n (sym e))
same (Err c) (Ok q) m n e f = absurd (m e)
same (Err c) (Err d) m n e f = ap Err (one_code c d e)

pub read_unique :
    (κs : _) (a : _) (r₁ r₂ : _) (s₁ s₂ : _) → read.Post κs a r₁ s₁ → read.Post κs a r₂ s₂ →
    (seen r₁ ≡ seen r₂) × (s₁.1.0.now ≡ s₂.1.0.now) × (s₁.1.1.0.now ≡ s₂.1.1.0.now) × (s₁.1.1.1.0.now ≡ s₂.1.1.1.0.now)
read_unique κs a r₁ r₂ s₁ s₂ p q =
    (same r₁ r₂ p.1 q.1 (p.0.answer ∙ sym q.0.answer) (p.0.rest ∙ sym q.0.rest), p.0.objects ∙ sym q.0.objects, p.0.threads ∙ sym q.0.threads, p.0.slots ∙ sym q.0.slots)
