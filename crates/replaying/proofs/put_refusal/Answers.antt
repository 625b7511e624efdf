use Rattle.std.proofs.Common.{[], ◌∷◌, arith, rules}
use Rattle.lines.specs.Steps.{small}
use Rattle.replaying.specs.Printing.{refusal_of}
use Rattle.replaying.proofs.Laws.{refusal_as, refusal_words, refusal_line}
use Rattle.replaying.proofs.put_refusal.Goals as goal

pub returns-then-text-lt-REFUSAL : goal.returns-then-text-lt-REFUSAL
returns-then-text-lt-REFUSAL c = small (λ _. refusal_of c.args.style c.args.code) 30 (c.args.code ∷ 0 ∷ []) 1 _ (omega arith) (omega arith)

pub returns-in-Numbers : goal.returns-in-Numbers
returns-in-Numbers c = refusal_as _ c.in-Numbers.is (refusal_line _ (omega arith) c.put_lines.ensures)

pub returns-in-Words : goal.returns-in-Words
returns-in-Words c = let put = c.put_image.ensures.piece (omega arith) in refusal_as _ c.in-Words.is (refusal_words _ (omega arith) (search rules))
