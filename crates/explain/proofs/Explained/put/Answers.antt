use Rattle.std.proofs.Common.{refl}
use Rattle.lines.specs.Pens.{known_as, ◌then◌}
use Rattle.words.specs.Words.{widest_answer}
use Rattle.words.specs.Laws.{answer_most}
use Rattle.explain.specs.Words.{numeral, explained}
use Rattle.explain.proofs.Pieces.{placed}
use Rattle.explain.proofs.Explained.put.Goals as goal

pub returns : goal.returns
unfolding explained numeral
returns c =
    known_as (rw (c.line_number.ensures, c.is_address.ensures, c.part_of-part.ensures) refl) (
    c.number.ensures.with_room then c.word.ensures.with_room then c.put_part.ensures
    then placed widest_answer (answer_most _ _ _) c.put_answer-pen.ensures c.put_answer-pen.auto.text)
