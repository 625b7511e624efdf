use Rattle.lines.specs.Pens.{◌then◌}
use Rattle.words.specs.Words.{widest_answer}
use Rattle.words.specs.Laws.{answer_most}
use Rattle.explain.proofs.Pieces.{placed}
use Rattle.replaying.proofs.put_image.Goals as goal

pub returns : goal.returns
returns c = c.word.ensures.with_room then placed widest_answer (answer_most _ _ _) c.put_answer-pen.ensures c.put_answer-pen.auto.text
