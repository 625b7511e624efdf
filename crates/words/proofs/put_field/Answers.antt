use Rattle.std.proofs.Common.{arith}
use Rattle.lines.specs.Pens.{loosely, ◌then◌}
use Rattle.words.specs.Words.{labelled, widest_field}
use Rattle.words.proofs.put_field.Goals as goal

pub returns : goal.returns
unfolding labelled
returns c = loosely widest_field (omega arith) (c.word.ensures.with_room then c.word-2.ensures.with_room then c.word-3.ensures.with_room then c.put_told.ensures)
