use Rattle.lines.specs.Pens.{◌then◌}
use Rattle.words.specs.Words.{unknown}
use Rattle.words.proofs.put_unknown.Goals as goal

pub returns : goal.returns
unfolding unknown
returns c = c.word.ensures.with_room then c.number.ensures.with_room
