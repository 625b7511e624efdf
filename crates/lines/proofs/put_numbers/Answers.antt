use Rattle.lines.specs.Lines.{line}
use Rattle.lines.specs.Pens.{in_room, ◌then◌}
use Rattle.lines.proofs.put_numbers.Goals as goal

pub returns : goal.returns
unfolding line
returns c = in_room c.requires (c.number.ensures.with_room then c.word.ensures.with_room then c.number-2.ensures.with_room then c.word-2.ensures.with_room)
