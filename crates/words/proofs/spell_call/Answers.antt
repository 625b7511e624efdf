use Rattle.lines.specs.Pens.{◌then◌}
use Rattle.words.specs.Words.{call_words}
use Rattle.words.proofs.spell_call.Goals as goal

pub returns : goal.returns
unfolding call_words
returns c = c.put_operation.ensures then c.word.ensures.with_room then c.number.ensures.with_room then c.put_fields.ensures
