use Rattle.lines.specs.Pens.{◌then◌}
use Rattle.words.specs.Words.{answer_words, value_words}
use Rattle.words.proofs.spell_answer.Goals as goal

pub returns : goal.returns
unfolding answer_words value_words
returns c = c.word.ensures.with_room then c.put_name.ensures then c.word-2.ensures.with_room then (c.put_value.ensures then c.word-3.ensures.with_room)
