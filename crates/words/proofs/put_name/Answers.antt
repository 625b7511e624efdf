use Rattle.answer.specs.Tests.{tests}
use Rattle.lines.specs.Pens.{known_as}
use Rattle.words.specs.Words.{answer_name}
use Rattle.words.specs.Laws.{answer_name_most}
use Rattle.words.proofs.Pieces.{word}
use Rattle.words.proofs.put_name.Goals as goal

pub returns-then-k-lt13 : goal.returns-then-k-lt13
unfolding answer_name
returns-then-k-lt13 c = word 10 (answer_name_most c.args.code) (search tests) c.put_nth.ensures

pub returns : goal.returns
unfolding answer_name
returns c = known_as (search tests) c.number.ensures.with_room
