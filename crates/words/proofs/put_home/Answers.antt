use Rattle.std.proofs.Common.{arith}
use Rattle.answer.specs.Tests.{tests}
use Rattle.lines.specs.Pens.{known_as}
use Rattle.words.specs.Words.{field, home, widest_field}
use Rattle.words.proofs.Pieces.{word}
use Rattle.words.proofs.put_home.Goals as goal

pub returns-then-n-eq-NONE : goal.returns-then-n-eq-NONE
unfolding home
returns-then-n-eq-NONE c = word widest_field (omega arith) (search tests) c.word.ensures.with_room

pub returns : goal.returns
unfolding home field
returns c = known_as (search tests) c.put_field.ensures
