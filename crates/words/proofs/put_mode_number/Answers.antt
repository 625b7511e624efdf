use Rattle.std.proofs.Common.{arith}
use Rattle.answer.specs.Tests.{tests}
use Rattle.lines.specs.Pens.{known_as, loosely, ◌then◌}
use Rattle.words.specs.Words.{field, mode_number, widest_field}
use Rattle.words.proofs.Pieces.{below_zero}
use Rattle.words.proofs.put_mode_number.Goals as goal

pub returns-then-n-lt-SIGN : goal.returns-then-n-lt-SIGN
unfolding mode_number field
returns-then-n-lt-SIGN c = known_as (search tests) c.put_field.ensures

pub returns : goal.returns
returns c = known_as (below_zero _ c.if-n-lt-SIGN.false (omega arith)) (loosely widest_field (omega arith) (c.word.ensures.with_room then c.number.ensures.with_room))
