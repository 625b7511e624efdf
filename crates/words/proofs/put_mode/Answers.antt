use Rattle.std.proofs.Common.{◌+◌, ◌%◌, ◌^◌, refl, arith}
use Rattle.lines.specs.Pens.{known_as, loosely, ◌then◌}
use Rattle.words.specs.Words.{widest_field}
use Rattle.words.specs.Laws.{mode_name_most}
use Rattle.words.proofs.Pieces.{mode_named, mode_numbered}
use Rattle.words.proofs.put_mode.Goals as goal

pub returns-then-k-lt3 : goal.returns-then-k-lt3
returns-then-k-lt3 c = known_as (mode_named _ refl c.if-k-lt3.true) (loosely widest_field (omega (arith, mode_name_most ((c.args.n + 1) % 2 ^ 32))) (c.word.ensures.with_room then c.put_nth.ensures))

pub returns : goal.returns
returns c = known_as (mode_numbered _ refl c.if-k-lt3.false) c.put_mode_number.ensures
