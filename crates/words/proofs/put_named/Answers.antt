use Rattle.std.proofs.Common.{arith}
use Rattle.lines.specs.Pens.{known_as, loosely, ◌then◌}
use Rattle.words.specs.Words.{field, texts, widest_field}
use Rattle.words.specs.Laws.{nth_most}
use Rattle.words.proofs.Pieces.{is_named, is_numbered}
use Rattle.words.proofs.put_named.Goals as goal

pub returns-then-k-names : goal.returns-then-k-names
returns-then-k-names c =
    known_as (is_named _ _ _ _ c.if-k-names.true)
    (loosely widest_field (omega (arith, nth_most c.args.n (texts c.args.names.now))) (c.word.ensures.with_room then c.put_nth.ensures))

pub returns : goal.returns
unfolding field
returns c = known_as (is_numbered _ _ _ _ c.if-k-names.false) c.put_field.ensures
