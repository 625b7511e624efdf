use Rattle.lines.specs.Pens.{known_as}
use Rattle.words.specs.Words.{widest_operation}
use Rattle.words.specs.Laws.{rank_most}
use Rattle.words.proofs.Pieces.{word, has_name, has_none}
use Rattle.words.proofs.put_operation.Goals as goal

pub returns-then-k-lt-NAMED : goal.returns-then-k-lt-NAMED
returns-then-k-lt-NAMED c = word widest_operation (rank_most c.rank_of-k.result) (has_name _ c.rank_of-k.ensures c.if-k-lt-NAMED.true) c.put_nth.ensures

pub returns : goal.returns
returns c = known_as (has_none _ c.rank_of-k.ensures c.if-k-lt-NAMED.false) c.put_unknown.ensures
