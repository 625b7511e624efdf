use Rattle.std.proofs.Common.{ap, ◌∙◌}
use Rattle.answer.specs.Tests.{tests}
use Rattle.lines.specs.Pens.{known_as}
use Rattle.words.specs.Words.{widest_call, call_words}
use Rattle.words.specs.Laws.{call_most}
use Rattle.explain.specs.Words.{part_words}
use Rattle.explain.proofs.Pieces.{placed}
use Rattle.explain.proofs.put_part.Goals as goal

pub returns-then-bytes-lt-CALL : goal.returns-then-bytes-lt-CALL
unfolding part_words
returns-then-bytes-lt-CALL c = known_as (search tests) c.put_cut_off.ensures

pub returns : goal.returns
unfolding part_words
returns c = known_as (ap call_words c.decode_bytewise.ensures ∙ search tests) (placed widest_call (call_most _) c.put_call-pen.ensures c.put_call-pen.auto.text)
