use Rattle.std.proofs.Common.{arith}
use Rattle.lines.specs.Pens.{loosely, ◌then◌}
use Rattle.words.specs.Words.{widest_call}
use Rattle.explain.specs.Words.{cut_off}
use Rattle.explain.proofs.put_cut_off.Goals as goal

pub returns : goal.returns
unfolding cut_off
returns c = loosely widest_call (omega arith) (c.word.ensures.with_room then c.number.ensures.with_room then c.word-2.ensures.with_room)
