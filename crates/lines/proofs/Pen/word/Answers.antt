use Rattle.std.proofs.Common.{le_refl, arith}
use Rattle.lines.proofs.Laws.{put_in_room, put_within}
use Rattle.lines.proofs.Pen.word.Goals as goal

pub overflow_add-self : goal.overflow_add-self
overflow_add-self c = omega (arith, put_within _ _ _ _ _ c.put_word.ensures)

pub returns-clause-with_room : goal.returns-clause-with_room
returns-clause-with_room c = put_in_room _ _ _ c.put_word.ensures _ (le_refl _) c.put_word.auto.text
