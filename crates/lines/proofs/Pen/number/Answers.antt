use Rattle.std.proofs.Common.{arith}
use Rattle.text.specs.Laws.{decimal_most}
use Rattle.lines.proofs.Laws.{put_in_room, put_within}
use Rattle.lines.proofs.Pen.number.Goals as goal

pub overflow_add-self : goal.overflow_add-self
overflow_add-self c = omega (arith, put_within _ _ _ _ _ c.put_number.ensures)

pub returns-clause-with_room : goal.returns-clause-with_room
returns-clause-with_room c = put_in_room _ _ _ c.put_number.ensures _ (decimal_most _) c.put_number.auto.text
