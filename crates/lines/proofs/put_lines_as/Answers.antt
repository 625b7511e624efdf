use Rattle.lines.proofs.Laws.{room_for, no_room_for}
use Rattle.lines.specs.Steps.{few, small, all}
use Rattle.lines.proofs.put_lines_as.Goals as goal

pub returns-then-out-n : goal.returns-then-out-n
returns-then-out-n g c = few _ _ _ _ _ c.if-out-n.true

pub returns-then-text-longest : goal.returns-then-text-longest
returns-then-text-longest g c = small _ _ _ _ _ c.if-out-n.false (no_room_for g.met.F.Form.some_bytes (rw c.longest.ensures at c.if-text-longest.true))

pub returns : goal.returns
returns g c = all _ _ _ _ _ _ _ c.if-out-n.false (room_for g.met.F.Form.some_bytes (rw c.longest.ensures at c.if-text-longest.false)) c.put_all.ensures
