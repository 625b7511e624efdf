use Rattle.calls.proofs.Laws.{ranged_length, room_short}
use mathlib.Core.Path.{refl}
use native.Mathlib.Omega.{arith}
use Rattle.calls.proofs.Laws.{ran_short, ran_even}
use Rattle.calls.proofs.run_parts.Goals as goal

pub run_whole-requires : goal.run_whole-requires
run_whole-requires c = (c.requires.0, (omega arith, omega (arith, c.requires.1)))

pub put_answer-requires : goal.put_answer-requires
put_answer-requires c = rw (ranged_length c.run_whole.ensures) (room_short _ _ c.if-log-ne0.true c.requires.1)

pub returns-then-log-ne0 : goal.returns-then-log-ne0
returns-then-log-ne0 c = ran_short _ _ _ refl c.if-log-ne0.true c.run_whole.ensures (rw c.into.ensures at c.put_answer.ensures)

pub returns-else-log-ne0 : goal.returns-else-log-ne0
returns-else-log-ne0 c = ran_even _ _ _ refl c.if-log-ne0.false c.run_whole.ensures
