use native.Mathlib.Omega.{arith}
use Rattle.judging.proofs.Order.{via_no, via_yes}
use Rattle.rules.proofs.Rules.{test_sound}
use Rattle.calls.proofs.Laws.{ends_unsound, ends_room, ends_done}
use Rattle.calls.proofs.run.Goals as goal

pub returns-then-not-keeps : goal.returns-then-not-keeps
returns-then-not-keeps c = ends_unsound _ _ _ _ _ (via_no c.keeps.ensures c.if-not-keeps.true)

pub overflow_mul-n : goal.overflow_mul-n
overflow_mul-n c = omega (arith, c.parts_in-n.ensures.1)

pub returns-then-out-n : goal.returns-then-out-n
returns-then-out-n c = ends_room _ _ _ _ _ (via_yes c.keeps.ensures c.if-not-keeps.false) (test_sound _ _ _ (via_yes c.keeps.ensures c.if-not-keeps.false)) (rw c.parts_in-n.ensures.0 at c.if-out-n.true)

pub run_parts-requires : goal.run_parts-requires
run_parts-requires c = (test_sound _ _ _ (via_yes c.keeps.ensures c.if-not-keeps.false), (rw c.parts_in-n.ensures.0 at c.if-out-n.false))

pub returns : goal.returns
returns c = rw c.parts_in-n.ensures.0 (ends_done _ _ _ _ _ (via_yes c.keeps.ensures c.if-not-keeps.false) (rw c.parts_in-n.ensures.0 at c.if-out-n.false) c.run_parts.ensures)
