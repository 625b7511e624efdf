use Rattle.answer.specs.Tests.{via}
use Rattle.rules.proofs.Rules.{test_sound}
use Rattle.calls.proofs.Laws.{call_refused, call_heard}
use Rattle.calls.proofs.call.Goals as goal

pub hear-requires : goal.hear-requires
hear-requires c = test_sound _ _ _ (via c.keeps.ensures c.if-keeps.true)

pub returns-then-keeps : goal.returns-then-keeps
returns-then-keeps c = call_heard _ _ _ _ (via c.keeps.ensures c.if-keeps.true) c.hear.ensures

pub returns-else-keeps : goal.returns-else-keeps
returns-else-keeps c = rw c.into.ensures (call_refused _ _ _ _ (via c.keeps.ensures c.if-keeps.false))
