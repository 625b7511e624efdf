use Rattle.std.proofs.Common.{sym, arith}
use Rattle.answer.specs.Tests.{via}
use Rattle.mem_domain.proofs.Scan.{any_none, any_at}
use Rattle.judging.specs.Judge.{serves}
use Rattle.calls.proofs.deciding.Tables.serves.Goals as goal

pub returns-then-is_serving : goal.returns-then-is_serving
unfolding serves
returns-then-is_serving c = sym (any_at _ 64 _ c.loop-t-test.true (via c.is_serving.ensures c.if-is_serving.true))

pub returns : goal.returns
unfolding serves
returns c = sym (any_none _ 64 (λ k h. c.loop-t.invariant k (omega arith)))
