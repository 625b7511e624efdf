use native.Mathlib.Omega.{arith}
use Rattle.calls.proofs.Laws.{hear_short, hear_long, heard_one}
use Rattle.calls.proofs.hear.Goals as goal

pub returns-then-bytes-lt-CALL : goal.returns-then-bytes-lt-CALL
returns-then-bytes-lt-CALL c = rw c.into.ensures (hear_short c.requires _ c.if-bytes-lt-CALL.true)

pub returns-then-bytes-gt-CALL : goal.returns-then-bytes-gt-CALL
returns-then-bytes-gt-CALL c = rw c.into-then-bytes-gt-CALL.ensures (hear_long c.requires _ c.if-bytes-gt-CALL.true)

pub run_whole-requires : goal.run_whole-requires
run_whole-requires c = (c.requires, (omega (arith, c.if-bytes-lt-CALL.false), omega arith))

pub returns : goal.returns
returns c = heard_one _ _ 0 0 (omega (arith, c.if-bytes-lt-CALL.false, c.if-bytes-gt-CALL.false)) c.run_whole.ensures
