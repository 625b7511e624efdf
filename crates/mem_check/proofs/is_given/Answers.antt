use Rattle.bits.specs.Bit.{code_test}
use Rattle.mem_check.proofs.is_given.Goals as goal

pub returns-then-write : goal.returns-then-write
returns-then-write c = rw c.if-write.true (code_test _ 1)

pub returns : goal.returns
returns c = rw c.if-write.false (code_test _ 0)
