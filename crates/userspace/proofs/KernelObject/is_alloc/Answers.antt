use Rattle.bits.specs.Bit.{code_test}
use Rattle.userspace.proofs.KernelObject.is_alloc.Goals as goal

pub returns : goal.returns
returns c = code_test _ 2
