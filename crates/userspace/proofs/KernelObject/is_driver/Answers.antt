use Rattle.bits.specs.Bit.{code_test}
use Rattle.userspace.proofs.KernelObject.is_driver.Goals as goal

pub returns : goal.returns
returns c = code_test _ 3
