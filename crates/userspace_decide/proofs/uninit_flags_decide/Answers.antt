use Rattle.bits.specs.Bit.{clear_mask}
use Rattle.answer.specs.Tests.{tests}
use Rattle.userspace_decide.proofs.uninit_flags_decide.Goals as goal

pub returns : goal.returns
returns c = clear_mask 8 _ 0 (search tests) (search tests)
