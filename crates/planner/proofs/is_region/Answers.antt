use Rattle.std.proofs.Common.{arith}
use Rattle.planner.proofs.Bits.{field_pos}
use Rattle.planner.proofs.is_region.Goals as goal

pub nonzero_rem-result : goal.nonzero_rem-result
nonzero_rem-result c = field_pos _ (omega (arith, c.size_field.ensures))
