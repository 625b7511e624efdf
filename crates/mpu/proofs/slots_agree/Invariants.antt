use Rattle.std.proofs.Common.{◌≡◌, true}
use Rattle.mpu.specs.Edges.{slots_to}
use Rattle.mpu.proofs.slots_agree.Given as goal

abbrev pub invariant-loop-p : goal.invariant-loop-p
invariant-loop-p l = slots_to l.fn.domain.partitions l.plan l.p-index ≡ true
