use Rattle.std.proofs.Common.{◌≡◌, true}
use Rattle.mpu.specs.Edges.{regions_to}
use Rattle.mpu.proofs.regions_agree.Given as goal

abbrev pub invariant-loop-k : goal.invariant-loop-k
invariant-loop-k l = regions_to l.domain.partitions l.plan l.k ≡ true
