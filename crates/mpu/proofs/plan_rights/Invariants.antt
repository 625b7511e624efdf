use Rattle.std.proofs.Common.{◌≡◌}
use Rattle.mpu.specs.Mpu.{plan_to, regions_of}
use Rattle.mpu.proofs.plan_rights.Given as goal

abbrev pub invariant-loop-k : goal.invariant-loop-k
invariant-loop-k l = plan_to l.plan l.a (regions_of l.plan) ≡ plan_to l.plan l.a l.k
