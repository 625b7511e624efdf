use Rattle.std.proofs.Common.{◌≡◌, true}
use Rattle.mpu.specs.Mpu.{ok_to}
use Rattle.mpu.proofs.plan_ok.Given as goal

abbrev pub invariant-loop-k : goal.invariant-loop-k
invariant-loop-k l = ok_to l.plan l.k ≡ true
