use Rattle.std.proofs.Common.{◌≡◌}
use Rattle.mpu.specs.Mpu.{domain_to}
use Rattle.mpu.proofs.domain_rights.Given as goal

abbrev pub invariant-loop-p : goal.invariant-loop-p
invariant-loop-p l = l.rights ≡ domain_to l.fn.domain.partitions l.a l.p-index
