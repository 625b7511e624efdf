use Prim.Native.Nat.{◌/◌, ◌%◌, ◌<◌}
use mathlib.Core.Path.{refl}
use native.Mathlib.Omega.{arith}
use Rattle.mpu.specs.Mpu.{size_of}
use Rattle.mpu.proofs.Words.{size_shift, size_le, size_gt}
use Rattle.mpu.proofs.size_of.Goals as goal

pub returns : goal.returns
unfolding size_of
returns c = let h : c.args.rasr / 2 % 32 < 32 = omega arith in rw (size_shift _ h) (refl, size_le _ h, size_gt _)
