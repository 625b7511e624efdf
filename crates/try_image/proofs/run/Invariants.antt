use Rattle.std.proofs.Common.{◌-◌}
use Rattle.try_image.proofs.run.Given as goal

abbrev pub decreases-loop-at : goal.decreases-loop-at
decreases-loop-at g l = l.n - l.at
