use mir.Facts.{to_z-of_z}
use mathlib.Core.Path.{◌∙◌}
use Rattle.firmware.proofs.wardlatch_validate.Goals as goal

pub returns : goal.returns
returns c = c.userspace_validate.ensures ∙ rw (to_z-of_z c.ranges.mode)
