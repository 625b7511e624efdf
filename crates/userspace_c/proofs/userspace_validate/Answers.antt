use mir.Facts.{to_z-of_z}
use mathlib.Core.Path.{◌∙◌}
use Rattle.userspace_c.proofs.userspace_validate.Goals as goal

pub returns : goal.returns
returns c = c.validated_number.ensures ∙ c.by_number.ensures ∙ rw (c.validate-v.ensures, c.object.ensures, c.check.ensures, to_z-of_z c.ranges.mode)
