use Rattle.std.proofs.Common.{◌∙◌}
use Rattle.image.proofs.Turns.{eqs_same}
use Rattle.image.proofs.is_magic.Goals as goal

pub returns : goal.returns
returns c = c.eq.ensures ∙ rw c.as_slice.ensures (eqs_same _ _)
