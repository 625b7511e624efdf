use Rattle.std.proofs.Common.{refl, sym, ◌∙◌}
use lib.Seq.{length-take-le}
use Rattle.image.proofs.Answers.{long_enough, fits_room, no_image, compared}
use Rattle.image.proofs.Turns.{eqs_same}
use Rattle.image.proofs.is_image.Goals as goal

pub returns-in_default : goal.returns-in_default
returns-in_default c = no_image _ _ c.in_default.ensures.written long_enough c.in_default.ensures.named

pub slice_bounds-out-end : goal.slice_bounds-out-end
slice_bounds-out-end c = fits_room c.in-Ok.ensures.written refl c.write.auto.out

pub slice_bounds-again-end : goal.slice_bounds-again-end
slice_bounds-again-end c = sym (length-take-le _ _ (fits_room c.in-Ok.ensures.written refl c.write.auto.out))

pub returns : goal.returns
returns c = c.eq.ensures ∙ eqs_same _ _ ∙ compared _ _ c.in-Ok.ensures.written long_enough refl
