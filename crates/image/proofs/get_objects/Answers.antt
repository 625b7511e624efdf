use Rattle.std.proofs.Common.{◌≡◌, refl, arith}
use Rattle.answer.specs.Stores.{cat}
use Rattle.image.proofs.Turns.{object_turn}
use Rattle.image.proofs.get_objects.Goals as goal

pub loop-h-init : goal.loop-h-init
unfolding cat
loop-h-init c = refl

pub loop-h-preserved : goal.loop-h-preserved
loop-h-preserved c = object_turn c.args.image.now c.args.objects.now c.loop-h.objects c.loop-h.h _ _ c.get.ensures.0 c.get-in-loop-h.ensures.0 c.loop-h.invariant

pub returns : goal.returns
returns c = let z : c.loop-h.h ≡ c.args.n = omega arith in rw z at c.loop-h.invariant
