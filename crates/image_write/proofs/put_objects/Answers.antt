use Rattle.std.proofs.Common.{◌≡◌, refl, arith}
use Rattle.answer.specs.Stores.{cat}
use Rattle.image_write.proofs.Turns.{object_put}
use Rattle.image_write.proofs.put_objects.Goals as goal

pub loop-h-init : goal.loop-h-init
unfolding cat
loop-h-init c = refl

pub loop-h-preserved : goal.loop-h-preserved
loop-h-preserved c = object_put c.args.objects.now c.args.out.now c.loop-h.out c.put.new.out c.put-in-loop-h.new.out c.args.at c.loop-h.h c.loop-h.invariant c.put.ensures c.put-in-loop-h.ensures

pub returns : goal.returns
returns c = let z : c.loop-h.h ≡ c.args.n = omega arith in rw z at c.loop-h.invariant
