use Rattle.std.proofs.Common.{◌≡◌, ◌+◌, ◌-◌, sym, ◌∙◌, arith}
use Rattle.image_write.specs.Encode.{top}
use Rattle.image_write.proofs.Turns.{top_step, top_hit}
use Rattle.image_write.proofs.count_objects.Goals as goal

pub loop-h-preserved : goal.loop-h-preserved
loop-h-preserved c = sym (top_step c.args.objects.now c.loop-h.h (omega arith) c.if-objects-h-ne0.false) ∙ c.loop-h.invariant

pub returns-then-objects-h-ne0 : goal.returns-then-objects-h-ne0
returns-then-objects-h-ne0 c =
    let e : c.loop-h.h - 1 + 1 ≡ c.loop-h.h = omega arith in
    (e ∙ sym (top_hit c.args.objects.now c.loop-h.h (omega arith) c.if-objects-h-ne0.true) ∙ c.loop-h.invariant, omega arith)

pub returns : goal.returns
unfolding top
returns c = let z : c.loop-h.h ≡ 0 = omega arith in (rw z at c.loop-h.invariant, omega arith)
