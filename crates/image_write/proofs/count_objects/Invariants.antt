use Rattle.std.proofs.Common.{◌≡◌}
use Rattle.image_write.specs.Encode.{top}
use Rattle.image_write.proofs.count_objects.Given as goal

abbrev pub invariant-loop-h : goal.invariant-loop-h
invariant-loop-h l = top l.objects l.h ≡ top l.objects 256
