use Rattle.std.proofs.Common.{◌≡◌}
use Rattle.std.proofs.lemmas.List.Edits.{sets}
use Rattle.answer.specs.Stores.{cat}
use Rattle.image_write.specs.Encode.{object_bytes}
use Rattle.image_write.proofs.put_objects.Given as goal

abbrev pub invariant-loop-h : goal.invariant-loop-h
invariant-loop-h l = l.out ≡ sets l.initial.out l.at (cat (object_bytes l.objects) l.h)
