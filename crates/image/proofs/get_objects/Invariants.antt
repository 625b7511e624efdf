use Rattle.std.proofs.Common.{◌≡◌}
use Rattle.std.proofs.lemmas.List.Edits.{sets}
use Rattle.answer.specs.Stores.{cat}
use Rattle.image.specs.Read.{object_in}
use Rattle.image.proofs.get_objects.Given as goal

abbrev pub invariant-loop-h : goal.invariant-loop-h
invariant-loop-h l = l.objects ≡ sets l.initial.objects 0 (cat (object_in l.image) l.h)
