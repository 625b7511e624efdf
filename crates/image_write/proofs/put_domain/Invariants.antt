use Rattle.std.proofs.Common.{◌≡◌}
use Rattle.std.proofs.lemmas.List.Edits.{sets}
use Rattle.answer.specs.Stores.{cat}
use Rattle.image_write.specs.Encode.{slot_bytes}
use Rattle.image_write.proofs.put_domain.Given as goal

abbrev pub invariant-loop-k : goal.invariant-loop-k
invariant-loop-k l = l.rec ≡ sets l.initial.rec 0 (cat (slot_bytes l.slots) l.k)
