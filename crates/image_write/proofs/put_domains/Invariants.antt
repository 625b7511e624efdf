use Rattle.std.proofs.Common.{◌≡◌}
use Rattle.std.proofs.lemmas.List.Edits.{sets}
use Rattle.answer.specs.Stores.{cat}
use Rattle.image_write.specs.Encode.{domain_part}
use Rattle.image_write.proofs.put_domains.Given as goal

abbrev pub invariant-loop-d : goal.invariant-loop-d
invariant-loop-d l = l.out ≡ sets l.initial.out l.at (cat (domain_part l.slots) l.d)
