use Rattle.std.proofs.Common.{◌≡◌}
use Rattle.std.proofs.lemmas.List.Edits.{sets}
use Rattle.answer.specs.Stores.{cat}
use Rattle.image.specs.Read.{domain_in}
use Rattle.image.proofs.get_domains.Given as goal

abbrev pub invariant-loop-d : goal.invariant-loop-d
invariant-loop-d l = l.slots ≡ sets l.initial.slots 0 (cat (domain_in l.image l.at) l.d)
