use Rattle.std.proofs.Common.{◌≡◌}
use Rattle.std.proofs.lemmas.List.Edits.{sets}
use Rattle.text.specs.Text.{digits_in}
use Rattle.text.proofs.spell.Given as goal

abbrev pub invariant-loop-i : goal.invariant-loop-i
invariant-loop-i g l = sets l.text l.at (digits_in g.row.BASE l.i l.rest) ≡ sets l.initial.text l.at (digits_in g.row.BASE l.k l.n)
