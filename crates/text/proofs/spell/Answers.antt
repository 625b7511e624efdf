use Rattle.std.proofs.Common.{◌≡◌, ◌∙◌, arith}
use Rattle.text.specs.Text.{digits_in}
use Rattle.text.proofs.Laws.{spell_turn}
use Rattle.text.proofs.spell.Goals as goal

pub loop-i-preserved : goal.loop-i-preserved
loop-i-preserved g c = spell_turn _ _ _ _ _ (omega arith) c.digit.ensures ∙ c.loop-i.invariant

pub returns : goal.returns
unfolding digits_in
returns g c = let z : c.loop-i.i ≡ 0 = omega arith in rw z at c.loop-i.invariant
