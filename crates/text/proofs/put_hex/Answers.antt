use Rattle.std.proofs.Common.{◌≡◌, ◌+◌, ◌∙◌, arith}
use Rattle.std.proofs.lemmas.Bool.Decides.{nat_tests}
use Rattle.text.specs.declared.TheConstants.{SIXTEENS}
use Rattle.text.specs.Text.{up_to, hex_places}
use Rattle.text.proofs.Laws.{in_hex}
use Rattle.text.proofs.put_hex.Goals as goal

pub returns : goal.returns
unfolding hex_places up_to
returns c =
    let sixteens : up_to c.args.n SIXTEENS + 1 ≡ hex_places c.args.n = grind (arith, nat_tests) in
    rw (in_hex c.args.least c.args.n (c.places.ensures ∙ sixteens) c.max.ensures) at c.put_digits.ensures
