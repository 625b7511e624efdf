use Rattle.std.proofs.Common.{◌≡◌, ◌+◌, ◌∙◌, arith}
use Rattle.std.proofs.lemmas.Bool.Decides.{nat_tests}
use Rattle.text.specs.declared.TheConstants.{TENS}
use Rattle.text.specs.Text.{up_to, places}
use Rattle.text.proofs.Laws.{in_decimal}
use Rattle.text.proofs.put_number.Goals as goal

pub returns : goal.returns
unfolding places up_to
returns c =
    let tens : up_to c.args.n TENS + 1 ≡ places c.args.n = grind (arith, nat_tests) in
    rw (in_decimal c.args.n (c.places.ensures ∙ tens)) at c.put_digits.ensures
