use Rattle.std.proofs.Common.{◌≤◌, ◌<◌, ◌+◌, ap, sym, ◌∙◌, rules}
use borrow.Author.Tests.{tests}
use Rattle.std.proofs.lemmas.Iterator.{YieldsList-from_slice, IsFirst-from_position}
use Rattle.text.proofs.Laws.{first_above}
use Rattle.text.proofs.places.Goals as goal

pub returns : goal.returns
returns c =
    let n = c.args.n in
    let found = first_above n c.args.powers.now _ (IsFirst-from_position _ _ _ (λ p. n < p) (λ p. p ≤ n) c.position.ensures.ran (YieldsList-from_slice _ cc) (λ x q k. search (rules, tests)) (λ x q k. search (rules, tests))) in
    ap (λ k. k + 1) (c.unwrap_or.ensures ∙ sym found)
