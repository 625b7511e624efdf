use Rattle.std.proofs.Common.{◌≡◌, sym, ap, ◌∙◌, arith}
use Rattle.answer.specs.Tests.{via}
use Rattle.domain_rules.specs.Sound.{apart_of}
use Rattle.domain_rules.proofs.All.{all_none, all_more, all_fails}
use Rattle.domain_rules.proofs.is_clear.Goals as goal

pub loop-j-init : goal.loop-j-init
loop-j-init g c = all_none _

pub returns-then-not-is_apart : goal.returns-then-not-is_apart
returns-then-not-is_apart g c = sym (all_fails _ c.args.k c.loop-j.j c.loop-j-test.true (ap (λ p. apart_of p c.args.q) (sym c.slot.ensures) ∙ via c.is_apart.ensures c.if-not-is_apart.true))

pub loop-j-preserved : goal.loop-j-preserved
loop-j-preserved g c = all_more _ _ c.loop-j.invariant (ap (λ p. apart_of p c.args.q) (sym c.slot.ensures) ∙ via c.is_apart.ensures c.if-not-is_apart.false)

pub returns : goal.returns
returns g c = let e : c.loop-j.j ≡ c.args.k = omega arith in rw (← e) (sym c.loop-j.invariant)
