use Rattle.std.proofs.Common.{◌≡◌, true}
use Rattle.domain_rules.specs.Sound.{clear_of}
use Rattle.domain_rules.proofs.is_clear.Given as goal

abbrev pub invariant-loop-j : goal.invariant-loop-j
invariant-loop-j g l = clear_of (g.S.Slots.held l.at) l.q l.j ≡ true
