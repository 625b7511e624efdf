use Rattle.std.proofs.Common.{◌≡◌, true}
use Rattle.domain_rules.specs.Scan.{all_to}
use Rattle.domain_rules.specs.Sound.{slot_sound}
use Rattle.domain_rules.proofs.slots_sound.Given as goal

abbrev pub invariant-loop-k : goal.invariant-loop-k
invariant-loop-k g l = all_to (slot_sound (g.S.Slots.held l.at)) l.k ≡ true
