use Rattle.std.proofs.Common.{ℕ, Bool, refl, ◌∙◌, rules}
use Rattle.std.proofs.lemmas.Iterator.{YieldsList-from_range}
use Rattle.std.proofs.lemmas.Iterator.Search.{all_from_yields_List}
use Rattle.domain_rules.specs.Sound.{slots_sound}
use Rattle.domain_rules.proofs.All.{all_range}
use Rattle.tables.specs.Table.{partitions_at}
use Rattle.rules.specs.Rules.{domains_sound}
use Rattle.rules.proofs.domains_ok.Goals as goal

pub returns : goal.returns
unfolding domains_sound
returns c =
    let test : ℕ → Bool = λ d. slots_sound (partitions_at c.args.slots.now d) in
    all_from_yields_List test _ _ _ c.all.ensures.ran (YieldsList-from_range 0 8 8 refl refl) (λ x b q k. search rules) ∙ all_range test 8
