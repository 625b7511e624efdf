use Rattle.std.proofs.Common.{refl, ◌∙◌, rules}
use Rattle.std.proofs.lemmas.Iterator.{YieldsList-from_range}
use Rattle.std.proofs.lemmas.Iterator.Search.{all_from_yields_List}
use Rattle.domain_rules.proofs.All.{all_range}
use Rattle.rules.specs.Rules.{object_at_ok}
use Rattle.rules.proofs.objects_ok.Goals as goal

pub returns : goal.returns
returns c =
    let test = object_at_ok c.args.objects.now c.args.live in
    all_from_yields_List test _ _ _ c.all.ensures.ran (YieldsList-from_range 0 256 256 refl refl) (λ x b q k. search rules) ∙ all_range test 256
