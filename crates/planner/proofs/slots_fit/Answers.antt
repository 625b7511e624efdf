use Rattle.std.proofs.Common.{◌≡◌, length, ◌∙◌, arith, rules, tests}
use Rattle.std.proofs.lemmas.Iterator.{YieldsList-from_slice}
use Rattle.std.proofs.lemmas.Iterator.Search.{all_from_yields_List}
use Rattle.mem_partition.specs.Partition.{empty}
use Rattle.planner.specs.Planner.{slot_fits, slots_fit}
use Rattle.planner.proofs.Listed.{all_listed}
use Rattle.planner.proofs.slots_fit.Goals as goal

pub returns : goal.returns
unfolding slots_fit
returns c =
    let l = c.args.domain.partitions in
    let w : length l ≡ 16 = omega arith in
    all_from_yields_List slot_fits _ _ _ c.all.ensures.ran (YieldsList-from_slice l cc) (λ x b q k. search (rules, tests)) ∙ all_listed slot_fits l empty 16 w
