use Rattle.std.proofs.Common.{◌∙◌}
use Rattle.rules.proofs.Ways.{other_objects, other_threads, other_slots, no_judged, judged}
use Rattle.rules.proofs.keeps.Goals as goal

pub returns-in_default : goal.returns-in_default
returns-in_default c = other_objects _ _ _ c.in_default.ensures.cases

pub returns-in_default-as_array : goal.returns-in_default-as_array
returns-in_default-as_array c = other_threads _ _ _ c.in-Some.ensures.cases c.in_default-as_array.ensures.cases

pub returns-in_default-as_array-2 : goal.returns-in_default-as_array-2
returns-in_default-as_array-2 c = other_slots _ _ _ c.in-Some.ensures.cases c.in-Some-as_array.ensures.cases c.in_default-as_array-2.ensures.cases

pub returns-in_default-judge_threads : goal.returns-in_default-judge_threads
returns-in_default-judge_threads c = no_judged _ _ _ c.in-Some.ensures.cases c.in-Some-as_array.ensures.cases c.in-Some-as_array-2.ensures.cases c.in_default-judge_threads.ensures

pub returns-then-objects_ok : goal.returns-then-objects_ok
returns-then-objects_ok c =
    let e = judged _ _ _ c.in-Some.ensures.cases c.in-Some-as_array.ensures.cases c.in-Some-as_array-2.ensures.cases _ c.in-Some-judge_threads.ensures in
    c.domains_ok.ensures ∙ (rw (← c.if-objects_ok.ensures) at e)

pub returns-else-objects_ok : goal.returns-else-objects_ok
returns-else-objects_ok c =
    let e = judged _ _ _ c.in-Some.ensures.cases c.in-Some-as_array.ensures.cases c.in-Some-as_array-2.ensures.cases _ c.in-Some-judge_threads.ensures in
    c.if-objects_ok.false ∙ (rw (← c.if-objects_ok.ensures) at e)
