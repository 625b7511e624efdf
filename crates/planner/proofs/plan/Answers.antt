use mathlib.Core.Path.{refl}
use Rattle.answer.specs.Tests.{via}
use Rattle.answer.specs.declared.Code.TheVariants.{Einval, Value, Noplan, Room}
use Rattle.planner.proofs.Filled.{counted}
use Rattle.planner.proofs.Answers.{value, einval, unfit, few, short, good, refuses, written}
use Rattle.planner.proofs.plan.Goals as goal

pub returns-then-not-is_sound : goal.returns-then-not-is_sound
returns-then-not-is_sound c = refuses _ _ _ Value refl (value _ _ _ (via c.is_sound.ensures c.if-not-is_sound.true))

pub returns-then-regions-gt-MAX_REGIONS : goal.returns-then-regions-gt-MAX_REGIONS
returns-then-regions-gt-MAX_REGIONS c =
    refuses _ _ _ Einval refl (einval _ _ _ (via c.is_sound.ensures c.if-not-is_sound.false) c.if-regions-gt-MAX_REGIONS.true)

pub returns-then-not-slots_fit : goal.returns-then-not-slots_fit
returns-then-not-slots_fit c =
    let s = via c.is_sound.ensures c.if-not-is_sound.false in
    refuses _ _ _ Noplan refl (unfit _ _ _ s c.if-regions-gt-MAX_REGIONS.false (via c.slots_fit.ensures c.if-not-slots_fit.true))

pub returns-then-n-regions : goal.returns-then-n-regions
returns-then-n-regions c =
    let s = via c.is_sound.ensures c.if-not-is_sound.false in
    let f = via c.slots_fit.ensures c.if-not-slots_fit.false in
    refuses _ _ _ Noplan refl (few _ _ _ s c.if-regions-gt-MAX_REGIONS.false f (rw (counted _ s) at c.if-n-regions.true))

pub returns-then-words-out : goal.returns-then-words-out
returns-then-words-out c =
    let s = via c.is_sound.ensures c.if-not-is_sound.false in
    let f = via c.slots_fit.ensures c.if-not-slots_fit.false in
    let n = rw (counted _ s) at c.if-n-regions.false in
    refuses _ _ _ Room refl (short _ _ _ s c.if-regions-gt-MAX_REGIONS.false f n (rw (counted _ s) at c.if-words-out.true))

pub fill-requires : goal.fill-requires
fill-requires c =
    let s = via c.is_sound.ensures c.if-not-is_sound.false in
    (via c.slots_fit.ensures c.if-not-slots_fit.false, rw (counted _ s) at c.if-words-out.false)

pub returns : goal.returns
returns c =
    let s = via c.is_sound.ensures c.if-not-is_sound.false in
    let f = via c.slots_fit.ensures c.if-not-slots_fit.false in
    let n = rw (counted _ s) at c.if-n-regions.false in
    let r = rw (counted _ s) at c.if-words-out.false in
    written _ _ _ (good _ _ _ s c.if-regions-gt-MAX_REGIONS.false f n r) _ (counted _ s) _ c.fill.ensures
