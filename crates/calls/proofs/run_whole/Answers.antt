use Rattle.std.proofs.Common.{refl, sym, ◌∙◌, arith}
use Rattle.calls.proofs.Laws.{ran_none, ran_more, ran_all, told_length}
use Rattle.calls.proofs.run_whole.Goals as goal

pub loop-k-init : goal.loop-k-init
loop-k-init c = record { heard = ran_none _ _ _ c.requires.0 refl; same_length = refl }

pub turn-requires : goal.turn-requires
turn-requires c =
    let i = c.loop-k.invariant in
    (i.heard.sound, (omega (arith, c.loop-k-test.true, c.requires.1.0), omega (arith, c.loop-k-test.true, c.requires.1.1, i.same_length)))

pub loop-k-preserved : goal.loop-k-preserved
loop-k-preserved c =
    let i = c.loop-k.invariant in
    record { heard = ran_more _ _ _ i.heard c.turn.ensures; same_length = told_length c.turn.ensures ∙ i.same_length }

pub shape_of-objects : goal.shape_of-objects
shape_of-objects c = c.loop-k.invariant.heard.sound.fit.objects ∙ sym c.requires.0.fit.objects

pub shape_of-threads : goal.shape_of-threads
shape_of-threads c = c.loop-k.invariant.heard.sound.fit.threads ∙ sym c.requires.0.fit.threads

pub shape_of-slots : goal.shape_of-slots
shape_of-slots c = c.loop-k.invariant.heard.sound.fit.slots ∙ sym c.requires.0.fit.slots

pub shape_of-out : goal.shape_of-out
shape_of-out c = c.loop-k.invariant.same_length

pub returns : goal.returns
returns c = ran_all _ _ _ (omega (arith, c.loop-k-test.false)) c.loop-k.invariant.heard
