use Rattle.std.proofs.Common.{◌≡◌, ◌+◌, ◌*◌, refl, sym, ap, ◌∙◌, arith}
use Rattle.image.specs.Read.{enter, entered}
use Rattle.image.proofs.Turns.{enter_turn}
use Rattle.image.proofs.get_threads.Goals as goal

pub loop-i-init : goal.loop-i-init
unfolding entered
loop-i-init c = refl

pub loop-i-preserved : goal.loop-i-preserved
loop-i-preserved c =
    let l = c.loop-i in
    let a = c.args in
    c.get_thread.ensures ∙ ap (enter a.image.now (a.at + 8 * l.i)) l.invariant ∙ sym (enter_turn a.image.now a.at a.threads.now l.i)

pub returns : goal.returns
returns c = let z : c.loop-i.i ≡ c.args.n = omega arith in rw z at c.loop-i.invariant
