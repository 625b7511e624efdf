use mathlib.Core.Path.{◌∙◌}
use Rattle.rules.proofs.Rules.{live_handle}
use Rattle.bits.specs.Bit.{code_set}
use Rattle.answer.specs.Tests.{via}
use Rattle.rules.proofs.Pass.{pass_none, pass_all, turn_bad, turn_twice, turn_dead, turn_live}
use mathlib.Core.Path.{◌∙◌}
use Rattle.rules.proofs.judge_threads.Goals as goal
use Rattle.rules.proofs.judge_threads.Goals.{then-r-ne0+else-is_served, else-r-ne0}

pub loop-t-init : goal.loop-t-init
loop-t-init c = pass_none _ _

pub returns-then-not-thread_ok : goal.returns-then-not-thread_ok
returns-then-not-thread_ok c = turn_bad _ _ c.loop-t.invariant c.loop-t-test.true c.load_thread-r.ensures (via c.thread_ok.ensures c.if-not-thread_ok.true)

pub is_served-requires : goal.is_served-requires
is_served-requires c = live_handle _ _ (via c.thread_ok.ensures c.if-not-thread_ok.false) c.if-r-ne0.true

pub returns-then-is_served : goal.returns-then-is_served
returns-then-is_served c = turn_twice _ _ c.loop-t.invariant c.loop-t-test.true c.load_thread-r.ensures (via c.thread_ok.ensures c.if-not-thread_ok.false) c.if-r-ne0.true (via c.is_served.ensures c.if-is_served.true)

pub serve-requires : goal.serve-requires
serve-requires c = live_handle _ _ (via c.thread_ok.ensures c.if-not-thread_ok.false) c.if-r-ne0.true

pub loop-t-preserved : goal.loop-t-preserved
loop-t-preserved c =
    let k = via c.thread_ok.ensures c.if-not-thread_ok.false in
    elim c.if-r-ne0.branch [
      | then-r-ne0+else-is_served w ↦ turn_live _ _ c.loop-t.invariant c.loop-t-test.true c.load_thread-r.ensures k w.if-r-ne0.true (via w.is_served.ensures w.if-is_served.false) (w.live-is ∙ code_set _ _ c.loop-t-test.true) (w.served-is ∙ w.serve.ensures)
      | else-r-ne0 w ↦ turn_dead _ _ c.loop-t.invariant c.loop-t-test.true c.load_thread-r.ensures k w.if-r-ne0.false w.live-is w.served-is
    ]

pub returns : goal.returns
returns c = pass_all _ _ _ _ _ c.loop-t.invariant c.loop-t-test.false
