use Rattle.std.proofs.Common.{◌≡◌, sym, ap, ◌∙◌}
use Rattle.tables.specs.State.{thread}
use Rattle.decoding.specs.Calls.{op_of}
use Rattle.decoding.proofs.Operations.{is_named, is_unknown as no_operation}
use Rattle.judging.specs.Judge.{is_unknown, judge_op, judge}
use Rattle.judging.proofs.Order.{bad_caller, dead_caller, no_op, open_op, not_theirs, theirs, role_live, role_dead, role_sup, role_not, known_op, via_no, via_yes}
use Rattle.calls.specs.Seen.{seen}
use Rattle.calls.proofs.deciding.judge_state.Goals as goal
use Rattle.calls.proofs.deciding.judge_state.Goals.{else-is_privileged-via-then-is_privileged+else-me-ne2, else-is_privileged-via-else-is_privileged}

pub returns-then-c-ge-THREADS : goal.returns-then-c-ge-THREADS
returns-then-c-ge-THREADS c = c.into.ensures ∙ sym (bad_caller _ _ c.if-c-ge-THREADS.true)

pub returns-then-me-eq0 : goal.returns-then-me-eq0
unfolding thread
returns-then-me-eq0 c =
    c.into-then-me-eq0.ensures ∙ sym (dead_caller _ _ c.if-c-ge-THREADS.false (role_dead c.thread-me.ensures c.if-me-eq0.true))

pub returns-in_default : goal.returns-in_default
unfolding thread is_unknown
returns-in_default c =
    let u = no_operation c.args.c.op (sym c.in_default.is ∙ c.operation_of.ensures) in
    c.into-in_default.ensures ∙ sym (no_op _ _ c.if-c-ge-THREADS.false (role_live c.thread-me.ensures c.if-me-eq0.false) (rw u))

pub returns-then-me-ne2 : goal.returns-then-me-ne2
unfolding thread
returns-then-me-ne2 c =
    let n = is_named c.args.c.op _ (sym c.in-Some.is ∙ c.operation_of.ensures) in
    let lives = role_live c.thread-me.ensures c.if-me-eq0.false in
    let p = via_yes c.is_privileged.ensures c.if-is_privileged.true in
    c.into-then-me-ne2.ensures
    ∙ sym (not_theirs _ _ c.if-c-ge-THREADS.false lives (rw n (known_op _)) (rw n p) (role_not c.thread-me.ensures c.if-me-ne2.true))

pub returns : goal.returns
unfolding thread
returns c =
    let n = is_named c.args.c.op _ (sym c.in-Some.is ∙ c.operation_of.ensures) in
    let s = seen c.args.t in
    let lives = role_live c.thread-me.ensures c.if-me-eq0.false in
    let to : judge s c.args.c ≡ judge_op (op_of c.args.c.op) s c.args.c =
    elim c.else-is_privileged.branch [
      | else-is_privileged-via-then-is_privileged+else-me-ne2 w ↦
          theirs s c.args.c c.if-c-ge-THREADS.false lives (rw n (known_op _)) (rw n (via_yes c.is_privileged.ensures w.if-is_privileged.true))
          (role_sup c.thread-me.ensures w.if-me-ne2.false)
      | else-is_privileged-via-else-is_privileged w ↦
          open_op s c.args.c c.if-c-ge-THREADS.false lives (rw n (known_op _)) (rw n (via_no c.is_privileged.ensures w.if-is_privileged.false))
    ]
    in
    c.judge_operation.ensures ∙ sym (to ∙ ap (λ o. judge_op o s c.args.c) n)
