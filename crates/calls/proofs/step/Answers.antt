use Rattle.std.proofs.Common.{sym, ◌∙◌}
use Rattle.decoding.proofs.Operations.{is_named, is_unknown}
use Rattle.calls.proofs.Laws.{step_refused, step_named, step_unknown}
use Rattle.calls.proofs.step.Goals as goal

pub returns-then-r-ne-OK : goal.returns-then-r-ne-OK
returns-then-r-ne-OK c = step_refused c.requires _ _ c.judge-r.ensures c.if-r-ne-OK.true

pub returns-in-Some : goal.returns-in-Some
returns-in-Some c =
    let n = is_named c.args.c.op _ (sym c.in-Some.is ∙ c.operation_of.ensures) in
    step_named c.requires _ _ c.judge-r.ensures _ n c.if-r-ne-OK.false c.apply.ensures

pub returns-in_default : goal.returns-in_default
returns-in_default c =
    let u = is_unknown c.args.c.op (sym c.in_default.is ∙ c.operation_of.ensures) in
    step_unknown c.requires _ _ c.judge-r.ensures u c.if-r-ne-OK.false
