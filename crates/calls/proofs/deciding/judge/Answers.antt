use Rattle.std.proofs.Common.{sym, ◌∙◌}
use Rattle.tables.specs.Table.{Sized}
use Rattle.judging.proofs.Sizes.{judged_of, refused_of}
use Rattle.calls.proofs.deciding.judge.Goals as goal

pub returns-in_default : goal.returns-in_default
returns-in_default c = c.into.ensures ∙ sym (refused_of _ _ _ _ (λ z. c.in_default.ensures.1 z.objects))

pub returns-in_default-try_into : goal.returns-in_default-try_into
returns-in_default-try_into c = c.into-in_default-try_into.ensures ∙ sym (refused_of _ _ _ _ (λ z. c.in_default-try_into.ensures.1 z.threads))

pub returns-in_default-try_into-2 : goal.returns-in_default-try_into-2
returns-in_default-try_into-2 c = c.into-in_default-try_into-2.ensures ∙ sym (refused_of _ _ _ _ (λ z. c.in_default-try_into-2.ensures.1 z.slots))

pub returns : goal.returns
returns c =
    let o = c.in-Ok.ensures.1 in
    let t = c.in-Ok-try_into.ensures.1 in
    let s = c.in-Ok-try_into-2.ensures.1 in
    let z : Sized c.args.objects.now c.args.threads.now c.args.slots.now = record { objects = o.long; threads = t.long; slots = s.long } in
    c.judge_state.ensures ∙ rw (o.same, t.same, s.same) (sym (judged_of _ _ _ _ z))
