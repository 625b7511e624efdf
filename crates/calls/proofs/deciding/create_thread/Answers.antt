use Rattle.std.proofs.Common.{refl, sym, ◌∙◌}
use Rattle.decoding.specs.Calls.{sup, thread}
use Rattle.judging.specs.Judge.{use_of}
use Rattle.judging.proofs.Order.{via_no, via_yes, bad_handle, to_rule}
use Rattle.calls.proofs.deciding.create_thread.Goals as goal

pub returns-then-not-is_taken : goal.returns-then-not-is_taken
unfolding use_of
returns-then-not-is_taken c =
    let f = via_yes c.new_thread_fields.ensures c.if-not-new_thread_fields.false in
    c.into-then-not-is_taken.ensures ∙ sym (bad_handle (sup thread) _ _ f refl (via_no c.is_taken.ensures c.if-not-is_taken.true))

pub returns : goal.returns
unfolding use_of
returns c =
    let f = via_yes c.new_thread_fields.ensures c.if-not-new_thread_fields.false in
    c.create_thread_rule.ensures ∙ sym (to_rule (sup thread) _ _ f refl (via_yes c.is_taken.ensures c.if-not-is_taken.false))
