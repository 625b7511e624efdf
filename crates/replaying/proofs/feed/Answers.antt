use Rattle.std.proofs.Common.{◌≡◌, ◌+◌, min, not, eqb, length, ap, ◌∙◌, arith}
use Rattle.replaying.proofs.Feeds.{feed_refused, feed_done}
use Rattle.replaying.proofs.feed.Goals as goal

pub returns-then-is_err : goal.returns-then-is_err
returns-then-is_err c =
    let there : c.min-n.result ≡ min (c.args.have + c.args.more) (length c.args.log.now) = omega arith in
    feed_refused c.args.style (eqb c.args.more 0) c.args.first _ _ _ c.args.log.now (c.args.have + c.args.more) _ _ there c.cut_at-cut.ensures c.print-put.ensures (c.is_err.ensures.negation ∙ ap not c.if-is_err.true) c.ranges.first

pub returns : goal.returns
returns c =
    let there : c.min-n.result ≡ min (c.args.have + c.args.more) (length c.args.log.now) = omega arith in
    feed_done c.args.style (eqb c.args.more 0) c.args.first _ _ _ c.args.log.now (c.args.have + c.args.more) _ _ there c.cut_at-cut.ensures c.print-put.ensures (c.is_err.ensures.negation ∙ ap not c.if-is_err.false) c.keep.ensures c.line_number.ensures
