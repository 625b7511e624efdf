use Rattle.std.proofs.Common.{rules}
use Rattle.lines.specs.Pens.{Room, in_room, none_written, one_more_written}
use Rattle.lines.proofs.put_all.Goals as goal

pub loop-k-init : goal.loop-k-init
loop-k-init g c = none_written _ _ _

pub loop-k-preserved : goal.loop-k-preserved
loop-k-preserved g c =
    let room : Room c.loop-k.pen g.F.Form.longest = search rules in
    one_more_written _ _ c.loop-k.invariant (in_room room c.put_line.ensures.with_room)
