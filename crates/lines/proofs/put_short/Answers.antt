use Rattle.std.proofs.Common.{◌+◌, [], ◌∷◌, length, refl, ap, ◌∙◌, arith}
use Rattle.std.proofs.Math.Seq.{length-sets}
use Rattle.text.proofs.Laws.{part_set}
use Rattle.lines.proofs.Laws.{short_line}
use Rattle.lines.proofs.put_short.Goals as goal

pub returns : goal.returns
returns c =
    let four = (48 + c.args.code) ∷ 32 ∷ 48 ∷ 10 ∷ [] in
    let text = part_set c.args.pen.now.text.now four c.args.pen.now.at (omega arith) in
    rw (c.copy_from_slice.ensures.after, ← short_line c.args.code (omega arith)) (record {
      same = refl;
      kept = ap length text ∙ length-sets c.args.pen.now.text.now c.args.pen.now.at four;
      piece = record { next = refl; text = text; bound = omega arith };
    })
