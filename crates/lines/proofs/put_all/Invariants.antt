use Rattle.std.proofs.Common.{◌*◌}
use Rattle.answer.specs.Stores.{cat}
use Rattle.lines.specs.Lines.{line_in}
use Rattle.lines.specs.Pens.{Wrote}
use Rattle.lines.proofs.put_all.Given as goal

abbrev pub invariant-loop-k : goal.invariant-loop-k
invariant-loop-k g l = Wrote l.initial.pen l.pen (g.F.Form.longest * l.k) (cat (line_in (g.F.Form.line l.form) l.out) l.k)
