use Rattle.lines.specs.Pens.{◌then◌}
use Rattle.words.specs.Words.{fields}
use Rattle.words.proofs.put_fields.Goals as goal

pub returns : goal.returns
unfolding fields
returns c = c.put_a.ensures then c.put_b.ensures then c.put_c.ensures then c.put_d.ensures
