use Rattle.answer.specs.Tests.{tests}
use Rattle.lines.specs.Pens.{known_as}
use Rattle.words.specs.Words.{field_d}
use Rattle.words.proofs.put_d.Goals as goal

pub returns-in-3 : goal.returns-in-3
unfolding field_d
returns-in-3 c = known_as (rw c.in-3.is) c.put_access.ensures

pub returns-in-27 : goal.returns-in-27
unfolding field_d
returns-in-27 c = known_as (rw c.in-27.is) c.put_rights.ensures

pub returns-in_default : goal.returns-in_default
unfolding field_d
returns-in_default c = known_as (search tests) c.put_unused.ensures
