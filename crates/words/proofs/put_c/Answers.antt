use Rattle.answer.specs.Tests.{tests}
use Rattle.lines.specs.Pens.{known_as}
use Rattle.words.specs.Words.{field, field_c}
use Rattle.words.proofs.put_c.Goals as goal

pub returns-in-0 : goal.returns-in-0
unfolding field_c field
returns-in-0 c = known_as (rw c.in-0.is) c.put_mode.ensures

pub returns-in-3 : goal.returns-in-3
unfolding field_c field
returns-in-3 c = known_as (rw c.in-3.is) c.put_field.ensures

pub returns-in-23 : goal.returns-in-23
unfolding field_c field
returns-in-23 c = known_as (rw c.in-23.is) c.put_role.ensures

pub returns-in-25 : goal.returns-in-25
unfolding field_c field
returns-in-25 c = known_as (rw c.in-25.is) c.put_field-in-25.ensures

pub returns-in-26 : goal.returns-in-26
unfolding field_c field
returns-in-26 c = known_as (rw c.in-26.is) c.put_home.ensures

pub returns-in_default : goal.returns-in_default
unfolding field_c field
returns-in_default c = known_as (search tests) c.put_other_c.ensures
