use Rattle.answer.specs.Tests.{tests}
use Rattle.lines.specs.Pens.{known_as}
use Rattle.words.specs.Words.{field, field_b}
use Rattle.words.proofs.put_b.Goals as goal

pub returns-in-0 : goal.returns-in-0
unfolding field_b field
returns-in-0 c = known_as (search tests) c.put_type.ensures

pub returns-in-1 : goal.returns-in-1
unfolding field_b field
returns-in-1 c = known_as (rw c.in-1.is) c.put_field.ensures

pub returns-in-3 : goal.returns-in-3
unfolding field_b field
returns-in-3 c = known_as (rw c.in-3.is) c.put_field-in-3.ensures

pub returns-in-18 : goal.returns-in-18
unfolding field_b field
returns-in-18 c = known_as (rw c.in-18.is) c.put_field-in-18.ensures

pub returns-in-25 : goal.returns-in-25
unfolding field_b field
returns-in-25 c = known_as (rw c.in-25.is) c.put_field-in-25.ensures

pub returns-in_default : goal.returns-in_default
unfolding field_b field
returns-in_default c = known_as (search tests) c.put_other_b.ensures
