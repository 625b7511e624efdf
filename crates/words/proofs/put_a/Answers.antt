use Rattle.answer.specs.Tests.{via}
use Rattle.lines.specs.Pens.{known_as}
use Rattle.words.specs.Words.{field, field_a}
use Rattle.words.proofs.put_a.Goals as goal

pub returns-then-on_handle : goal.returns-then-on_handle
unfolding field_a field
returns-then-on_handle c = known_as (rw (via c.on_handle.ensures c.if-on_handle.true)) c.put_field.ensures

pub returns-then-on_domain : goal.returns-then-on_domain
unfolding field_a field
returns-then-on_domain c = known_as (rw (via c.on_handle.ensures c.if-on_handle.false, via c.on_domain.ensures c.if-on_domain.true)) c.put_field-then-on_domain.ensures

pub returns : goal.returns
unfolding field_a
returns c = known_as (rw (via c.on_handle.ensures c.if-on_handle.false, via c.on_domain.ensures c.if-on_domain.false)) c.put_unused.ensures
