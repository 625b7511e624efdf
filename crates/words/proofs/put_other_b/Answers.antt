use Rattle.answer.specs.Tests.{via}
use Rattle.lines.specs.Pens.{known_as}
use Rattle.words.specs.Words.{field, other_b}
use Rattle.words.proofs.put_other_b.Goals as goal

pub returns-then-on_thread : goal.returns-then-on_thread
unfolding other_b field
returns-then-on_thread c = known_as (rw (via c.on_thread.ensures c.if-on_thread.true)) c.put_field.ensures

pub returns-then-on_domain : goal.returns-then-on_domain
unfolding other_b
returns-then-on_domain c = known_as (rw (via c.on_thread.ensures c.if-on_thread.false, via c.on_domain.ensures c.if-on_domain.true)) c.put_field-then-on_domain.ensures

pub returns : goal.returns
unfolding other_b
returns c = known_as (rw (via c.on_thread.ensures c.if-on_thread.false, via c.on_domain.ensures c.if-on_domain.false)) c.put_unused.ensures
