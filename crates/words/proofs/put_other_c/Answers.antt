use Rattle.answer.specs.Tests.{via}
use Rattle.lines.specs.Pens.{known_as}
use Rattle.words.specs.Words.{other_c}
use Rattle.words.proofs.put_other_c.Goals as goal

pub returns-then-on_domain : goal.returns-then-on_domain
unfolding other_c
returns-then-on_domain c = known_as (rw (via c.on_domain.ensures c.if-on_domain.true)) c.put_field.ensures

pub returns : goal.returns
unfolding other_c
returns c = known_as (rw (via c.on_domain.ensures c.if-on_domain.false)) c.put_unused.ensures
