use Rattle.answer.specs.Tests.{tests}
use Rattle.lines.specs.Pens.{known_as, nothing}
use Rattle.words.specs.Words.{field, unused, widest_field}
use Rattle.words.proofs.put_unused.Goals as goal

pub returns-then-n-eq0 : goal.returns-then-n-eq0
unfolding unused
returns-then-n-eq0 c = known_as (search tests) (nothing widest_field _)

pub returns : goal.returns
unfolding unused field
returns c = known_as (search tests) c.put_field.ensures
