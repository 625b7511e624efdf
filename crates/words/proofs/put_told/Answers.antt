use Rattle.lines.specs.Pens.{known_as, ◌then◌}
use Rattle.words.specs.Words.{address, size}
use Rattle.words.proofs.put_told.Goals as goal

pub returns-in-Address : goal.returns-in-Address
unfolding address
returns-in-Address c = known_as (rw c.in-Address.is) (c.word.ensures.with_room then c.hex.ensures.with_room)

pub returns-in-Size : goal.returns-in-Size
unfolding size
returns-in-Size c = known_as (rw c.in-Size.is) (c.word-in-Size.ensures.with_room then c.hex-in-Size.ensures.with_room)
