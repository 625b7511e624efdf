use Rattle.std.proofs.Common.{arith}
use Rattle.words.specs.Words.{access, longest}
use Rattle.words.proofs.put_access.Goals as goal

pub put_named-requires : goal.put_named-requires
unfolding longest
put_named-requires c = (omega arith, omega arith)

pub returns : goal.returns
unfolding access
returns c = c.put_named.ensures
