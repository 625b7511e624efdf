use Rattle.std.proofs.Common.{arith}
use Rattle.words.specs.Words.{rights, longest}
use Rattle.words.proofs.put_rights.Goals as goal

pub put_named-requires : goal.put_named-requires
unfolding longest
put_named-requires c = (omega arith, omega arith)

pub returns : goal.returns
unfolding rights
returns c = c.put_named.ensures
