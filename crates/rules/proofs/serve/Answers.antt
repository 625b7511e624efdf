use Rattle.std.proofs.Common.{mod-lt, zero-lt-suc}
use Rattle.bits.specs.Bit.{code_set}
use Rattle.rules.specs.Rules.{serving}
use Rattle.rules.proofs.serve.Goals as goal

pub returns : goal.returns
unfolding serving
returns c = rw (code_set _ _ (mod-lt _ (zero-lt-suc 63)))
