use Rattle.std.proofs.Common.{◌≡◌, ◌+◌, ◌∙◌, arith}
use Rattle.replaying.proofs.Parts.{keep_turn, keep_done}
use Rattle.replaying.proofs.keep.Goals as goal

pub loop-i-preserved : goal.loop-i-preserved
loop-i-preserved c = keep_turn c.args.log.now c.args.from c.args.n c.loop-i.i (omega arith) c.requires.1 c.loop-i.invariant

pub returns : goal.returns
returns c = let z : c.args.from + c.loop-i.i ≡ c.args.n = omega arith in c.loop-i.invariant ∙ keep_done c.args.log.now c.args.from c.args.n c.loop-i.i z c.requires.1
