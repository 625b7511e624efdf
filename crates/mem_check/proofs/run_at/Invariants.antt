use Rattle.mem_check.proofs.Windows.{NoneTo}
use Rattle.mem_check.proofs.run_at.Given as goal

abbrev pub invariant-loop-k : goal.invariant-loop-k
invariant-loop-k l = NoneTo l.slots l.d l.x l.write l.k
