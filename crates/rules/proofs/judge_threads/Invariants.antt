use Rattle.rules.proofs.Pass.{Passing}
use Rattle.rules.proofs.judge_threads.Given as goal

abbrev pub invariant-loop-t : goal.invariant-loop-t
invariant-loop-t l = Passing l.objects l.threads l.live l.served l.t
