use Rattle.command.specs.Ready.{IsReady}
use Rattle.command.proofs.every.Given as goal

abbrev pub invariant-loop : goal.invariant-loop
invariant-loop l = IsReady l.session
