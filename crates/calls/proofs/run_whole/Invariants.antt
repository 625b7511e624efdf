use Rattle.std.proofs.Common.{◌≡◌, length}
use Rattle.tables.specs.State.{state_of}
use Rattle.calls.specs.Steps.{Ranged}
use Rattle.calls.proofs.run_whole.Given as goal

abbrev pub invariant-loop-k : goal.invariant-loop-k
invariant-loop-k l = record {
  heard : Ranged (state_of l.initial.objects l.initial.threads l.initial.slots) l.log l.initial.out l.k l.objects l.threads l.slots l.out;
  same_length : length l.out ≡ length l.initial.out;
}
