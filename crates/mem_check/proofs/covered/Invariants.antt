use Rattle.std.proofs.Common.{◌≡◌, ◌+◌, ◌-◌, ◌≤◌}
use Rattle.tables.specs.Table.{partitions_at}
use Rattle.mem_check.specs.Memory.{covered_run}
use Rattle.mem_check.proofs.covered.Given as goal

abbrev pub invariant-loop-done : goal.invariant-loop-done
invariant-loop-done l = (l.done ≤ l.len) × (covered_run (partitions_at l.slots l.d) l.write l.from l.len ≡ l.done + covered_run (partitions_at l.slots l.d) l.write (l.from + l.done) (l.len - l.done))

abbrev pub decreases-loop-done : goal.decreases-loop-done
decreases-loop-done l = l.len - l.done
