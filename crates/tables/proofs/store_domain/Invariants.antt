use Rattle.std.proofs.Common.{◌≡◌}
use Rattle.tables.specs.Table.{put_to}
use Rattle.tables.proofs.store_domain.Given as goal

abbrev pub invariant-loop-k : goal.invariant-loop-k
invariant-loop-k l = l.slots ≡ put_to l.initial.slots l.d l.p-items l.k
