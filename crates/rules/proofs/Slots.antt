-- A domain's slots as they stand in the table are the domain's slots.
use Rattle.std.proofs.Common.{ℕ, ◌+◌, ◌*◌, ◌<◌, ◌≤◌, ◌≡◌, List}
use Rattle.mem_partition.specs.Partition.{empty}
use Rattle.mem_domain.specs.Domain.{slot_at}
use Rattle.mem_domain.specs.Domain.{slots as SLOTS}
use Rattle.tables.specs.Tabulate.{get_d_tabulate, get_d_tabulate_out}
use Rattle.tables.specs.Table.{partition_at, partitions_at}

pub slot_is : (ss : List ℕ) (d k : ℕ) → k < SLOTS → slot_at (partitions_at ss d) k ≡ partition_at ss (SLOTS * d + k)
unfolding partitions_at
slot_is ss d k h = get_d_tabulate SLOTS (λ j. partition_at ss (SLOTS * d + j)) k empty h

pub slot_past : (ss : List ℕ) (d k : ℕ) → SLOTS ≤ k → slot_at (partitions_at ss d) k ≡ empty
unfolding partitions_at
slot_past ss d k h = get_d_tabulate_out SLOTS (λ j. partition_at ss (SLOTS * d + j)) k empty h
