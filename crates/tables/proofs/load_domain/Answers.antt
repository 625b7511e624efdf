use Rattle.std.proofs.Common.{◌*◌, ◌+◌, ◌∙◌, ap, rules}
use Rattle.mem_partition.specs.Partition.{empty}
use Rattle.mem_domain.specs.Domain.{with_count}
use Rattle.tables.specs.Table.{partition_at, partitions_at}
use Rattle.tables.proofs.FromFn.{from_fn_tabulate}
use Rattle.tables.proofs.load_domain.Goals as goal

pub returns : goal.returns
unfolding partitions_at
returns c =
    c.counted.ensures
    ∙ ap with_count (from_fn_tabulate _ (λ k. partition_at c.args.slots.now (16 * c.args.d + k)) _ _ (λ x y q k. search rules) 16 empty c.from_fn-partitions.ensures.items)
