use Rattle.std.proofs.Common.{rules}
use borrow.Author.Tests.{tests}
use Rattle.std.proofs.lemmas.Iterator.{YieldsList-from_slice}
use Rattle.std.proofs.lemmas.Iterator.Consumers.{YieldsList-from_filter, count_from_yields_List}
use Rattle.mem_partition.specs.Partition.{empty, is_active}
use Rattle.mem_domain.specs.Domain.{active_count}
use Rattle.mem_domain.proofs.Scan.{count_is}
use Rattle.std.proofs.Common.{arith}
use Rattle.mem_domain.proofs.MemDomain.count_active.Goals as goal

pub returns : goal.returns
unfolding active_count
returns c =
    count_is is_active c.args.self.now.partitions empty 16 (omega arith) _
    (count_from_yields_List _ _ c.count.ensures.ran (YieldsList-from_filter _ is_active (YieldsList-from_slice c.args.self.now.partitions cc) c.filter.ensures.closure (λ x r q k. search (rules, tests))))
