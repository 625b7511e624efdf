use Rattle.std.proofs.Common.{rules, ◌≡◌, ◌&&◌, true, false, Bool}
use Rattle.mem_partition.specs.declared.MemPartition.{MemPartition}
use borrow.Author.Tests.{tests}
use Rattle.std.proofs.lemmas.Iterator.{YieldsList-from_slice, cases_from_any}
use Rattle.mem_partition.specs.Partition.{empty, is_active, meets}
use Rattle.mem_domain.proofs.Scan.{any_is}
use Rattle.std.proofs.Common.{arith}
use Rattle.mem_domain.specs.Domain.{crossed}
use Rattle.mem_domain.proofs.MemDomain.crosses.Goals as goal

pub returns : goal.returns
unfolding crossed
returns c =
    let test : MemPartition → Bool = λ p. is_active p && meets c.args.start c.args.end p in
    any_is test c.args.self.now.partitions empty 16 (omega arith) _
    (cases_from_any _ _ _ (λ p. test p ≡ true) (λ p. test p ≡ false) c.any.ensures.ran (YieldsList-from_slice _ cc) (λ x q k. search (rules, tests)) (λ x q k. search (rules, tests)))
