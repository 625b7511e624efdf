use Rattle.std.proofs.Common.{rules, ◌≡◌, ◌&&◌, true, false, Bool}
use Rattle.mem_partition.specs.declared.MemPartition.{MemPartition}
use borrow.Author.Tests.{tests}
use Rattle.std.proofs.lemmas.Iterator.{YieldsList-from_slice, cases_from_any}
use Rattle.mem_partition.specs.Partition.{empty, is_active, holds}
use Rattle.mem_domain.proofs.Scan.{any_is}
use Rattle.std.proofs.Common.{arith}
use Rattle.mem_domain.specs.Domain.{contains_addr}
use Rattle.mem_domain.proofs.MemDomain.contains_addr.Goals as goal

pub returns : goal.returns
unfolding contains_addr
returns c =
    let test : MemPartition → Bool = λ p. is_active p && holds p c.args.addr in
    any_is test c.args.self.partitions empty 16 (omega arith) _
    (cases_from_any _ _ _ (λ p. test p ≡ true) (λ p. test p ≡ false) c.any.ensures.ran (YieldsList-from_slice _ cc) (λ x q k. search (rules, tests)) (λ x q k. search (rules, tests)))
