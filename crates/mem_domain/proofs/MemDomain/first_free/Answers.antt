use Rattle.std.proofs.Common.{rules, ◌≡◌, true, false}
use borrow.Author.Tests.{tests}
use Rattle.std.proofs.lemmas.Iterator.{YieldsList-from_slice, IsFirst-from_position}
use Rattle.mem_partition.specs.Partition.{empty, is_free}
use Rattle.mem_domain.proofs.Scan.{found_is}
use Rattle.std.proofs.Common.{arith}
use Rattle.mem_domain.proofs.MemDomain.first_free.Goals as goal

pub returns : goal.returns
returns c =
    let test = is_free in
    found_is test c.args.self.now.partitions empty 16 (omega arith) _
    (IsFirst-from_position _ _ _ (λ p. test p ≡ true) (λ p. test p ≡ false) c.position.ensures.ran (YieldsList-from_slice _ cc) (λ x q k. search (rules, tests)) (λ x q k. search (rules, tests)))
