use Rattle.std.proofs.Common.{ℕ, ◌≡◌, ◌+◌, ◌*◌, List, get_or, ◌∙◌, arith}
use Rattle.mem_partition.specs.Partition.{empty}
use Rattle.mem_partition.specs.declared.MemPartition.{MemPartition}
use Rattle.tables.specs.Table.{put_partition, put_to, put_none, put_more}
use Rattle.tables.proofs.store_domain.Goals as goal

-- one slot more, at the row that the code works out
stored_more : (xs l : List ℕ) (d : ℕ) (ps : List MemPartition) (k n : ℕ) → l ≡ put_to xs d ps k → n ≡ 16 * d + k → put_partition l n (get_or ps k empty) ≡ put_to xs d ps (k + 1)
stored_more xs l d ps k n e f = rw (e, f) (put_more xs d ps k)

pub loop-k-init : goal.loop-k-init
loop-k-init c = put_none _ _ _

pub loop-k-preserved : goal.loop-k-preserved
loop-k-preserved c = c.store_partition.ensures ∙ stored_more _ _ _ _ _ _ c.loop-k.invariant (omega arith)

pub returns : goal.returns
returns c = let e : c.loop-k.k ≡ 16 = omega arith in rw (← e) c.loop-k.invariant
