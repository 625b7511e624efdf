use Rattle.std.proofs.Common.{◌≡◌, ◌++◌, ◌*◌, length, drop}
use Rattle.mem_domain.specs.Domain.{active_to}
use Rattle.planner.specs.Planner.{words_to}
use Rattle.planner.proofs.fill.Given as goal

abbrev pub invariant-loop-p : goal.invariant-loop-p
invariant-loop-p l = record {
  next : l.m ≡ active_to l.fn.domain.partitions l.p-index;
  words : l.out ≡ words_to l.fn.domain.partitions l.p-index ++ drop (active_to l.fn.domain.partitions l.p-index * 2) l.initial.out;
  same_length : length l.out ≡ length l.initial.out;
}
