-- Two answers that meet `memory_check`'s own contract are equal.
use Rattle.std.proofs.Common.{◌≡◌, sym, ◌∙◌}
use Rattle.answer.specs.declared.Answer.{Answer}
use Rattle.mem_check.proofs.memory_check.Reads as memory-check

pub memory_check_unique :
    (κs : _) (a : _) (r₁ r₂ : Answer) (s₁ s₂ : _) → memory-check.Post κs a r₁ s₁ → memory-check.Post κs a r₂ s₂ → r₁ ≡ r₂
memory_check_unique κs a r₁ r₂ s₁ s₂ p q = p ∙ sym q
