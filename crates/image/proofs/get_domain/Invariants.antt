use Rattle.std.proofs.Common.{ℕ, ◌≡◌, ◌*◌, [], ◌∷◌}
use Rattle.std.proofs.lemmas.List.Edits.{sets}
use Rattle.answer.specs.Stores.{cat}
use Rattle.image_write.specs.Bytes.{le}
use Rattle.image.proofs.get_domain.Given as goal

abbrev pub invariant-loop-k : goal.invariant-loop-k
invariant-loop-k l = l.slots ≡ sets l.initial.slots 0 (cat (λ (j : ℕ). le 4 l.rec (4 * j) ∷ []) l.k)
