-- Two results that meet a function's own contract are equal: the contract fixes the call, and the operation.
use mathlib.Core.Path.{◌≡◌, sym, ◌∙◌}
use Rattle.std.specs.Prelude.{Option}
use Rattle.decoding.specs.declared.Operation.{Operation}
use Rattle.decoding.proofs.decode.Reads as decode
use Rattle.decoding.proofs.operation_of.Reads as operation-of
use Rattle.decoding.proofs.decode_bytewise.Reads as bytewise

pub decode_unique : (κs : _) (a : _) (r₁ r₂ : _) (s₁ s₂ : _) → decode.Post κs a r₁ s₁ → decode.Post κs a r₂ s₂ → r₁ ≡ r₂
decode_unique κs a r₁ r₂ s₁ s₂ p q = p ∙ sym q

pub decode_bytewise_unique : (κs : _) (a : _) (r₁ r₂ : _) (s₁ s₂ : _) → bytewise.Post κs a r₁ s₁ → bytewise.Post κs a r₂ s₂ → r₁ ≡ r₂
decode_bytewise_unique κs a r₁ r₂ s₁ s₂ p q = p ∙ sym q

pub operation_of_unique : (a : _) (r₁ r₂ : Option Operation) (s₁ s₂ : _) → operation-of.Post (tt {0}) a r₁ s₁ → operation-of.Post (tt {0}) a r₂ s₂ → r₁ ≡ r₂
operation_of_unique a r₁ r₂ s₁ s₂ p q = p ∙ sym q
