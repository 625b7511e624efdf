-- Two answers that meet a function's own contract are equal.
use mathlib.Core.Path.{◌≡◌, sym, ◌∙◌}
use mathlib.Core.Bool.{Bool}
use Rattle.domain_rules.proofs.attr_ok.Reads as attr-ok
use Rattle.domain_rules.proofs.slot_ok.Reads as slot-ok
use Rattle.domain_rules.proofs.is_apart.Reads as is-apart
use Rattle.domain_rules.proofs.slots_sound.Reads as slots-sound
use Rattle.domain_rules.proofs.is_sound.Reads as is-sound
use Rattle.domain_rules.proofs.MemDomainSlots.slot.Reads as slot
use Rattle.mem_partition.specs.declared.MemPartition.{MemPartition}

pub is_sound_unique : (a : _) (r₁ r₂ : Bool) (s₁ s₂ : _) → is-sound.Post (tt {0}) a r₁ s₁ → is-sound.Post (tt {0}) a r₂ s₂ → r₁ ≡ r₂
is_sound_unique a r₁ r₂ s₁ s₂ p q = p ∙ sym q

pub attr_ok_unique : (a : _) (r₁ r₂ : Bool) (s₁ s₂ : _) → attr-ok.Post (tt {0}) a r₁ s₁ → attr-ok.Post (tt {0}) a r₂ s₂ → r₁ ≡ r₂
attr_ok_unique a r₁ r₂ s₁ s₂ p q = p ∙ sym q

pub slot_ok_unique : (a : _) (r₁ r₂ : Bool) (s₁ s₂ : _) → slot-ok.Post (tt {0}) a r₁ s₁ → slot-ok.Post (tt {0}) a r₂ s₂ → r₁ ≡ r₂
slot_ok_unique a r₁ r₂ s₁ s₂ p q = p ∙ sym q

pub is_apart_unique : (a : _) (r₁ r₂ : Bool) (s₁ s₂ : _) → is-apart.Post (tt {0}) a r₁ s₁ → is-apart.Post (tt {0}) a r₂ s₂ → r₁ ≡ r₂
is_apart_unique a r₁ r₂ s₁ s₂ p q = p ∙ sym q

pub slots_sound_unique :
    (g l m n : _) (κs : _) (a : _) (r₁ r₂ : Bool) (s₁ s₂ : _) → slots-sound.Post g l m n κs a r₁ s₁ → slots-sound.Post g l m n κs a r₂ s₂ → r₁ ≡ r₂
slots_sound_unique g l m n κs a r₁ r₂ s₁ s₂ p q = p ∙ sym q

pub slot_unique : (κs : _) (a : _) (r₁ r₂ : MemPartition) (s₁ s₂ : _) → slot.Post κs a r₁ s₁ → slot.Post κs a r₂ s₂ → r₁ ≡ r₂
slot_unique κs a r₁ r₂ s₁ s₂ p q = p ∙ sym q
