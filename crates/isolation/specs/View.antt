-- A thread's view: docs/SPEC.md, 8.2 to 8.10, and what another's call may change of it, 8.14 and 8.15.
-- For each sentence of SPEC 8.3 to 8.10 a definition says that two states are alike there; two states agree on the view when all do.
use Rattle.std.specs.Prelude.{ℕ, ◌≡◌, ◌≢◌, Bool, true, false}
use Rattle.bits.specs.Bit.{is_set}
use Rattle.userspace.specs.Userspace.{initialised, public}
use Rattle.tables.specs.State.{State, object, thread, domain}
use Rattle.judging.specs.Judge.{live, type_of, may_use}

-- thread t's bit on object h
abbrev pub bit_at : State → ℕ → ℕ → Bool
bit_at s h t = is_set (object s h).word t

-- ---- the sentences, in SPEC's order (8.3 to 8.10)

abbrev pub SameTypes : State → State → Type 0
SameTypes s₁ s₂ = (h : ℕ) → type_of s₁ h ≡ type_of s₂ h

abbrev pub SamePublics : State → State → Type 0
SamePublics s₁ s₂ = (h : ℕ) → public (object s₁ h) ≡ public (object s₂ h)

abbrev pub SameLives : State → State → Type 0
SameLives s₁ s₂ = (u : ℕ) → live s₁ u ≡ live s₂ u

abbrev pub SameHandles : State → State → Type 0
SameHandles s₁ s₂ = (u : ℕ) → live s₁ u ≡ true → (thread s₁ u).handle ≡ (thread s₂ u).handle

abbrev pub SameRecord : State → State → ℕ → Type 0
SameRecord s₁ s₂ t = thread s₁ t ≡ thread s₂ t

abbrev pub SameBits : State → State → ℕ → Type 0
SameBits s₁ s₂ t = (h : ℕ) → bit_at s₁ h t ≡ bit_at s₂ h t

abbrev pub SameInits : State → State → ℕ → Type 0
SameInits s₁ s₂ t = (h : ℕ) → may_use s₁ t h ≡ true → initialised (object s₁ h) ≡ initialised (object s₂ h)

-- a dead thread has no domain to see
abbrev pub SameSlots : State → State → ℕ → Type 0
SameSlots s₁ s₂ t = live s₁ t ≡ true → domain s₁ (thread s₁ t).domain ≡ domain s₂ (thread s₂ t).domain

-- ---- the view of thread t

pub record Agree (s₁ s₂ : State) (t : ℕ) : Type 0 where
  pub types : SameTypes s₁ s₂
  pub publics : SamePublics s₁ s₂
  pub lives : SameLives s₁ s₂
  pub handles : SameHandles s₁ s₂
  pub own : SameRecord s₁ s₂ t
  pub bits : SameBits s₁ s₂ t
  pub inits : SameInits s₁ s₂ t
  pub slots : SameSlots s₁ s₂ t

-- ---- what a call by another may change of it

-- a grant of object a to t: t's bit on it is set, so that t can access it and its initialised flag comes into view; all else is as it was
pub record GivenOf (s s' : State) (a t : ℕ) : Type 0 where
  pub types : SameTypes s s'
  pub publics : SamePublics s s'
  pub lives : SameLives s s'
  pub handles : SameHandles s s'
  pub own : SameRecord s s' t
  pub slots : SameSlots s s' t
  pub bit : bit_at s' a t ≡ true
  pub bits : (h : ℕ) → h ≢ a → bit_at s h t ≡ bit_at s' h t
  pub opens : may_use s' t a ≡ true
  pub access : (h : ℕ) → h ≢ a → may_use s t h ≡ may_use s' t h
  pub inits : (h : ℕ) → initialised (object s h) ≡ initialised (object s' h)

-- the exit of u: u is dead, and has no handle to see; all else is as it was
pub record GoneOf (s s' : State) (u t : ℕ) : Type 0 where
  pub types : SameTypes s s'
  pub publics : SamePublics s s'
  pub own : SameRecord s s' t
  pub bits : SameBits s s' t
  pub inits : SameInits s s' t
  pub slots : SameSlots s s' t
  pub dead : live s' u ≡ false
  pub lives : (v : ℕ) → v ≢ u → live s v ≡ live s' v
  pub handles : (v : ℕ) → v ≢ u → live s v ≡ true → (thread s v).handle ≡ (thread s' v).handle
