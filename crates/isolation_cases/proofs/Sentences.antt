-- The sentences of the view by name, what it is for one of them to be needed, and states that differ in one place.
use Prim.Native.Nat.{ℕ}
use mathlib.Core.Path.{◌≡◌, refl, sym}
use mathlib.Core.Logic.{◌≢◌, ◌↔◌}
use mathlib.Core.Bool.{false}
use Rattle.userspace.specs.declared.KernelObject.{KernelObject}
use Rattle.bits.specs.Bit.{is_set}
use Rattle.userspace.specs.Userspace.{initialised, public}
use Rattle.tables.specs.State.{State, object, thread, domain}
use Rattle.rules.specs.Rules.{Keeps}
use Rattle.decoding.specs.declared.Call.{Call}
use Rattle.judging.specs.Judge.{supervisor, judge}
use Rattle.call_laws.proofs.Changes.{OneObject}
use Rattle.isolation.specs.View.{bit_at, SameTypes, SamePublics, SameLives, SameHandles, SameRecord, SameBits, SameInits, SameSlots, Agree}
use Rattle.isolation.proofs.Step.{one_field, same_threads}

pub data Sentence : Type 0 where
  types publics lives handles own bits inits slots : Sentence

unfoldable pub Says : Sentence → State → State → ℕ → Type 0
Says types s₁ s₂ t = SameTypes s₁ s₂
Says publics s₁ s₂ t = SamePublics s₁ s₂
Says lives s₁ s₂ t = SameLives s₁ s₂
Says handles s₁ s₂ t = SameHandles s₁ s₂
Says own s₁ s₂ t = SameRecord s₁ s₂ t
Says bits s₁ s₂ t = SameBits s₁ s₂ t
Says inits s₁ s₂ t = SameInits s₁ s₂ t
Says slots s₁ s₂ t = SameSlots s₁ s₂ t

-- they are the whole view
pub agree_says : (s₁ s₂ : State) (t : ℕ) → Agree s₁ s₂ t ↔ ((y : Sentence) → Says y s₁ s₂ t)
unfolding Says
agree_says s₁ s₂ t = (there, back)
  where
    there : Agree s₁ s₂ t → (y : Sentence) → Says y s₁ s₂ t
    there g types = g.types
    there g publics = g.publics
    there g lives = g.lives
    there g handles = g.handles
    there g own = g.own
    there g bits = g.bits
    there g inits = g.inits
    there g slots = g.slots

    back : ((y : Sentence) → Says y s₁ s₂ t) → Agree s₁ s₂ t
    back f =
        record { types = f types; publics = f publics; lives = f lives; handles = f handles; own = f own; bits = f bits; inits = f inits; slots = f slots }

-- two states that keep the rules, alike to an unprivileged thread in every sentence but x, and a call by it that is answered differently
pub record Needed (x : Sentence) : Type 0 where
  pub first : State
  pub second : State
  pub who : ℕ
  pub call : Call
  pub first_keeps : Keeps first
  pub second_keeps : Keeps second
  pub user : supervisor first who ≡ false
  pub caller : call.caller ≡ who
  pub others : (y : Sentence) → y ≢ x → Says y first second who
  pub differs : (judge first call).code ≢ (judge second call).code

-- ---- states that differ in one place

-- a sentence is kept where it is another than x; what x itself says is not asked
abbrev pub Unless : Sentence → Sentence → Type 0 → Type 0
Unless x y P = y ≢ x → P

-- one object
pub object_differs :
    (x : Sentence) {s s' : State} {h : ℕ} {R : KernelObject → KernelObject → Type 0} (t : ℕ) → OneObject s s' h R →
    Unless x types ((object s' h).obj_type ≡ (object s h).obj_type) → Unless x publics (public (object s' h) ≡ public (object s h)) →
    Unless x bits (bit_at s' h t ≡ bit_at s h t) → Unless x inits (initialised (object s' h) ≡ initialised (object s h)) →
    (y : Sentence) → y ≢ x → Says y s s' t
unfolding Says domain
object_differs x {s} {s'} t r k p b i types n = λ a. sym (one_field (λ o. o.obj_type) r (k n) a)
object_differs x {s} {s'} t r k p b i publics n = λ a. sym (one_field public r (p n) a)
object_differs x {s} {s'} t r k p b i lives n = λ u. rw (same_threads s s' r.threads u)
object_differs x {s} {s'} t r k p b i handles n = λ u _. rw (same_threads s s' r.threads u)
object_differs x {s} {s'} t r k p b i own n = sym (same_threads s s' r.threads t)
object_differs x {s} {s'} t r k p b i bits n = λ a. sym (one_field (λ o. is_set o.word t) r (b n) a)
object_differs x {s} {s'} t r k p b i inits n = λ a _. sym (one_field initialised r (i n) a)
object_differs x {s} {s'} t r k p b i slots n = λ _. rw (same_threads s s' r.threads t, r.domains)

-- threads alone
pub threads_differ :
    (x : Sentence) (s s' : State) (t : ℕ) → s'.objects ≡ s.objects → s'.domains ≡ s.domains → (thread s' t).domain ≡ (thread s t).domain →
    Unless x lives (SameLives s s') → Unless x handles (SameHandles s s') → Unless x own (SameRecord s s' t) →
    (y : Sentence) → y ≢ x → Says y s s' t
unfolding Says object domain
threads_differ x s s' t o d m l h w types n = λ a. rw o
threads_differ x s s' t o d m l h w publics n = λ a. rw o
threads_differ x s s' t o d m l h w lives n = l n
threads_differ x s s' t o d m l h w handles n = h n
threads_differ x s s' t o d m l h w own n = w n
threads_differ x s s' t o d m l h w bits n = λ a. rw o
threads_differ x s s' t o d m l h w inits n = λ a _. rw o
threads_differ x s s' t o d m l h w slots n = λ _. rw (m, d)

-- domains alone
pub domains_differ : (s s' : State) (t : ℕ) → s'.objects ≡ s.objects → s'.threads ≡ s.threads → (y : Sentence) → y ≢ slots → Says y s s' t
unfolding Says object
domains_differ s s' t o h types n = λ a. rw o
domains_differ s s' t o h publics n = λ a. rw o
domains_differ s s' t o h lives n = λ u. rw (same_threads s s' h u)
domains_differ s s' t o h handles n = λ u _. rw (same_threads s s' h u)
domains_differ s s' t o h own n = sym (same_threads s s' h t)
domains_differ s s' t o h bits n = λ a. rw o
domains_differ s s' t o h inits n = λ a _. rw o
domains_differ s s' t o h slots n = absurd (n refl)
