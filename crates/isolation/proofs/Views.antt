-- Agreement on a view is an equivalence, and what carries it from two states to the two that follow.
use Prim.Native.Nat.{ℕ}
use mathlib.Core.Path.{◌≡◌, refl, sym, ap, ◌∙◌}
use mathlib.Core.Logic.{◌≢◌}
use mathlib.Core.Bool.{true, false, false≢true}
use Rattle.userspace.specs.Userspace.{holds, access, initialised, public}
use Rattle.tables.specs.Table.{nobody}
use Rattle.tables.specs.State.{State, object, thread, domain}
use Rattle.rules.specs.Rules.{is_live, is_supervisor}
use Rattle.judging.specs.Judge.{live, supervisor, may_use}
use Rattle.isolation.specs.View.{bit_at, SameBits, Agree}
use Rattle.isolation.proofs.Step.{Fixed, fixed_refl}

-- ---- access goes by the role, the public flag and the bit

pub access_by : (s₁ s₂ : State) (t h : ℕ) → (thread s₁ t).role ≡ (thread s₂ t).role → public (object s₁ h) ≡ public (object s₂ h) → bit_at s₁ h t ≡ bit_at s₂ h t
    → may_use s₁ t h ≡ may_use s₂ t h
unfolding access holds
access_by s₁ s₂ t h r p b = rw (r, p, b)

pub same_access : {s₁ s₂ : State} {t : ℕ} → Agree s₁ s₂ t → (h : ℕ) → may_use s₁ t h ≡ may_use s₂ t h
same_access {s₁} {s₂} {t} g h = access_by s₁ s₂ t h (ap (λ r. r.role) g.own) (g.publics h) (g.bits h)

pub same_supervisor : {s₁ s₂ : State} {t : ℕ} → Agree s₁ s₂ t → supervisor s₁ t ≡ supervisor s₂ t
same_supervisor g = ap is_supervisor g.own

-- ---- an equivalence

pub agree_refl : (s : State) (t : ℕ) → Agree s s t
agree_refl s t =
    record { types = λ h. refl; publics = λ h. refl; lives = λ u. refl; handles = λ u _. refl; own = refl; bits = λ h. refl; inits = λ h _. refl; slots = λ _. refl }

pub agree_sym : {s₁ s₂ : State} {t : ℕ} → Agree s₁ s₂ t → Agree s₂ s₁ t
agree_sym {s₁} {s₂} {t} g =
    record {
      types = λ h. sym (g.types h);
      publics = λ h. sym (g.publics h);
      lives = λ u. sym (g.lives u);
      handles = λ u l. sym (g.handles u (g.lives u ∙ l));
      own = sym g.own;
      bits = λ h. sym (g.bits h);
      inits = λ h a. sym (g.inits h (same_access g h ∙ a));
      slots = λ l. sym (g.slots (g.lives t ∙ l));
    }

pub agree_trans : {s₁ s₂ s₃ : State} {t : ℕ} → Agree s₁ s₂ t → Agree s₂ s₃ t → Agree s₁ s₃ t
agree_trans {s₁} {s₂} {s₃} {t} g k =
    record {
      types = λ h. g.types h ∙ k.types h;
      publics = λ h. g.publics h ∙ k.publics h;
      lives = λ u. g.lives u ∙ k.lives u;
      handles = λ u l. g.handles u l ∙ k.handles u (sym (g.lives u) ∙ l);
      own = g.own ∙ k.own;
      bits = λ h. g.bits h ∙ k.bits h;
      inits = λ h a. g.inits h a ∙ k.inits h (sym (same_access g h) ∙ a);
      slots = λ l. g.slots l ∙ k.slots (sym (g.lives t) ∙ l);
    }

-- ---- two states and the two that follow

-- thread u is what it was in both, or dead in both
pub data Fate (s₁ s₁' s₂ s₂' : State) (u : ℕ) : Type 0 where
  stays : thread s₁' u ≡ thread s₁ u → thread s₂' u ≡ thread s₂ u → Fate s₁ s₁' s₂ s₂' u
  dies : thread s₁' u ≡ nobody → thread s₂' u ≡ nobody → Fate s₁ s₁' s₂ s₂' u

module _ {s₁ s₁' s₂ s₂' : State} {t : ℕ} (f₁ : Fixed s₁ s₁') (f₂ : Fixed s₂ s₂') (g : Agree s₁ s₂ t) (fate : (u : ℕ) → Fate s₁ s₁' s₂ s₂' u) where
  fate_lives : (u : ℕ) → Fate s₁ s₁' s₂ s₂' u → live s₁' u ≡ live s₂' u
  fate_lives u (stays p q) = ap is_live p ∙ g.lives u ∙ sym (ap is_live q)
  fate_lives u (dies p q) = ap is_live p ∙ sym (ap is_live q)

  fate_handles : (u : ℕ) → Fate s₁ s₁' s₂ s₂' u → live s₁' u ≡ true → (thread s₁' u).handle ≡ (thread s₂' u).handle
  fate_handles u (stays p q) l = ap (λ r. r.handle) p ∙ g.handles u (sym (ap is_live p) ∙ l) ∙ sym (ap (λ r. r.handle) q)
  fate_handles u (dies p q) l = ap (λ r. r.handle) (p ∙ sym q)

  fate_own : Fate s₁ s₁' s₂ s₂' t → thread s₁' t ≡ thread s₂' t
  fate_own (stays p q) = p ∙ g.own ∙ sym q
  fate_own (dies p q) = p ∙ sym q

  fate_slots : Fate s₁ s₁' s₂ s₂' t → live s₁' t ≡ true → domain s₁' (thread s₁' t).domain ≡ domain s₂' (thread s₂' t).domain
  fate_slots (stays p q) l = rw (p, q, f₁.domains (thread s₁ t).domain, f₂.domains (thread s₂ t).domain) (g.slots (sym (ap is_live p) ∙ l))
  fate_slots (dies p q) l = absurd (false≢true (sym (ap is_live p) ∙ l))

  pub agree_next : SameBits s₁' s₂' t → ((h : ℕ) → may_use s₁' t h ≡ true → initialised (object s₁ h) ≡ initialised (object s₂ h)) → Agree s₁' s₂' t
  agree_next bits inits =
      record {
        types = λ h. f₁.kinds h ∙ g.types h ∙ sym (f₂.kinds h);
        publics = λ h. rw (f₁.flags h, f₂.flags h) (g.publics h);
        lives = λ u. fate_lives u (fate u);
        handles = λ u l. fate_handles u (fate u) l;
        own = fate_own (fate t);
        bits = bits;
        inits = λ h a. rw (f₁.flags h, f₂.flags h) (inits h a);
        slots = λ l. fate_slots (fate t) l;
      }

-- one state and the one that follows, nothing changed but what t does not see
pub agree_kept : {s s' : State} {t : ℕ} → Fixed s s' → ((u : ℕ) → thread s' u ≡ thread s u) → SameBits s s' t → Agree s s' t
agree_kept {s} {s'} {t} f p b = agree_next (fixed_refl s) f (agree_refl s t) (λ u. stays refl (p u)) b (λ h _. refl)
