-- What a change does to a list: none leaves it, one i f puts f of record i at i and leaves every other, each f goes through all. A statement about
-- each place of the list is carried over by showing it of what is new.
use Prim.Native.Nat.{ℕ, ◌<◌}
use native.Mathlib.Decide.{dec_lt, ℕ_discrete}
use native.Mathlib.Omega.{arith}
use mathlib.Core.Path.{◌≡◌, refl, sym, ap, ◌∙◌}
use mathlib.Core.Logic.{◌≢◌}
use mathlib.Core.List.{List, map}
use lib.ListN.{length, get_or, set, length-set, length-map, get_or-map}
use lib.Seq.{get_or-set_same, get_or-set_other, set_out}
use Rattle.judging.specs.Change.{Change, none, one, each, enact}

module _ {A : Type 0} (z : A) where
  pub enact_none : (l : List A) → enact z none l ≡ l
  unfolding enact
  enact_none l = refl

  pub enact_length : (k : Change A) (l : List A) → length (enact z k l) ≡ length l
  unfolding enact
  enact_length none l = refl
  enact_length (one i f) l = length-set l i (f (get_or l i z))
  enact_length (each f) l = length-map l f

  module _ (f : A → A) (l : List A) where
    pub one_same : (i : ℕ) → i < length l → get_or (enact z (one i f) l) i z ≡ f (get_or l i z)
    unfolding enact
    one_same i h = get_or-set_same l i (f (get_or l i z)) z h

    pub one_other : (i j : ℕ) → j ≢ i → get_or (enact z (one i f) l) j z ≡ get_or l j z
    unfolding enact
    one_other i j n = get_or-set_other l i j (f (get_or l i z)) z n

    pub each_at : f z ≡ z → (j : ℕ) → get_or (enact z (each f) l) j z ≡ f (get_or l j z)
    unfolding enact
    each_at e j = ap (get_or (map f l) j) (sym e) ∙ get_or-map f l j z

    -- what holds of every place holds again once it holds of what is new
    module _ (P : ℕ → A → Type 0) (old : (j : ℕ) → P j (get_or l j z)) where
      pub one_keeps : (i : ℕ) → P i (f (get_or l i z)) → (j : ℕ) → P j (get_or (enact z (one i f) l) j z)
      unfolding enact
      one_keeps i p j = go (ℕ_discrete j i) (dec_lt i (length l))
        where
          go : Dec (j ≡ i) → Dec (i < length l) → P j (get_or (set l i (f (get_or l i z))) j z)
          go (no n) d = rw (get_or-set_other l i j (f (get_or l i z)) z n) (old j)
          go (yes e) (yes h) = rw (e, get_or-set_same l i (f (get_or l i z)) z h) p
          go (yes e) (no h) = rw (set_out l i (f (get_or l i z)) (omega arith)) (old j)

      pub each_keeps : f z ≡ z → ((j : ℕ) → P j (f (get_or l j z))) → (j : ℕ) → P j (get_or (enact z (each f) l) j z)
      each_keeps e p j = rw (each_at e j) (p j)
