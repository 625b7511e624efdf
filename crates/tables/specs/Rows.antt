-- A run of numbers stored from a place on (`sets` of std): what stands in it, what stays outside it, and that two runs apart from each other
-- may be stored in either order. Every record of the tables is such a run, so a field that is added later costs nothing here.
use Rattle.std.specs.Prelude.{ℕ, zero, suc, ◌+◌, ◌*◌, ◌≤◌, ◌<◌, ◌≡◌, refl, ◌≢◌, ◌⊎◌, List, [], ◌∷◌, length, get_or, set}
use Rattle.std.proofs.Common.{le_of_suc-le-suc, not-suc-le-zero, ap, ◌∙◌, inl, inr, ⊎_elim, arith, length-set, get_or-set_same, get_or-set_other}
use Rattle.std.proofs.Math.Decide.{dec_lt}
use Rattle.std.proofs.Math.ListN.{get_or-eq_default}
use Rattle.std.proofs.lemmas.List.Edits.{sets}
use Rattle.std.proofs.lemmas.List.{set_comm}

-- a place outside the run from i on, n long
abbrev pub Outside : ℕ → ℕ → ℕ → Type 0
Outside i n j = (j < i) ⊎ (i + n ≤ j)

later : (i n j : ℕ) → Outside i (suc n) j → Outside (suc i) n j
later i n j (inl h) = inl (omega arith)
later i n j (inr h) = inr (omega arith)

pub get_d_sets_out : (vs l : List ℕ) (i j : ℕ) → Outside i (length vs) j → get_or (sets l i vs) j 0 ≡ get_or l j 0
get_d_sets_out [] l i j o = refl
get_d_sets_out (v ∷ vs) l i j o =
    get_d_sets_out vs (set l i v) (suc i) j (later i (length vs) j o)
    ∙ get_or-set_other l i j v 0 (λ e. ⊎_elim (λ h. omega arith) (λ h. omega arith) o)

pub get_d_sets_in : (vs l : List ℕ) (i k : ℕ) → k < length vs → i + k < length l → get_or (sets l i vs) (i + k) 0 ≡ get_or vs k 0
get_d_sets_in [] l i k h g = absurd (not-suc-le-zero h)
get_d_sets_in (v ∷ vs) l i zero h g =
    ap (λ n. get_or (sets (set l i v) (suc i) vs) n 0) (omega arith)
    ∙ get_d_sets_out vs (set l i v) (suc i) i (inl (omega arith))
    ∙ get_or-set_same l i v 0 (omega arith)
get_d_sets_in (v ∷ vs) l i (suc k) h g =
    ap (λ n. get_or (sets (set l i v) (suc i) vs) n 0) (omega arith)
    ∙ get_d_sets_in vs (set l i v) (suc i) k (le_of_suc-le-suc h) (rw (length-set l i v) (omega arith))

-- the same, at a place that is written otherwise
pub get_d_sets_at : (vs l : List ℕ) (i k j : ℕ) → j ≡ i + k → k < length vs → j < length l → get_or (sets l i vs) j 0 ≡ get_or vs k 0
get_d_sets_at vs l i k j e h g = rw e (get_d_sets_in vs l i k h (rw (← e) g))

-- one store passes a run that it stands outside of
pub sets_set : (vs l : List ℕ) (i j v : ℕ) → Outside i (length vs) j → set (sets l i vs) j v ≡ sets (set l j v) i vs
sets_set [] l i j v o = refl
sets_set (x ∷ vs) l i j v o =
    sets_set vs (set l i x) (suc i) j v (later i (length vs) j o)
    ∙ ap (λ m. sets m (suc i) vs) (set_comm l i j x v (λ e. ⊎_elim (λ h. omega arith) (λ h. omega arith) o))

-- two runs that are apart
abbrev pub Apart : ℕ → ℕ → ℕ → ℕ → Type 0
Apart i n j m = (i + n ≤ j) ⊎ (j + m ≤ i)

shorter : (i n j m : ℕ) → Apart i n j (suc m) → Apart i n (suc j) m
shorter i n j m (inl h) = inl (omega arith)
shorter i n j m (inr h) = inr (omega arith)

first_out : (i n j m : ℕ) → Apart i n j (suc m) → Outside i n j
first_out i n j m (inl h) = inr (omega arith)
first_out i n j m (inr h) = inl (omega arith)

pub sets_comm : (vs ws l : List ℕ) (i j : ℕ) → Apart i (length vs) j (length ws) → sets (sets l i vs) j ws ≡ sets (sets l j ws) i vs
sets_comm vs [] l i j o = refl
sets_comm vs (w ∷ ws) l i j o =
    ap (λ m. sets m (suc j) ws) (sets_set vs l i j w (first_out i (length vs) j (length ws) o))
    ∙ sets_comm vs ws (set l j w) i (suc j) (shorter i (length vs) j (length ws) o)

-- the code counts up by adding
pub add_two : (i : ℕ) → i + 2 ≡ suc (suc i)
add_two i = omega arith

-- ---- records of two and of three numbers, one behind the other

-- record i, made of its numbers
abbrev pub at2 : {A : Type 0} → (ℕ → ℕ → A) → List ℕ → ℕ → A
at2 f xs i = f (get_or xs (2 * i) 0) (get_or xs (2 * i + 1) 0)

abbrev pub at3 : {A : Type 0} → (ℕ → ℕ → ℕ → A) → List ℕ → ℕ → A
at3 f xs i = f (get_or xs (3 * i) 0) (get_or xs (3 * i + 1) 0) (get_or xs (3 * i + 2) 0)

-- three numbers, one behind the other
abbrev pub row_of : ℕ → ℕ → ℕ → List ℕ
row_of a b c = a ∷ b ∷ c ∷ []

-- records at different places are apart
pub apart_2 : (i j : ℕ) → i ≢ j → Apart (2 * i) 2 (2 * j) 2
apart_2 i j ne = go (dec_lt i j)
  where
    go : Dec (i < j) → Apart (2 * i) 2 (2 * j) 2
    go (yes h) = inl (omega arith)
    go (no f) = inr (omega arith)

pub apart_3 : (i j : ℕ) → i ≢ j → Apart (3 * i) 3 (3 * j) 3
apart_3 i j ne = go (dec_lt i j)
  where
    go : Dec (i < j) → Apart (3 * i) 3 (3 * j) 3
    go (yes h) = inl (omega arith)
    go (no f) = inr (omega arith)

-- number k of one run stands outside another of the same length
outside : {n : ℕ} (i j k : ℕ) → k < n → Apart i n j n → Outside i n (j + k)
outside i j k h (inl a) = inr (omega arith)
outside i j k h (inr a) = inl (omega arith)

outside_0 : {n : ℕ} (i j : ℕ) → 0 < n → Apart i n j n → Outside i n j
outside_0 i j h (inl a) = inr (omega arith)
outside_0 i j h (inr a) = inl (omega arith)

module _ {A : Type 0} (f : ℕ → ℕ → A) (xs : List ℕ) (i : ℕ) where
  pub at2_same : (a b : ℕ) → 2 * i + 1 < length xs → at2 f (sets xs (2 * i) (a ∷ b ∷ [])) i ≡ f a b
  at2_same a b l =
      rw (
        get_d_sets_at (a ∷ b ∷ []) xs (2 * i) 0 (2 * i) (omega arith) (omega arith) (omega arith),
        get_d_sets_at (a ∷ b ∷ []) xs (2 * i) 1 (2 * i + 1) refl (omega arith) l,
      )

  pub at2_other : (j a b : ℕ) → j ≢ i → at2 f (sets xs (2 * j) (a ∷ b ∷ [])) i ≡ at2 f xs i
  at2_other j a b ne =
      let p : Apart (2 * j) 2 (2 * i) 2 = apart_2 j i ne in
      rw (
        get_d_sets_out (a ∷ b ∷ []) xs (2 * j) (2 * i) (outside_0 (2 * j) (2 * i) (omega arith) p),
        get_d_sets_out (a ∷ b ∷ []) xs (2 * j) (2 * i + 1) (outside (2 * j) (2 * i) 1 (omega arith) p),
      )

  pub at2_out : length xs ≤ 2 * i → at2 f xs i ≡ f 0 0
  at2_out l = rw (get_or-eq_default xs 0 l, get_or-eq_default xs 0 {n = 2 * i + 1} (omega arith))

module _ {A : Type 0} (f : ℕ → ℕ → ℕ → A) (xs : List ℕ) (i : ℕ) where
  pub at3_same : (a b c : ℕ) → 3 * i + 2 < length xs → at3 f (sets xs (3 * i) (a ∷ b ∷ c ∷ [])) i ≡ f a b c
  at3_same a b c l =
      rw (
        get_d_sets_at (a ∷ b ∷ c ∷ []) xs (3 * i) 0 (3 * i) (omega arith) (omega arith) (omega arith),
        get_d_sets_at (a ∷ b ∷ c ∷ []) xs (3 * i) 1 (3 * i + 1) refl (omega arith) (omega arith),
        get_d_sets_at (a ∷ b ∷ c ∷ []) xs (3 * i) 2 (3 * i + 2) refl (omega arith) l,
      )

  pub at3_other : (j a b c : ℕ) → j ≢ i → at3 f (sets xs (3 * j) (a ∷ b ∷ c ∷ [])) i ≡ at3 f xs i
  at3_other j a b c ne =
      let p : Apart (3 * j) 3 (3 * i) 3 = apart_3 j i ne in
      rw (
        get_d_sets_out (a ∷ b ∷ c ∷ []) xs (3 * j) (3 * i) (outside_0 (3 * j) (3 * i) (omega arith) p),
        get_d_sets_out (a ∷ b ∷ c ∷ []) xs (3 * j) (3 * i + 1) (outside (3 * j) (3 * i) 1 (omega arith) p),
        get_d_sets_out (a ∷ b ∷ c ∷ []) xs (3 * j) (3 * i + 2) (outside (3 * j) (3 * i) 2 (omega arith) p),
      )

  pub at3_out : length xs ≤ 3 * i → at3 f xs i ≡ f 0 0 0
  at3_out l =
      rw (
        get_or-eq_default xs 0 l,
        get_or-eq_default xs 0 {n = 3 * i + 1} (omega arith),
        get_or-eq_default xs 0 {n = 3 * i + 2} (omega arith),
      )

-- without the first record, record i + 1 is record i
pub at2_skip : {A : Type 0} (f : ℕ → ℕ → A) (a b : ℕ) (xs : List ℕ) (i : ℕ) → at2 f (a ∷ b ∷ xs) (suc i) ≡ at2 f xs i
at2_skip f a b xs i =
    let p : 2 * suc i ≡ suc (suc (2 * i)) = omega arith in
    let q : suc (suc (2 * i)) + 1 ≡ suc (suc (2 * i + 1)) = omega arith in
    rw (p, q)

pub at3_skip : {A : Type 0} (f : ℕ → ℕ → ℕ → A) (a b c : ℕ) (xs : List ℕ) (i : ℕ) → at3 f (a ∷ b ∷ c ∷ xs) (suc i) ≡ at3 f xs i
at3_skip f a b c xs i =
    let p : 3 * suc i ≡ suc (suc (suc (3 * i))) = omega arith in
    let q : suc (suc (suc (3 * i))) + 1 ≡ suc (suc (suc (3 * i + 1))) = omega arith in
    let r : suc (suc (suc (3 * i))) + 2 ≡ suc (suc (suc (3 * i + 2))) = omega arith in
    rw (p, q, r)
