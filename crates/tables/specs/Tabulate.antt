-- The list of f 0 .. f (n - 1): how a table of records is read off a table of numbers. Assumes nothing.
use Prim.Native.Nat.{ℕ, zero, suc, ◌+◌, ◌*◌, ◌≤◌, ◌<◌, suc-le-suc}
use Rattle.std.proofs.Common.{le_of_suc-le-suc, not-suc-le-zero, zero-lt-suc, zero-add, suc-add, add_comm, mul-zero, mul-suc, sym, ◌∙◌, arith, length-set, ext_get_or, get_or-set_same, get_or-set_other}
use Rattle.std.proofs.Math.Decide.{ℕ_discrete}
use Rattle.std.specs.Prelude.{◌≡◌, ◌≢◌, length, get_or, set}
use Rattle.std.proofs.Math.Path.{refl, ap}
use mathlib.Core.List.{List, [], ◌∷◌, ◌++◌}
use Rattle.std.proofs.Math.ListN.{get_or-eq_default}

module _ {A : Type 0} where
  unfoldable pub tabulate : ℕ → (ℕ → A) → List A
  tabulate zero f = []
  tabulate (suc n) f = f 0 ∷ tabulate n (λ k. f (suc k))

  pub length_tabulate : (n : ℕ) (f : ℕ → A) → length (tabulate n f) ≡ n
  unfolding tabulate
  length_tabulate zero f = refl
  length_tabulate (suc n) f = ap suc (length_tabulate n (λ k. f (suc k)))

  pub get_d_tabulate : (n : ℕ) (f : ℕ → A) (k : ℕ) (d : A) → k < n → get_or (tabulate n f) k d ≡ f k
  unfolding tabulate
  get_d_tabulate zero f k d h = absurd (not-suc-le-zero h)
  get_d_tabulate (suc n) f zero d h = refl
  get_d_tabulate (suc n) f (suc k) d h = get_d_tabulate n (λ j. f (suc j)) k d (le_of_suc-le-suc h)

  -- behind the end stands the default
  pub get_d_tabulate_out : (n : ℕ) (f : ℕ → A) (k : ℕ) (d : A) → n ≤ k → get_or (tabulate n f) k d ≡ d
  get_d_tabulate_out n f k d h = get_or-eq_default (tabulate n f) d (rw (length_tabulate n f) h)

  -- two tables that agree below n are equal
  pub tabulate_ext : (n : ℕ) (f g : ℕ → A) → ((k : ℕ) → k < n → f k ≡ g k) → tabulate n f ≡ tabulate n g
  unfolding tabulate
  tabulate_ext zero f g e = refl
  tabulate_ext (suc n) f g e =
      ap (λ x. x ∷ tabulate n (λ k. f (suc k))) (e 0 (zero-lt-suc n))
      ∙ ap (λ l. g 0 ∷ l) (tabulate_ext n (λ k. f (suc k)) (λ k. g (suc k)) (λ k h. e (suc k) (suc-le-suc h)))

  -- a list is the table of its elements
  pub tabulate_get_d : (l : List A) (d : A) → tabulate (length l) (λ k. get_or l k d) ≡ l
  unfolding tabulate
  tabulate_get_d [] d = refl
  tabulate_get_d (x ∷ l) d = ap (λ r. x ∷ r) (tabulate_get_d l d)

  -- a table that differs at one place is the other with that place set
  pub tabulate_set : (n : ℕ) (f g : ℕ → A) (i : ℕ) (d : A) → ((k : ℕ) → k < n → k ≢ i → g k ≡ f k) → tabulate n g ≡ set (tabulate n f) i (g i)
  tabulate_set n f g i d e =
      ext_get_or d (tabulate n g) (set (tabulate n f) i (g i)) (length_tabulate n g ∙ sym (length-set (tabulate n f) i (g i) ∙ length_tabulate n f)) each
    where
      go : (k : ℕ) → k < n → Dec (k ≡ i) → get_or (tabulate n g) k d ≡ get_or (set (tabulate n f) i (g i)) k d
      go k h (yes p) =
          get_d_tabulate n g k d h
          ∙ ap g p
          ∙ sym (ap (λ j. get_or (set (tabulate n f) i (g i)) j d) p ∙ get_or-set_same (tabulate n f) i (g i) d (rw (length_tabulate n f, ← p) h))
      go k h (no p) =
          get_d_tabulate n g k d h ∙ e k h p ∙ sym (get_or-set_other (tabulate n f) i k (g i) d p ∙ get_d_tabulate n f k d h)

      each : (k : ℕ) → k < length (tabulate n g) → get_or (tabulate n g) k d ≡ get_or (set (tabulate n f) i (g i)) k d
      each k h = go k (rw (length_tabulate n g) at h) (ℕ_discrete k i)

  -- n rows of m are one table
  pub tabulate_add : (n m : ℕ) (f : ℕ → A) → tabulate (n + m) f ≡ tabulate n f ++ tabulate m (λ k. f (n + k))
  unfolding tabulate
  tabulate_add zero m f = rw (zero-add m) (tabulate_ext m f (λ k. f (0 + k)) (λ k h. rw (zero-add k)))
  tabulate_add (suc n) m f =
      rw (suc-add n m)
      (ap (λ l. f 0 ∷ l) (tabulate_add n m (λ k. f (suc k)) ∙ ap (λ l. tabulate n (λ k. f (suc k)) ++ l) (tabulate_ext m _ _ (λ k h. rw (suc-add n k)))))

  unfoldable pub concat : List (List A) → List A
  concat [] = []
  concat (l ∷ ls) = l ++ concat ls

  -- a loop that fills a list from the front: after k of n turns
  pub record Filling (f : ℕ → A) (d : A) (n : ℕ) (l : List A) (k : ℕ) : Type 0 where
    pub within : k ≤ n
    pub size : length l ≡ n
    pub done : (j : ℕ) → j < k → get_or l j d ≡ f j

  pub fill_none : (f : ℕ → A) (d : A) (n : ℕ) (l : List A) → length l ≡ n → Filling f d n l 0
  fill_none f d n l e = record { within = omega arith; size = e; done = λ j h. absurd (not-suc-le-zero h) }

  pub fill_more : (f : ℕ → A) (d : A) (n : ℕ) (l : List A) (k : ℕ) (x : A) → Filling f d n l k → k < n → x ≡ f k → Filling f d n (set l k x) (k + 1)
  fill_more f d n l k x i h e =
      record { within = omega arith; size = length-set l k x ∙ i.size; done = λ j g. go j g (ℕ_discrete j k) }
    where
      go : (j : ℕ) → j < k + 1 → Dec (j ≡ k) → get_or (set l k x) j d ≡ f j
      go j g (yes p) = rw p (get_or-set_same l k x d (rw i.size h) ∙ e)
      go j g (no p) = get_or-set_other l k j x d p ∙ i.done j (omega arith)

  pub fill_all : (f : ℕ → A) (d : A) (n : ℕ) (l : List A) (k : ℕ) → Filling f d n l k → n ≤ k → l ≡ tabulate n f
  fill_all f d n l k i h =
      ext_get_or d l (tabulate n f) (i.size ∙ sym (length_tabulate n f)) each
    where
      each : (j : ℕ) → j < length l → get_or l j d ≡ get_or (tabulate n f) j d
      each j g = let b : j < n = rw i.size at g in i.done j (omega arith) ∙ sym (get_d_tabulate n f j d b)

-- rows of m, one behind the other, are one table
pub concat_rows : {A : Type 0} (n m : ℕ) (f : ℕ → A) → concat (tabulate n (λ d. tabulate m (λ k. f (m * d + k)))) ≡ tabulate (m * n) f
unfolding tabulate concat
concat_rows zero m f = rw (mul-zero m)
concat_rows (suc n) m f =
    rw (mul-suc m n, add_comm (m * n) m, tabulate_add m (m * n) f)
    (ap (λ l. l ++ concat (tabulate n (λ d. tabulate m (λ k. f (m * suc d + k))))) (tabulate_ext m _ _ (λ k h. ap f (rw (mul-zero m, zero-add k))))
    ∙ ap (λ l. tabulate m f ++ l)
    (ap concat (tabulate_ext n _ _ (λ d g. tabulate_ext m _ _ (λ k h. ap f (rw (mul-suc m d) (omega arith))))) ∙ concat_rows n m (λ k. f (m + k))))
