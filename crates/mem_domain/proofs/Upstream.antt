-- Upstream's clauses, each as a lemma over the definitions that the functions here are proved to equal (docs/CONTRACTS.md names them).
-- `Inv` is upstream's inv; `Counted` says what upstream's type and comments mean: sixteen slots, and a count of the active ones.
use Prim.Native.Nat.{ℕ, ◌+◌, ◌≤◌, ◌<◌}
use native.Mathlib.Decide.{ℕ_discrete}
use native.Mathlib.Omega.{arith}
use mathlib.Core.Path.{◌≡◌, refl, sym, ap, ap₂, ◌∙◌}
use mathlib.Core.Bool.{Bool, true, false, not}
use mathlib.Core.List.{List}
use mathlib.Core.Logic.{◌⊎◌, inl, inr, ◌↔◌, ⊎_elim}
use lib.Dec.{ltb, eqb}
use lib.ListN.{length, set, length-set, get_or-replicate, length-replicate}
use lib.Seq.{set-set, set-get_or}
use borrow.Author.Tests.{lt-ltb, le-leb, eq-eqb, ne_eqb, ltb-true, eqb-true}
use Rattle.std.specs.Prelude.{Ok as Accepted}
use Rattle.answer.specs.Answer.{number_of, code_in, value_in}
use Rattle.answer.specs.declared.Code.{Code}
use Rattle.answer.specs.declared.Code.TheVariants.{Ok, Einval, Enospc, Enoent}
use Rattle.mem_partition.specs.Partition.{empty, end_of, is_valid, overlap_of, meets, is_free, is_active, holds}
use Rattle.mem_domain.specs.Domain.{Changed, slot_at, active_count, addable, free_at, lowest_free, has_free, lowest_window, has_window, holds_at, contains_addr, no_partitions, refused, changed_at, added, removed, gotten}
use Rattle.mem_domain.specs.Scan.{lowest}
use Rattle.mem_domain.specs.Upstream.{Inv, Counted, Clean}
use Rattle.mem_partition.specs.declared.MemPartition.{MemPartition}
use Rattle.mem_domain.specs.declared.MemDomain.{MemDomain}
use Rattle.mem_partition.proofs.Tests.{and_left, and_right}
use Rattle.mem_domain.proofs.Scan.{any_at, any_hit, count_zero}
use Rattle.mem_partition.proofs.Partition.{valid_size, valid_end, overlap_sym, apart_disjoint, active_size, size_active, active_holds}
use Rattle.mem_domain.proofs.Domain.{added_bad, added_full, added_ok, add_accepts, add_stores, removed_zero, removed_none, removed_ok, remove_matches, remove_frees, gotten_out, gotten_free, gotten_ok, has_window_lem}
use Rattle.mem_domain.proofs.Slots.{free_below, free_free, window_below, window_size, addable_valid, addable_apart, active_le, free_active, full_active, slot_same, slot_other, active_gain, active_loss, active_kept, window_again}

-- is_valid, overlaps_spec, end_spec: the tests are the statements
pub valid_is : (p : MemPartition) → (is_valid p ≡ true) ↔ ((0 < p.size) × (p.start + p.size ≤ 4294967295))
unfolding is_valid
valid_is p = (λ e. (valid_size p e, valid_end p e), λ (h : (0 < p.size) × (p.start + p.size ≤ 4294967295)). rw (lt-ltb 0 p.size h.0, le-leb (end_of p) 4294967295 h.1))

pub end_is : (p : MemPartition) → end_of p ≡ p.start + p.size
end_is p = refl

pub overlap_is : (p q : MemPartition) → (overlap_of p q ≡ true) ↔ ((q.start < end_of p) × (p.start < end_of q))
unfolding overlap_of meets
overlap_is p q = (
  λ e. (ltb-true q.start (end_of p) (and_left (ltb q.start (end_of p)) (ltb p.start (end_of q)) e), ltb-true p.start (end_of q) (and_right (ltb q.start (end_of p)) (ltb p.start (end_of q)) e)),
  λ (h : (q.start < end_of p) × (p.start < end_of q)). rw (lt-ltb q.start (end_of p) h.0, lt-ltb p.start (end_of q) h.1),
)

-- check_add_partition: what is accepted is valid and overlaps no active slot
pub check_valid : (l : List MemPartition) (p : MemPartition) → addable l p ≡ true → is_valid p ≡ true
check_valid l p e = addable_valid l p e

pub check_apart : (l : List MemPartition) (p : MemPartition) → addable l p ≡ true → (i : ℕ) → i < 16 → 0 < (slot_at l i).size → overlap_of p (slot_at l i) ≡ false
check_apart l p e i h s = addable_apart l p e i h (size_active (slot_at l i) s)

-- init: every slot is all zero, none is active
pub init_zero : (i : ℕ) → i < 16 → slot_at no_partitions.partitions i ≡ empty
unfolding no_partitions
init_zero i h = get_or-replicate 16 i empty empty h

pub init_free : (i : ℕ) → i < 16 → (slot_at no_partitions.partitions i).size ≡ 0
init_free i h = ap (λ p. p.size) (init_zero i h)

pub init_count : no_partitions.num_partitions ≡ 0
unfolding no_partitions
init_count = refl

pub init_inv : Inv no_partitions
init_inv = record {
  bounded = omega (arith, init_count);
  valid = λ i h s. absurd (omega (arith, init_free i h));
  apart = λ i j h g n s t. absurd (omega (arith, init_free i h));
}

pub init_counted : Counted no_partitions
unfolding no_partitions active_count
init_counted = record {
  whole = length-replicate 16 empty;
  exact = sym (count_zero (λ k. is_active (slot_at no_partitions.partitions k)) 16 (λ k h. ap is_active (init_zero k h)));
}

pub init_clean : Clean no_partitions
init_clean = record { zero = λ i h e. init_zero i h }

-- one slot changed: inv is kept where the new one is free, or valid and apart from the other active slots
module _ (d : MemDomain) (inv : Inv d) (k : ℕ) (p : MemPartition) (h : k < length d.partitions) (v : 0 < p.size → is_valid p ≡ true)
    (o : (j : ℕ) → j < 16 → (j ≡ k → ⊥) → 0 < p.size → 0 < (slot_at d.partitions j).size → overlap_of p (slot_at d.partitions j) ≡ false) where
  same : (i : ℕ) → i ≡ k → slot_at (set d.partitions k p) i ≡ p
  same i e = ap (slot_at (set d.partitions k p)) e ∙ slot_same d.partitions k p h

  other : (i : ℕ) → (i ≡ k → ⊥) → slot_at (set d.partitions k p) i ≡ slot_at d.partitions i
  other i n = slot_other d.partitions k p i n

  valid_set : (i : ℕ) → i < 16 → Dec (i ≡ k) → 0 < (slot_at (set d.partitions k p) i).size → is_valid (slot_at (set d.partitions k p) i) ≡ true
  valid_set i b (yes e) s = rw (same i e) (v (rw (same i e) at s))
  valid_set i b (no n) s = rw (other i n) (inv.valid i b (rw (other i n) at s))

  apart_set : (i j : ℕ) → i < 16 → j < 16 → (i ≡ j → ⊥) → Dec (i ≡ k) → Dec (j ≡ k) → 0 < (slot_at (set d.partitions k p) i).size
      → 0 < (slot_at (set d.partitions k p) j).size → overlap_of (slot_at (set d.partitions k p) i) (slot_at (set d.partitions k p) j) ≡ false
  apart_set i j b c n (yes e) (yes f) s t = absurd (n (e ∙ sym f))
  apart_set i j b c n (yes e) (no g) s t = rw (same i e, other j g) (o j c g (rw (same i e) at s) (rw (other j g) at t))
  apart_set i j b c n (no f) (yes e) s t =
      rw (other i f, same j e) (overlap_sym (slot_at d.partitions i) p ∙ o i b f (rw (same j e) at t) (rw (other i f) at s))
  apart_set i j b c n (no f) (no g) s t = rw (other i f, other j g) (inv.apart i j b c n (rw (other i f) at s) (rw (other j g) at t))

  pub inv_set : Inv (changed_at d.partitions k p).domain
  unfolding changed_at
  inv_set =
      record {
        bounded = active_le (set d.partitions k p);
        valid = λ i b s. valid_set i b (ℕ_discrete i k) s;
        apart = λ i j b c n s t. apart_set i j b c n (ℕ_discrete i k) (ℕ_discrete j k) s t;
      }

-- add_partition
module _ (d : MemDomain) (p : MemPartition) where
  -- the domain after an add is the changed one, or the same
  after_add : (P : MemDomain → Type 0) → P d
      → (addable d.partitions p ≡ true → has_free d.partitions ≡ true → P (changed_at d.partitions (lowest_free d.partitions) p).domain)
      → P (added d p).domain
  after_add P old new = go (addable d.partitions p) (has_free d.partitions) refl refl
    where
      go : (a f : Bool) → addable d.partitions p ≡ a → has_free d.partitions ≡ f → P (added d p).domain
      go true true e f = rw (added_ok d p e f) (new e f)
      go true false e f = rw (added_full d p e f) old
      go false f e g = rw (added_bad d p e) old

  pub add_inv : Inv d → length d.partitions ≡ 16 → Inv (added d p).domain
  add_inv inv w =
      after_add Inv inv
      (λ e f.
      inv_set d inv (lowest_free d.partitions) p (omega (arith, free_below d.partitions f)) (λ _. addable_valid d.partitions p e)
      (λ j b n s t. check_apart d.partitions p e j b t))

  pub add_counts : Counted d → code_in (added d p).answer ≡ number_of Ok → (added d p).domain.num_partitions ≡ d.num_partitions + 1
  unfolding changed_at
  add_counts c e =
      let (a, f) = add_accepts d p e in
      let k = lowest_free d.partitions in
      let w = c.whole in
      let b : k < 16 = free_below d.partitions f in
      rw (add_stores d p e, c.exact)
      (active_gain d.partitions k p b (omega arith) (free_free d.partitions f) (size_active p (valid_size p (addable_valid d.partitions p a))))

  pub add_slot : code_in (added d p).answer ≡ number_of Ok → value_in (added d p).answer < 16
  unfolding changed_at
  add_slot e = let (a, f) = add_accepts d p e in rw (add_stores d p e) (free_below d.partitions f)

  pub add_refusal : (code_in (added d p).answer ≡ number_of Ok → ⊥) → (c : Code) × (added d p ≡ refused c d)
  unfolding changed_at
  add_refusal n = go (addable d.partitions p) (has_free d.partitions) refl refl
    where
      go : (a f : Bool) → addable d.partitions p ≡ a → has_free d.partitions ≡ f → (c : Code) × (added d p ≡ refused c d)
      go true true e f = absurd (n (ap (λ r. code_in r.answer) (added_ok d p e f)))
      go true false e f = (Enospc, added_full d p e f)
      go false f e g = (Einval, added_bad d p e)

  -- which refusal: EINVAL for a window that is not addable, ENOSPC for an addable one where no slot is free
  pub add_einval : (code_in (added d p).answer ≡ number_of Einval) ↔ (addable d.partitions p ≡ false)
  unfolding changed_at
  add_einval = (λ h. go (addable d.partitions p) (has_free d.partitions) refl refl h, λ e. ap (λ r. code_in r.answer) (added_bad d p e))
    where
      go : (a f : Bool) → addable d.partitions p ≡ a → has_free d.partitions ≡ f → code_in (added d p).answer ≡ number_of Einval → addable d.partitions p ≡ false
      go true true e f h = absurd (omega (arith, ap (λ r. code_in r.answer) (added_ok d p e f)))
      go true false e f h = absurd (omega (arith, ap (λ r. code_in r.answer) (added_full d p e f)))
      go false f e g h = e

  pub add_enospc : (code_in (added d p).answer ≡ number_of Enospc) ↔ ((addable d.partitions p ≡ true) × (has_free d.partitions ≡ false))
  unfolding changed_at
  add_enospc = (
    λ h. go (addable d.partitions p) (has_free d.partitions) refl refl h,
    λ (w : (addable d.partitions p ≡ true) × (has_free d.partitions ≡ false)). ap (λ r. code_in r.answer) (added_full d p w.0 w.1),
  )
    where
      go : (a f : Bool) → addable d.partitions p ≡ a → has_free d.partitions ≡ f → code_in (added d p).answer ≡ number_of Enospc
          → (addable d.partitions p ≡ true) × (has_free d.partitions ≡ false)
      go true true e f h = absurd (omega (arith, ap (λ r. code_in r.answer) (added_ok d p e f)))
      go true false e f h = (e, f)
      go false f e g h = absurd (omega (arith, ap (λ r. code_in r.answer) (added_bad d p e)))

  -- what upstream requires, a count below 16, leaves no ENOSPC where the count is right
  pub add_room : Counted d → d.num_partitions < 16 → has_free d.partitions ≡ true
  add_room c h = go (has_free d.partitions) refl
    where
      go : (f : Bool) → has_free d.partitions ≡ f → has_free d.partitions ≡ true
      go true e = e
      go false e = absurd (omega (arith, full_active d.partitions e, c.exact))

  -- the count stays right, and a free slot all zero
  pub add_counted : Counted d → Counted (added d p).domain
  unfolding changed_at
  add_counted c = after_add Counted c (λ e f. record { whole = length-set d.partitions (lowest_free d.partitions) p ∙ c.whole; exact = refl })

  pub add_clean : Clean d → length d.partitions ≡ 16 → Clean (added d p).domain
  unfolding changed_at
  add_clean c w =
      after_add Clean c
      (λ e f. record { zero = λ i b z. go e (free_below d.partitions f) i b z (ℕ_discrete i (lowest_free d.partitions)) })
    where
      go : addable d.partitions p ≡ true → lowest_free d.partitions < 16 → (i : ℕ) → i < 16 → is_free (slot_at (set d.partitions (lowest_free d.partitions) p) i) ≡ true
          → Dec (i ≡ lowest_free d.partitions) → slot_at (set d.partitions (lowest_free d.partitions) p) i ≡ empty
      go e f i b z (yes q) =
          let same = ap (slot_at (set d.partitions (lowest_free d.partitions) p)) q ∙ slot_same d.partitions (lowest_free d.partitions) p (omega arith) in
          absurd (omega (arith, valid_size p (addable_valid d.partitions p e), eqb-true p.size 0 (sym (ap is_free same) ∙ z)))
      go e f i b z (no q) =
          let other = slot_other d.partitions (lowest_free d.partitions) p i q in
          other ∙ c.zero i b (sym (ap is_free other) ∙ z)

-- remove_partition
module _ (d : MemDomain) (start size : ℕ) where
  after_remove : (P : MemDomain → Type 0) → P d
      → (eqb size 0 ≡ false → has_window d.partitions start size ≡ true → P (changed_at d.partitions (lowest_window d.partitions start size) empty).domain)
      → P (removed d start size).domain
  after_remove P old new = go (eqb size 0) (has_window d.partitions start size) refl refl
    where
      go : (z f : Bool) → eqb size 0 ≡ z → has_window d.partitions start size ≡ f → P (removed d start size).domain
      go true f e g = rw (removed_zero d start size e) old
      go false false e f = rw (removed_none d start size f) old
      go false true e f = rw (removed_ok d start size e f) (new e f)

  pub remove_inv : Inv d → length d.partitions ≡ 16 → Inv (removed d start size).domain
  remove_inv inv w =
      after_remove Inv inv
      (λ e f.
      inv_set d inv (lowest_window d.partitions start size) empty (omega (arith, window_below d.partitions start size f))
      (λ (z : 0 < empty.size). absurd (omega arith)) (λ j b n (z : 0 < empty.size) t. absurd (omega arith)))

  pub remove_counts : Counted d → code_in (removed d start size).answer ≡ number_of Ok → (removed d start size).domain.num_partitions + 1 ≡ d.num_partitions
  unfolding changed_at
  remove_counts c e =
      let (z, f) = remove_matches d start size e in
      let k = lowest_window d.partitions start size in
      let w = c.whole in
      let b : k < 16 = window_below d.partitions start size f in
      let live : is_active (slot_at d.partitions k) ≡ true = ap not (ap (λ n. eqb n 0) (window_size d.partitions start size f) ∙ z) in
      rw (remove_frees d start size e, c.exact) (sym (active_loss d.partitions k empty b (omega arith) live refl))

  pub remove_slot : code_in (removed d start size).answer ≡ number_of Ok → value_in (removed d start size).answer < 16
  unfolding changed_at
  remove_slot e = let (z, f) = remove_matches d start size e in rw (remove_frees d start size e) (window_below d.partitions start size f)

  pub remove_freed : Counted d → (e : code_in (removed d start size).answer ≡ number_of Ok)
      → slot_at (removed d start size).domain.partitions (value_in (removed d start size).answer) ≡ empty
  unfolding changed_at
  remove_freed c e =
      let (z, f) = remove_matches d start size e in
      let k = lowest_window d.partitions start size in
      let w = c.whole in
      let b : k < 16 = window_below d.partitions start size f in
      rw (remove_frees d start size e) (slot_same d.partitions k empty (omega arith))

  pub remove_refusal : (code_in (removed d start size).answer ≡ number_of Ok → ⊥) → removed d start size ≡ refused Enoent d
  unfolding changed_at
  remove_refusal n = go (eqb size 0) (has_window d.partitions start size) refl refl
    where
      go : (z f : Bool) → eqb size 0 ≡ z → has_window d.partitions start size ≡ f → removed d start size ≡ refused Enoent d
      go true f e g = removed_zero d start size e
      go false false e f = removed_none d start size f
      go false true e f = absurd (n (ap (λ r. code_in r.answer) (removed_ok d start size e f)))

  -- ENOENT: the size is 0, or no slot has that start and size
  pub remove_enoent : (code_in (removed d start size).answer ≡ number_of Enoent) ↔ ((size ≡ 0) ⊎ (has_window d.partitions start size ≡ false))
  unfolding changed_at
  remove_enoent = (
    λ h. go (eqb size 0) (has_window d.partitions start size) refl refl h,
    ⊎_elim (λ (z : size ≡ 0). ap (λ r. code_in r.answer) (removed_zero d start size (eq-eqb size 0 z))) (λ f. ap (λ r. code_in r.answer) (removed_none d start size f)),
  )
    where
      go : (z f : Bool) → eqb size 0 ≡ z → has_window d.partitions start size ≡ f → code_in (removed d start size).answer ≡ number_of Enoent
          → (size ≡ 0) ⊎ (has_window d.partitions start size ≡ false)
      go true f e g h = inl (eqb-true size 0 e)
      go false false e f h = inr f
      go false true e f h = absurd (omega (arith, ap (λ r. code_in r.answer) (removed_ok d start size e f)))

  pub remove_counted : Counted d → Counted (removed d start size).domain
  unfolding changed_at
  remove_counted c =
      after_remove Counted c (λ e f. record { whole = length-set d.partitions (lowest_window d.partitions start size) empty ∙ c.whole; exact = refl })

  pub remove_clean : Clean d → Counted d → Clean (removed d start size).domain
  unfolding changed_at
  remove_clean c w =
      after_remove Clean c
      (λ e f. record { zero = λ i b z. go (window_below d.partitions start size f) i b z (ℕ_discrete i (lowest_window d.partitions start size)) })
    where
      go : lowest_window d.partitions start size < 16 → (i : ℕ) → i < 16 → is_free (slot_at (set d.partitions (lowest_window d.partitions start size) empty) i) ≡ true
          → Dec (i ≡ lowest_window d.partitions start size) → slot_at (set d.partitions (lowest_window d.partitions start size) empty) i ≡ empty
      go f i b z (yes q) =
          let n = w.whole in
          ap (slot_at (set d.partitions (lowest_window d.partitions start size) empty)) q ∙ slot_same d.partitions (lowest_window d.partitions start size) empty (omega arith)
      go f i b z (no q) =
          let other = slot_other d.partitions (lowest_window d.partitions start size) empty i q in
          other ∙ c.zero i b (sym (ap is_free other) ∙ z)

-- num_partitions_get and partition_get
pub get_out : (d : MemDomain) (k : ℕ) → 16 ≤ k → code_in (gotten d k) ≡ number_of Einval
get_out d k h = ap (λ r. code_in r) (gotten_out d k h)

module _ (d : MemDomain) (k : ℕ) (h : k < 16) where
  get_is : (f : Bool) → free_at d.partitions k ≡ f → code_in (gotten d k) ≡ number_of Ok → (gotten d k ≡ Accepted (slot_at d.partitions k)) × (0 < (slot_at d.partitions k).size)
  get_is true e g = absurd (omega (arith, ap (λ r. code_in r) (gotten_free d k h e)))
  get_is false e g = (gotten_ok d k h e, active_size (slot_at d.partitions k) (ap not e))

  pub get_same : code_in (gotten d k) ≡ number_of Ok → gotten d k ≡ Accepted (slot_at d.partitions k)
  get_same g = (get_is (free_at d.partitions k) refl g).0

  pub get_active : code_in (gotten d k) ≡ number_of Ok → 0 < (slot_at d.partitions k).size
  get_active g = (get_is (free_at d.partitions k) refl g).1

  pub get_empty : (code_in (gotten d k) ≡ number_of Ok → ⊥) → (slot_at d.partitions k).size ≡ 0
  get_empty n = go (free_at d.partitions k) refl
    where
      go : (f : Bool) → free_at d.partitions k ≡ f → (slot_at d.partitions k).size ≡ 0
      go true e = eqb-true (slot_at d.partitions k).size 0 e
      go false e = absurd (n (ap (λ r. code_in r) (gotten_ok d k h e)))

-- has_free_slot and contains_addr, of which upstream promises nothing: some slot is free; some active slot holds the address
pub has_free_is : (l : List MemPartition) → (has_free l ≡ true) ↔ (active_count l < 16)
has_free_is l = (free_active l, λ h. go h (has_free l) refl)
  where
    go : active_count l < 16 → (f : Bool) → has_free l ≡ f → has_free l ≡ true
    go h true e = e
    go h false e = absurd (omega (arith, full_active l e))

pub free_slot_found : (l : List MemPartition) (k : ℕ) → k < 16 → (slot_at l k).size ≡ 0 → has_free l ≡ true
unfolding has_free
free_slot_found l k h e = any_at (free_at l) 16 k h (eq-eqb (slot_at l k).size 0 e)

pub address_found : (l : List MemPartition) (a k : ℕ) → k < 16 → holds (slot_at l k) a ≡ true → contains_addr l a ≡ true
unfolding contains_addr
address_found l a k h e = any_at (holds_at l a) 16 k h (active_holds (slot_at l k) a ∙ e)

pub address_held : (l : List MemPartition) (a : ℕ) → contains_addr l a ≡ true → (k : ℕ) × (k < 16) × (holds (slot_at l k) a ≡ true)
unfolding contains_addr
address_held l a e =
    let k = lowest (holds_at l a) 16 in
    (k, ltb-true k 16 e, sym (active_holds (slot_at l k) a) ∙ any_hit (holds_at l a) 16 e)

-- lemma_invariant_inductive, for real: init has inv, and add and remove keep it
pub record Inductive : Type 0 where
  pub start : Inv no_partitions
  pub add : (d : MemDomain) (p : MemPartition) → Counted d → Inv d → Inv (added d p).domain
  pub remove : (d : MemDomain) (start size : ℕ) → Counted d → Inv d → Inv (removed d start size).domain

pub invariant_inductive : Inductive
invariant_inductive = record {
  start = init_inv;
  add = λ d p c inv. add_inv d p inv c.whole;
  remove = λ d start size c inv. remove_inv d start size inv c.whole;
}

-- the same of every domain that began with init, whatever was added and removed; its count is right, and its free slots are all zero
pub data Reached : MemDomain → Type 0 where
  begun : Reached no_partitions
  grown : {d : MemDomain} (p : MemPartition) → Reached d → Reached (added d p).domain
  shrunk : {d : MemDomain} (start size : ℕ) → Reached d → Reached (removed d start size).domain

pub reached : {d : MemDomain} → Reached d → Inv d × Counted d × Clean d
reached begun = (init_inv, init_counted, init_clean)
reached (grown {d} p r) =
    let (i, c, z) = reached r in
    (add_inv d p i c.whole, add_counted d p c, add_clean d p z c.whole)
reached (shrunk {d} start size r) =
    let (i, c, z) = reached r in
    (remove_inv d start size i c.whole, remove_counted d start size c, remove_clean d start size z c)

-- OK with a slot and a domain
abbrev pub answered : ℕ → List MemPartition → ℕ → Changed
answered k l n = record { answer = Accepted k; domain = record { partitions = l; num_partitions = n } }

-- lemma_add_remove_roundtrip, for real. Whatever the free slot held before, it is all zero afterwards; the rest is as it was.
module _ (d : MemDomain) (p : MemPartition) (c : Counted d) (e : code_in (added d p).answer ≡ number_of Ok) where
  back : (k : ℕ) → k ≡ lowest_free d.partitions → k < 16 → k < length d.partitions → 0 < p.size
      → removed (changed_at d.partitions k p).domain p.start p.size
      ≡ answered k (set d.partitions k empty) d.num_partitions
  unfolding changed_at
  back k i b h z =
      let l = d.partitions in
      let (a, f) = add_accepts d p e in
      let again = window_again l k p b h z (addable_apart l p a) in
      let found : has_window (set l k p) p.start p.size ≡ true = has_window_lem (set l k p) p.start p.size ∙ lt-ltb (lowest_window (set l k p) p.start p.size) 16 (rw again b) in
      let free : is_free (slot_at l k) ≡ true = rw i (free_free l f) in
      removed_ok (changed_at l k p).domain p.start p.size (ne_eqb p.size 0 (λ w. omega arith)) found
      ∙ ap (λ j. changed_at (set l k p) j empty) again
      ∙ ap₂ (λ m n. answered k m n) (set-set l k p empty) (ap active_count (set-set l k p empty) ∙ active_kept l k empty b h free refl ∙ sym c.exact)

  pub add_remove : removed (added d p).domain p.start p.size ≡ answered (value_in (added d p).answer) (set d.partitions (value_in (added d p).answer) empty) d.num_partitions
  unfolding changed_at
  add_remove =
      let (a, f) = add_accepts d p e in
      let w = c.whole in
      let b = free_below d.partitions f in
      rw (add_stores d p e) (back (lowest_free d.partitions) refl b (omega arith) (valid_size p (addable_valid d.partitions p a)))

  -- where the free slot was all zero, as in every domain that began with init, the domain is the old one
  pub add_remove_roundtrip : Clean d → removed (added d p).domain p.start p.size ≡ record { answer = Accepted (value_in (added d p).answer); domain = d }
  unfolding changed_at
  add_remove_roundtrip clean =
      let l = d.partitions in
      let (a, f) = add_accepts d p e in
      let q : slot_at l (lowest_free l) ≡ empty = clean.zero (lowest_free l) (free_below l f) (free_free l f) in
      let v : value_in (added d p).answer ≡ lowest_free l = ap (λ r. value_in r.answer) (add_stores d p e) in
      add_remove ∙ ap (λ m. answered (value_in (added d p).answer) m d.num_partitions) (rw v (ap (set l (lowest_free l)) (sym q) ∙ set-get_or l (lowest_free l) empty))

-- the other three lemmas, without upstream's premises where they are not needed
pub overlap_symmetric : (a b : MemPartition) → overlap_of a b ≡ overlap_of b a
overlap_symmetric a b = overlap_sym a b

pub valid_partition_no_overflow : (p : MemPartition) → is_valid p ≡ true → (p.start + p.size ≤ 4294967295) × (end_of p ≤ 4294967295)
valid_partition_no_overflow p e = (valid_end p e, valid_end p e)

pub non_overlap_disjoint : (a b : MemPartition) → overlap_of a b ≡ false → (end_of a ≤ b.start) ⊎ (end_of b ≤ a.start)
non_overlap_disjoint a b e = apart_disjoint a b e
