-- Laws of the slots: what the lowest free slot and the lowest match are, and what one changed slot does to the whole.
use Prim.Native.Nat.{ℕ, ◌+◌, ◌≤◌, ◌<◌}
use native.Mathlib.Decide.{ℕ_discrete}
use native.Mathlib.Omega.{arith}
use mathlib.Core.Path.{◌≡◌, refl, sym, ap, ◌∙◌}
use mathlib.Core.Bool.{Bool, true, false, not, ◌&&◌, ◌||◌, or-true, or-false, true≢false}
use mathlib.Core.List.{List}
use mathlib.Core.Logic.{by_cases}
use lib.Dec.{eqb}
use lib.ListN.{length, set}
use lib.Seq.{get_or-set_same, get_or-set_other}
use borrow.Author.Tests.{ltb-true, eqb-true, eq-eqb, not-true}
use Rattle.mem_partition.specs.Partition.{empty, is_valid, overlap_of, is_free, is_active, holds, is_window}
use Rattle.mem_domain.specs.Domain.{slot_at, free_at, active_count, clash_at, clashes, addable, lowest_free, has_free, window_at, lowest_window, has_window, holds_at, contains_addr}
use Rattle.mem_partition.specs.declared.MemPartition.{MemPartition}
use Rattle.mem_domain.specs.Scan.{any_to}
use Rattle.mem_partition.proofs.Tests.{and_left, and_right}
use Rattle.mem_partition.proofs.Partition.{active_holds, holds_at_lem, share_overlap, size_active}
use Rattle.mem_domain.proofs.Scan.{lowest_is, any_at, any_none, any_miss, any_hit, count_gain, count_le, count_all, count_lack, count_same, any_same}

module _ (l : List MemPartition) where
  -- the lowest free slot is below 16, is free, and none before it is
  pub free_below : has_free l ≡ true → lowest_free l < 16
  unfolding has_free lowest_free
  free_below e = ltb-true _ 16 e

  pub free_free : has_free l ≡ true → is_free (slot_at l (lowest_free l)) ≡ true
  unfolding has_free lowest_free
  free_free e = any_hit (free_at l) 16 e

  -- the lowest match is below 16, and has the start and the size
  module _ (start size : ℕ) where
    pub window_below : has_window l start size ≡ true → lowest_window l start size < 16
    unfolding has_window lowest_window
    window_below e = ltb-true _ 16 e

    window_is : has_window l start size ≡ true → is_window start size (slot_at l (lowest_window l start size)) ≡ true
    unfolding has_window lowest_window
    window_is e = any_hit (window_at l start size) 16 e

    pub window_start : has_window l start size ≡ true → (slot_at l (lowest_window l start size)).start ≡ start
    unfolding is_window
    window_start e =
        let p = slot_at l (lowest_window l start size) in
        eqb-true p.start start (and_left (eqb p.start start) (eqb p.size size) (window_is e))

    pub window_size : has_window l start size ≡ true → (slot_at l (lowest_window l start size)).size ≡ size
    unfolding is_window
    window_size e =
        let p = slot_at l (lowest_window l start size) in
        eqb-true p.size size (and_right (eqb p.start start) (eqb p.size size) (window_is e))

  -- no active slot overlaps the window
  module _ (p : MemPartition) where
    pub clash_none : clashes l p ≡ false → (k : ℕ) → k < 16 → is_active (slot_at l k) ≡ true → overlap_of p (slot_at l k) ≡ false
    unfolding clashes
    clash_none e k h a = rw a at (any_miss (clash_at l p) 16 k e h)

    pub no_clash : ((k : ℕ) → k < 16 → is_active (slot_at l k) ≡ true → overlap_of p (slot_at l k) ≡ false) → clashes l p ≡ false
    unfolding clashes
    no_clash e = any_none (clash_at l p) 16 (λ k h. go k (is_active (slot_at l k)) refl (e k h))
      where
        go : (k : ℕ) (b : Bool) → is_active (slot_at l k) ≡ b → (is_active (slot_at l k) ≡ true → overlap_of p (slot_at l k) ≡ false) → clash_at l p k ≡ false
        go k true d f = rw d (f d)
        go k false d f = rw d

    -- what makes a window addable
    pub addable_valid : addable l p ≡ true → is_valid p ≡ true
    unfolding addable
    addable_valid e = and_left (is_valid p) (not (clashes l p)) e

    pub addable_apart : addable l p ≡ true → (k : ℕ) → k < 16 → is_active (slot_at l k) ≡ true → overlap_of p (slot_at l k) ≡ false
    unfolding addable
    addable_apart e = clash_none (not-true (clashes l p) (and_right (is_valid p) (not (clashes l p)) e))

  -- at most 16 slots are active, and fewer exactly where one is free
  pub active_le : active_count l ≤ 16
  unfolding active_count
  active_le = count_le (λ k. is_active (slot_at l k)) 16

  pub free_active : has_free l ≡ true → active_count l < 16
  unfolding active_count
  free_active e = count_lack (λ k. is_active (slot_at l k)) 16 (lowest_free l) (free_below e) (ap not (free_free e))

  pub full_active : has_free l ≡ false → active_count l ≡ 16
  unfolding active_count has_free
  full_active e = count_all (λ k. is_active (slot_at l k)) 16 (λ k h. ap not (any_miss (free_at l) 16 k e h))

  -- slot k changed: it is the new one, the others stay
  module _ (k : ℕ) (p : MemPartition) where
    pub slot_same : k < length l → slot_at (set l k p) k ≡ p
    slot_same h = get_or-set_same l k p empty h

    pub slot_other : (j : ℕ) → (j ≡ k → ⊥) → slot_at (set l k p) j ≡ slot_at l j
    slot_other j h = get_or-set_other l k j p empty h

    -- the count after a free slot was filled, and after an active one was freed
    pub active_gain : k < 16 → k < length l → is_free (slot_at l k) ≡ true → is_active p ≡ true → active_count (set l k p) ≡ active_count l + 1
    unfolding active_count
    active_gain b h e f =
        count_gain (λ j. is_active (slot_at l j)) (λ j. is_active (slot_at (set l k p) j)) 16 k b (λ j n. ap is_active (sym (slot_other j n)))
        (ap not e) (ap is_active (slot_same h) ∙ f)

    pub active_loss : k < 16 → k < length l → is_active (slot_at l k) ≡ true → is_free p ≡ true → active_count l ≡ active_count (set l k p) + 1
    unfolding active_count
    active_loss b h e f =
        count_gain (λ j. is_active (slot_at (set l k p) j)) (λ j. is_active (slot_at l j)) 16 k b (λ j n. ap is_active (slot_other j n))
        (ap is_active (slot_same h) ∙ ap not f) e

    -- the addresses after a free slot was filled: those before, and the window's
    module _ (a : ℕ) (b : k < 16) (h : k < length l) (e : is_free (slot_at l k) ≡ true) where
      holds_same : (j : ℕ) → holds p a ≡ false → holds_at (set l k p) a j ≡ holds_at l a j
      holds_same j f =
          by_cases (ℕ_discrete j k) (λ (i : j ≡ k).
          rw i (ap (λ q. is_active q && holds q a) (slot_same h) ∙ active_holds p a ∙ f ∙ sym (ap (λ z. not z && holds (slot_at l k) a) e)))
          (λ n. ap (λ q. is_active q && holds q a) (slot_other j n))

      grown : (x : Bool) → holds p a ≡ x → contains_addr (set l k p) a ≡ (contains_addr l a || holds p a)
      unfolding contains_addr
      grown true f = any_at (holds_at (set l k p) a) 16 k b (ap (λ q. is_active q && holds q a) (slot_same h) ∙ active_holds p a ∙ f)
          ∙ sym (ap (λ x. any_to (holds_at l a) 16 || x) f ∙ or-true (any_to (holds_at l a) 16))
      grown false f = any_same (holds_at (set l k p) a) (holds_at l a) 16 (λ j _. holds_same j f)
          ∙ sym (ap (λ x. any_to (holds_at l a) 16 || x) f ∙ or-false (any_to (holds_at l a) 16))

      pub contains_set : contains_addr (set l k p) a ≡ (contains_addr l a || holds p a)
      contains_set = grown (holds p a) refl

    -- a window that no active slot overlaps is found again where it was put, and nowhere before
    module _ (b : k < 16) (h : k < length l) (z : 0 < p.size)
        (apart : (j : ℕ) → j < 16 → is_active (slot_at l j) ≡ true → overlap_of p (slot_at l j) ≡ false) where
      window_self : is_window p.start p.size p ≡ true
      unfolding is_window
      window_self = rw (eq-eqb p.start p.start refl, eq-eqb p.size p.size refl)

      not_before : (j : ℕ) → j < 16 → (x : Bool) → window_at l p.start p.size j ≡ x → window_at l p.start p.size j ≡ false
      unfolding is_window
      not_before j g false e = e
      not_before j g true e =
          let q = slot_at l j in
          let s : q.start ≡ p.start = eqb-true q.start p.start (and_left (eqb q.start p.start) (eqb q.size p.size) e) in
          let n : q.size ≡ p.size = eqb-true q.size p.size (and_right (eqb q.start p.start) (eqb q.size p.size) e) in
          absurd
          (true≢false
          (sym (share_overlap p q p.start (holds_at_lem p p.start (omega arith) (omega arith)) (holds_at_lem q p.start (omega arith) (omega arith)))
          ∙ apart j g (size_active q (omega arith))))

      pub window_again : lowest_window (set l k p) p.start p.size ≡ k
      unfolding lowest_window
      window_again =
          lowest_is (window_at (set l k p) p.start p.size) 16 k b (ap (is_window p.start p.size) (slot_same h) ∙ window_self)
          (λ j g.
          ap (is_window p.start p.size) (slot_other j (λ i. omega arith))
          ∙ not_before j (omega arith) (window_at l p.start p.size j) refl)

    -- a free slot made all zero changes no count
    pub active_kept : k < 16 → k < length l → is_free (slot_at l k) ≡ true → is_free p ≡ true → active_count (set l k p) ≡ active_count l
    unfolding active_count
    active_kept b h e f =
        count_same (λ j. is_active (slot_at (set l k p) j)) (λ j. is_active (slot_at l j)) 16
        (λ j _.
        by_cases (ℕ_discrete j k) (λ (i : j ≡ k). rw i (ap is_active (slot_same h) ∙ ap not (f ∙ sym e))) (λ n. ap is_active (slot_other j n)))
