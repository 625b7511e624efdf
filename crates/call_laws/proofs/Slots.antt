-- The slots of a domain that keep the rules keep them after an OK add and an OK remove.
use Rattle.answer.specs.Answer.{code_in}
use Prim.Native.Nat.{ℕ, ◌<◌}
use native.Mathlib.Decide.{dec_lt, ℕ_discrete}
use native.Mathlib.Omega.{arith}
use mathlib.Core.Path.{◌≡◌, refl, sym, ◌∙◌}
use mathlib.Core.Bool.{true, false, true≢false, false≢true}
use mathlib.Core.List.{List}
use lib.ListN.{set, length-set}
use Rattle.mem_partition.specs.declared.MemPartition.{MemPartition}
use Rattle.mem_partition.specs.Partition.{empty, is_active, overlap_of}
use Rattle.mem_domain.specs.Domain.{slots, slot_at, addable, lowest_free, lowest_window, with_count, changed_at, added, removed}
use Rattle.mem_partition.proofs.Partition.{overlap_sym, valid_size, size_active}
use Rattle.mem_domain.proofs.Domain.{add_accepts, add_stores, remove_matches, remove_frees}
use Rattle.mem_domain.proofs.Slots.{free_below, window_below, addable_valid, addable_apart, slot_same, slot_other}
use Rattle.domain_rules.specs.Sound.{SlotsKeep, attr_ok}
use Rattle.domain_rules.proofs.Sound.{SlotKept, inactive_out}

-- one slot changes: the new one keeps a slot's rules and overlaps no other that is active
module _ {l : List MemPartition} (s : SlotsKeep l) (k : ℕ) (b : k < slots) (p : MemPartition) (g : SlotKept p)
    (apart : (j : ℕ) → is_active p ≡ true → is_active (slot_at l j) ≡ true → overlap_of p (slot_at l j) ≡ false) where
  here : slot_at (set l k p) k ≡ p
  here = slot_same l k p (rw s.size b)

  kept : (j : ℕ) → SlotKept (slot_at (set l k p) j)
  kept j = go (ℕ_discrete j k)
    where
      go : Dec (j ≡ k) → SlotKept (slot_at (set l k p) j)
      go (yes e) = rw (e, here) g
      go (no n) = rw (slot_other l k p j n) (record { valid = s.valid j; rights = s.rights j; vacant = s.vacant j })

  two :
      (i j : ℕ) → Dec (i ≡ k) → Dec (j ≡ k) → is_active (slot_at (set l k p) i) ≡ true → is_active (slot_at (set l k p) j) ≡ true →
      overlap_of (slot_at (set l k p) i) (slot_at (set l k p) j) ≡ true → i ≡ j
  two i j (yes d) (yes e) x y o = d ∙ sym e
  two i j (yes d) (no e) x y o =
      let w : overlap_of p (slot_at l j) ≡ true = rw (d, here, slot_other l k p j e) at o in
      let u : is_active p ≡ true = rw (d, here) at x in
      let v : is_active (slot_at l j) ≡ true = rw (slot_other l k p j e) at y in
      absurd (true≢false (sym w ∙ apart j u v))
  two i j (no d) (yes e) x y o =
      let w : overlap_of (slot_at l i) p ≡ true = rw (e, here, slot_other l k p i d) at o in
      let u : is_active p ≡ true = rw (e, here) at y in
      let v : is_active (slot_at l i) ≡ true = rw (slot_other l k p i d) at x in
      absurd (true≢false (sym w ∙ overlap_sym (slot_at l i) p ∙ apart i u v))
  two i j (no d) (no e) x y o =
      s.apart i j (rw (slot_other l k p i d) at x) (rw (slot_other l k p j e) at y) (rw (slot_other l k p i d, slot_other l k p j e) at o)

  slots_set : SlotsKeep (set l k p)
  slots_set =
      record {
        size = length-set l k p ∙ s.size;
        valid = λ j. (kept j).valid;
        rights = λ j. (kept j).rights;
        apart = λ i j. two i j (ℕ_discrete i k) (ℕ_discrete j k);
        vacant = λ j. (kept j).vacant;
      }

empty_kept : SlotKept empty
empty_kept = record { valid = λ e. absurd (false≢true e); rights = λ e. absurd (false≢true e); vacant = λ e. refl }

module _ {l : List MemPartition} (s : SlotsKeep l) where
  pub slots_added : (p : MemPartition) → attr_ok p.attr ≡ true → code_in (added (with_count l) p).answer ≡ 0 → SlotsKeep (added (with_count l) p).domain.partitions
  unfolding with_count changed_at
  slots_added p a e =
      let (g, f) = add_accepts (with_count l) p e in
      let v = addable_valid l p g in
      rw (add_stores (with_count l) p e)
      (slots_set s (lowest_free l) (free_below l f) p
      (record { valid = λ _. v; rights = λ _. a; vacant = λ z. absurd (true≢false (sym (size_active p (valid_size p v)) ∙ z)) })
      (λ j _ y. apart g j y (dec_lt j slots)))
    where
      apart : addable l p ≡ true → (j : ℕ) → is_active (slot_at l j) ≡ true → Dec (j < slots) → overlap_of p (slot_at l j) ≡ false
      apart g j y (yes h) = addable_apart l p g j h y
      apart g j y (no h) = absurd (inactive_out l s.size j (omega arith) y)

  pub slots_removed : (start size : ℕ) → code_in (removed (with_count l) start size).answer ≡ 0 → SlotsKeep (removed (with_count l) start size).domain.partitions
  unfolding with_count changed_at
  slots_removed start size e =
      let (z, w) = remove_matches (with_count l) start size e in
      rw (remove_frees (with_count l) start size e)
      (slots_set s (lowest_window l start size) (window_below l start size w) empty empty_kept (λ j x y. absurd (false≢true x)))
