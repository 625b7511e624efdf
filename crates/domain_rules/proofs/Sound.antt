-- The test of a domain's rules and the rules in plain statements are the same.
use Prim.Native.Nat.{ℕ, ◌≤◌, ◌<◌}
use native.Mathlib.Decide.{dec_lt}
use native.Mathlib.Omega.{arith}
use mathlib.Core.Path.{◌≡◌, refl, sym, ap, ◌∙◌}
use mathlib.Core.Bool.{Bool, true, false, cond, not, ◌&&◌, ◌||◌, true≢false, false≢true}
use mathlib.Core.List.{List}
use lib.Dec.{eqb}
use lib.ListN.{length, get_or-eq_default}
use borrow.Author.Tests.{eqb-true, eq-eqb}
use Rattle.mem_partition.specs.Partition.{empty, is_free, is_active, is_valid, overlap_of}
use Rattle.mem_domain.specs.Domain.{slots, slot_at, active_count, with_count}
use Rattle.domain_rules.specs.Scan.{all_to}
use Rattle.domain_rules.specs.Sound.{SlotsKeep, attr_ok, slot_ok, apart_of, apart_to, slot_sound, slots_sound, domain_sound}
use Rattle.mem_partition.specs.declared.MemPartition.{MemPartition}
use Rattle.domain_rules.proofs.All.{both_true, both, all_at, all_from}
use Rattle.mem_partition.proofs.Partition.{overlap_sym}

-- ---- one slot

-- what the test of one slot says
pub record SlotKept (p : MemPartition) : Type 0 where
  pub valid : is_active p ≡ true → is_valid p ≡ true
  pub rights : is_active p ≡ true → attr_ok p.attr ≡ true
  pub vacant : is_active p ≡ false → p ≡ empty

all_zero : (p : MemPartition) → p.size ≡ 0 → p.start ≡ 0 → p.attr ≡ 0 → p ≡ empty
all_zero p s a r = go p.start p.size p.attr a s r
  where
    go : (x y z : ℕ) → x ≡ 0 → y ≡ 0 → z ≡ 0 → ◌≡◌ {A = MemPartition} (record { start = x; size = y; attr = z }) empty
    go x y z e f g = rw (e, f, g)

slot_cases : (p : MemPartition) (b : Bool) → is_free p ≡ b → cond b (eqb p.start 0 && eqb p.attr 0) (is_valid p && attr_ok p.attr) ≡ true → SlotKept p
slot_cases p true f e =
    let z = both_true (eqb p.start 0) (eqb p.attr 0) e in
    record {
      valid = λ a. absurd (false≢true (ap not (sym f) ∙ a));
      rights = λ a. absurd (false≢true (ap not (sym f) ∙ a));
      vacant = λ a. all_zero p (eqb-true p.size 0 f) (eqb-true p.start 0 z.0) (eqb-true p.attr 0 z.1);
    }
slot_cases p false f e =
    let z = both_true (is_valid p) (attr_ok p.attr) e in
    record { valid = λ a. z.0; rights = λ a. z.1; vacant = λ a. absurd (true≢false (ap not (sym f) ∙ a)) }

pub slot_kept : (p : MemPartition) → slot_ok p ≡ true → SlotKept p
unfolding slot_ok
slot_kept p e = slot_cases p (is_free p) refl e

slot_back : (p : MemPartition) → SlotKept p → (b : Bool) → is_free p ≡ b → cond b (eqb p.start 0 && eqb p.attr 0) (is_valid p && attr_ok p.attr) ≡ true
slot_back p k true f = let e = k.vacant (ap not f) in rw e
slot_back p k false f = both (k.valid (ap not f)) (k.rights (ap not f))

pub slot_ok_lem : (p : MemPartition) → SlotKept p → slot_ok p ≡ true
unfolding slot_ok
slot_ok_lem p k = slot_back p k (is_free p) refl

-- ---- two slots
pub apart_says : (p q : MemPartition) → apart_of p q ≡ true → is_active p ≡ true → is_active q ≡ true → overlap_of p q ≡ true → ⊥
unfolding apart_of
apart_says p q e a b o = go (is_free p) (is_free q) (overlap_of p q) e a b o
  where
    go : (x y z : Bool) → x || (y || not z) ≡ true → not x ≡ true → not y ≡ true → z ≡ true → ⊥
    go true y z e a b o = false≢true a
    go false true z e a b o = false≢true b
    go false false true e a b o = false≢true e
    go false false false e a b o = false≢true o

pub apart_ok : (p q : MemPartition) → (is_active p ≡ true → is_active q ≡ true → overlap_of p q ≡ true → ⊥) → apart_of p q ≡ true
unfolding apart_of
apart_ok p q f = go (is_free p) (is_free q) (overlap_of p q) f
  where
    go : (x y z : Bool) → (not x ≡ true → not y ≡ true → z ≡ true → ⊥) → x || (y || not z) ≡ true
    go true y z f = refl
    go false true z f = refl
    go false false true f = absurd (f refl refl refl)
    go false false false f = refl

-- a free slot is apart from every other
pub free_apart : (p q : MemPartition) → q.size ≡ 0 → apart_of p q ≡ true
free_apart p q z = apart_ok p q (λ a b o. false≢true (sym (ap not (eq-eqb q.size 0 z)) ∙ b))

pub free_clear : (f : ℕ → MemPartition) (q : MemPartition) (n : ℕ) → q.size ≡ 0 → all_to (λ j. apart_of (f j) q) n ≡ true
free_clear f q n z = all_from (λ j. apart_of (f j) q) n (λ j h. free_apart (f j) q z)

-- ---- sixteen
module _ (l : List MemPartition) where
  -- behind the end there is no active slot
  pub inactive_out : length l ≡ slots → (k : ℕ) → slots ≤ k → is_active (slot_at l k) ≡ true → ⊥
  inactive_out n k h a = false≢true (sym (ap is_active (get_or-eq_default l empty {n = k} (rw n h))) ∙ a)

  at : slots_sound l ≡ true → (k : ℕ) → k < slots → (slot_ok (slot_at l k) ≡ true) × (apart_to l k k ≡ true)
  unfolding slots_sound slot_sound
  at e k h = both_true (slot_ok (slot_at l k)) (apart_to l k k) (all_at (slot_sound l) slots k e h)

  below : slots_sound l ≡ true → (j k : ℕ) → j < k → k < slots → is_active (slot_at l j) ≡ true → is_active (slot_at l k) ≡ true → overlap_of (slot_at l j) (slot_at l k) ≡ true → ⊥
  below e j k h g a b o =
      apart_says (slot_at l j) (slot_at l k) (all_at (λ i. apart_of (slot_at l i) (slot_at l k)) k j (at e k g).1 h) a b o

  pub slots_keep : slots_sound l ≡ true → length l ≡ slots → SlotsKeep l
  slots_keep e n =
      record {
        size = n;
        valid = λ k a. (one k a (dec_lt k slots)).valid a;
        rights = λ k a. (one k a (dec_lt k slots)).rights a;
        apart = two;
        vacant = λ k a. free k a (dec_lt k slots);
      }
    where
      one : (k : ℕ) → is_active (slot_at l k) ≡ true → Dec (k < slots) → SlotKept (slot_at l k)
      one k a (yes h) = slot_kept (slot_at l k) (at e k h).0
      one k a (no g) = absurd (inactive_out n k (omega arith) a)

      free : (k : ℕ) → is_active (slot_at l k) ≡ false → Dec (k < slots) → slot_at l k ≡ empty
      free k a (yes h) = (slot_kept (slot_at l k) (at e k h).0).vacant a
      free k a (no g) = get_or-eq_default l empty {n = k} (rw n (omega arith))

      order :
          (j k : ℕ) → is_active (slot_at l j) ≡ true → is_active (slot_at l k) ≡ true → overlap_of (slot_at l j) (slot_at l k) ≡ true →
          Dec (j < k) → Dec (k < j) → Dec (j < slots) → Dec (k < slots) → j ≡ k
      order j k a b o p q (no f) s = absurd (inactive_out n j (omega arith) a)
      order j k a b o p q (yes f) (no s) = absurd (inactive_out n k (omega arith) b)
      order j k a b o (yes p) q (yes f) (yes s) = absurd (below e j k p s a b o)
      order j k a b o (no p) (yes q) (yes f) (yes s) = absurd (below e k j q f b a (overlap_sym (slot_at l k) (slot_at l j) ∙ o))
      order j k a b o (no p) (no q) (yes f) (yes s) = omega arith

      two : (j k : ℕ) → is_active (slot_at l j) ≡ true → is_active (slot_at l k) ≡ true → overlap_of (slot_at l j) (slot_at l k) ≡ true → j ≡ k
      two j k a b o = order j k a b o (dec_lt j k) (dec_lt k j) (dec_lt j slots) (dec_lt k slots)

  pub slots_sound_lem : SlotsKeep l → slots_sound l ≡ true
  unfolding slots_sound slot_sound
  slots_sound_lem s = all_from (slot_sound l) slots each
    where
      each : (k : ℕ) → k < slots → slot_ok (slot_at l k) && apart_to l k k ≡ true
      each k h =
          both
          (slot_ok_lem (slot_at l k) (record { valid = s.valid k; rights = s.rights k; vacant = s.vacant k }))
          (all_from (λ j. apart_of (slot_at l j) (slot_at l k)) k (λ j g. apart_ok (slot_at l j) (slot_at l k) (λ a b o. let e : j ≡ k = s.apart j k a b o in omega arith)))

-- a count that was worked out is right
pub counted_sound : (l : List MemPartition) → domain_sound (with_count l) ≡ slots_sound l
unfolding domain_sound with_count
counted_sound l = rw (eq-eqb (active_count l) (active_count l) refl) (and_true_right (slots_sound l))
  where
    and_true_right : (b : Bool) → b && true ≡ b
    and_true_right true = refl
    and_true_right false = refl
