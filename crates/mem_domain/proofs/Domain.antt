-- The definitions of add, remove and get, case by case.
use Prim.Native.Nat.{ℕ, ◌<◌, ◌≤◌}
use native.Mathlib.Omega.{arith}
use mathlib.Core.Path.{◌≡◌, refl, ap}
use mathlib.Core.Bool.{Bool, true, false, not, ◌||◌}
use mathlib.Core.List.{List}
use lib.Dec.{ltb, eqb}
use borrow.Author.Tests.{le-leb, lt-leb}
use Rattle.std.specs.Prelude.{Ok as Accepted, Err}
use Rattle.answer.specs.Answer.{number_of, code_in}
use Rattle.answer.specs.declared.Code.TheVariants.{Ok, Einval, Enospc, Enoent}
use Rattle.mem_partition.specs.Partition.{empty, end_of, is_valid, overlap_of}
use Rattle.mem_domain.specs.Domain.{slot_at, free_at, clashes, crossed, addable, lowest_free, has_free, lowest_window, has_window, refused, changed_at, added, removed, gotten}
use Rattle.mem_partition.specs.declared.MemPartition.{MemPartition}
use Rattle.mem_domain.specs.declared.MemDomain.{MemDomain}

module _ (d : MemDomain) where
  module _ (p : MemPartition) where
    pub added_bad : addable d.partitions p ≡ false → added d p ≡ refused Einval d
    unfolding added
    added_bad e = rw e

    pub added_full : addable d.partitions p ≡ true → has_free d.partitions ≡ false → added d p ≡ refused Enospc d
    unfolding added
    added_full e f = rw (e, f)

    pub added_ok : addable d.partitions p ≡ true → has_free d.partitions ≡ true → added d p ≡ changed_at d.partitions (lowest_free d.partitions) p
    unfolding added
    added_ok e f = rw (e, f)

    -- an OK says that the window was addable and a slot free
    accepts : (a f : Bool) → addable d.partitions p ≡ a → has_free d.partitions ≡ f → code_in (added d p).answer ≡ number_of Ok
        → (addable d.partitions p ≡ true) × (has_free d.partitions ≡ true)
    accepts true true e g h = (e, g)
    accepts true false e g h = absurd (omega (arith, ap (λ r. code_in r.answer) (added_full e g)))
    accepts false f e g h = absurd (omega (arith, ap (λ r. code_in r.answer) (added_bad e)))

    pub add_accepts : code_in (added d p).answer ≡ number_of Ok → (addable d.partitions p ≡ true) × (has_free d.partitions ≡ true)
    add_accepts h = accepts (addable d.partitions p) (has_free d.partitions) refl refl h

    pub add_stores : code_in (added d p).answer ≡ number_of Ok → added d p ≡ changed_at d.partitions (lowest_free d.partitions) p
    add_stores h = let (e, f) = add_accepts h in added_ok e f

  module _ (start size : ℕ) where
    pub removed_zero : eqb size 0 ≡ true → removed d start size ≡ refused Enoent d
    unfolding removed
    removed_zero e = rw e

    none : (z h : Bool) → h ≡ false → (z || not h) ≡ true
    none true h e = refl
    none false h e = rw e

    pub removed_none : has_window d.partitions start size ≡ false → removed d start size ≡ refused Enoent d
    unfolding removed
    removed_none e = rw (none (eqb size 0) (has_window d.partitions start size) e)

    pub removed_ok : eqb size 0 ≡ false → has_window d.partitions start size ≡ true → removed d start size ≡ changed_at d.partitions (lowest_window d.partitions start size) empty
    unfolding removed
    removed_ok e f = rw (e, f)

    matched : (z h : Bool) → eqb size 0 ≡ z → has_window d.partitions start size ≡ h → code_in (removed d start size).answer ≡ number_of Ok
        → (eqb size 0 ≡ false) × (has_window d.partitions start size ≡ true)
    matched true h e f g = absurd (omega (arith, ap (λ r. code_in r.answer) (removed_zero e)))
    matched false false e f g = absurd (omega (arith, ap (λ r. code_in r.answer) (removed_none f)))
    matched false true e f g = (e, f)

    pub remove_matches : code_in (removed d start size).answer ≡ number_of Ok → (eqb size 0 ≡ false) × (has_window d.partitions start size ≡ true)
    remove_matches g = matched (eqb size 0) (has_window d.partitions start size) refl refl g

    pub remove_frees : code_in (removed d start size).answer ≡ number_of Ok
        → removed d start size ≡ changed_at d.partitions (lowest_window d.partitions start size) empty
    remove_frees g = let (e, f) = remove_matches g in removed_ok e f

  module _ (k : ℕ) where
    pub gotten_out : 16 ≤ k → gotten d k ≡ Err Einval
    unfolding gotten
    gotten_out l = rw (le-leb 16 k l)

    pub gotten_free : k < 16 → free_at d.partitions k ≡ true → gotten d k ≡ Err Enoent
    unfolding gotten
    gotten_free l e = rw (lt-leb 16 k l, e)

    pub gotten_ok : k < 16 → free_at d.partitions k ≡ false → gotten d k ≡ Accepted (slot_at d.partitions k)
    unfolding gotten
    gotten_ok l e = rw (lt-leb 16 k l, e)

-- there is a free slot, or a match, where the lowest is below 16
pub has_free_lem : (l : List MemPartition) → has_free l ≡ ltb (lowest_free l) 16
unfolding has_free lowest_free
has_free_lem l = refl

pub has_window_lem : (l : List MemPartition) (start size : ℕ) → has_window l start size ≡ ltb (lowest_window l start size) 16
unfolding has_window lowest_window
has_window_lem l start size = refl

-- the overlap of a window with the slots is that of its start and end
pub clashes_crossed : (l : List MemPartition) (p : MemPartition) (end : ℕ) → end ≡ end_of p → clashes l p ≡ crossed l p.start end
unfolding clashes crossed overlap_of
clashes_crossed l p end e = rw e

pub addable_past : (l : List MemPartition) (p : MemPartition) → is_valid p ≡ true → addable l p ≡ not (clashes l p)
unfolding addable
addable_past l p e = rw e

pub addable_bad : (l : List MemPartition) (p : MemPartition) → is_valid p ≡ false → addable l p ≡ false
unfolding addable
addable_bad l p e = rw e
