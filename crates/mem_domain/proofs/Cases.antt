-- The cases of docs/SPEC.md, 3.4 and 3.17, and what an OK add means for slots and addresses (SPEC 3.14 to 3.16).
use Prim.Native.Nat.{ℕ, ◌<◌}
use native.Mathlib.Decide.{ℕ_discrete}
use native.Mathlib.Omega.{arith}
use mathlib.Core.Path.{◌≡◌, refl, sym, ap, ◌∙◌}
use mathlib.Core.Bool.{true, false, ◌||◌, true≢false}
use lib.ListN.{length, set}
use borrow.Author.Tests.{ne_eqb}
use Rattle.std.specs.Prelude.{Ok as Accepted}
use Rattle.answer.specs.Answer.{number_of, code_in, value_in}
use Rattle.answer.specs.declared.Code.TheVariants.{Ok, Enoent}
use Rattle.mem_partition.specs.Partition.{is_valid, is_free, holds}
use Rattle.mem_domain.specs.Domain.{slot_at, lowest_free, contains_addr, refused, changed_at, added, removed, gotten}
use Rattle.mem_partition.specs.declared.MemPartition.{MemPartition}
use Rattle.mem_domain.specs.declared.MemDomain.{MemDomain}
use Rattle.mem_partition.proofs.Partition.{valid_size, share_overlap, holds_active}
use Rattle.mem_domain.proofs.Domain.{add_accepts, add_stores, removed_zero, gotten_ok}
use Rattle.mem_domain.proofs.Slots.{free_below, free_free, addable_valid, addable_apart, slot_same, slot_other, contains_set}

-- the greatest size at a start, and one more (SPEC 3.4)
pub size_15_is_valid : (attr : ℕ) → is_valid (record { start = 0xFFFFFFF0; size = 15; attr = attr }) ≡ true
unfolding is_valid
size_15_is_valid attr = refl

pub size_16_is_not : (attr : ℕ) → is_valid (record { start = 0xFFFFFFF0; size = 16; attr = attr }) ≡ false
unfolding is_valid
size_16_is_not attr = refl

-- size 0 is ENOENT on every record, with start 0 and with every other (SPEC 3.17)
pub remove_0_0 : (d : MemDomain) → removed d 0 0 ≡ refused Enoent d
remove_0_0 d = removed_zero d 0 0 refl

pub remove_size_0 : (d : MemDomain) (start : ℕ) → removed d start 0 ≡ refused Enoent d
remove_size_0 d start = removed_zero d start 0 refl

-- after an OK add (16 slots, as the type has them)
module _ (d : MemDomain) (p : MemPartition) (w : length d.partitions ≡ 16) (e : code_in (added d p).answer ≡ number_of Ok) where
  value_is : value_in (added d p).answer ≡ lowest_free d.partitions
  unfolding changed_at
  value_is = ap (λ r. value_in r.answer) (add_stores d p e)

  slots_are : (added d p).domain.partitions ≡ set d.partitions (lowest_free d.partitions) p
  unfolding changed_at
  slots_are = ap (λ r. r.domain.partitions) (add_stores d p e)

  inside : lowest_free d.partitions < length d.partitions
  inside = omega (arith, free_below d.partitions (add_accepts d p e).1)

  -- the returned slot holds exactly the window, and every other slot stays
  pub add_stores_window : slot_at (added d p).domain.partitions (value_in (added d p).answer) ≡ p
  add_stores_window = rw (slots_are, value_is) (slot_same d.partitions (lowest_free d.partitions) p inside)

  pub add_leaves_others : (j : ℕ) → (j ≡ (value_in (added d p).answer) → ⊥) → slot_at (added d p).domain.partitions j ≡ slot_at d.partitions j
  add_leaves_others j n = rw slots_are (slot_other d.partitions (lowest_free d.partitions) p j (λ i. n (i ∙ sym value_is)))

  -- get of the returned slot gives the three fields
  pub add_then_get : gotten (added d p).domain (value_in (added d p).answer) ≡ Accepted p
  add_then_get =
      let (a, f) = add_accepts d p e in
      let b = free_below d.partitions f in
      let z = valid_size p (addable_valid d.partitions p a) in
      gotten_ok (added d p).domain (value_in (added d p).answer) (rw value_is b) (ap is_free add_stores_window ∙ ne_eqb p.size 0 (λ i. omega arith))
      ∙ ap Accepted add_stores_window

  module _ (a : ℕ) where
    -- an address is in the new domain iff it was in the old one or is in the window
    pub add_addresses : contains_addr (added d p).domain.partitions a ≡ (contains_addr d.partitions a || holds p a)
    add_addresses =
        let (g, f) = add_accepts d p e in
        rw slots_are (contains_set d.partitions (lowest_free d.partitions) p a (free_below d.partitions f) inside (free_free d.partitions f))

    -- where it is in the window, no slot but the returned one holds it, so its attr is the window's; elsewhere a slot that holds it is an old one
    only : (j : ℕ) → j < 16 → holds p a ≡ true → holds (slot_at (added d p).domain.partitions j) a ≡ true → Dec (j ≡ (value_in (added d p).answer))
        → slot_at (added d p).domain.partitions j ≡ p
    only j b h g (yes i) = ap (slot_at (added d p).domain.partitions) i ∙ add_stores_window
    only j b h g (no n) =
        let q = add_leaves_others j n in
        let o : holds (slot_at d.partitions j) a ≡ true = sym (ap (λ r. holds r a) q) ∙ g in
        absurd
        (true≢false
        (sym (share_overlap p (slot_at d.partitions j) a h o)
        ∙ addable_apart d.partitions p (add_accepts d p e).0 j b (holds_active (slot_at d.partitions j) a o)))

    pub add_attr : (j : ℕ) → j < 16 → holds p a ≡ true → holds (slot_at (added d p).domain.partitions j) a ≡ true
        → (slot_at (added d p).domain.partitions j).attr ≡ p.attr
    add_attr j b h g = ap (λ q. q.attr) (only j b h g (ℕ_discrete j (value_in (added d p).answer)))

    old : (j : ℕ) → holds p a ≡ false → holds (slot_at (added d p).domain.partitions j) a ≡ true → Dec (j ≡ (value_in (added d p).answer))
        → slot_at (added d p).domain.partitions j ≡ slot_at d.partitions j
    old j h g (yes i) = absurd (true≢false (sym g ∙ ap (λ q. holds q a) (ap (slot_at (added d p).domain.partitions) i ∙ add_stores_window) ∙ h))
    old j h g (no n) = add_leaves_others j n

    pub add_attr_elsewhere : (j : ℕ) → holds p a ≡ false → holds (slot_at (added d p).domain.partitions j) a ≡ true
        → slot_at (added d p).domain.partitions j ≡ slot_at d.partitions j
    add_attr_elsewhere j h g = old j h g (ℕ_discrete j (value_in (added d p).answer))
