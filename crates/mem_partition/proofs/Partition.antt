-- Laws of windows: what validity gives, and what overlap means.
use Prim.Native.Nat.{ℕ, ◌≤◌, ◌<◌}
use native.Mathlib.Omega.{arith}
use mathlib.Core.Path.{◌≡◌, refl, ap}
use mathlib.Core.Bool.{Bool, true, false, not, ◌&&◌, and_comm, and-false, true≢false}
use mathlib.Core.Logic.{◌⊎◌, inl, inr}
use lib.Dec.{ltb, leb}
use borrow.Author.Tests.{lt-ltb, le-leb, ne_eqb, ltb-true, ltb-false, leb-true, eqb-false, not-true}
use Rattle.mem_partition.specs.Partition.{end_of, is_valid, overlap_of, is_free, is_active, meets, holds}
use Rattle.mem_partition.specs.declared.MemPartition.{MemPartition}
use Rattle.mem_partition.proofs.Tests.{and_left, and_right}

-- a valid window has a size, and an end that fits 32 bits
pub valid_size : (p : MemPartition) → is_valid p ≡ true → 0 < p.size
unfolding is_valid
valid_size p e = ltb-true 0 p.size (and_left (ltb 0 p.size) (leb (end_of p) 4294967295) e)

pub valid_end : (p : MemPartition) → is_valid p ≡ true → end_of p ≤ 4294967295
unfolding is_valid
valid_end p e = leb-true (end_of p) 4294967295 (and_right (ltb 0 p.size) (leb (end_of p) 4294967295) e)

-- overlap is symmetric
pub overlap_sym : (p q : MemPartition) → overlap_of p q ≡ overlap_of q p
unfolding overlap_of meets
overlap_sym p q = and_comm (ltb q.start (end_of p)) (ltb p.start (end_of q))

-- windows that do not overlap lie one before the other
split_off : (a b c d : ℕ) (x y : Bool) → ltb a b ≡ x → ltb c d ≡ y → (x && y) ≡ false → (b ≤ a) ⊎ (d ≤ c)
split_off a b c d false y e f g = inl (ltb-false a b e)
split_off a b c d true false e f g = inr (ltb-false c d f)
split_off a b c d true true e f g = absurd (true≢false g)

pub apart_disjoint : (p q : MemPartition) → overlap_of p q ≡ false → (end_of p ≤ q.start) ⊎ (end_of q ≤ p.start)
unfolding overlap_of meets
apart_disjoint p q e = split_off q.start (end_of p) p.start (end_of q) (ltb q.start (end_of p)) (ltb p.start (end_of q)) refl refl e

-- an address is in the window
pub holds_from : (p : MemPartition) (a : ℕ) → holds p a ≡ true → p.start ≤ a
unfolding holds
holds_from p a e = leb-true p.start a (and_left (leb p.start a) (ltb a (end_of p)) e)

pub holds_before : (p : MemPartition) (a : ℕ) → holds p a ≡ true → a < end_of p
unfolding holds
holds_before p a e = ltb-true a (end_of p) (and_right (leb p.start a) (ltb a (end_of p)) e)

pub holds_at_lem : (p : MemPartition) (a : ℕ) → p.start ≤ a → a < end_of p → holds p a ≡ true
unfolding holds
holds_at_lem p a l h = rw (le-leb p.start a l, lt-ltb a (end_of p) h)

-- windows that share an address overlap
pub share_overlap : (p q : MemPartition) (a : ℕ) → holds p a ≡ true → holds q a ≡ true → overlap_of p q ≡ true
unfolding overlap_of meets
share_overlap p q a e f =
    let h₁ = holds_from p a e in
    let h₂ = holds_before p a e in
    let h₃ = holds_from q a f in
    let h₄ = holds_before q a f in
    rw (lt-ltb q.start (end_of p) (omega arith), lt-ltb p.start (end_of q) (omega arith))

-- active: a size above 0; a free window holds nothing
pub active_size : (p : MemPartition) → is_active p ≡ true → 0 < p.size
active_size p e = let h : (p.size ≡ 0 → ⊥) = λ z. eqb-false p.size 0 (not-true (is_free p) e) z in omega arith

pub size_active : (p : MemPartition) → 0 < p.size → is_active p ≡ true
size_active p h = ap not (ne_eqb p.size 0 (λ z. omega arith))

pub holds_active : (p : MemPartition) (a : ℕ) → holds p a ≡ true → is_active p ≡ true
holds_active p a e = let h₁ = holds_from p a e in let h₂ = holds_before p a e in size_active p (omega arith)

pub active_holds : (p : MemPartition) (a : ℕ) → (is_active p && holds p a) ≡ holds p a
active_holds p a = go (holds p a) refl
  where
    go : (b : Bool) → holds p a ≡ b → (is_active p && holds p a) ≡ holds p a
    go true e = rw (holds_active p a e)
    go false e = rw e (and-false (is_active p))
