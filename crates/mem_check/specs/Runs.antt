-- Laws of a run of covered bytes, for every crate that asks how far it goes: it stops behind the last covered byte, so that it is as long as asked exactly
-- when every byte is covered, and else ends at the least address that is not (docs/SPEC.md, 7.44 and 7.45).
use Rattle.std.specs.Prelude.{◌≡◌, ℕ, zero, suc, ◌+◌, ◌<◌, ◌≤◌, Bool, true, false, List}
use Rattle.std.proofs.Math.Decide.{dec_lt}
use Rattle.std.proofs.Common.{not-suc-le-zero, arith, sym, ◌∙◌, true≢false}
use Rattle.std.proofs.Math.Path.{refl}
use Rattle.mem_partition.specs.declared.MemPartition.{MemPartition}
use Rattle.mem_check.specs.Memory.{is_covered, covered_run}

-- every byte of the range is covered
abbrev pub EveryByte : List MemPartition → Bool → ℕ → ℕ → Type 0
EveryByte ps write from len = (x : ℕ) → from ≤ x → x < from + len → is_covered ps write x ≡ true

-- the least address of the range that is not covered
pub record Least (ps : List MemPartition) (write : Bool) (from len v : ℕ) : Type 0 where
  pub start : from ≤ v
  pub end : v < from + len
  pub bare : is_covered ps write v ≡ false
  pub before : (x : ℕ) → from ≤ x → x < v → is_covered ps write x ≡ true

module _ (ps : List MemPartition) (write : Bool) where
  pub run_on : (x n : ℕ) → is_covered ps write x ≡ true → covered_run ps write x (suc n) ≡ suc (covered_run ps write (suc x) n)
  unfolding covered_run
  run_on x n e = rw e

  pub run_off : (x n : ℕ) → is_covered ps write x ≡ false → covered_run ps write x n ≡ 0
  unfolding covered_run
  run_off x zero e = refl
  run_off x (suc n) e = rw e

  pub run_empty : (x n : ℕ) → n ≡ 0 → covered_run ps write x n ≡ 0
  unfolding covered_run
  run_empty x n e = rw e

  le_case : (b : Bool) (x n : ℕ) → is_covered ps write x ≡ b → covered_run ps write (suc x) n ≤ n → covered_run ps write x (suc n) ≤ suc n
  le_case true x n e h = omega (arith, run_on x n e)
  le_case false x n e h = omega (arith, run_off x (suc n) e)

  pub run_le : (x n : ℕ) → covered_run ps write x n ≤ n
  run_le x zero = omega (arith, run_empty x 0 refl)
  run_le x (suc n) = le_case (is_covered ps write x) x n refl (run_le (suc x) n)

  -- every byte of the run is covered
  in_case :
      (b : Bool) (x n y : ℕ) → is_covered ps write x ≡ b → (suc x ≤ y → y < suc x + covered_run ps write (suc x) n → is_covered ps write y ≡ true) →
      Dec (x < y) → x ≤ y → y < x + covered_run ps write x (suc n) → is_covered ps write y ≡ true
  in_case true x n y e more (yes l) g h = more l (omega (arith, run_on x n e))
  in_case true x n y e more (no f) g h = let q : x ≡ y = omega arith in rw q at e
  in_case false x n y e more d g h = absurd (omega (arith, run_off x (suc n) e))

  pub run_in : (x n y : ℕ) → x ≤ y → y < x + covered_run ps write x n → is_covered ps write y ≡ true
  run_in x zero y g h = absurd (omega (arith, run_empty x 0 refl))
  run_in x (suc n) y g h = in_case (is_covered ps write x) x n y refl (run_in (suc x) n y) (dec_lt x y) g h

  -- the byte behind it is not
  end_case :
      (b : Bool) (x n : ℕ) → is_covered ps write x ≡ b → (covered_run ps write (suc x) n < n → is_covered ps write (suc x + covered_run ps write (suc x) n) ≡ false) →
      covered_run ps write x (suc n) < suc n → is_covered ps write (x + covered_run ps write x (suc n)) ≡ false
  end_case true x n e more h =
      let q : x + covered_run ps write x (suc n) ≡ suc x + covered_run ps write (suc x) n = omega (arith, run_on x n e) in
      rw q (more (omega (arith, run_on x n e)))
  end_case false x n e more h =
      let q : x + covered_run ps write x (suc n) ≡ x = omega (arith, run_off x (suc n) e) in
      rw q e

  pub run_end : (x n : ℕ) → covered_run ps write x n < n → is_covered ps write (x + covered_run ps write x n) ≡ false
  run_end x zero h = absurd (not-suc-le-zero h)
  run_end x (suc n) h = end_case (is_covered ps write x) x n refl (run_end (suc x) n) h

  -- a run as long as asked, and one that ends early
  pub run_all : (from len : ℕ) → len ≤ covered_run ps write from len → EveryByte ps write from len
  run_all from len h x l g = run_in from len x l (omega arith)

  pub all_run : (from len : ℕ) → EveryByte ps write from len → len ≤ covered_run ps write from len
  all_run from len f = go (dec_lt (covered_run ps write from len) len)
    where
      go : Dec (covered_run ps write from len < len) → len ≤ covered_run ps write from len
      go (yes g) = absurd (true≢false (sym (f (from + covered_run ps write from len) (omega arith) (omega arith)) ∙ run_end from len g))
      go (no g) = omega arith

  pub run_least : (from len : ℕ) → covered_run ps write from len < len → Least ps write from len (from + covered_run ps write from len)
  run_least from len h = record { start = omega arith; end = omega arith; bare = run_end from len h; before = run_in from len }
