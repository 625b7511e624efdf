-- The code's steps: a slot's run, a scan, and the walk from window to window, against the definition byte by byte.
use Rattle.std.proofs.Common.{◌≡◌, ℕ, zero, suc, ◌+◌, ◌-◌, ◌*◌, ◌^◌, ◌<◌, ◌≤◌, Bool, true, false, cond, List, sym, refl, ◌∙◌, true≢false, not-suc-le-zero, arith}
use native.Mathlib.Decide.{dec_lt}
use Rattle.mem_partition.specs.Partition.{empty, end_of}
use Rattle.mem_domain.specs.Domain.{slots as SLOTS, slot_at}
use Rattle.mem_partition.specs.declared.MemPartition.{MemPartition}
use Rattle.tables.specs.Tabulate.{get_d_tabulate}
use Rattle.tables.specs.Table.{partition_at, partitions_at}
use Rattle.mem_check.specs.Memory.{gives, covers_at, is_covered, covered_run}
use Rattle.mem_check.specs.Windows.{Ahead, covers, run_in, Run}
use Rattle.mem_check.specs.Runs.{run_on, run_off, run_empty}
use Rattle.mem_check.proofs.Memory.{Covers, slot_means, slot_when, covered_when, covered_not}

-- ---- a slot

chosen : (b : Bool) (n : ℕ) → (b ≡ true → ⊥) → 0 ≡ cond b n 0
chosen true n f = absurd (f refl)
chosen false n f = refl

module _ (p : MemPartition) (write : Bool) (x : ℕ) where
  slot_none : (Covers p write x → ⊥) → 0 ≡ run_in p write x
  unfolding run_in
  slot_none f = chosen (covers p write x) (end_of p - x) (λ e. f (slot_means p write x e))

  -- the code's four ways out
  pub slot_before : x < p.start → 0 ≡ run_in p write x
  slot_before h = slot_none (λ c. omega arith)

  pub slot_behind : p.size ≤ x - p.start → 0 ≡ run_in p write x
  slot_behind h = slot_none (λ c. omega arith)

  -- one comparison: a size that does not reach as far as x lies ahead
  pub slot_far : {r : ℕ} → Ahead p.start x r → p.size ≤ r → 0 ≡ run_in p write x
  slot_far {r} a h = go (dec_lt x p.start)
    where
      go : Dec (x < p.start) → 0 ≡ run_in p write x
      go (yes b) = slot_before b
      go (no f) = slot_behind (omega (arith, a.behind (omega arith)))

  pub slot_barred : gives p write ≡ false → 0 ≡ run_in p write x
  slot_barred e = slot_none (λ c. absurd (true≢false (sym c.right ∙ e)))

  pub slot_run : p.start ≤ x → x - p.start < p.size → gives p write ≡ true → p.size - (x - p.start) ≡ run_in p write x
  unfolding run_in
  slot_run l h g =
      rw (slot_when p write x (record { active = omega arith; from = l; to = omega arith; right = g })) (omega arith)

  -- what a run says of the slot
  ahead_case : (b : Bool) → covers p write x ≡ b → (j : ℕ) → j < cond b (end_of p - x) 0 → Covers p write (x + j)
  ahead_case true e j h =
      let c = slot_means p write x e in
      record { active = c.active; from = omega arith; to = omega arith; right = c.right }
  ahead_case false e j h = absurd (not-suc-le-zero h)

  pub slot_ahead : (j : ℕ) → j < run_in p write x → Covers p write (x + j)
  unfolding run_in
  slot_ahead j h = ahead_case (covers p write x) refl j h

  zero_case : (b : Bool) → covers p write x ≡ b → cond b (end_of p - x) 0 ≤ 0 → covers p write x ≡ false
  zero_case true e h = let c = slot_means p write x e in absurd (omega arith)
  zero_case false e h = e

  pub slot_zero : run_in p write x ≤ 0 → covers p write x ≡ false
  unfolding run_in
  slot_zero h = zero_case (covers p write x) refl h

-- ---- a scan

pub slot_is : (ss : List ℕ) (d k : ℕ) → k < SLOTS → slot_at (partitions_at ss d) k ≡ partition_at ss (SLOTS * d + k)
unfolding partitions_at
slot_is ss d k h = get_d_tabulate SLOTS (λ j. partition_at ss (SLOTS * d + j)) k empty h

module _ (ss : List ℕ) (d x : ℕ) (write : Bool) where
  -- none of the first k slots covers x
  abbrev pub NoneTo : ℕ → Type 0
  NoneTo k = (j : ℕ) → j < k → covers_at (partitions_at ss d) write x j ≡ false

  pub scan_hit : (k n : ℕ) → k < SLOTS → n ≡ run_in (partition_at ss (SLOTS * d + k)) write x → 0 < n → Run (partitions_at ss d) write x n
  scan_hit k n h e g =
      record {
        ahead = λ j l.
            covered_when (partitions_at ss d) write (x + j)
            (record { slot = k; below = h; covers = rw (slot_is ss d k h) (slot_ahead (partition_at ss (SLOTS * d + k)) write x j (omega arith)) });
        none = λ z. absurd (omega arith);
      }

  pub scan_miss : (k n : ℕ) → k < SLOTS → n ≡ run_in (partition_at ss (SLOTS * d + k)) write x → n ≤ 0 → NoneTo k → NoneTo (k + 1)
  scan_miss k n h e g f j l = go (dec_lt j k)
    where
      go : Dec (j < k) → covers_at (partitions_at ss d) write x j ≡ false
      go (yes q) = f j q
      go (no q) =
          let i : j ≡ k = omega arith in
          rw (i, slot_is ss d k h) (slot_zero (partition_at ss (SLOTS * d + k)) write x (omega arith))

  pub scan_end : (k : ℕ) → SLOTS ≤ k → NoneTo k → Run (partitions_at ss d) write x 0
  scan_end k h f =
      record {
        ahead = λ j l. absurd (not-suc-le-zero l);
        none = λ z. covered_not (partitions_at ss d) write x (λ j l. f j (omega arith));
      }

-- ---- the walk

module _ (ps : List MemPartition) (write : Bool) where
  -- j bytes in a row
  pub run_jump :
      (j x n : ℕ) → j ≤ n → ((i : ℕ) → i < j → is_covered ps write (x + i) ≡ true) →
      covered_run ps write x n ≡ j + covered_run ps write (x + j) (n - j)
  run_jump zero x n h f =
      let a : x + 0 ≡ x = omega arith in
      let b : n - 0 ≡ n = omega arith in
      rw (a, b) (omega arith)
  run_jump (suc j) x zero h f = absurd (omega arith)
  run_jump (suc j) x (suc n) h f =
      let o : x + 0 ≡ x = omega arith in
      let z : is_covered ps write x ≡ true = rw o at (f 0 (omega arith)) in
      let g : (i : ℕ) → i < j → is_covered ps write (suc x + i) ≡ true = λ i q. let m : x + suc i ≡ suc x + i = omega arith in rw m at (f (suc i) (omega arith)) in
      let a : x + suc j ≡ suc x + j = omega arith in
      let b : suc n - suc j ≡ n - j = omega arith in
      rw (a, b) (omega (arith, run_on ps write x n z, run_jump j (suc x) n (omega arith) g))

  -- after `done` bytes of the len: n is the next scan's
  module _ (from len done n r : ℕ) (i : done ≤ len) (k : r ≡ done + covered_run ps write (from + done) (len - done)) (m : Run ps write (from + done) n) where
    pub walk_stop : n ≡ 0 → done ≡ r
    walk_stop z = omega (arith, run_off ps write (from + done) (len - done) (m.none z))

    pub walk_on : (j : ℕ) → j ≤ len - done → j ≤ n → r ≡ (done + j) + covered_run ps write (from + (done + j)) (len - (done + j))
    walk_on j p q =
        let e = run_jump j (from + done) (len - done) p (λ y h. m.ahead y (omega arith)) in
        let a : from + (done + j) ≡ from + done + j = omega arith in
        let b : len - (done + j) ≡ len - done - j = omega arith in
        rw (a, b) (omega (arith, e))

    pub walk_all : len - done ≤ n → len ≡ r
    walk_all q =
        omega (
          arith,
          walk_on (len - done) (omega arith) q,
          run_empty ps write (from + (done + (len - done))) (len - (done + (len - done))) (omega arith),
        )

  pub walk_start : (from len : ℕ) → covered_run ps write from len ≡ 0 + covered_run ps write (from + 0) (len - 0)
  walk_start from len =
      let a : from + 0 ≡ from = omega arith in
      let b : len - 0 ≡ len = omega arith in
      rw (a, b) (omega arith)

  pub walk_end : (from len done r : ℕ) → len ≤ done → r ≡ done + covered_run ps write (from + done) (len - done) → done ≡ r
  walk_end from len done r l k = omega (arith, run_empty ps write (from + done) (len - done) (omega arith))

-- a size that reaches farther: x lies in the window
pub in_reach : {start x r size : ℕ} → Ahead start x r → r < size → size < 2 ^ 32 → (start ≤ x) × (x - start < size)
in_reach {start} {x} {r} {size} a h l = go (dec_lt x start)
  where
    go : Dec (x < start) → (start ≤ x) × (x - start < size)
    go (yes b) = absurd (omega (arith, a.before b))
    go (no f) = (omega arith, omega (arith, a.behind (omega arith)))
