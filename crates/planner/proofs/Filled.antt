-- The planner's loop: the words of the first k slots, and behind them what was there.
use Prim.Native.Nat.{ℕ, zero, suc, ◌+◌, ◌*◌, ◌%◌, ◌^◌, ◌-◌, ◌<◌, ◌≤◌}
use mathlib.Core.Path.{◌≡◌, refl, sym, ◌∙◌}
use mathlib.Core.List.{List, [], ◌∷◌, ◌++◌, append_assoc}
use mathlib.Core.Bool.{Bool, true, false, cond}
use native.Mathlib.Nat.{le_refl, dvd_trans, dvd_of_mod-eq-zero, mod-eq-zero_of_dvd, dvd-mul_left}
use native.Mathlib.Numerals.{add-one}
use native.Mathlib.Decide.{le_ind}
use native.Mathlib.Omega.{arith}
use borrow.Author.Tests.{eqb-true, leb-true}
use lib.Dec.{eqb}
use lib.Pow.{pow-add}
use lib.ListN.{length, drop, set, length-append}
use lib.Seq.{drop-cons, set_at, append_snoc}
use Rattle.mem_domain.specs.Scan.{count_to}
use Rattle.mem_partition.specs.Partition.{is_active}
use Rattle.mem_domain.specs.Domain.{slots, slot_at, active_to, active_count}
use Rattle.mem_partition.specs.declared.MemPartition.{MemPartition}
use Rattle.mem_domain.specs.declared.MemDomain.{MemDomain}
use Rattle.mem_domain.proofs.Scan.{count_le}
use Rattle.domain_rules.specs.Sound.{slots_sound, domain_sound}
use Rattle.domain_rules.proofs.All.{both_true, all_at}
use Rattle.planner.specs.Planner.{field_for, is_region, rbar_of, rasr_of, slot_fits, slots_fit, next_region, put_slot, words_to, plan_of, word_count}
use Rattle.planner.proofs.Bits.{field_right}

cond_up : (b : Bool) (x : ℕ) → x ≤ x + cond b 1 0
cond_up true x = omega arith
cond_up false x = omega arith

pub active_step : (l : List MemPartition) (k : ℕ) → active_to l (k + 1) ≡ next_region (slot_at l k) (active_to l k)
unfolding count_to
active_step l k = rw add-one

pub active_le : (l : List MemPartition) (k : ℕ) → active_to l k ≤ k
active_le l k = count_le (λ j. is_active (slot_at l j)) k

pub active_mono : (l : List MemPartition) (k n : ℕ) → k ≤ n → active_to l k ≤ active_to l n
unfolding count_to
active_mono l k n h =
    le_ind (λ (m : ℕ). active_to l k ≤ active_to l m) (le_refl _) (λ m i p. let q = cond_up (is_active (slot_at l m)) (active_to l m) in omega arith) n h

pub active_all : (l : List MemPartition) → active_count l ≤ 16
unfolding active_count
active_all l = active_le l 16

-- an active slot has room, where all of them have
pub room : (l : List MemPartition) (k n : ℕ) → k < 16 → word_count l ≤ n → is_active (slot_at l k) ≡ true → active_to l k * 2 + 1 < n
unfolding active_count
room l k n h r e =
    let s = active_step l k in
    let s' : active_to l (k + 1) ≡ active_to l k + 1 = rw e at s in
    let m = active_mono l (k + 1) 16 (omega arith) in
    omega arith

pub words_step : (l : List MemPartition) (k : ℕ) → words_to l (k + 1) ≡ cond (is_active (slot_at l k))
    (words_to l k ++ (rbar_of (slot_at l k) (active_to l k) ∷ rasr_of (slot_at l k) ∷ [])) (words_to l k)
unfolding words_to
words_step l k = rw add-one

length_step : (b : Bool) (p : List ℕ) (x y n : ℕ) → length p ≡ n * 2 → length (cond b (p ++ (x ∷ y ∷ [])) p) ≡ (n + cond b 1 0) * 2
length_step true p x y n e = simp length-append (omega arith)
length_step false p x y n e = omega arith

pub words_length : (l : List MemPartition) (k : ℕ) → length (words_to l k) ≡ active_to l k * 2
unfolding words_to count_to
words_length l zero = refl
words_length l (suc k) = length_step (is_active (slot_at l k)) (words_to l k) _ _ (active_to l k) (words_length l k)

pub plan_length : (l : List MemPartition) → length (plan_of l) ≡ word_count l
unfolding plan_of active_count
plan_length l = words_length l slots

pub none : (l : List MemPartition) (o : List ℕ) → o ≡ words_to l 0 ++ drop (active_to l 0 * 2) o
unfolding words_to count_to
none l o = refl

-- two words behind p
put_two : (p o : List ℕ) (n x y : ℕ) → length p ≡ n → n + 1 < length o → set (set (p ++ drop n o) n x) (n + 1) y ≡ (p ++ (x ∷ y ∷ [])) ++ drop (n + 2) o
put_two p o n x y e h =
    let l : n < length o = omega arith in
    let l' : suc n < length o = omega arith in
    let q : n + 2 ≡ suc (suc n) = omega arith in
    let r : length (p ++ (x ∷ [])) ≡ n + 1 = simp length-append (omega arith) in
    let e₁ : set (p ++ drop n o) n x ≡ (p ++ (x ∷ [])) ++ drop (suc n) o =
    rw (drop-cons o n 0 l) (set_at p _ _ x n e ∙ sym (append_snoc p x _)) in
    let e₂ : set ((p ++ (x ∷ [])) ++ drop (suc n) o) (n + 1) y ≡ (p ++ (x ∷ [])) ++ (y ∷ drop (suc (suc n)) o) =
    rw (drop-cons o (suc n) 0 l') (set_at (p ++ (x ∷ [])) _ _ y (n + 1) r) in
    rw (e₁, e₂, q) (simp append_assoc)

fill_cases : (b : Bool) (p o : List ℕ) (m x y : ℕ) → length p ≡ m * 2 → (b ≡ true → m * 2 + 1 < length o)
    → cond b (set (set (p ++ drop (m * 2) o) (m * 2) x) (m * 2 + 1) y) (p ++ drop (m * 2) o)
    ≡ cond b (p ++ (x ∷ y ∷ [])) p ++ drop ((m + cond b 1 0) * 2) o
fill_cases true p o m x y e h =
    let q : (m + 1) * 2 ≡ m * 2 + 2 = omega arith in
    rw q (put_two p o (m * 2) x y e (h refl))
fill_cases false p o m x y e h = let q : (m + 0) * 2 ≡ m * 2 = omega arith in rw q

-- a turn of the loop
pub fill_more : (l : List MemPartition) (o : List ℕ) (k : ℕ) → (is_active (slot_at l k) ≡ true → active_to l k * 2 + 1 < length o)
    → put_slot (slot_at l k) (active_to l k) (words_to l k ++ drop (active_to l k * 2) o) ≡ words_to l (k + 1) ++ drop (active_to l (k + 1) * 2) o
fill_more l o k h = rw (words_step l k, active_step l k) (fill_cases (is_active (slot_at l k)) (words_to l k) o (active_to l k) _ _ (words_length l k) h)

-- what an active slot that can be a region gives
pub record Slot (p : MemPartition) : Type 0 where
  pub field : 4 ≤ field_for p.size
  pub small : field_for p.size < 32
  pub power : 2 ^ (field_for p.size + 1) ≡ p.size
  pub multiple : p.start % p.size ≡ 0

pub region_slot : (p : MemPartition) → is_region p ≡ true → Slot p
unfolding is_region
region_slot p t =
    let h = both_true _ _ t in
    let f : 4 ≤ field_for p.size = leb-true _ _ h.0 in
    let w = field_right p.size (omega arith) in
    record { field = f; small = w.small; power = w.power; multiple = eqb-true _ _ h.1 }

pub slot : (p : MemPartition) → slot_fits p ≡ true → eqb p.size 0 ≡ false → Slot p
unfolding slot_fits
slot p t e = region_slot p (rw e at t)

-- its start is a multiple of 32
pub by_32 : (p : MemPartition) → Slot p → p.start % 32 ≡ 0
by_32 p s =
    let f = field_for p.size in
    let q : f - 4 + 5 ≡ f + 1 = omega (arith, s.field) in
    let w : 2 ^ (f - 4) * 32 ≡ p.size = sym (pow-add 2 (f - 4) 5) ∙ rw q s.power in
    mod-eq-zero_of_dvd 32 (dvd_trans 32 (rw w at (dvd-mul_left 32 (2 ^ (f - 4)))) (dvd_of_mod-eq-zero p.size s.multiple))

-- a sound record's count is its active slots
pub counted : (d : MemDomain) → domain_sound d ≡ true → d.num_partitions ≡ active_count d.partitions
unfolding domain_sound
counted d t = eqb-true _ _ (both_true (slots_sound d.partitions) _ t).1

pub fits_at : (l : List MemPartition) (k : ℕ) → slots_fit l ≡ true → k < 16 → slot_fits (slot_at l k) ≡ true
unfolding slots_fit
fits_at l k t h = all_at _ 16 k t h
