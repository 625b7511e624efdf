-- Every plan that the planner makes is accepted by the checker for the domain it was made from: it is well formed, and gives what the domain
-- gives at every address.
use Prim.Native.Nat.{ℕ, zero, suc, ◌+◌, ◌*◌, ◌/◌, ◌%◌, ◌^◌, ◌<◌, ◌≤◌}
use mathlib.Core.Path.{◌≡◌, refl, ap, ap₂, ◌∙◌}
use mathlib.Core.List.{List, [], ◌∷◌, ◌++◌}
use mathlib.Core.Bool.{Bool, true, false, cond, ◌&&◌, ◌||◌, not}
use mathlib.Core.Logic.{inl, inr}
use native.Mathlib.Nat.{le_refl, add-zero}
use native.Mathlib.Omega.{arith}
use borrow.Author.Tests.{eqb-true, eq-eqb, le-leb, not-true}
use lib.Dec.{eqb}
use lib.ListN.{length, get_or-append}
use lib.Seq.{get_or-append-add, get_or_at}
use Rattle.answer.specs.Answer.{done}
use Rattle.mem_domain.specs.Scan.{count_to}
use Rattle.mem_partition.specs.Partition.{is_active, is_valid, holds}
use Rattle.mem_domain.specs.Domain.{slot_at, active_to, active_count}
use Rattle.mem_partition.specs.declared.MemPartition.{MemPartition}
use Rattle.mem_domain.specs.declared.MemDomain.{MemDomain}
use Rattle.mpu.specs.Table.{last_of}
use Rattle.domain_rules.specs.Scan.{all_to}
use Rattle.domain_rules.specs.Sound.{attr_ok, slot_ok, apart_to, slot_sound, slots_sound, domain_sound}
use Rattle.mpu.specs.Mpu.{base_of, size_of, ap_rights, with_execute, region_rights, region_holds, place_ok, reserved_ok, region_ok, rbar_at, rasr_at, regions_of, ok_to, plan_ok, plan_to, domain_to, rights_of_plan, rights_of_domain, checked}
use Rattle.domain_rules.proofs.All.{both_true, all_same, all_at, all_more, either_true}
use Rattle.mpu.proofs.Table.{last_step, last_same}
use Rattle.mpu.proofs.Exact.{ok_when}
use Rattle.planner.specs.Planner.{field_for, rbar_for, xn_for, ap_for, rasr_for, rbar_of, rasr_of, slots_fit, words_to, plan_of}
use Rattle.planner.proofs.Filled.{Slot, slot, by_32, words_length, plan_length, active_le, fits_at}

-- the fields of a RASR that the planner makes
abbrev word : Bool → Bool → ℕ → ℕ
word x w f = cond x (2 ^ 28) 0 + cond w (3 * 2 ^ 24) (6 * 2 ^ 24) + 2 ^ 17 + f * 2 + 1

record Fields (r ap xn f : ℕ) : Type 0 where
  enable : r % 2 ≡ 1
  size : r / 2 % 32 ≡ f
  low : r / 2 ^ 6 % 4 ≡ 0
  srd : r / 2 ^ 8 % 256 ≡ 0
  mid : r / 2 ^ 22 % 4 ≡ 0
  access : r / 2 ^ 24 % 8 ≡ ap
  gap : r / 2 ^ 27 % 2 ≡ 0
  never : r / 2 ^ 28 % 2 ≡ xn
  top : r / 2 ^ 29 % 8 ≡ 0

fields : (x w : Bool) (f : ℕ) → f < 32 → Fields (word x w f) (cond w 3 6) (cond x 1 0) f
fields true true f h = omega arith
fields true false f h = omega arith
fields false true f h = omega arith
fields false false f h = omega arith

rasr_fields : (f attr : ℕ) → f < 32
    → Fields (rasr_for f attr) (cond (eqb (attr / 2 % 2) 1) 3 6) (cond (eqb (attr / 4 % 2) 0) 1 0) f
unfolding rasr_for xn_for ap_for
rasr_fields f attr h = fields (eqb (attr / 4 % 2) 0) (eqb (attr / 2 % 2) 1) f h

base_back : (start m : ℕ) → start % 32 ≡ 0 → m < 16 → base_of (rbar_for start m) ≡ start
unfolding base_of rbar_for
base_back start m h l = omega arith

place_back : (start m : ℕ) → start % 32 ≡ 0 → m < 16 → place_ok (rbar_for start m) m ≡ true
unfolding place_ok rbar_for
place_back start m h l =
    let v : (start + 16 + m) / 16 % 2 ≡ 1 = omega arith in
    let p : (start + 16 + m) % 16 ≡ m = omega arith in
    rw (eq-eqb _ _ v, eq-eqb _ _ p)

size_back : (f attr : ℕ) → f < 32 → size_of (rasr_for f attr) ≡ 2 ^ (f + 1)
unfolding size_of
size_back f attr h = ap (λ (s : ℕ). 2 ^ (s + 1)) (rasr_fields f attr h).size

reserved_back : (f attr : ℕ) → f < 32 → reserved_ok (rasr_for f attr) ≡ true
unfolding reserved_ok
reserved_back f attr h =
    let w = rasr_fields f attr h in
    rw (eq-eqb _ _ w.top, eq-eqb _ _ w.gap, eq-eqb _ _ w.mid, eq-eqb _ _ w.low)

-- the rights of each allowed attr come back
rights_of : (f attr n ap xn : ℕ) → attr ≡ n → f < 32 → cond (eqb (n / 2 % 2) 1) 3 6 ≡ ap → cond (eqb (n / 4 % 2) 0) 1 0 ≡ xn
    → with_execute (ap_rights ap) xn ≡ n → region_rights (rasr_for f attr) ≡ attr
unfolding region_rights
rights_of f attr n ap xn e h p q t = let w = rasr_fields f n h in rw (e, w.access, w.never, p, q) t

rights_back : (f attr : ℕ) → f < 32 → attr_ok attr ≡ true → region_rights (rasr_for f attr) ≡ attr
unfolding attr_ok ap_rights with_execute
rights_back f attr h t = elim (either_true (eqb attr 1) (eqb attr 3 || (eqb attr 5 || eqb attr 7)) t) [
  | inl e ↦ rights_of f attr 1 6 1 (eqb-true _ _ e) h refl refl refl
  | inr u ↦ elim (either_true (eqb attr 3) (eqb attr 5 || eqb attr 7) u) [
    | inl e ↦ rights_of f attr 3 3 1 (eqb-true _ _ e) h refl refl refl
    | inr v ↦ elim (either_true (eqb attr 5) (eqb attr 7) v) [
      | inl e ↦ rights_of f attr 5 6 0 (eqb-true _ _ e) h refl refl refl
      | inr e ↦ rights_of f attr 7 3 0 (eqb-true _ _ e) h refl refl refl
    ]
  ]
]

module _ (p : MemPartition) (s : Slot p) (m : ℕ) (l : m < 16) where
  base_is : base_of (rbar_of p m) ≡ p.start
  base_is = base_back p.start m (by_32 p s) l

  size_is : size_of (rasr_of p) ≡ p.size
  size_is = size_back (field_for p.size) p.attr s.small ∙ s.power

  -- the region holds the slot's addresses
  holds_back : (a : ℕ) → region_holds (rbar_of p m) (rasr_of p) a ≡ holds p a
  unfolding region_holds holds
  holds_back a = rw (eq-eqb _ _ (rasr_fields (field_for p.size) p.attr s.small).enable, base_is, size_is)

  not_four : (w : Bool) → not (eqb (cond w 3 6) 4) ≡ true
  not_four true = refl
  not_four false = refl

  -- and is well formed
  ok_back : region_ok (rbar_of p m) (rasr_of p) m ≡ true
  unfolding region_ok
  ok_back =
      let w = rasr_fields (field_for p.size) p.attr s.small in
      rw (
        place_back p.start m (by_32 p s) l,
        reserved_back (field_for p.size) p.attr s.small,
        eq-eqb _ _ w.srd,
        w.access,
        not_four (eqb (p.attr / 2 % 2) 1),
        w.size,
        le-leb _ _ s.field,
        base_is,
        size_is,
        eq-eqb _ _ s.multiple,
      )

-- two words more behind a plan leave what the regions before them give
plan_front : (p q : List ℕ) (a n : ℕ) → n * 2 ≤ length p → plan_to (p ++ q) a n ≡ plan_to p a n
plan_front p q a n h =
    last_same _ _ _ _ n
    (λ k l. ap₂ (λ (x y : ℕ). region_holds x y a) (get_or-append p q 0 (k * 2) (omega arith)) (get_or-append p q 0 (k * 2 + 1) (omega arith)))
    (λ k l. ap region_rights (get_or-append p q 0 (k * 2 + 1) (omega arith)))

ok_front : (p q : List ℕ) (n : ℕ) → n * 2 ≤ length p → ok_to (p ++ q) n ≡ ok_to p n
ok_front p q n h =
    all_same _ _ n
    (λ k l. ap₂ (λ (x y : ℕ). region_ok x y k) (get_or-append p q 0 (k * 2) (omega arith)) (get_or-append p q 0 (k * 2 + 1) (omega arith)))

first_back : (p : List ℕ) (m x y : ℕ) → length p ≡ m * 2 → rbar_at (p ++ (x ∷ y ∷ [])) m ≡ x
first_back p m x y e = get_or_at p x (y ∷ []) 0 (m * 2) e

second_back : (p : List ℕ) (m x y : ℕ) → length p ≡ m * 2 → rasr_at (p ++ (x ∷ y ∷ [])) m ≡ y
second_back p m x y e = rw (← e) (get_or-append-add p (x ∷ y ∷ []) 1 0)

-- an active slot of a sound domain has an allowed attr
slot_attr : (l : List MemPartition) (k : ℕ) → slots_sound l ≡ true → k < 16 → eqb (slot_at l k).size 0 ≡ false → attr_ok (slot_at l k).attr ≡ true
unfolding slots_sound slot_sound slot_ok
slot_attr l k t h e =
    let s : slot_sound l k ≡ true = all_at _ 16 k t h in
    let o : slot_ok (slot_at l k) ≡ true = (both_true (slot_ok (slot_at l k)) (apart_to l k k) s).0 in
    (both_true (is_valid (slot_at l k)) (attr_ok (slot_at l k).attr) (rw e at o)).1

module _ (l : List MemPartition) (fit : slots_fit l ≡ true) (sound : slots_sound l ≡ true) where
  -- a plan with one slot's words behind it
  abbrev longer : ℕ → List ℕ
  longer n = words_to l n ++ (rbar_of (slot_at l n) (active_to l n) ∷ rasr_of (slot_at l n) ∷ [])

  module _ (n : ℕ) (h : n < 16) (e : is_active (slot_at l n) ≡ true) where
    is_slot : Slot (slot_at l n)
    is_slot = slot (slot_at l n) (fits_at l n fit h) (not-true _ e)

    few : active_to l n < 16
    few = omega (arith, active_le l n)

    first : rbar_at (longer n) (active_to l n) ≡ rbar_of (slot_at l n) (active_to l n)
    first = first_back (words_to l n) (active_to l n) _ _ (words_length l n)

    second : rasr_at (longer n) (active_to l n) ≡ rasr_of (slot_at l n)
    second = second_back (words_to l n) (active_to l n) _ _ (words_length l n)

    short : active_to l n * 2 ≤ length (words_to l n)
    short = omega (arith, words_length l n)

    rights_more : (a : ℕ) → plan_to (words_to l n) a (active_to l n) ≡ domain_to l a n
        → plan_to (longer n) a (active_to l n + 1) ≡ cond (holds (slot_at l n) a) (slot_at l n).attr (domain_to l a n)
    rights_more a ih =
        last_step _ _ (active_to l n) ∙ rw (
          first,
          second,
          plan_front (words_to l n) (rbar_of (slot_at l n) (active_to l n) ∷ rasr_of (slot_at l n) ∷ []) a (active_to l n) short,
          ih,
          holds_back (slot_at l n) is_slot (active_to l n) few a,
          rights_back (field_for (slot_at l n).size) (slot_at l n).attr is_slot.small (slot_attr l n sound h (not-true _ e)),
        )

    ok_more : ok_to (words_to l n) (active_to l n) ≡ true → ok_to (longer n) (active_to l n + 1) ≡ true
    ok_more ih =
        all_more _ (active_to l n)
        (ok_front (words_to l n) (rbar_of (slot_at l n) (active_to l n) ∷ rasr_of (slot_at l n) ∷ []) (active_to l n) short ∙ ih)
        (rw (first, second) (ok_back (slot_at l n) is_slot (active_to l n) few))

  rights_step : (a n : ℕ) (b : Bool) → n < 16 → is_active (slot_at l n) ≡ b → plan_to (words_to l n) a (active_to l n) ≡ domain_to l a n
      → plan_to (cond b (longer n) (words_to l n)) a (active_to l n + cond b 1 0)
      ≡ cond (b && holds (slot_at l n) a) (slot_at l n).attr (domain_to l a n)
  rights_step a n true h e ih = rights_more n h e a ih
  rights_step a n false h e ih = rw add-zero ih

  rights : (a n : ℕ) → n ≤ 16 → plan_to (words_to l n) a (active_to l n) ≡ domain_to l a n
  unfolding words_to count_to last_of
  rights a zero h = refl
  rights a (suc n) h = rights_step a n (is_active (slot_at l n)) h refl (rights a n (omega arith))

  ok_step : (n : ℕ) (b : Bool) → n < 16 → is_active (slot_at l n) ≡ b → ok_to (words_to l n) (active_to l n) ≡ true
      → ok_to (cond b (longer n) (words_to l n)) (active_to l n + cond b 1 0) ≡ true
  ok_step n true h e ih = ok_more n h e ih
  ok_step n false h e ih = rw add-zero ih

  ok : (n : ℕ) → n ≤ 16 → ok_to (words_to l n) (active_to l n) ≡ true
  unfolding words_to count_to all_to
  ok zero h = refl
  ok (suc n) h = ok_step n (is_active (slot_at l n)) h refl (ok n (omega arith))

  half : regions_of (plan_of l) ≡ active_count l
  half = omega (arith, plan_length l)

  pub plan_gives : (a : ℕ) → rights_of_plan (plan_of l) a ≡ rights_of_domain l a
  unfolding rights_of_plan rights_of_domain plan_of active_count
  plan_gives a = rw half (rights a 16 (le_refl _))

  pub plan_formed : plan_ok (plan_of l) ≡ true
  unfolding plan_ok plan_of active_count
  plan_formed =
      let n = plan_length l in
      let m = active_le l 16 in
      let e : length (plan_of l) % 2 ≡ 0 = omega arith in
      let f : length (plan_of l) ≤ 32 = omega arith in
      rw (eq-eqb _ _ e, le-leb _ _ f, half) (ok 16 (le_refl _))

-- the checker accepts the plan of a sound domain whose slots can be regions
pub accepted : (d : MemDomain) → domain_sound d ≡ true → slots_fit d.partitions ≡ true → checked d (plan_of d.partitions) ≡ done
unfolding domain_sound
accepted d s f =
    let w = (both_true (slots_sound d.partitions) _ s).0 in
    ok_when d (plan_of d.partitions) (rw (s, plan_formed d.partitions f w)) (λ a h. plan_gives d.partitions f w a)
