-- The planner's promises in plainer words (docs/SPEC.md, 10.28 to 10.37): the checker accepts what it hands out, and NOPLAN exactly where it must be.
use Prim.Native.Nat.{ℕ, ◌+◌, ◌%◌, ◌^◌, ◌<◌, ◌≤◌}
use mathlib.Core.Path.{◌≡◌, refl, ap}
use mathlib.Core.List.{List, [], ◌∷◌}
use mathlib.Core.Bool.{Bool, true, false, cond, not, ◌||◌}
use mathlib.Core.Logic.{◌⊎◌, inl, inr}
use native.Mathlib.Omega.{arith}
use borrow.Author.Tests.{ltb-true, ltb-false, le-leb, eq-eqb}
use lib.Dec.{ltb}
use Rattle.std.specs.Prelude.{Result, Ok, Err}
use lib.ListN.{length, take, drop}
use lib.Seq.{take_at}
use Rattle.answer.specs.Answer.{number_of, refused, done, told}
use Rattle.answer.specs.declared.Answer.{Answer}
use Rattle.answer.specs.declared.Code.{Code}
use Rattle.answer.specs.declared.Code.TheVariants.{Ok as Ok·code, Einval, Value, Noplan, Room}
use Rattle.answer.specs.Given.{one_of, either}
use Rattle.mem_partition.specs.Partition.{is_free}
use Rattle.mem_domain.specs.Domain.{slot_at, active_count}
use Rattle.mem_partition.specs.declared.MemPartition.{MemPartition}
use Rattle.mem_domain.specs.declared.MemDomain.{MemDomain}
use Rattle.domain_rules.specs.Sound.{domain_sound}
use Rattle.mpu.specs.Mpu.{max_regions, checked}
use Rattle.domain_rules.proofs.All.{all_fails}
use Rattle.mpu.proofs.Table.{all_false, both_false}
use Rattle.planner.specs.Planner.{is_region, slot_fits, slots_fit, plan_of, word_count, made, planned, words_after, Planned}
use Rattle.planner.proofs.Bits.{field_of}
use Rattle.planner.proofs.Filled.{plan_length}
use Rattle.planner.proofs.Answers.{unfit, few, good, answered}
use Rattle.planner.proofs.Right.{accepted}

-- the answer, by the five tests that lead to it
abbrev pick : Bool → Bool → Bool → Bool → Bool → ℕ → Answer
pick v e f n r w =
    told (
    cond (not v) (Err Value) (
    cond e (Err Einval) (
    cond (not f || n) (Err Noplan) (
    cond r (Err Room) (
    Ok w)))))

record Picked (v e f n r : Bool) : Type 0 where
  sound : v ≡ true
  within : e ≡ false
  fit : f ≡ true
  enough : n ≡ false
  room : r ≡ false

pick_ok : (v e f n r : Bool) (w : ℕ) → (pick v e f n r w).code ≡ 0 → Picked v e f n r
pick_ok false e f n r w q = absurd (omega arith)
pick_ok true true f n r w q = absurd (omega arith)
pick_ok true false false n r w q = absurd (omega arith)
pick_ok true false true true r w q = absurd (omega arith)
pick_ok true false true false true w q = absurd (omega arith)
pick_ok true false true false false w q = record { sound = refl; within = refl; fit = refl; enough = refl; room = refl }

pick_noplan : (v e f n r : Bool) (w : ℕ) → (pick v e f n r w).code ≡ number_of Noplan → (v ≡ true) × (e ≡ false) × ((f ≡ false) ⊎ (n ≡ true))
pick_noplan false e f n r w q = absurd (omega arith)
pick_noplan true true f n r w q = absurd (omega arith)
pick_noplan true false false n r w q = (refl, refl, inl refl)
pick_noplan true false true true r w q = (refl, refl, inr refl)
pick_noplan true false true false true w q = absurd (omega arith)
pick_noplan true false true false false w q = absurd (omega arith)

-- what OK says
pub record Good (d : MemDomain) (regions lent : ℕ) : Type 0 where
  pub sound : domain_sound d ≡ true
  pub within : regions ≤ 16
  pub fit : slots_fit d.partitions ≡ true
  pub enough : active_count d.partitions ≤ regions
  pub room : word_count d.partitions ≤ lent

pub ok_means : (d : MemDomain) (regions room : ℕ) → (planned d regions room).code ≡ number_of Ok·code → Good d regions room
unfolding planned made
ok_means d regions room q =
    let w = pick_ok (domain_sound d) (ltb 16 regions) (slots_fit d.partitions) (ltb regions (active_count d.partitions)) (ltb room (word_count d.partitions))
    (word_count d.partitions) q in
    record {
      sound = w.sound;
      within = ltb-false _ _ w.within;
      fit = w.fit;
      enough = ltb-false _ _ w.enough;
      room = ltb-false _ _ w.room;
    }

-- EVERY PLAN THAT THE PLANNER MAKES IS ACCEPTED: the words that it says it wrote, read from the lent run, are right for the domain
pub made_is_accepted : (d : MemDomain) (regions : ℕ) (out : List ℕ) → (planned d regions (length out)).code ≡ number_of Ok·code
    → checked d (take (planned d regions (length out)).value (words_after d regions out)) ≡ done
unfolding words_after
made_is_accepted d regions out q =
    let g = ok_means d regions (length out) q in
    let e = answered d regions (length out) _ (good d regions (length out) g.sound g.within g.fit g.enough g.room) in
    rw (e, take_at (plan_of d.partitions) (drop (word_count d.partitions) out) (word_count d.partitions) (plan_length d.partitions))
    (accepted d g.sound g.fit)

-- an active slot that is no region
pub record Unfit (l : List MemPartition) : Type 0 where
  pub place : ℕ
  pub below : place < 16
  pub active : is_free (slot_at l place) ≡ false
  pub odd : is_region (slot_at l place) ≡ false

unfit_means : (l : List MemPartition) → slots_fit l ≡ false → Unfit l
unfolding slots_fit slot_fits
unfit_means l t =
    let w = all_false (λ k. slot_fits (slot_at l k)) 16 t in
    let b = both_false (is_free (slot_at l w.place)) (is_region (slot_at l w.place)) w.failed in
    record { place = w.place; below = w.below; active = b.0; odd = b.1 }

unfit_when : (l : List MemPartition) → Unfit l → slots_fit l ≡ false
unfolding slots_fit slot_fits
unfit_when l w = all_fails (λ k. slot_fits (slot_at l k)) 16 w.place w.below (rw (w.active, w.odd))

module _ (d : MemDomain) (regions room : ℕ) where
  -- NOPLAN: exactly when, the record and the number of regions being good, some active slot is no region or there are more active slots
  -- than regions
  pub noplan_means : planned d regions room ≡ refused Noplan
      → (domain_sound d ≡ true) × (regions ≤ 16) × (Unfit d.partitions ⊎ (regions < active_count d.partitions))
  unfolding planned made
  noplan_means q =
      let w = pick_noplan (domain_sound d) (ltb 16 regions) (slots_fit d.partitions) (ltb regions (active_count d.partitions)) (ltb room (word_count d.partitions))
      (word_count d.partitions) (ap (λ (r : Answer). r.code) q) in (
        w.0,
        ltb-false _ _ w.1,
        elim w.2 [
          | inl f ↦ inl (unfit_means d.partitions f)
          | inr n ↦ inr (ltb-true _ _ n)
        ],
      )

  cases : (s : domain_sound d ≡ true) → (h : regions ≤ 16) → (f : Bool) → slots_fit d.partitions ≡ f → regions < active_count d.partitions
      → planned d regions room ≡ refused Noplan
  cases s h true f n = answered d regions room _ (few d regions room s h f n)
  cases s h false f n = answered d regions room _ (unfit d regions room s h f)

  pub noplan_when : domain_sound d ≡ true → regions ≤ 16 → Unfit d.partitions ⊎ (regions < active_count d.partitions)
      → planned d regions room ≡ refused Noplan
  noplan_when s h (inl w) = answered d regions room _ (unfit d regions room s h (unfit_when d.partitions w))
  noplan_when s h (inr n) = cases s h (slots_fit d.partitions) refl n

-- a region: exactly a size 2^(s+1) of 32 or more that divides the start (the other way is Filled's region_slot)
pub region_when : (p : MemPartition) (s : ℕ) → 4 ≤ s → s < 32 → 2 ^ (s + 1) ≡ p.size → p.start % p.size ≡ 0 → is_region p ≡ true
unfolding is_region
region_when p s l h e m = rw (field_of s p.size h e, le-leb 4 s l, eq-eqb _ _ m)

-- which answers there are at all: OK, VALUE, EINVAL, NOPLAN, ROOM
abbrev pub plan_codes : List Code
plan_codes = Ok·code ∷ Value ∷ Einval ∷ Noplan ∷ Room ∷ []

planned_given : (d : MemDomain) (regions room : ℕ) → one_of plan_codes (planned d regions room).code ≡ true
unfolding planned made one_of
planned_given d regions room =
    let code : Result ℕ Code → ℕ = λ r. (told r).code in
    either code plan_codes (not (domain_sound d)) _ _ refl
    (either code plan_codes (ltb max_regions regions) _ _ refl
    (either code plan_codes (not (slots_fit d.partitions) || ltb regions (active_count d.partitions)) _ _ refl
    (either code plan_codes (ltb room (word_count d.partitions)) _ _ refl refl)))

pub plan_given : {d : MemDomain} {regions : ℕ} {before after : List ℕ} {r : Answer} → Planned d regions before after r → one_of plan_codes r.code ≡ true
plan_given {d} {regions} {before} p = rw (ap (λ (a : Answer). a.code) p.answer) (planned_given d regions (length before))
