-- The edges stand for every address: what the code looks at comes to what the definition says, by the cover theorem.
use Prim.Native.Nat.{ℕ, suc, ◌+◌, ◌%◌, ◌<◌}
use mathlib.Core.Path.{◌≡◌, refl, sym, ap}
use mathlib.Core.List.{List}
use mathlib.Core.Bool.{Bool, true, false, ◌&&◌, ◌||◌}
use mathlib.Core.Logic.{⊎_elim, ◌⊎◌, inl, inr}
use borrow.Author.Tests.{lt-leb, leb-false, eqb-true, eq-eqb}
use lib.Dec.{leb, eqb}
use Rattle.mem_partition.specs.Partition.{end_of, is_active, holds}
use Rattle.mem_domain.specs.Domain.{slots, slot_at}
use Rattle.mem_partition.specs.declared.MemPartition.{MemPartition}
use Rattle.mpu.specs.Mpu.{base_of, top_of, rbar_at, rasr_at, regions_of, region_holds, rights_of_plan, rights_of_domain, agree_at, addresses, same_rights}
use Rattle.mpu.specs.Edges.{edge_agrees, ends_agree, slots_to, regions_to, edges_agree}
use Rattle.domain_rules.proofs.All.{all_at, all_from, all_fails, both_true, either_true}
use Rattle.mpu.proofs.Table.{last_same, all_false, both_false, one_false}
use Rattle.mpu.proofs.Cover.{Steps, cover, is_end, windows_same, end_of_lem}

module _ (l : List MemPartition) (plan : List ℕ) where
  abbrev base_at : ℕ → ℕ
  base_at k = base_of (rbar_at plan k)

  abbrev top_at : ℕ → ℕ
  top_at k = top_of (rbar_at plan k) (rasr_at plan k)

  abbrev start_at : ℕ → ℕ
  start_at k = (slot_at l k).start

  abbrev end_at : ℕ → ℕ
  end_at k = end_of (slot_at l k)

  -- the cut points: both ends of each region and of each slot
  abbrev cut₁ : ℕ → Bool
  cut₁ = is_end base_at top_at (regions_of plan)

  abbrev cut₂ : ℕ → Bool
  cut₂ = is_end start_at end_at slots

  abbrev cut : ℕ → Bool
  cut a = cut₁ a || cut₂ a

  plan_steps : Steps cut (rights_of_plan plan)
  unfolding rights_of_plan region_holds
  plan_steps a c =
      let w = windows_same base_at top_at (regions_of plan) a (both_false (cut₁ (suc a)) (cut₂ (suc a)) c).0 in
      last_same _ _ _ _ (regions_of plan) (λ k h. ap (λ (b : Bool). eqb (rasr_at plan k % 2) 1 && b) (w k h)) (λ k h. refl)

  domain_steps : Steps cut (rights_of_domain l)
  unfolding rights_of_domain holds
  domain_steps a c =
      let w = windows_same start_at end_at slots a (both_false (cut₁ (suc a)) (cut₂ (suc a)) c).1 in
      last_same _ _ _ _ slots (λ k h. ap (λ (b : Bool). is_active (slot_at l k) && b) (w k h)) (λ k h. refl)

  -- what one edge's test says
  edge : (e : ℕ) → edge_agrees l plan e ≡ true → e < addresses → rights_of_plan plan e ≡ rights_of_domain l e
  unfolding edge_agrees agree_at
  edge e t h = eqb-true _ _ (rw (lt-leb addresses e h) at t)

  ends : (lo size e : ℕ) → ends_agree l plan lo size ≡ true → (e ≡ lo) ⊎ (e ≡ lo + size) → e < addresses
      → rights_of_plan plan e ≡ rights_of_domain l e
  unfolding ends_agree
  ends lo size e t (inl i) h = edge e (rw i (both_true (edge_agrees l plan lo) (edge_agrees l plan (lo + size)) t).0) h
  ends lo size e t (inr i) h = edge e (rw i (both_true (edge_agrees l plan lo) (edge_agrees l plan (lo + size)) t).1) h

  module _ (slots-agree : slots_to l plan slots ≡ true) (regions-agree : regions_to l plan (regions_of plan) ≡ true) where
    at_cut : (e : ℕ) → cut e ≡ true → e < addresses → rights_of_plan plan e ≡ rights_of_domain l e
    at_cut e c h = elim (either_true (cut₁ e) (cut₂ e) c) [
      | inl i ↦ let w = end_of_lem base_at top_at (regions_of plan) e i in ends _ _ e (all_at _ _ w.place regions-agree w.below) w.one h
      | inr i ↦ let w = end_of_lem start_at end_at slots e i in ends _ _ e (all_at _ _ w.place slots-agree w.below) w.one h
    ]

  -- agreement at the edges is agreement at every address
  pub covered : edges_agree l plan ≡ true → (a : ℕ) → a < addresses → rights_of_plan plan a ≡ rights_of_domain l a
  unfolding edges_agree
  covered t =
      let b = both_true (edge_agrees l plan 0) (slots_to l plan slots && regions_to l plan (regions_of plan)) t in
      let r = both_true (slots_to l plan slots) (regions_to l plan (regions_of plan)) b.1 in
      cover (rights_of_plan plan) (rights_of_domain l) cut addresses plan_steps domain_steps (edge 0 b.0) (at_cut r.0 r.1)

  covered_same : edges_agree l plan ≡ true → same_rights l plan ≡ true
  unfolding same_rights agree_at
  covered_same t = all_from _ addresses (λ a h. eq-eqb _ _ (covered t a h))

  -- an edge that fails is an address that fails
  edge_fails : (e : ℕ) → edge_agrees l plan e ≡ false → same_rights l plan ≡ false
  unfolding edge_agrees same_rights
  edge_fails e t = let b = both_false (leb addresses e) (agree_at l plan e) t in all_fails _ addresses e (leb-false _ _ b.0) b.1

  ends_fail : (lo size : ℕ) → ends_agree l plan lo size ≡ false → same_rights l plan ≡ false
  unfolding ends_agree
  ends_fail lo size t = ⊎_elim (edge_fails lo) (edge_fails (lo + size)) (one_false (edge_agrees l plan lo) (edge_agrees l plan (lo + size)) t)

  edges_fail : edges_agree l plan ≡ false → same_rights l plan ≡ false
  unfolding edges_agree
  edges_fail t = elim (one_false (edge_agrees l plan 0) (slots_to l plan slots && regions_to l plan (regions_of plan)) t) [
    | inl z ↦ edge_fails 0 z
    | inr u ↦ elim (one_false (slots_to l plan slots) (regions_to l plan (regions_of plan)) u) [
      | inl s ↦ ends_fail _ _ (all_false _ slots s).failed
      | inr r ↦ ends_fail _ _ (all_false _ (regions_of plan) r).failed
    ]
  ]

  same_cases : (b : Bool) → edges_agree l plan ≡ b → b ≡ same_rights l plan
  same_cases true e = sym (covered_same e)
  same_cases false e = sym (edges_fail e)

  -- what the code looks at is what the definition says
  pub edges_same : edges_agree l plan ≡ same_rights l plan
  edges_same = same_cases (edges_agree l plan) refl
