-- The example of docs/SPEC.md, 10.38: region 2 of a plan for three slots, and what the checker says of that plan, and of the same plan with AP 6.
use Prim.Native.Nat.{ℕ}
use mathlib.Core.Path.{◌≡◌, refl, sym}
use mathlib.Core.List.{List, [], ◌∷◌}
use mathlib.Core.Bool.{true}
use lib.Dec.{lit<}
use lib.ListN.{replicate}
use borrow.Author.Tests.{eqb-false}
use Rattle.answer.specs.Answer.{refused, done}
use Rattle.answer.specs.declared.Code.TheVariants.{Differs}
use Rattle.mem_domain.specs.Scan.{count_to}
use Rattle.mem_partition.specs.Partition.{empty, is_valid, meets, overlap_of, holds}
use Rattle.mem_domain.specs.Domain.{active_count}
use Rattle.mem_partition.specs.declared.MemPartition.{MemPartition}
use Rattle.mem_domain.specs.declared.MemDomain.{MemDomain}
use Rattle.mpu.specs.Table.{last_of}
use Rattle.domain_rules.specs.Scan.{all_to}
use Rattle.domain_rules.specs.Sound.{attr_ok, slot_ok, apart_of, slot_sound, slots_sound, domain_sound}
use Rattle.mpu.specs.Mpu.{base_of, size_of, ap_rights, with_execute, region_rights, region_holds, place_ok, reserved_ok, region_ok, plan_ok, rights_of_plan, rights_of_domain, checked}
use Rattle.mpu.proofs.Exact.{differs_when}
use Rattle.planner.specs.Planner.{field_for, is_region, rbar_for, xn_for, ap_for, rasr_for, slot_fits, slots_fit, words_to, plan_of}
use Rattle.planner.proofs.Right.{accepted}

pub rbar_worked : rbar_for 0x20001000 2 ≡ 0x20001012
unfolding rbar_for
rbar_worked = refl

pub rasr_worked : rasr_for (field_for 4096) 3 ≡ 0x13020017
unfolding rasr_for xn_for ap_for field_for last_of
rasr_worked = refl

abbrev window : ℕ → ℕ → ℕ → MemPartition
window start size attr = record { start = start; size = size; attr = attr }

-- two other slots, and the worked one
abbrev pub three : MemDomain
three =
    record {
      partitions = window 0x08000000 0x10000 5 ∷ window 0x20000000 4096 3 ∷ window 0x20001000 4096 3 ∷ replicate 13 empty;
      num_partitions = 3;
    }

-- its plan, and the same with AP 6 in region 2
abbrev pub plan_three : List ℕ
plan_three = 0x08000010 ∷ 0x0602001f ∷ 0x20000011 ∷ 0x13020017 ∷ 0x20001012 ∷ 0x13020017 ∷ []

abbrev pub plan_less : List ℕ
plan_less = 0x08000010 ∷ 0x0602001f ∷ 0x20000011 ∷ 0x13020017 ∷ 0x20001012 ∷ 0x16020017 ∷ []

pub words_worked : plan_of three.partitions ≡ plan_three
unfolding plan_of words_to count_to rbar_for rasr_for xn_for ap_for field_for last_of
words_worked = refl

three_fits : slots_fit three.partitions ≡ true
unfolding slots_fit all_to slot_fits is_region field_for last_of
three_fits = refl

three_is_sound : domain_sound three ≡ true
unfolding domain_sound slots_sound all_to slot_sound slot_ok attr_ok apart_of is_valid overlap_of meets active_count count_to
three_is_sound = refl

-- right for its domain
pub ok_worked : checked three plan_three ≡ done
ok_worked = rw (sym words_worked) (accepted three three_is_sound three_fits)

less_is_formed : plan_ok plan_less ≡ true
unfolding plan_ok all_to region_ok place_ok reserved_ok base_of size_of
less_is_formed = refl

-- with AP 6 it gives less
pub differs_worked : checked three plan_less ≡ refused Differs
unfolding region_holds base_of size_of ap_rights with_execute region_rights rights_of_plan rights_of_domain holds last_of
differs_worked =
    differs_when three plan_less (rw (three_is_sound, less_is_formed)) (record { at = 0x20001000; below = lit< tt; differ = eqb-false 1 3 refl })
