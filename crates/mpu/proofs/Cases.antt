-- The architecture's tables, row by row as docs/SPEC.md, 10.5 and 10.10 to 10.18, has them.
use Prim.Native.Nat.{◌+◌}
use mathlib.Core.Path.{◌≡◌, refl}
use mathlib.Core.Bool.{true, false}
use mathlib.Core.List.{[], ◌∷◌}
use Rattle.mpu.specs.Table.{last_of}
use Rattle.mpu.specs.Mpu.{base_of, size_of, ap_rights, with_execute, region_rights, region_holds, place_ok, reserved_ok, region_ok, rights_of_plan}

-- unprivileged rights of all eight AP values: 1 read, 2 write
pub ap_0_none : ap_rights 0 ≡ 0
unfolding ap_rights
ap_0_none = refl

pub ap_1_none : ap_rights 1 ≡ 0
unfolding ap_rights
ap_1_none = refl

pub ap_2_read : ap_rights 2 ≡ 1
unfolding ap_rights
ap_2_read = refl

pub ap_3_read_write : ap_rights 3 ≡ 1 + 2
unfolding ap_rights
ap_3_read_write = refl

pub ap_5_none : ap_rights 5 ≡ 0
unfolding ap_rights
ap_5_none = refl

pub ap_6_read : ap_rights 6 ≡ 1
unfolding ap_rights
ap_6_read = refl

pub ap_7_read : ap_rights 7 ≡ 1
unfolding ap_rights
ap_7_read = refl

-- AP 4 is reserved: such a region, otherwise well formed, is not
pub ap_4_is_reserved : region_ok 0x20001012 0x14020017 2 ≡ false
unfolding region_ok place_ok reserved_ok
ap_4_is_reserved = refl

-- execute: 4, with read and XN 0 only
pub execute_needs_read : with_execute 0 0 ≡ 0
unfolding with_execute
execute_needs_read = refl

pub execute_needs_xn_0 : with_execute 3 1 ≡ 3
unfolding with_execute
execute_needs_xn_0 = refl

pub read_and_xn_0_give_execute : with_execute 1 0 ≡ 1 + 4
unfolding with_execute
read_and_xn_0_give_execute = refl

-- the least and the largest size; a region of 4 GiB at 0 is well formed, and a SIZE below 4 is not, enabled or not
pub least_size : size_of 9 ≡ 32
unfolding size_of
least_size = refl

pub whole_size : size_of 63 ≡ 4294967296
unfolding size_of
whole_size = refl

pub whole_region_is_well_formed : region_ok 16 0x1302003f 0 ≡ true
unfolding region_ok place_ok reserved_ok base_of size_of
whole_region_is_well_formed = refl

pub zero_region_is_ill_formed : region_ok 16 0 0 ≡ false
unfolding region_ok place_ok reserved_ok
zero_region_is_ill_formed = refl

-- a region that is not enabled gives nothing, and the highest-numbered one that holds an address decides
pub disabled_gives_nothing : rights_of_plan (0x20001010 ∷ 0x13020016 ∷ []) 0x20001000 ≡ 0
unfolding rights_of_plan last_of region_holds base_of size_of
disabled_gives_nothing = refl

pub highest_decides : rights_of_plan (0x20001010 ∷ 0x13020017 ∷ 0x20001011 ∷ 0x16020017 ∷ []) 0x20001000 ≡ 1
unfolding rights_of_plan last_of region_holds base_of size_of region_rights ap_rights with_execute
highest_decides = refl
