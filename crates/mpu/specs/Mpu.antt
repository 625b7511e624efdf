-- PMSAv7, docs/SPEC.md, 10.1 to 10.24: what a region's two words give unprivileged code, which plans are well formed, what a domain gives,
-- and what the checker answers. Rights are a number in the coding of attr (SPEC 10.13).
use Rattle.std.specs.Prelude.{ℕ, ◌+◌, ◌*◌, ◌/◌, ◌%◌, ◌^◌, ◌-◌, Bool, cond, not, ◌&&◌, ◌||◌, List, leb, ltb, eqb, length, get_or, Result, Ok, Err}
use Rattle.answer.specs.Answer.{done_or}
use Rattle.answer.specs.declared.Answer.{Answer}
use Rattle.answer.specs.declared.Code.{Code}
use Rattle.answer.specs.declared.Code.TheVariants.{Value, Differs}
use Rattle.mem_domain.specs.Domain.{slots, slot_at, holds_at}
use Rattle.mem_partition.specs.declared.MemPartition.{MemPartition}
use Rattle.mem_domain.specs.declared.MemDomain.{MemDomain}
use Rattle.mpu.specs.Table.{last_of}
use Rattle.domain_rules.specs.Scan.{all_to}
use Rattle.domain_rules.specs.Sound.{domain_sound}

-- bits hi to lo of a word (SPEC 10.2)
abbrev pub bits : ℕ → ℕ → ℕ → ℕ
bits w hi lo = w / 2 ^ lo % 2 ^ (hi + 1 - lo)

-- from lo up to, and without, hi
abbrev pub within : ℕ → ℕ → ℕ → Bool
within lo hi a = leb lo a && ltb a hi

-- the base address, from RBAR (SPEC 10.3)
unfoldable pub base_of : ℕ → ℕ
base_of rbar = rbar / 32 * 32

-- the field SIZE of RASR (SPEC 10.4)
abbrev pub size_field : ℕ → ℕ
size_field rasr = bits rasr 5 1

-- how many bytes a region has (SPEC 10.5)
unfoldable pub size_of : ℕ → ℕ
size_of rasr = 2 ^ (size_field rasr + 1)

-- the first address behind a region
abbrev pub top_of : ℕ → ℕ → ℕ
top_of rbar rasr = base_of rbar + size_of rasr

-- what AP gives unprivileged code (SPEC 10.14)
unfoldable pub ap_rights : ℕ → ℕ
ap_rights ap = cond (eqb ap 3) 3 (cond (eqb ap 2 || (eqb ap 6 || eqb ap 7)) 1 0)

-- execute comes with read where XN is 0 (SPEC 10.15)
unfoldable pub with_execute : ℕ → ℕ → ℕ
with_execute rights xn = cond (eqb rights 0) 0 (cond (eqb xn 0) (rights + 4) rights)

-- the rights that AP and XN of RASR give together (SPEC 10.4)
unfoldable pub region_rights : ℕ → ℕ
region_rights rasr = with_execute (ap_rights (bits rasr 26 24)) (bits rasr 28 28)

-- ENABLE is 1, and the address is from the base on and below the base plus the size (SPEC 10.17)
unfoldable pub region_holds : ℕ → ℕ → ℕ → Bool
region_holds rbar rasr a = eqb (rasr % 2) 1 && within (base_of rbar) (top_of rbar rasr) a

-- VALID is 1, and the region's number is its place in the plan (SPEC 10.7)
unfoldable pub place_ok : ℕ → ℕ → Bool
place_ok rbar k = eqb (bits rbar 4 4) 1 && eqb (rbar % 16) k

-- the bits of RASR that have no name are 0 (SPEC 10.8)
unfoldable pub reserved_ok : ℕ → Bool
reserved_ok rasr = eqb (bits rasr 31 29) 0 && (eqb (bits rasr 27 27) 0 && (eqb (bits rasr 23 22) 0 && eqb (bits rasr 7 6) 0))

-- a region is well formed, whether enabled or not (SPEC 10.7 to 10.11)
unfoldable pub region_ok : ℕ → ℕ → ℕ → Bool
region_ok rbar rasr k =
    place_ok rbar k && (
    reserved_ok rasr && (
    eqb (bits rasr 15 8) 0 && (not (eqb (bits rasr 26 24) 4) && (leb 4 (size_field rasr) && eqb (base_of rbar % size_of rasr) 0))))

-- RBAR and RASR of region k (SPEC 10.1)
abbrev pub rbar_at : List ℕ → ℕ → ℕ
rbar_at plan k = get_or plan (k * 2) 0

abbrev pub rasr_at : List ℕ → ℕ → ℕ
rasr_at plan k = get_or plan (k * 2 + 1) 0

-- each of the first n regions is well formed
abbrev pub ok_to : List ℕ → ℕ → Bool
ok_to plan = all_to (λ k. region_ok (rbar_at plan k) (rasr_at plan k) k)

-- how many regions a plan has
abbrev pub regions_of : List ℕ → ℕ
regions_of plan = length plan / 2

-- how many regions a plan may have
abbrev pub max_regions : ℕ
max_regions = 16

-- a plan is well formed (SPEC 10.6)
unfoldable pub plan_ok : List ℕ → Bool
plan_ok plan = eqb (length plan % 2) 0 && (leb (length plan) (max_regions * 2) && ok_to plan (regions_of plan))

-- of the first n regions the last that holds the address decides; none gives nothing (SPEC 10.18)
abbrev pub plan_to : List ℕ → ℕ → ℕ → ℕ
plan_to plan a = last_of (λ k. region_holds (rbar_at plan k) (rasr_at plan k) a) (λ k. region_rights (rasr_at plan k))

-- what a plan gives unprivileged code at an address
unfoldable pub rights_of_plan : List ℕ → ℕ → ℕ
rights_of_plan plan a = plan_to plan a (regions_of plan)

-- the attr of the last active slot among the first n that holds the address; none gives nothing (SPEC 10.19)
abbrev pub domain_to : List MemPartition → ℕ → ℕ → ℕ
domain_to l a = last_of (holds_at l a) (λ k. (slot_at l k).attr)

-- what a domain gives at an address
unfoldable pub rights_of_domain : List MemPartition → ℕ → ℕ
rights_of_domain l a = domain_to l a slots

-- the plan gives what the domain gives, at one address
unfoldable pub agree_at : List MemPartition → List ℕ → ℕ → Bool
agree_at l plan a = eqb (rights_of_plan plan a) (rights_of_domain l a)

-- addresses have 32 bits (SPEC 2.4)
abbrev pub addresses : ℕ
addresses = 2 ^ 32

-- the plan gives what the domain gives, at every address
unfoldable pub same_rights : List MemPartition → List ℕ → Bool
same_rights l plan = all_to (agree_at l plan) addresses

-- VALUE for a record that breaks a rule or an ill-formed plan; else OK for equal rights; else DIFFERS (SPEC 10.21 to 10.23)
unfoldable pub verdict : MemDomain → List ℕ → Result (Unit {0}) Code
verdict d plan =
    cond (not (domain_sound d && plan_ok plan)) (Err Value) (
    cond (same_rights d.partitions plan) (Ok tt) (
    Err Differs))

-- the same as a number of the table and a value, as C gets it
unfoldable pub checked : MemDomain → List ℕ → Answer
checked d plan = done_or (verdict d plan)
