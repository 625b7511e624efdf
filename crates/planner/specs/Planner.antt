-- The planner, docs/SPEC.md, 10.25 to 10.38: in the order of the slots each active one is a region.
use Rattle.std.specs.Prelude.{ℕ, zero, suc, ◌+◌, ◌*◌, ◌/◌, ◌%◌, ◌^◌, ◌≡◌, List, [], ◌∷◌, ◌++◌, Bool, cond, not, ◌&&◌, ◌||◌, leb, ltb, eqb, length, drop, set, Result, Ok, Err}
use Rattle.answer.specs.Answer.{number_of, told}
use Rattle.answer.specs.declared.Answer.{Answer}
use Rattle.answer.specs.declared.Code.{Code}
use Rattle.answer.specs.declared.Code.TheVariants.{Ok as Ok·code, Einval, Value, Noplan, Room}
use Rattle.mem_partition.specs.Partition.{is_free, is_active}
use Rattle.mem_domain.specs.Domain.{slots, slot_at, active_to, active_count}
use Rattle.mem_partition.specs.declared.MemPartition.{MemPartition}
use Rattle.mem_domain.specs.declared.MemDomain.{MemDomain}
use Rattle.mpu.specs.Table.{last_of}
use Rattle.domain_rules.specs.Scan.{all_to}
use Rattle.domain_rules.specs.Sound.{domain_sound}
use Rattle.mpu.specs.Mpu.{max_regions}

-- the SIZE whose region has that size, 2^(SIZE+1); 0 where no region has
unfoldable pub field_for : ℕ → ℕ
field_for size = last_of (λ s. eqb (2 ^ (s + 1)) size) (λ s. s) 32

-- a window that one region can be (SPEC 10.29)
unfoldable pub is_region : MemPartition → Bool
is_region p = leb 4 (field_for p.size) && eqb (p.start % p.size) 0

-- RBAR: the start, VALID, and the region's number (SPEC 10.33)
unfoldable pub rbar_for : ℕ → ℕ → ℕ
rbar_for start m = start + 16 + m

-- XN without execute
unfoldable pub xn_for : ℕ → ℕ
xn_for attr = cond (eqb (attr / 4 % 2) 0) (2 ^ 28) 0

-- AP 3 with write, else 6
unfoldable pub ap_for : ℕ → ℕ
ap_for attr = cond (eqb (attr / 2 % 2) 1) (3 * 2 ^ 24) (6 * 2 ^ 24)

-- RASR: XN, AP, C, SIZE, ENABLE (SPEC 10.34)
unfoldable pub rasr_for : ℕ → ℕ → ℕ
rasr_for field attr = xn_for attr + ap_for attr + 2 ^ 17 + field * 2 + 1

-- a slot is free or can be a region
unfoldable pub slot_fits : MemPartition → Bool
slot_fits p = is_free p || is_region p

-- each of the first n slots is free or can be a region
abbrev pub fit_to : List MemPartition → ℕ → Bool
fit_to l = all_to (λ k. slot_fits (slot_at l k))

unfoldable pub slots_fit : List MemPartition → Bool
slots_fit l = fit_to l slots

-- the next region's number after a slot
abbrev pub next_region : MemPartition → ℕ → ℕ
next_region p m = m + cond (is_active p) 1 0

-- the two words of a slot as region m
abbrev pub rasr_of : MemPartition → ℕ
rasr_of p = rasr_for (field_for p.size) p.attr

abbrev pub rbar_of : MemPartition → ℕ → ℕ
rbar_of p m = rbar_for p.start m

-- the lent words once a slot is written: an active one as region m
abbrev pub put_slot : MemPartition → ℕ → List ℕ → List ℕ
put_slot p m out = cond (is_active p) (set (set out (m * 2) (rbar_of p m)) (m * 2 + 1) (rasr_of p)) out

-- the words of the first n slots: each active slot is the next region
unfoldable pub words_to : List MemPartition → ℕ → List ℕ
words_to l zero = []
words_to l (suc k) =
    cond (is_active (slot_at l k)) (words_to l k ++ (rbar_of (slot_at l k) (active_to l k) ∷ rasr_of (slot_at l k) ∷ [])) (words_to l k)

-- the plan of a domain's slots
unfoldable pub plan_of : List MemPartition → List ℕ
plan_of l = words_to l slots

-- how many words that is
abbrev pub word_count : List MemPartition → ℕ
word_count l = active_count l * 2

-- VALUE; over 16 regions EINVAL; NOPLAN for a slot that is no region, or too few regions; ROOM; else OK with the number of words (SPEC 10.26 to 10.31)
unfoldable pub made : MemDomain → ℕ → ℕ → Result ℕ Code
made d regions room =
    cond (not (domain_sound d)) (Err Value) (
    cond (ltb max_regions regions) (Err Einval) (
    cond (not (slots_fit d.partitions) || ltb regions (active_count d.partitions)) (Err Noplan) (
    cond (ltb room (word_count d.partitions)) (Err Room) (
    Ok (word_count d.partitions)))))

-- the same as a number of the table and a value, as C gets it
unfoldable pub planned : MemDomain → ℕ → ℕ → Answer
planned d regions room = told (made d regions room)

-- the lent words afterwards: on OK the plan and then what lay behind it; a refusal leaves them (SPEC 10.35)
unfoldable pub words_after : MemDomain → ℕ → List ℕ → List ℕ
words_after d regions out =
    cond (eqb (planned d regions (length out)).code (number_of Ok·code)) (plan_of d.partitions ++ drop (word_count d.partitions) out) out

-- what the planner promises of its answer and of the lent words
pub record Made (d : MemDomain) (regions : ℕ) (before after : List ℕ) (r : Result ℕ Code) : Type 0 where
  pub answer : r ≡ made d regions (length before)
  pub words : after ≡ words_after d regions before

-- the same of the number and the value
pub record Planned (d : MemDomain) (regions : ℕ) (before after : List ℕ) (r : Answer) : Type 0 where
  pub answer : r ≡ planned d regions (length before)
  pub words : after ≡ words_after d regions before
