-- What the memory check's definition means: OK exactly when every byte is covered, EPERM exactly when one is not, its value the first such address.
use Rattle.std.proofs.Common.{◌≡◌, ℕ, ◌+◌, ◌*◌, ◌<◌, ◌≤◌, Bool, true, false, ◌&&◌, ltb, leb, List, [], length, get_or, sym, refl, ap, ◌∙◌, true≢false, arith, ltb-true, le-ltb, lt-ltb, ne_eqb, le-leb, leb-true}
use native.Mathlib.Decide.{dec_lt}
use borrow.Author.Tests.{lt-leb}
use Rattle.answer.specs.declared.Answer.{Answer}
use Rattle.answer.specs.Answer.{done}
use Rattle.answer.specs.Tests.{both_true}
use Rattle.mem_partition.specs.Partition.{end_of, is_active, holds}
use Rattle.mem_domain.specs.Domain.{slots as SLOTS, slot_at}
use Rattle.mem_domain.specs.Scan.{lowest}
use Rattle.mem_partition.specs.declared.MemPartition.{MemPartition}
use Rattle.mem_domain.proofs.Scan.{lowest_hit, any_at, any_none}
use Rattle.tables.specs.Tabulate.{get_d_tabulate_out}
use Rattle.tables.specs.Table.{DOMAINS, partitions_at}
use Rattle.tables.specs.State.{domains_of, domain_of_lem}
use Rattle.mem_check.specs.Memory.{gives, covers_at, is_covered, covered_run, reached, memory_rule, slots_in}
use Rattle.mem_check.specs.Windows.{covers}
use Rattle.mem_check.specs.Runs.{EveryByte, Least, run_off, run_in, run_all, all_run, run_least}

-- ---- a slot that covers an address

pub record Covers (p : MemPartition) (write : Bool) (x : ℕ) : Type 0 where
  pub active : 0 < p.size
  pub from : p.start ≤ x
  pub to : x < end_of p
  pub right : gives p write ≡ true

module _ (p : MemPartition) (write : Bool) (x : ℕ) where
  pub slot_means : covers p write x ≡ true → Covers p write x
  unfolding holds
  slot_means e =
      let (a, g) = both_true (is_active p && holds p x) (gives p write) e in
      let (s, h) = both_true (is_active p) (holds p x) a in
      let (l, u) = both_true (leb p.start x) (ltb x (end_of p)) h in
      let l' : p.start ≤ x = leb-true p.start x l in
      let u' : x < end_of p = ltb-true x (end_of p) u in
      record { active = omega arith; from = l'; to = u'; right = g }

  pub slot_when : Covers p write x → covers p write x ≡ true
  unfolding holds
  slot_when c =
      rw (
        ne_eqb p.size 0 (λ e. omega arith),
        le-leb p.start x c.from,
        lt-ltb x (end_of p) c.to,
        c.right,
      )

-- ---- a byte that is covered

-- one of the sixteen slots covers it
pub record Covering (ps : List MemPartition) (write : Bool) (x : ℕ) : Type 0 where
  pub slot : ℕ
  pub below : slot < SLOTS
  pub covers : Covers (slot_at ps slot) write x

module _ (ps : List MemPartition) (write : Bool) (x : ℕ) where
  pub covered_means : is_covered ps write x ≡ true → Covering ps write x
  unfolding is_covered
  covered_means e =
      let l : lowest (covers_at ps write x) SLOTS < SLOTS = ltb-true (lowest (covers_at ps write x) SLOTS) SLOTS e in
      record {
        slot = lowest (covers_at ps write x) SLOTS;
        below = l;
        covers = slot_means (slot_at ps (lowest (covers_at ps write x) SLOTS)) write x (lowest_hit (covers_at ps write x) SLOTS l);
      }

  pub covered_when : Covering ps write x → is_covered ps write x ≡ true
  unfolding is_covered
  covered_when c = any_at (covers_at ps write x) SLOTS c.slot c.below (slot_when (slot_at ps c.slot) write x c.covers)

  pub covered_not : ((k : ℕ) → k < SLOTS → covers_at ps write x k ≡ false) → is_covered ps write x ≡ false
  unfolding is_covered
  covered_not f = any_none (covers_at ps write x) SLOTS f

-- ---- the answer

module _ (ps : List MemPartition) (write : Bool) (from len : ℕ) (some : 0 < len) (fits : from + len ≤ 4294967295) where
  abbrev rule : Answer
  rule = memory_rule ps false from len write

  abbrev run : ℕ
  run = covered_run ps write from len

  rule_is : rule ≡ reached from len run
  unfolding memory_rule
  rule_is = rw (ne_eqb len 0 (λ e. omega arith), le-ltb 4294967295 (from + len) fits)

  all_is : len ≤ run → rule ≡ done
  unfolding reached
  all_is h = rule_is ∙ rw (le-leb len run h)

  some_is : run < len → rule ≡ record { code = 2; value = from + run }
  unfolding reached
  some_is h = rule_is ∙ rw (lt-leb len run h)

  -- OK exactly when every byte is covered
  pub ok_means : rule.code ≡ 0 → EveryByte ps write from len
  ok_means e = go (dec_lt run len)
    where
      go : Dec (run < len) → EveryByte ps write from len
      go (yes g) = absurd (omega (arith, ap (λ a. a.code) (some_is g)))
      go (no f) = run_all ps write from len (omega arith)

  pub ok_when : EveryByte ps write from len → rule ≡ done
  ok_when f = all_is (all_run ps write from len f)

  -- EPERM exactly when some byte is not, and its value is the least such address
  pub eperm_means : rule.code ≡ 2 → Least ps write from len rule.value
  eperm_means e = go (dec_lt run len)
    where
      go : Dec (run < len) → Least ps write from len rule.value
      go (yes g) = rw (ap (λ a. a.value) (some_is g)) (run_least ps write from len g)
      go (no f) = absurd (omega (arith, ap (λ a. a.code) (all_is (omega arith))))

  pub eperm_when : (x : ℕ) → from ≤ x → x < from + len → is_covered ps write x ≡ false → rule.code ≡ 2
  eperm_when x l h e = go (dec_lt run len)
    where
      go : Dec (run < len) → rule.code ≡ 2
      go (yes g) = ap (λ a. a.code) (some_is g)
      go (no f) = absurd (true≢false (sym (run_in ps write from len x l (omega arith)) ∙ e))

-- ---- no slots: domain 255, or one that the table does not hold whole

pub none_covered : (write : Bool) (x : ℕ) → is_covered [] write x ≡ false
none_covered write x = covered_not [] write x (λ k h. refl)

pub no_slots : (write : Bool) (from len : ℕ) → 0 < len → from + len ≤ 4294967295 → memory_rule [] false from len write ≡ record { code = 2; value = from }
no_slots write from len h g =
    let z : covered_run [] write from len ≡ 0 = run_off [] write from len (none_covered write from) in
    let e : from + covered_run [] write from len ≡ from = omega arith in
    some_is [] write from len h g (omega arith) ∙ rw e

-- the slots read off a table of the right length are the domain of its picture, for every number
module _ (ss : List ℕ) (d : ℕ) where
  pub in_whole : 3 * (SLOTS * d + SLOTS) ≤ length ss → slots_in ss d ≡ partitions_at ss d
  unfolding slots_in
  in_whole l = rw (le-leb (3 * (SLOTS * d + SLOTS)) (length ss) l)

  pub in_none : length ss < 3 * (SLOTS * d + SLOTS) → slots_in ss d ≡ []
  unfolding slots_in
  in_none l = rw (lt-leb (3 * (SLOTS * d + SLOTS)) (length ss) l)

  behind : DOMAINS ≤ d → get_or (domains_of ss) d [] ≡ []
  unfolding domains_of
  behind l = get_d_tabulate_out DOMAINS (partitions_at ss) d [] l

  pub slots_in_lem : length ss ≡ 3 * (SLOTS * DOMAINS) → slots_in ss d ≡ get_or (domains_of ss) d []
  slots_in_lem e = go (dec_lt d DOMAINS)
    where
      go : Dec (d < DOMAINS) → slots_in ss d ≡ get_or (domains_of ss) d []
      go (yes l) = in_whole (omega arith) ∙ sym (domain_of_lem ss d l)
      go (no f) = in_none (omega arith) ∙ sym (behind (omega arith))
