-- What the rules give to the image: each number of a state that keeps them fits the bytes that it is written in, and what is not written is zero.
use Prim.Native.Nat.{ℕ, zero, suc, ◌+◌, ◌*◌, ◌/◌, ◌%◌, ◌^◌, ◌≤◌, ◌<◌}
use native.Mathlib.Nat.{le_refl, lt_of_le_of_lt}
use native.Mathlib.Decide.{ℕ_discrete}
use native.Mathlib.Omega.{arith}
use mathlib.Core.Path.{◌≡◌, refl, sym, ap, ◌∙◌}
use mathlib.Core.Logic.{◌⊎◌, ⊎_elim}
use mathlib.Core.Bool.{Bool, true, false, cond, not}
use mathlib.Core.List.{List}
use lib.Bits.{and_le_r}
use lib.Dec.{eqb, lit<}
use lib.ListN.{get_or}
use borrow.Author.Tests.{eqb-true, eq-eqb, ne_eqb}
use Rattle.domain_rules.specs.Sound.{SlotsKeep, attr_ok}
use Rattle.domain_rules.proofs.All.{either_true}
use Rattle.mem_domain.specs.Domain.{slot_at}
use Rattle.mem_domain.specs.Domain.{slots as SLOTS}
use Rattle.mem_partition.specs.Partition.{empty, is_active, is_valid}
use Rattle.mem_partition.specs.declared.MemPartition.{MemPartition}
use Rattle.mem_partition.proofs.Partition.{valid_end}
use Rattle.bits.specs.Bit.{set_bit, set_lt}
use Rattle.tables.specs.Tabulate.{get_d_tabulate}
use Rattle.tables.specs.Table.{HANDLES, DOMAINS, object_at, thread_at, partition_at, partitions_at}
use Rattle.tables.specs.State.{state_of, object, thread, domain, object_of_lem, thread_of_lem, domain_of_lem}
use Rattle.rules.specs.Rules.{Sound, is_live, live_to}
use Rattle.rules.proofs.Rules.{below_64}
use Rattle.rules.proofs.Bits.{within_from, live_has}

-- the mask of live threads has 64 bits
mask_fits : (ts : List ℕ) (n : ℕ) → n ≤ 64 → live_to ts n < 2 ^ 64
unfolding live_to
mask_fits ts zero h = lit< tt
mask_fits ts (suc n) h = go (is_live (thread_at ts n)) (mask_fits ts n (omega arith))
  where
    go : (b : Bool) → live_to ts n < 2 ^ 64 → cond b (set_bit (live_to ts n) n) (live_to ts n) < 2 ^ 64
    go true ih = set_lt 64 (live_to ts n) n ih (omega arith)
    go false ih = ih

-- what the rules say of one thread's three numbers
pub record Rows (r d h : ℕ) : Type 0 where
  pub dead : r ≡ 0 → (d ≡ 0) × (h ≡ 0)
  pub role : r ≤ 2
  pub domain : d < 256
  pub handle : h < 256

-- a number of a slot
attr_small : (a : ℕ) → attr_ok a ≡ true → a < 2 ^ 32
unfolding attr_ok
attr_small a e =
    ⊎_elim (λ x. omega (arith, eqb-true a 1 x)) (λ x.
    ⊎_elim (λ y. omega (arith, eqb-true a 3 y)) (λ y.
    ⊎_elim (λ z. omega (arith, eqb-true a 5 z)) (λ z. omega (arith, eqb-true a 7 z)) (either_true (eqb a 5) (eqb a 7) y))
    (either_true (eqb a 3) _ x))
    (either_true (eqb a 1) _ e)

record Small (p : MemPartition) : Type 0 where
  start : p.start < 2 ^ 32
  size : p.size < 2 ^ 32
  attr : p.attr < 2 ^ 32

small : (p : MemPartition) (b : Bool) → is_active p ≡ b → (is_active p ≡ true → is_valid p ≡ true) → (is_active p ≡ true → attr_ok p.attr ≡ true) → (is_active p ≡ false → p ≡ empty) → Small p
small p true e v r f =
    let h = valid_end p (v e) in
    record { start = omega arith; size = omega arith; attr = attr_small p.attr (r e) }
small p false e v r f = rw (f e) (record { start = lit< tt; size = lit< tt; attr = lit< tt })

module _ {os ts ss : List ℕ} (s : Sound os ts ss) where
  pub object_is : (h : ℕ) → object (state_of os ts ss) h ≡ object_at os h
  unfolding object
  object_is h = object_of_lem os s.fit.objects h

  pub thread_is : (t : ℕ) → thread (state_of os ts ss) t ≡ thread_at ts t
  unfolding thread
  thread_is t = thread_of_lem ts s.fit.threads t

  pub domain_is : (d : ℕ) → d < DOMAINS → domain (state_of os ts ss) d ≡ partitions_at ss d
  unfolding domain
  domain_is d l = domain_of_lem ss d l

  -- ---- objects
  pub head_fits : (h : ℕ) → h < HANDLES → get_or os (2 * h) 0 < 65536
  head_fits = s.fit.heads

  pub free_word : (h : ℕ) → get_or os (2 * h) 0 ≡ 0 → get_or os (2 * h + 1) 0 ≡ 0
  unfolding object_at
  free_word h e = ap (λ o. o.word) (sym (object_is h) ∙ s.keeps.free h (ap (λ o. o.obj_type) (object_is h) ∙ ap (λ x. x % 256) e))

  -- of type 0 is only the head 0
  pub free_head : (h : ℕ) → h < HANDLES → get_or os (2 * h) 0 % 256 ≡ 0 → get_or os (2 * h) 0 ≡ 0
  unfolding object_at
  free_head h l e =
      let f : get_or os (2 * h) 0 / 256 % 256 ≡ 0 = ap (λ o. o.flags) (sym (object_is h) ∙ s.keeps.free h (ap (λ o. o.obj_type) (object_is h) ∙ e)) in
      omega (arith, head_fits h l)

  pub word_fits : (h : ℕ) → get_or os (2 * h + 1) 0 < 2 ^ 64
  unfolding object_at
  word_fits h =
      let w : ℕ = get_or os (2 * h + 1) 0 in
      let e : (object (state_of os ts ss) h).word ≡ w = ap (λ o. o.word) (object_is h) in
      let q = within_from w (live_to ts 64)
      (λ t b.
      let l : is_live (thread_at ts t) ≡ true = rw (thread_is t) at (s.keeps.bits h t (rw e b)) in
      live_has ts 64 t (below_64 ts s.fit.threads t l) l) in
      lt_of_le_of_lt (rw q at (and_le_r w (live_to ts 64))) (mask_fits ts 64 (le_refl 64))

  -- ---- threads
  pub thread_fits : (t : ℕ) → Rows (get_or ts (3 * t) 0) (get_or ts (3 * t + 1) 0) (get_or ts (3 * t + 2) 0)
  unfolding thread_at
  thread_fits t =
      elim (ℕ_discrete (get_or ts (3 * t) 0) 0) [
        | yes e ↦
            let z = sym (thread_is t) ∙ s.keeps.dead t (ap is_live (thread_is t) ∙ ap not (eq-eqb (get_or ts (3 * t) 0) 0 e)) in
            let d : get_or ts (3 * t + 1) 0 ≡ 0 = ap (λ r. r.domain) z in
            let h : get_or ts (3 * t + 2) 0 ≡ 0 = ap (λ r. r.handle) z in
            record { dead = λ q. (d, h); role = omega arith; domain = omega arith; handle = omega arith }
        | no e ↦
            let l = ap is_live (thread_is t) ∙ ap not (ne_eqb (get_or ts (3 * t) 0) 0 e) in
            let r : get_or ts (3 * t) 0 ≤ 2 = rw (thread_is t) at (s.keeps.roles t) in
            let h : get_or ts (3 * t + 2) 0 < 256 = rw (thread_is t) at (s.keeps.handles t l) in
            let d : (get_or ts (3 * t + 1) 0 < 8) ⊎ (get_or ts (3 * t + 1) 0 ≡ 255) = rw (thread_is t) at (s.keeps.homes t l) in
            record { dead = λ q. absurd (e q); role = r; domain = ⊎_elim (λ a. omega arith) (λ a. omega arith) d; handle = h }
      ]

  -- ---- slots
  slot_small : (d k : ℕ) → d < DOMAINS → k < SLOTS → Small (partition_at ss (SLOTS * d + k))
  unfolding partitions_at
  slot_small d k l g =
      let e : slot_at (partitions_at ss d) k ≡ partition_at ss (SLOTS * d + k) = get_d_tabulate SLOTS (λ j. partition_at ss (SLOTS * d + j)) k empty g in
      let q : SlotsKeep (partitions_at ss d) = rw (domain_is d l) at (s.keeps.slots d l) in
      rw (← e) (small (slot_at (partitions_at ss d) k) (is_active (slot_at (partitions_at ss d) k)) refl (q.valid k) (q.rights k) (q.vacant k))

  pub number_fits : (i : ℕ) → i < 384 → get_or ss i 0 < 2 ^ 32
  unfolding partition_at
  number_fits i h =
      let n : ℕ = i / 3 in
      let q : SLOTS * (n / 16) + n % 16 ≡ n = omega arith in
      let p : Small (partition_at ss n) = rw q at (slot_small (n / 16) (n % 16) (omega arith) (omega arith)) in
      elim (ℕ_discrete (i % 3) 0) [
        | yes e ↦ let f : i ≡ 3 * n = omega arith in rw f p.start
        | no e ↦
            elim (ℕ_discrete (i % 3) 1) [
              | yes g ↦ let f : i ≡ 3 * n + 1 = omega arith in rw f p.size
              | no g ↦ let f : i ≡ 3 * n + 2 = omega arith in rw f p.attr
            ]
      ]
