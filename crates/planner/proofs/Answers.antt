-- The planner's answers, one by one in their order, and what stands in the lent words after each.
use Prim.Native.Nat.{ℕ, ◌*◌, ◌<◌, ◌≤◌}
use mathlib.Core.Path.{◌≡◌, refl, sym, ap, ◌∙◌}
use mathlib.Core.List.{List, ◌++◌}
use mathlib.Core.Bool.{true, false}
use borrow.Author.Tests.{lt-ltb, le-ltb}
use lib.Dec.{eqb}
use lib.ListN.{length, drop}
use Rattle.answer.specs.Answer.{number_of, told}
use Rattle.answer.specs.declared.Code.{Code}
use Rattle.answer.specs.declared.Code.TheVariants.{Einval, Value, Noplan, Room}
use Rattle.std.specs.Prelude.{Result, Ok, Err}
use Rattle.mem_domain.specs.Domain.{active_count}
use Rattle.mem_domain.specs.declared.MemDomain.{MemDomain}
use Rattle.domain_rules.specs.Sound.{domain_sound}
use Rattle.planner.specs.Planner.{slots_fit, plan_of, word_count, made, planned, words_after, Made, Planned}

module _ (d : MemDomain) (regions room : ℕ) where
  pub value : domain_sound d ≡ false → made d regions room ≡ Err Value
  unfolding made
  value s = rw s

  module _ (s : domain_sound d ≡ true) where
    pub einval : 16 < regions → made d regions room ≡ Err Einval
    unfolding made
    einval h = rw (s, lt-ltb 16 regions h)

    module _ (h : regions ≤ 16) where
      pub unfit : slots_fit d.partitions ≡ false → made d regions room ≡ Err Noplan
      unfolding made
      unfit f = rw (s, le-ltb 16 regions h, f)

      pub few : slots_fit d.partitions ≡ true → regions < active_count d.partitions → made d regions room ≡ Err Noplan
      unfolding made
      few f n = rw (s, le-ltb 16 regions h, f, lt-ltb regions (active_count d.partitions) n)

      pub short : slots_fit d.partitions ≡ true → active_count d.partitions ≤ regions → room < word_count d.partitions
          → made d regions room ≡ Err Room
      unfolding made
      short f n r =
          rw (s, le-ltb 16 regions h, f, le-ltb regions (active_count d.partitions) n, lt-ltb room (word_count d.partitions) r)

      pub good : slots_fit d.partitions ≡ true → active_count d.partitions ≤ regions → word_count d.partitions ≤ room
          → made d regions room ≡ Ok (word_count d.partitions)
      unfolding made
      good f n r =
          rw (s, le-ltb 16 regions h, f, le-ltb regions (active_count d.partitions) n, le-ltb room (word_count d.partitions) r)

-- the number and the value of each
pub answered : (d : MemDomain) (regions room : ℕ) (r : Result ℕ Code) → made d regions room ≡ r → planned d regions room ≡ told r
unfolding planned
answered d regions room r e = ap told e

-- what is promised of the Result, said of the number and the value
pub planned_by : (d : MemDomain) (regions : ℕ) (before after : List ℕ) (r : Result ℕ Code) → Made d regions before after r
    → Planned d regions before after (told r)
planned_by d regions before after r m = record { answer = ap told m.answer ∙ sym (answered d regions (length before) _ refl); words = m.words }

module _ (d : MemDomain) (regions : ℕ) (out : List ℕ) where
  -- a refusal changes nothing
  pub refuses : (e : Code) → eqb (number_of e) 0 ≡ false → made d regions (length out) ≡ Err e → Made d regions out out (Err e)
  unfolding words_after
  refuses e n m = record { answer = sym m; words = rw (answered d regions (length out) (Err e) m, n) }

  -- OK writes the plan
  pub written : made d regions (length out) ≡ Ok (word_count d.partitions) → (n : ℕ) → n ≡ active_count d.partitions → (after : List ℕ)
      → after ≡ plan_of d.partitions ++ drop (word_count d.partitions) out → Made d regions out after (Ok (n * 2))
  unfolding words_after
  written m n q after w = record { answer = rw q (sym m); words = rw (answered d regions (length out) _ m) w }
