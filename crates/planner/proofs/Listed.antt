-- A test of each item of a list, counted by its places.
use Rattle.std.proofs.Common.{ℕ, zero, suc, ◌≤◌, ◌≡◌, Bool, ◌&&◌, List, refl, sym, ap, ◌∙◌, length, get_or, take, add-one, arith}
use Rattle.std.proofs.Math.Seq.{take-length}
use Rattle.std.proofs.lemmas.List.Folds.{list_all_more}
use Rattle.std.specs.List.{list_all}
use Rattle.domain_rules.specs.Scan.{all_to}

module _ {A : Type 0} (f : A → Bool) (l : List A) (d : A) where
  taken : (n : ℕ) → n ≤ length l → list_all f (take n l) ≡ all_to (λ k. f (get_or l k d)) n
  unfolding all_to
  taken zero h = refl
  taken (suc n) h =
      rw add-one at (list_all_more f l n d (omega arith)) ∙ ap (λ (b : Bool). b && f (get_or l n d)) (taken n (omega arith))

  pub all_listed : (n : ℕ) → length l ≡ n → list_all f l ≡ all_to (λ k. f (get_or l k d)) n
  all_listed n e = let h : n ≤ length l = omega arith in sym (ap (list_all f) (rw e at (take-length l))) ∙ taken n h
