-- What the functions here cite of numbers and of parts of a buffer.
use Rattle.std.proofs.Common.{◌≡◌, ℕ, ◌+◌, ◌*◌, ◌/◌, ◌%◌, ◌<◌, ◌≤◌, min, List, ◌++◌, length, get_or, take, drop, set, sym, ap, ◌∙◌, add_comm, zero-add, add-one, arith, length-drop, take-append-drop, length-take, length-take-le, get_or-drop, take_all, get_or-append-add, take-add, drop_at, eq-eqb, ne_eqb}
use native.Mathlib.Decide.{dec_le, ℕ_discrete}
use lib.Seq.{paste, paste-suc}
use Rattle.calls.specs.Calls.{parts_in}
use Rattle.replaying.specs.Printing.{laid}

-- ---- the parts of a log

pub parts_are : (n : ℕ) → parts_in n ≡ (n + 15) / 16
parts_are n = go (ℕ_discrete (n % 16) 0)
  where
    go : Dec (n % 16 ≡ 0) → parts_in n ≡ (n + 15) / 16
    go (yes z) = rw (eq-eqb (n % 16) 0 z) (omega arith)
    go (no z) = rw (ne_eqb (n % 16) 0 z) (omega arith)

-- whole calls in front are a part each
pub parts_behind : (m n : ℕ) → parts_in (16 * m + n) ≡ m + parts_in n
parts_behind m n = parts_are (16 * m + n) ∙ omega (arith, parts_are n)

pub parts_whole : (m : ℕ) → parts_in (16 * m) ≡ m
parts_whole m = parts_are (16 * m) ∙ omega arith

-- ---- bytes moved to the front, one by one

module _ (l : List ℕ) (from n i : ℕ) where
  pub keep_turn : {log : List ℕ} → from + i < n → n ≤ length l → log ≡ paste l 0 (drop from l) i → set log i (get_or log (from + i) 0) ≡ paste l 0 (drop from l) (i + 1)
  keep_turn {log} h g e =
      let m : length (take i (drop from l)) ≡ i = length-take-le i (drop from l) (omega (arith, length-drop from l)) in
      let read : get_or log (from + i) 0 ≡ get_or (drop from l) i 0 =
      ap (λ (x : List ℕ). get_or x (from + i) 0) e
      ∙ ap (λ (k : ℕ). get_or (paste l 0 (drop from l) i) k 0) (add_comm from i ∙ ap (λ (k : ℕ). k + from) (sym m))
      ∙ get_or-append-add (take i (drop from l)) (drop (0 + i) l) from 0
      ∙ get_or-drop (0 + i) l from 0
      ∙ ap (λ (k : ℕ). get_or l k 0) (omega arith)
      ∙ sym (get_or-drop from l i 0)
      in
      rw (read, e, add-one)
      (ap (λ (k : ℕ). set (paste l 0 (drop from l) i) k (get_or (drop from l) i 0)) (sym (zero-add i))
      ∙ paste-suc l 0 (drop from l) i 0 (omega arith) (omega (arith, length-drop from l)))

  pub keep_done : from + i ≡ n → n ≤ length l → paste l 0 (drop from l) i ≡ laid (drop from (take n l)) l
  keep_done e g =
      let m : length (take i (drop from l)) ≡ i = length-take-le i (drop from l) (omega (arith, length-drop from l)) in
      let k : length (take from l) ≡ from = length-take-le from l (omega arith) in
      let d : drop from (take n l) ≡ take i (drop from l) = ap (λ (x : ℕ). drop from (take x l)) (sym e) ∙ ap (drop from) (take-add from i l) ∙ drop_at (take from l) (take i (drop from l)) from k in
      ap (λ (x : ℕ). take i (drop from l) ++ drop x l) (zero-add i ∙ sym m) ∙ ap (λ (x : List ℕ). laid x l) (sym d)

-- ---- the first n bytes of a buffer, or all of it

module _ (n : ℕ) (l : List ℕ) where
  pub first_bytes : take (min n (length l)) l ≡ take n l
  first_bytes = go (dec_le n (length l))
    where
      go : Dec (n ≤ length l) → take (min n (length l)) l ≡ take n l
      go (yes h) = let e : min n (length l) ≡ n = omega arith in ap (λ (k : ℕ). take k l) e
      go (no h) = take_all (min n (length l)) l (omega arith) ∙ sym (take_all n l (omega arith))

  pub still_laid : laid (take n l) l ≡ l
  still_laid =
      let e : length (take n l) ≡ min n (length l) = length-take n l in
      ap (λ (x : List ℕ). laid x l) (sym first_bytes)
      ∙ ap (λ (k : ℕ). take (min n (length l)) l ++ drop k l) (ap length first_bytes ∙ e)
      ∙ take-append-drop (min n (length l)) l
