-- A log that is run in pieces of whole calls is the log run whole: the state afterwards, and whatever is made of each answer.
use Rattle.std.proofs.Common.{◌≡◌, ℕ, zero, suc, ◌+◌, ◌-◌, ◌*◌, ◌<◌, ◌≤◌, List, ◌++◌, length, take, drop, sym, refl, ap, ◌∙◌, append_assoc, append-nil, add-zero, add-suc, arith, length-drop}
use lib.Seq.{take-append-le, drop-append-le, drop-append-add}
use Rattle.answer.specs.declared.Answer.{Answer}
use Rattle.answer.specs.Stores.{cat}
use Rattle.tables.specs.State.{State}
use Rattle.image_write.proofs.Bytes.{cat_same}
use Rattle.calls.specs.Calls.{part_at, ran_to}
use Rattle.explain.specs.Words.{number_at}
use Rattle.replaying.specs.declared.Style.{Style}
use Rattle.replaying.specs.Printing.{answer_at, line_of, lines_to}

-- numbers go on
number_on : (first m k : ℕ) → number_at first (m + k) ≡ number_at (number_at first m) k
number_on first m k = omega arith

-- a log of m calls, and what comes behind it
module _ (a b : List ℕ) (m : ℕ) (whole : length a ≡ 16 * m) where
  pub part_first : (k : ℕ) → k < m → part_at (a ++ b) k ≡ part_at a k
  part_first k h =
      let n : length (drop (16 * k) a) ≡ length a - 16 * k = length-drop (16 * k) a in
      ap (take 16) (drop-append-le (16 * k) a b (omega (arith, whole))) ∙ take-append-le 16 (drop (16 * k) a) b (omega (arith, whole, n))

  pub part_second : (k : ℕ) → part_at (a ++ b) (m + k) ≡ part_at b k
  part_second k =
      let e : 16 * (m + k) ≡ length a + 16 * k = omega (arith, whole) in
      ap (λ (i : ℕ). take 16 (drop i (a ++ b))) e ∙ ap (take 16) (drop-append-add a b (16 * k))

  pub ran_first : (s : State) (k : ℕ) → k ≤ m → ran_to s (a ++ b) k ≡ ran_to s a k
  unfolding ran_to
  ran_first s zero h = refl
  ran_first s (suc k) h = rw (ran_first s k (omega arith), part_first k (omega arith)) refl

  pub ran_second : (s : State) (k : ℕ) → ran_to s (a ++ b) (m + k) ≡ ran_to (ran_to s a m) b k
  unfolding ran_to
  ran_second s zero = ap (ran_to s (a ++ b)) (add-zero m) ∙ ran_first s m (omega arith)
  ran_second s (suc k) = ap (ran_to s (a ++ b)) (add-suc m k) ∙ rw (ran_second s k, part_second k) refl

  answer_first : (s : State) (k : ℕ) → k < m → answer_at s (a ++ b) k ≡ answer_at s a k
  answer_first s k h = rw (ran_first s k (omega arith), part_first k h) refl

  answer_second : (s : State) (k : ℕ) → answer_at s (a ++ b) (m + k) ≡ answer_at (ran_to s a m) b k
  answer_second s k = rw (ran_second s k, part_second k) refl

  -- lines of any kind, each made of its number, its part's bytes and its answer: those of the first piece, and behind them those of the second on the state
  -- that the first left
  pub in_pieces : (line : ℕ → List ℕ → Answer → List ℕ) (s : State) (n : ℕ)
      → cat (λ k. line k (part_at (a ++ b) k) (answer_at s (a ++ b) k)) (m + n)
      ≡ cat (λ k. line k (part_at a k) (answer_at s a k)) m ++ cat (λ k. line (m + k) (part_at b k) (answer_at (ran_to s a m) b k)) n
  unfolding cat
  in_pieces line s zero =
      ap (cat (λ k. line k (part_at (a ++ b) k) (answer_at s (a ++ b) k))) (add-zero m)
      ∙ cat_same (λ k. line k (part_at (a ++ b) k) (answer_at s (a ++ b) k)) (λ k. line k (part_at a k) (answer_at s a k)) m (λ k h. rw (answer_first s k h, part_first k h) refl)
      ∙ sym (append-nil (cat (λ k. line k (part_at a k) (answer_at s a k)) m))
  in_pieces line s (suc n) =
      ap (cat (λ k. line k (part_at (a ++ b) k) (answer_at s (a ++ b) k))) (add-suc m n)
      ∙ rw (in_pieces line s n, answer_second s n, part_second n)
      (append_assoc (cat (λ k. line k (part_at a k) (answer_at s a k)) m) (cat (λ k. line (m + k) (part_at b k) (answer_at (ran_to s a m) b k)) n) (line (m + n) (part_at b n) (answer_at (ran_to s a m) b n)))

  -- so what is printed of the whole is what is printed of the pieces, in numbers and in style; the numbers go on
  pub lines_in_pieces : (style : Style) (first : ℕ) (s : State) (n : ℕ)
      → lines_to style first s (a ++ b) (m + n) ≡ lines_to style first s a m ++ lines_to style (number_at first m) (ran_to s a m) b n
  unfolding lines_to
  lines_in_pieces style first s n =
      in_pieces (λ k part answer. line_of style (number_at first k) part answer) s n
      ∙ ap (λ (l : List ℕ). lines_to style first s a m ++ l)
      (cat_same _ _ n (λ k h. ap (λ (i : ℕ). line_of style i (part_at b k) (answer_at (ran_to s a m) b k)) (number_on first m k)))
