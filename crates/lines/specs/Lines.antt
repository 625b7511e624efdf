-- Answers as lines of text: docs/SPEC.md, 11.6, 11.23 and 11.24.
-- What putting lines into a lent buffer answers and leaves is said once here, for lines of any kind: `explain` puts its own.
use Rattle.std.specs.Prelude.{ℕ, ◌+◌, ◌*◌, ◌≡◌, cond, List, ◌++◌, ltb, length, drop, get_or, Result, Ok, Err, is_ok}
use Rattle.answer.specs.declared.Code.{Code}
use Rattle.answer.specs.declared.Code.TheVariants.{Einval, Room}
use Rattle.answer.specs.Stores.{cat}
use Rattle.text.specs.Text.{ascii, decimal}

unfoldable pub line : ℕ → ℕ → List ℕ
line code value = decimal code ++ ascii " " ++ decimal value ++ ascii "\n"

-- the k-th line of a form, from answer k: the two numbers from 2k on
abbrev pub line_in : (ℕ → ℕ → ℕ → List ℕ) → List ℕ → ℕ → List ℕ
line_in form out k = form k (get_or out (2 * k) 0) (get_or out (2 * k + 1) 0)

abbrev pub line_at : List ℕ → ℕ → List ℕ
line_at out = line_in (λ _. line) out

-- ten digits, a space, ten digits, the line's end
abbrev pub LONGEST : ℕ
LONGEST = 22

-- ---- the lines of the first n answers, put into a buffer: `line_of k` is the k-th, and none is longer than `longest`

module _ (line_of : ℕ → List ℕ) (longest : ℕ) (out : List ℕ) (n : ℕ) where
  -- more answers than there are EINVAL; less room than the longest lines would take ROOM; else how many bytes
  unfoldable pub lines_answer : ℕ → Result ℕ Code
  lines_answer room =
      cond (ltb (length out) (2 * n)) (Err Einval) (
      cond (ltb room (longest * n)) (Err Room) (
      Ok (length (cat line_of n))))

  -- the buffer afterwards: the lines and then what lay behind them; a refusal changes nothing
  unfoldable pub text_after : List ℕ → List ℕ
  text_after text = cond (is_ok (lines_answer (length text))) (cat line_of n ++ drop (length (cat line_of n)) text) text

  pub record Lines (before : List ℕ) (r : Result ℕ Code) (after : List ℕ) : Type 0 where
    pub answer : r ≡ lines_answer (length before)
    pub text : after ≡ text_after before
