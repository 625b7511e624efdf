-- From the promises of `run` and of the lines to what is printed: the lines of the answers, in numbers and in words.
use Rattle.std.proofs.Common.{◌≡◌, ℕ, ◌*◌, ◌≤◌, List, length, refl}
use Rattle.answer.specs.Stores.{cat}
use Rattle.tables.specs.State.{State}
use Rattle.image_write.proofs.Bytes.{cat_same}
use Rattle.calls.specs.Calls.{part_at, answers_to}
use Rattle.calls.proofs.Answers.{holds}
use Rattle.lines.specs.Lines.{line, line_at}
use Rattle.explain.specs.Words.{explained, explained_at, number_at}
use Rattle.replaying.specs.declared.Style.{Style}
use Rattle.replaying.specs.declared.Style.TheVariants.{Numbers, Words}
use Rattle.replaying.specs.Printing.{answer_at, line_in, line_of, lines_to}

-- in numbers: what `put_lines` puts of the buffer that `run` left
pub printed : (s : State) (log out : List ℕ) (n : ℕ) → 2 * n ≤ length out
    → cat (line_at (answers_to s log out n)) n ≡ cat (λ k. line (answer_at s log k).code (answer_at s log k).value) n
printed s log out n h = cat_same _ _ n (λ k l. let p = holds s log out n k h l in rw (p.code, p.value) refl)

-- in words
pub told : (first : ℕ) (s : State) (log out : List ℕ) (n : ℕ) → 2 * n ≤ length out
    → cat (explained_at first log (answers_to s log out n)) n
    ≡ cat (λ k. explained (number_at first k) (part_at log k) (answer_at s log k).code (answer_at s log k).value) n
told first s log out n h = cat_same _ _ n (λ k l. let p = holds s log out n k h l in rw (p.code, p.value) refl)

-- whichever is asked for
pub lines_are : (style : Style) (first : ℕ) (s : State) (log out : List ℕ) (n : ℕ) → 2 * n ≤ length out
    → cat (line_in style first log (answers_to s log out n)) n ≡ lines_to style first s log n
unfolding lines_to line_of
lines_are Words first s log out n h = told first s log out n h
lines_are Numbers first s log out n h = printed s log out n h
