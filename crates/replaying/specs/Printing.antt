-- What replay prints: for each part of a log one line, made of the part's answer; in numbers, or in words with the call's number and its words.
-- A part is answered by the state that the parts before it left (docs/SPEC.md, 11.1 to 11.3, 11.27 and 11.28).
use Rattle.std.specs.Prelude.{◌≡◌, ℕ, ◌*◌, false, cond, ◌||◌, List, ◌++◌, length, drop, nat_lt, Result, Ok, Err, is_ok}
use Rattle.answer.specs.declared.Answer.{Answer}
use Rattle.answer.specs.declared.Code.{Code}
use Rattle.answer.specs.declared.Code.TheVariants.{Value, Room}
use Rattle.answer.specs.Stores.{cat}
use Rattle.text.specs.Text.{ascii}
use Rattle.lines.specs.Lines.{line, line_at, LONGEST}
use Rattle.tables.specs.State.{State, state_of}
use Rattle.rules.specs.Rules.{keeps_test}
use Rattle.judging.specs.Judge.{heard}
use Rattle.words.specs.Words.{answer_words}
use Rattle.calls.specs.Calls.{part_at, parts_in, ran_to, answers_to, objects_left, threads_left, slots_left}
use Rattle.explain.specs.Words.{explained, explained_at, number_at, longest_line}
use Rattle.replaying.specs.declared.Style.{Style}
use Rattle.replaying.specs.declared.Style.TheVariants.{Numbers, Words}

-- what is so in numbers, and what in words
abbrev pub by_style : {A : Type 0} → Style → A → A → A
by_style Numbers a b = a
by_style Words a b = b

-- ---- lines

-- the answer to the k-th part of a log
abbrev pub answer_at : State → List ℕ → ℕ → Answer
answer_at s log k = heard (ran_to s log k) (part_at log k)

-- the line of a part and its answer: in words, or in numbers
unfoldable pub line_of : Style → ℕ → List ℕ → Answer → List ℕ
line_of style number part a = by_style style (line a.code a.value) (explained number part a.code a.value)

-- the lines of the first n parts of a log, in order; the first of them has the number `first`
unfoldable pub lines_to : Style → ℕ → State → List ℕ → ℕ → List ℕ
lines_to style first s log n = cat (λ k. line_of style (number_at first k) (part_at log k) (answer_at s log k)) n

-- how long a line can be
abbrev pub longest : Style → ℕ
longest style = by_style style LONGEST longest_line

-- the line of a refused image
unfoldable pub refusal_of : Style → ℕ → List ℕ
refusal_of style code = by_style style (line code 0) (ascii "image" ++ answer_words false code 0)

-- ---- a log, printed

-- bytes at the front of a buffer, and behind them what lay there
abbrev pub laid : List ℕ → List ℕ → List ℕ
laid xs before = xs ++ drop (length xs) before

-- the same line, made of the answers' numbers in their buffer
abbrev pub line_in : Style → ℕ → List ℕ → List ℕ → ℕ → List ℕ
line_in style first log out k = by_style style (line_at out k) (explained_at first log out k)

module _ (style : Style) (first : ℕ) (os ts ss log out : List ℕ) where
  -- a state that breaks a rule VALUE; then too little room, for the answers' numbers or for the longest lines, ROOM; else how many bytes
  unfoldable pub print_answer : ℕ → Result ℕ Code
  print_answer room =
      cond (keeps_test os ts ss)
      (cond (nat_lt (length out) (2 * parts_in (length log)) || nat_lt room (longest style * parts_in (length log)))
      (Err Room)
      (Ok (length (lines_to style first (state_of os ts ss) log (parts_in (length log))))))
      (Err Value)

  -- how many parts are answered: all of them, or none
  abbrev pub printed_parts : ℕ → ℕ
  printed_parts room = cond (is_ok (print_answer room)) (parts_in (length log)) 0

  -- the answer, the three tables, the answers' numbers and the text
  pub record Printed (before : List ℕ) (r : Result ℕ Code) (os' ts' ss' out' after : List ℕ) : Type 0 where
    pub answer : r ≡ print_answer (length before)
    pub objects : os' ≡ objects_left os ts ss (λ s. ran_to s log (printed_parts (length before)))
    pub threads : ts' ≡ threads_left os ts ss (λ s. ran_to s log (printed_parts (length before)))
    pub slots : ss' ≡ slots_left os ts ss (λ s. ran_to s log (printed_parts (length before)))
    pub numbers : out' ≡ answers_to (state_of os ts ss) log out (printed_parts (length before))
    pub text : after ≡ laid (lines_to style first (state_of os ts ss) log (printed_parts (length before))) before
