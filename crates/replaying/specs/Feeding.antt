-- A log that comes in pieces of any length: of the bytes that are there the whole calls are answered and printed, at the input's end all of them, and what
-- is left is kept at the front of the buffer, where the next bytes follow it (docs/SPEC.md, 11.25 to 11.29).
use Rattle.std.specs.Prelude.{◌≡◌, ℕ, ◌*◌, ◌/◌, Bool, cond, List, length, take, drop, Result, is_ok}
use Rattle.answer.specs.declared.Code.{Code}
use Rattle.explain.specs.Words.{number_at}
use Rattle.replaying.specs.declared.Fed.{Fed}
use Rattle.replaying.specs.declared.Style.{Style}
use Rattle.replaying.specs.Printing.{laid, Printed}

-- how many bytes are answered of n that are there
abbrev pub cut_at : Bool → ℕ → ℕ
cut_at last n = cond last n (16 * (n / 16))

-- the bytes that are answered now, and those that are kept
abbrev pub ripe : Bool → List ℕ → List ℕ
ripe last bs = take (cut_at last (length bs)) bs

abbrev pub rest : Bool → List ℕ → List ℕ
rest last bs = drop (cut_at last (length bs)) bs

-- where it is refused, nothing was answered and all is kept
abbrev pub unanswered : Bool → List ℕ → Result ℕ Code → List ℕ
unanswered last bs p = cond (is_ok p) (rest last bs) bs

-- how many whole calls are answered
abbrev pub calls : Bool → List ℕ → Result ℕ Code → ℕ
calls last bs p = cond (is_ok p) (cut_at last (length bs) / 16) 0

-- of a buffer the first n bytes are there; `first` is the number of the call that they begin with
pub record FedIs (style : Style) (last : Bool) (first : ℕ) (os ts ss log : List ℕ) (n : ℕ) (out text : List ℕ) (r : Fed) (os' ts' ss' log' out' text' : List ℕ) : Type 0 where
  pub printed : Printed style first os ts ss (ripe last (take n log)) out text r.put os' ts' ss' out' text'
  pub left : r.left ≡ length (unanswered last (take n log) r.put)
  pub next : r.next ≡ number_at first (calls last (take n log) r.put)
  pub kept : log' ≡ laid (unanswered last (take n log) r.put) log
