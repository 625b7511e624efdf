-- A log and its answers in words, for people: a line a part, with the words of its call and of its answer as `words` has them.
use Rattle.std.specs.Prelude.{ℕ, ◌+◌, ◌*◌, ◌%◌, ◌^◌, Bool, cond, ◌&&◌, List, ◌++◌, length, ◌==◌, nat_lt, slice_index}
use Rattle.answer.specs.Answer.{number_of}
use Rattle.answer.specs.declared.Code.TheVariants.{Eperm}
use Rattle.text.specs.Text.{ascii, decimal}
use Rattle.decoding.specs.Calls.{call_of}
use Rattle.words.specs.Words.{call_words, answer_words, widest_call, widest_answer}
use Rattle.calls.specs.Calls.{part_at}

-- the last part of a log can be under sixteen bytes
unfoldable pub cut_off : ℕ → List ℕ
cut_off n = ascii "cut off after " ++ decimal n ++ ascii " bytes"

unfoldable pub part_words : List ℕ → List ℕ
part_words bs = cond (nat_lt (length bs) 16) (cut_off (length bs)) (call_words (call_of bs))

unfoldable pub numeral : ℕ → List ℕ
numeral number = decimal number ++ ascii ": "

-- the value of a memory check that is EPERM is the first address that the caller may not touch
unfoldable pub is_address : List ℕ → ℕ → Bool
is_address bs code = code == number_of Eperm && slice_index bs 0 == 3

unfoldable pub explained : ℕ → List ℕ → ℕ → ℕ → List ℕ
explained number bs code value = numeral number ++ part_words bs ++ answer_words (is_address bs code) code value

-- the k-th line's number: 32 bits, so that it begins again at 0 behind the greatest
abbrev pub number_at : ℕ → ℕ → ℕ
number_at first k = (first + k) % 2 ^ 32

-- the k-th part of a log with its answer, the two numbers from 2k on; past the log's end it is cut off after 0 bytes
abbrev pub explained_at : ℕ → List ℕ → List ℕ → ℕ → List ℕ
explained_at first log out k = explained (number_at first k) (part_at log k) (slice_index out (2 * k)) (slice_index out (2 * k + 1))

-- the longest line: its number with a colon and a space, a call, an answer
abbrev pub longest_line : ℕ
longest_line = 12 + widest_call + widest_answer
