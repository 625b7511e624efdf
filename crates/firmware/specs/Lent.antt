-- What the exported functions promise where the function below has a result that C has not: a domain lent as words, a part of a slice (docs/SPEC.md, 12).
use Rattle.std.specs.Prelude.{ℕ, ◌*◌, ◌≡◌, Bool, cond, List, [], eqb, length, drop, Result, Ok as Accepted, Err}
use Rattle.answer.specs.Answer.{number_of, refused, told}
use Rattle.answer.specs.declared.Answer.{Answer}
use Rattle.answer.specs.declared.Code.{Code}
use Rattle.answer.specs.declared.Code.TheVariants.{Ok, Value}
use Rattle.mem_partition.specs.declared.MemPartition.{MemPartition}
use Rattle.mem_domain.specs.Domain.{Changed, slots, gotten}
use Rattle.mem_domain.specs.declared.MemDomain.{MemDomain}
use Rattle.tables.specs.Table.{domain_at, put_domain}
use Rattle.planner.specs.Planner.{planned, words_after}
use Rattle.image.specs.Read.{read_code, after_read, total_of, ReadIs}

-- ---- a domain as firmware lends it: three words for each of sixteen slots. Another number of words is no domain (SPEC 12.2)

unfoldable pub whole : List ℕ → Bool
whole ws = eqb (length ws) (3 * slots)

-- the domain in the words; its count is worked out
abbrev pub domain_in : List ℕ → MemDomain
domain_in ws = domain_at ws 0

-- that domain, or VALUE
unfoldable pub lent : List ℕ → Result MemDomain Code
lent ws = cond (whole ws) (Accepted (domain_in ws)) (Err Value)

-- VALUE before all else
unfoldable pub judged : List ℕ → Answer → Answer
judged ws a = cond (whole ws) a (refused Value)

-- a question's answer: 1 or 0
abbrev pub said : Bool → Answer
said b = record { code = number_of Ok; value = cond b 1 0 }

-- add and remove: OK stores the domain, a refusal leaves the words (SPEC 12.3)
pub record Changes (ws : List ℕ) (c : Changed) (r : Answer) (ws' : List ℕ) : Type 0 where
  pub answer : r ≡ judged ws (told c.answer)
  pub words : ws' ≡ cond (eqb (judged ws (told c.answer)).code (number_of Ok)) (put_domain ws 0 c.domain) ws

-- get: the slot, or a refusal
unfoldable pub slot_in : List ℕ → ℕ → Result MemPartition Code
slot_in ws k = cond (whole ws) (gotten (domain_in ws) k) (Err Value)

-- the same as a number of the table and the slot's three fields; a refusal's are zeros
pub record Got : Type 0 where
  pub code : ℕ
  pub start : ℕ
  pub size : ℕ
  pub attr : ℕ

abbrev pub got_of : Result MemPartition Code → Got
got_of (Accepted p) = record { code = number_of Ok; start = p.start; size = p.size; attr = p.attr }
got_of (Err c) = record { code = number_of c; start = 0; size = 0; attr = 0 }

abbrev pub got_in : List ℕ → ℕ → Got
got_in ws k = got_of (slot_in ws k)

-- the planner's answer and words
pub record Plans (ws : List ℕ) (regions : ℕ) (before : List ℕ) (r : Answer) (after : List ℕ) : Type 0 where
  pub answer : r ≡ judged ws (planned (domain_in ws) regions (length before))
  pub words : after ≡ cond (whole ws) (words_after (domain_in ws) regions before) before

-- ---- the reader: the part behind the image is told by its length, 0 on a refusal (SPEC 12.7)

abbrev pub behind : List ℕ → List ℕ → List ℕ → List ℕ → List ℕ
behind b os ts ss = after_read (read_code b os ts ss) (drop (total_of b) b) []

pub record ReadsLeft (b os ts ss os' ts' ss' : List ℕ) (left code : ℕ) : Type 0 where
  pub reads : ReadIs b os ts ss os' ts' ss' (behind b os ts ss) code
  pub rest : left ≡ length (behind b os ts ss)
