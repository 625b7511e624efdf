-- The image of a state, docs/SPEC.md, 9.1 to 9.8, and what the writer promises, 9.25 to 9.28. On a state that keeps the rules a head is below 4096, a
-- domain and a handle below 256: the bytes that SPEC 9.5 and 9.6 call zero are the upper bytes of these numbers.
use Rattle.std.specs.Prelude.{ℕ, zero, suc, ◌+◌, ◌-◌, ◌*◌, ◌≤◌, ◌≡◌, cond, not, List, [], ◌++◌, eqb, ltb, length, take, drop, get_or}
use Rattle.answer.specs.Answer.{number_of, refused}
use Rattle.answer.specs.declared.Answer.{Answer}
use Rattle.answer.specs.declared.Code.TheVariants.{Ok, Value, Room}
use Rattle.mem_domain.specs.Domain.{slots as SLOTS}
use Rattle.userspace.specs.Userspace.{THREADS}
use Rattle.tables.specs.Table.{HANDLES, DOMAINS, Sized}
use Rattle.rules.specs.Rules.{keeps_test}
use Rattle.answer.specs.Stores.{cat}
use Rattle.image_write.specs.Bytes.{bytes, magic}

-- object h (SPEC 9.5): its head in four bytes, its word in eight
unfoldable pub object_bytes : List ℕ → ℕ → List ℕ
object_bytes os h = bytes 4 (get_or os (2 * h) 0) ++ bytes 8 (get_or os (2 * h + 1) 0)

-- thread t, if it lives (SPEC 9.6): its number, whether it is a supervisor, its domain in two bytes, its handle in four
unfoldable pub thread_bytes : List ℕ → ℕ → List ℕ
thread_bytes ts t =
    cond (eqb (get_or ts (3 * t) 0) 0) []
    (bytes 1 t ++ bytes 1 (get_or ts (3 * t) 0 - 1) ++ bytes 2 (get_or ts (3 * t + 1) 0) ++ bytes 4 (get_or ts (3 * t + 2) 0))

-- one domain of a table of slots (SPEC 9.7): 48 numbers of four bytes
abbrev pub slot_bytes : List ℕ → ℕ → List ℕ
slot_bytes ss k = bytes 4 (get_or ss k 0)

unfoldable pub domain_bytes : List ℕ → List ℕ
domain_bytes ss = cat (slot_bytes ss) (3 * SLOTS)

abbrev pub domain_part : List ℕ → ℕ → List ℕ
domain_part ss d = domain_bytes (take 48 (drop (48 * d) ss))

unfoldable pub domains_bytes : List ℕ → List ℕ
domains_bytes ss = cat (domain_part ss) DOMAINS

-- how many of the first objects are written: up to the last that is taken (SPEC 9.26)
unfoldable pub top : List ℕ → ℕ → ℕ
top os zero = 0
top os (suc h) = cond (eqb (get_or os (2 * h) 0) 0) (top os h) (suc h)

-- how many of the first threads live
unfoldable pub live : List ℕ → ℕ → ℕ
live ts zero = 0
live ts (suc t) = cond (eqb (get_or ts (3 * t) 0) 0) (live ts t) (suc (live ts t))

-- the length of an image of m objects and n threads (SPEC 9.4): header, eight domains of 192 bytes, objects of 12, threads of 8
abbrev pub total : ℕ → ℕ → ℕ
total m n = 1552 + 12 * m + 8 * n

unfoldable pub header : ℕ → ℕ → List ℕ
header m n = magic ++ bytes 2 m ++ bytes 1 n ++ bytes 1 DOMAINS ++ bytes 4 (total m n)

unfoldable pub encode : List ℕ → List ℕ → List ℕ → List ℕ
encode os ts ss =
    header (top os HANDLES) (live ts THREADS) ++ cat (object_bytes os) (top os HANDLES) ++ cat (thread_bytes ts) THREADS ++ domains_bytes ss

-- ---- the writer

-- VALUE, then ROOM, else OK and the number of bytes (SPEC 9.25)
unfoldable pub written : List ℕ → List ℕ → List ℕ → ℕ → Answer
written os ts ss room =
    cond (not (keeps_test os ts ss)) (refused Value) (
    cond (ltb room (length (encode os ts ss))) (refused Room) (
    record { code = number_of Ok; value = length (encode os ts ss) }))

-- the lent buffer afterwards: on OK the image and then what lay behind it; a refusal leaves it (SPEC 9.28)
unfoldable pub bytes_after : List ℕ → List ℕ → List ℕ → List ℕ → List ℕ
bytes_after os ts ss out =
    cond (eqb (written os ts ss (length out)).code (number_of Ok)) (encode os ts ss ++ drop (length (encode os ts ss)) out) out

-- what the writer promises of its answer and of the lent buffer
pub record Written (os ts ss before after : List ℕ) (r : Answer) : Type 0 where
  pub answer : r ≡ written os ts ss (length before)
  pub bytes : after ≡ bytes_after os ts ss before

-- ---- what functions inside the writer ask

-- m and n are the counts, and the buffer is large enough
pub record Roomy (os ts ss out : List ℕ) (m n : ℕ) : Type 0 where
  pub tables : Sized os ts ss
  pub m_is : m ≡ top os HANDLES
  pub m_most : m ≤ HANDLES
  pub n_is : n ≡ live ts THREADS
  pub n_most : n ≤ THREADS
  pub room : total m n ≤ length out
