-- What is read off an image, by the layout that `encode` writes; which images are accepted; and what the reader promises: docs/SPEC.md, 9.9 to
-- 9.24. That what SPEC 9.21 asks of the bytes holds of an accepted image, and that no other is refused, is image_laws/proofs/Document.antt.
use Rattle.std.specs.Prelude.{ℕ, zero, suc, ◌+◌, ◌*◌, ◌≡◌, Bool, true, false, cond, not, ◌&&◌, List, [], ◌∷◌, eqb, leb, ltb, length, take, drop, replicate}
use Rattle.std.proofs.lemmas.List.Edits.{sets}
use Rattle.answer.specs.Answer.{number_of}
use Rattle.answer.specs.declared.Code.TheVariants.{Ok, Short, Magic, Value}
use Rattle.mem_domain.specs.Domain.{slots as SLOTS}
use Rattle.userspace.specs.Userspace.{THREADS}
use Rattle.tables.specs.Table.{HANDLES, DOMAINS, sized}
use Rattle.rules.specs.Rules.{keeps_test}
use Rattle.answer.specs.Stores.{cat}
use Rattle.image_write.specs.Bytes.{le, magic}
use Rattle.image_write.specs.Encode.{total, encode}

-- ---- the header

abbrev pub object_count : List ℕ → ℕ
object_count b = le 2 b 8

abbrev pub thread_count : List ℕ → ℕ
thread_count b = le 1 b 10

abbrev pub domain_count : List ℕ → ℕ
domain_count b = le 1 b 11

abbrev pub total_of : List ℕ → ℕ
total_of b = le 4 b 12

-- where the threads begin, and the domains
abbrev pub threads_place : List ℕ → ℕ
threads_place b = 16 + 12 * object_count b

abbrev pub domains_place : List ℕ → ℕ
domains_place b = threads_place b + 8 * thread_count b

-- ---- the tables that are read off

-- the two numbers of object h: its first four bytes, which are the head, and the word (SPEC 9.5, 9.15)
unfoldable pub object_in : List ℕ → ℕ → List ℕ
object_in b h = le 4 b (16 + 12 * h) ∷ le 8 b (20 + 12 * h) ∷ []

unfoldable pub read_objects : List ℕ → List ℕ
read_objects b = sets (replicate (2 * HANDLES) 0) 0 (cat (object_in b) (object_count b))

-- the record at a place goes to its thread, a number from 64 on nowhere; the zeros behind domain and handle are read with them (SPEC 9.16 to 9.18)
unfoldable pub enter : List ℕ → ℕ → List ℕ → List ℕ
enter b at ts =
    cond (ltb (le 1 b at) THREADS) (sets ts (3 * le 1 b at) ((le 1 b (at + 1) + 1) ∷ le 2 b (at + 2) ∷ le 4 b (at + 4) ∷ [])) ts

unfoldable pub entered : List ℕ → ℕ → List ℕ → ℕ → List ℕ
entered b at ts zero = ts
entered b at ts (suc n) = enter b (at + 8 * n) (entered b at ts n)

unfoldable pub read_threads : List ℕ → List ℕ
read_threads b = entered b (threads_place b) (replicate (3 * THREADS) 0) (thread_count b)

-- a domain's record of 192 bytes: 48 numbers
unfoldable pub domain_of : List ℕ → List ℕ
domain_of r = cat (λ (k : ℕ). le 4 r (4 * k) ∷ []) (3 * SLOTS)

abbrev pub domain_in : List ℕ → ℕ → ℕ → List ℕ
domain_in b at d = domain_of (take 192 (drop (at + 192 * d) b))

unfoldable pub domains_in : List ℕ → ℕ → List ℕ
domains_in b at = cat (domain_in b at) DOMAINS

unfoldable pub read_slots : List ℕ → List ℕ
read_slots b = domains_in b (domains_place b)

-- ---- the answer

unfoldable pub eqs : List ℕ → List ℕ → Bool
eqs [] [] = true
eqs [] (y ∷ ys) = false
eqs (x ∷ xs) [] = false
eqs (x ∷ xs) (y ∷ ys) = eqb x y && eqs xs ys

-- m objects, n threads, d domains, t bytes
unfoldable pub fields_ok : ℕ → ℕ → ℕ → ℕ → Bool
fields_ok m n d t = leb m HANDLES && (leb n THREADS && (eqb d DOMAINS && eqb t (total m n)))

-- the header's refusals in their order (SPEC 9.10 to 9.14); behind a good header, what the contents answer
unfoldable pub headed : List ℕ → ℕ → ℕ
headed b contents =
    cond (ltb (length b) 16) (number_of Short) (
    cond (not (eqs (take 8 b) magic)) (number_of Magic) (
    cond (not (fields_ok (object_count b) (thread_count b) (domain_count b) (total_of b))) (number_of Value) (
    cond (ltb (length b) (total_of b)) (number_of Short) (
    contents))))

-- the tables keep the rules, and the first t bytes are just their image (SPEC 9.20)
unfoldable pub is_image : List ℕ → ℕ → List ℕ → List ℕ → List ℕ → Bool
is_image b t os ts ss = keeps_test os ts ss && eqs (encode os ts ss) (take t b)

abbrev pub accepted : List ℕ → Bool
accepted b = is_image b (total_of b) (read_objects b) (read_threads b) (read_slots b)

unfoldable pub image_code : List ℕ → ℕ
image_code b = headed b (cond (accepted b) (number_of Ok) (number_of Value))

-- tables of other lengths than a state's are VALUE before all else (SPEC 9.9)
unfoldable pub read_code : List ℕ → List ℕ → List ℕ → List ℕ → ℕ
read_code b os ts ss = cond (sized (length os) (length ts) (length ss)) (image_code b) (number_of Value)

-- what is left in a table: on OK what was read, else what was there
abbrev pub after_read : ℕ → List ℕ → List ℕ → List ℕ
after_read code new old = cond (eqb code (number_of Ok)) new old

-- what the reader promises: its answer, what it hands back of the buffer, and the three tables (SPEC 9.23, 9.24)
pub record ReadIs (b os ts ss os' ts' ss' part : List ℕ) (code : ℕ) : Type 0 where
  pub answer : code ≡ read_code b os ts ss
  pub rest : part ≡ after_read (read_code b os ts ss) (drop (total_of b) b) []
  pub objects : os' ≡ after_read (read_code b os ts ss) (read_objects b) os
  pub threads : ts' ≡ after_read (read_code b os ts ss) (read_threads b) ts
  pub slots : ss' ≡ after_read (read_code b os ts ss) (read_slots b) ss

-- ---- what functions inside the reader ask and give

-- a good header, and tables of objects and of threads that are all zero
pub record Fresh (b os ts : List ℕ) : Type 0 where
  pub head : headed b 0 ≡ 0
  pub objects : os ≡ replicate (2 * HANDLES) 0
  pub threads : ts ≡ replicate (3 * THREADS) 0

pub record Decoded (b os ts ss : List ℕ) (end : ℕ) : Type 0 where
  pub objects : os ≡ read_objects b
  pub threads : ts ≡ read_threads b
  pub slots : ss ≡ read_slots b
  pub place : end ≡ total_of b
