-- The word acts, step for step, as upstream's table: each operation and query on the record, read as the table, is upstream's on
-- the table; the table determines the word; and so it is for any sequence.
use Prim.Native.Nat.{ℕ, zero, suc, ◌+◌, ◌*◌, ◌/◌, ◌%◌, ◌^◌, ◌<◌, ◌≤◌}
use mathlib.Core.Path.{◌≡◌, refl, sym, ap, ap₂, ◌∙◌}
use mathlib.Core.Logic.{◌≢◌}
use mathlib.Core.Bool.{Bool, true, false, cond, not, ◌&&◌, ◌||◌}
use mathlib.Core.List.{List, [], ◌∷◌}
use lib.Dec.{ltb, leb, eqb, lit<}
use lib.ListN.{length, get_or, set, length-set, length-replicate, get_or-replicate}
use lib.Seq.{ext_get_or, get_or-set_same, get_or-set_other}
use native.Mathlib.Decide.{dec_lt, ℕ_discrete}
use native.Mathlib.Nat.{not-suc-le-zero, le_of_suc-le-suc, pow-suc}
use native.Mathlib.Omega.{arith}
use borrow.Author.Tests.{lt-ltb, le-ltb, lt-leb, le-leb}
use Rattle.answer.specs.declared.Answer.{Answer}
use Rattle.userspace_names.specs.declared.InitCheck.{InitCheck}
use Rattle.userspace_names.specs.declared.InitCheck.TheVariants.{MustBeInit, MustNotBeInit, DontCare}
use Rattle.userspace.specs.declared.KernelObject.{KernelObject}
use Rattle.std.specs.Prelude.{Err}
use Rattle.answer.specs.declared.Code.TheVariants.{Ebadf, Eperm}
use Rattle.bits.specs.Bit.{bit_of, is_set, set_bit, clear_bit, is_set_same, is_set_other, is_clear_same, is_clear_other, is_zero, is_bit, bit_shr, lowest, half_bit, bit_ext, bit_ext_below}
use Rattle.userspace_decide.specs.Decide.{Validated, judged, answer_of}
use Rattle.userspace.specs.Userspace.{THREADS, granted, revoked, recycled, cleared_all, initiated, uninitiated, published, new_object, with_word, changed_at, access, holds, validated, type_fits, bit_answer, bit_told, done, refused}
use Rattle.userspace.specs.Table.{Table, Did, with_perms, becomes_t, tells_t, says, blank, unless, new_t, grant_t, revoke_t, clear_all_t, init_t, uninit_t, public_t, recycle_t, check_t, validate_t, init_check_t, has_perm_t, entries, perms_of, word_of, table_of, step_of, did_of, Op, step, step_t, after, after_t, heard, heard_t}

-- ---- entries

entries_length : (n : ℕ) (f : ℕ → Bool) → length (entries n f) ≡ n
unfolding entries
entries_length zero f = refl
entries_length (suc n) f = ap suc (entries_length n (λ k. f (suc k)))

entries_at : (n : ℕ) (f : ℕ → Bool) (k : ℕ) → k < n → get_or (entries n f) k false ≡ f k
unfolding entries
entries_at zero f k h = absurd (not-suc-le-zero h)
entries_at (suc n) f zero h = refl
entries_at (suc n) f (suc k) h = entries_at n (λ j. f (suc j)) k (le_of_suc-le-suc h)

pub perms_length : (w : ℕ) → length (perms_of w) ≡ THREADS
unfolding perms_of
perms_length w = entries_length THREADS (is_set w)

-- entry t of the table is bit t of the word
pub perms_at : (w t : ℕ) → t < THREADS → get_or (perms_of w) t false ≡ is_set w t
unfolding perms_of
perms_at w t h = entries_at THREADS (is_set w) t h

-- a list of 64 entries that are the bits of w is its table
perms_is : (w : ℕ) (l : List Bool) → length l ≡ THREADS → ((k : ℕ) → k < THREADS → is_set w k ≡ get_or l k false) → perms_of w ≡ l
perms_is w l e f = ext_get_or false (perms_of w) l (perms_length w ∙ sym e) (λ k h. let i : k < THREADS = omega (arith, perms_length w) in perms_at w k i ∙ f k i)

-- the word 0 is the table of no
pub perms_none : perms_of 0 ≡ blank
perms_none = perms_is 0 blank (length-replicate THREADS false) (λ k h. is_zero k ∙ sym (get_or-replicate THREADS k false false h))

-- one bit changed is one entry changed
put : (w v t : ℕ) (b : Bool) → t < THREADS → is_set v t ≡ b → ((k : ℕ) → k ≢ t → is_set v k ≡ is_set w k) → perms_of v ≡ set (perms_of w) t b
put w v t b h same other = perms_is v (set (perms_of w) t b) (length-set (perms_of w) t b ∙ perms_length w) (λ k i. go k i (ℕ_discrete k t))
  where
    go : (k : ℕ) → k < THREADS → Dec (k ≡ t) → is_set v k ≡ get_or (set (perms_of w) t b) k false
    go k i (yes e) = ap (is_set v) e ∙ same ∙ sym (ap (λ (x : ℕ). get_or (set (perms_of w) t b) x false) e ∙ get_or-set_same (perms_of w) t b false (omega (arith, perms_length w)))
    go k i (no ne) = other k ne ∙ sym (get_or-set_other (perms_of w) t k b false ne ∙ perms_at w k i)

pub perms_set : (w t : ℕ) → t < THREADS → perms_of (set_bit w t) ≡ set (perms_of w) t true
perms_set w t h = put w (set_bit w t) t true h (is_set_same w t) (is_set_other w t)

pub perms_clear : (w t : ℕ) → t < THREADS → perms_of (clear_bit w t) ≡ set (perms_of w) t false
perms_clear w t h = put w (clear_bit w t) t false h (is_clear_same w t) (is_clear_other w t)

-- ---- each operation, step for step

-- the refusal of a thread is upstream's, and what it refuses changes nothing
at : (t : ℕ) (o p : KernelObject) (u : Table) → (t < THREADS → table_of p ≡ u) → did_of (step_of (changed_at t o p)) ≡ unless t (table_of o) u
unfolding changed_at
at t o p u f = go (dec_lt t THREADS)
  where
    go : Dec (t < THREADS) → did_of (step_of (cond (ltb t THREADS) (done p) (refused o))) ≡ unless t (table_of o) u
    go (yes h) = simp (lt-ltb t THREADS h, lt-leb THREADS t h, f h)
    go (no g) = let h : THREADS ≤ t = omega arith in simp (le-ltb t THREADS h, le-leb THREADS t h)

pub new_step : (t : ℕ) → table_of (new_object t) ≡ new_t t
unfolding table_of
new_step t = simp (is_zero, perms_none)

-- a record with another word has another table and nothing else
worded : (o : KernelObject) (w : ℕ) (l : List Bool) → perms_of w ≡ l → table_of (with_word o w) ≡ with_perms (table_of o) l
unfolding table_of
worded o w l e = ap (with_perms (table_of o)) e

pub grant_step : (o : KernelObject) (t : ℕ) → did_of (step_of (granted o t)) ≡ grant_t (table_of o) t
unfolding granted table_of
grant_step o t = at t o _ _ (λ h. worded o _ _ (perms_set o.word t h))

pub revoke_step : (o : KernelObject) (t : ℕ) → did_of (step_of (revoked o t)) ≡ revoke_t (table_of o) t
unfolding revoked table_of
revoke_step o t = at t o _ _ (λ h. worded o _ _ (perms_clear o.word t h))

pub clear_all_step : (o : KernelObject) → table_of (cleared_all o) ≡ clear_all_t (table_of o)
clear_all_step o = worded o 0 blank perms_none

-- the flags with one bit changed
pub init_step : (o : KernelObject) → table_of (initiated o) ≡ init_t (table_of o)
unfolding table_of
init_step o = simp (is_set_same o.flags 0, is_set_other o.flags 0 1 (λ e. omega arith), is_set_other o.flags 0 2 (λ e. omega arith), is_set_other o.flags 0 3 (λ e. omega arith))

pub uninit_step : (o : KernelObject) → table_of (uninitiated o) ≡ uninit_t (table_of o)
unfolding table_of
uninit_step o = simp (is_clear_same o.flags 0, is_clear_other o.flags 0 1 (λ e. omega arith), is_clear_other o.flags 0 2 (λ e. omega arith), is_clear_other o.flags 0 3 (λ e. omega arith))

pub make_public_step : (o : KernelObject) → table_of (published o) ≡ public_t (table_of o)
unfolding table_of
make_public_step o = simp (is_set_same o.flags 1, is_set_other o.flags 1 0 (λ e. omega arith), is_set_other o.flags 1 2 (λ e. omega arith), is_set_other o.flags 1 3 (λ e. omega arith))

pub recycle_step : (o : KernelObject) (t : ℕ) → did_of (step_of (recycled o t)) ≡ recycle_t (table_of o) t
unfolding recycled
recycle_step o t = at t o _ _ (λ h.
    worded (initiated o) _ _ (perms_set 0 t h ∙ ap (λ (l : List Bool). set l t true) perms_none)
    ∙ ap (λ (u : Table). with_perms u (set blank t true)) (init_step o))

-- ---- each query

-- a thread's bit is its entry, and there is none from 64 on
held : (o : KernelObject) (t : ℕ) → holds o t ≡ cond (leb THREADS t) false (get_or (perms_of o.word) t false)
unfolding holds
held o t = go (dec_lt t THREADS)
  where
    go : Dec (t < THREADS) → (ltb t THREADS && is_set o.word t) ≡ cond (leb THREADS t) false (get_or (perms_of o.word) t false)
    go (yes h) = simp (lt-ltb t THREADS h, lt-leb THREADS t h, perms_at o.word t h)
    go (no g) = let h : THREADS ≤ t = omega arith in simp (le-ltb t THREADS h, le-leb THREADS t h)

either : (s p h : Bool) → (s || (p || h)) ≡ cond s true (cond p true h)
either true p h = refl
either false true h = refl
either false false h = refl

pub check_access_step : (o : KernelObject) (t : ℕ) (s : Bool) → access o t s ≡ check_t (table_of o) t s
unfolding access table_of
check_access_step o t s = either s (is_set o.flags 1) (holds o t) ∙ ap (λ (h : Bool). cond s true (cond (is_set o.flags 1) true h)) (held o t)

same_type : (b c : Bool) → (b || c) ≡ cond b true c
same_type true c = refl
same_type false c = refl

same_judgement : (f a i : Bool) (c : InitCheck) → judged f a i c ≡ cond (not f) (Err Ebadf) (cond (not a) (Err Eperm) (init_check_t c i))
unfolding judged
same_judgement false a i c = refl
same_judgement true false i c = refl
same_judgement true true true MustBeInit = refl
same_judgement true true false MustBeInit = refl
same_judgement true true i MustNotBeInit = refl
same_judgement true true i DontCare = refl

pub validate_step : (o : KernelObject) (e t : ℕ) (s : Bool) (c : InitCheck) → validated o e t s c ≡ validate_t (table_of o) e t s c
unfolding validated table_of type_fits
validate_step o e t s c =
    same_judgement (eqb e 0 || eqb e o.obj_type) (access o t s) (is_set o.flags 0) c
    ∙ ap₂ (λ (f a : Bool). cond (not f) (Err Ebadf) (cond (not a) (Err Eperm) (init_check_t c (is_set o.flags 0)))) (same_type (eqb e 0) (eqb e o.obj_type)) (check_access_step o t s)

pub has_perm_step : (o : KernelObject) (t : ℕ) → bit_told (bit_answer o t) ≡ has_perm_t (table_of o) t
unfolding bit_answer table_of
has_perm_step o t = go (dec_lt t THREADS)
  where
    yes_or_no : t < THREADS → is_set o.word t ≡ get_or (perms_of o.word) t false
    yes_or_no h = sym (perms_at o.word t h)

    go : Dec (t < THREADS) → bit_told (bit_answer o t) ≡ has_perm_t (table_of o) t
    go (yes h) = simp (lt-ltb t THREADS h, lt-leb THREADS t h) (ap says (yes_or_no h))
    go (no g) = let h : THREADS ≤ t = omega arith in simp (le-ltb t THREADS h, le-leb THREADS t h)

-- ---- the table determines the word, and with the further flag bits the record

pub perms_determine : (a b : ℕ) → a < 2 ^ THREADS → b < 2 ^ THREADS → perms_of a ≡ perms_of b → a ≡ b
perms_determine a b ha hb e = bit_ext_below THREADS a b ha hb (λ k h. is_bit a b k (sym (perms_at a k h) ∙ ap (λ (l : List Bool). get_or l k false) e ∙ perms_at b k h))

-- what the table shows, and the flag bits that upstream has no field for, are the whole record
shown : (f g : ℕ) → is_set f 0 ≡ is_set g 0 → is_set f 1 ≡ is_set g 1 → is_set f 2 ≡ is_set g 2 → is_set f 3 ≡ is_set g 3 → f / 16 ≡ g / 16 → f ≡ g
shown f g e0 e1 e2 e3 e = bit_ext f g go
  where
    rest : (x k : ℕ) → bit_of (x / 16) k ≡ bit_of x (suc (suc (suc (suc k))))
    rest x k = bit_shr x 4 k ∙ ap (bit_of x) (omega arith)

    go : (k : ℕ) → bit_of f k ≡ bit_of g k
    go zero = is_bit f g 0 e0
    go (suc zero) = is_bit f g 1 e1
    go (suc (suc zero)) = is_bit f g 2 e2
    go (suc (suc (suc zero))) = is_bit f g 3 e3
    go (suc (suc (suc (suc k)))) = sym (rest f k) ∙ ap (λ (x : ℕ). bit_of x k) e ∙ rest g k

pub table_determines : (a b : KernelObject) → a.word < 2 ^ THREADS → b.word < 2 ^ THREADS → a.flags / 16 ≡ b.flags / 16 → table_of a ≡ table_of b → a ≡ b
unfolding table_of
table_determines a b ha hb rest e = record_is (ap kind_of e) flags_are words_are
  where
    words_are : a.word ≡ b.word
    words_are = perms_determine a.word b.word ha hb (ap (λ (u : Table). u.thread_perms) e)

    flags_are : a.flags ≡ b.flags
    flags_are = shown a.flags b.flags (ap (λ (u : Table). u.flag_initialized) e) (ap (λ (u : Table). u.flag_public) e) (ap (λ (u : Table). u.flag_alloc) e) (ap (λ (u : Table). u.flag_driver) e) rest

    kind_of : Table → ℕ
    kind_of u = u.kind

    record_is : a.obj_type ≡ b.obj_type → a.flags ≡ b.flags → a.word ≡ b.word → a ≡ b
    record_is p q r = λ i. record { obj_type = p i; flags = q i; word = r i }

-- and every table of 64 entries is that of a word below 2 ^ 64
odd : (b : Bool) (x : ℕ) → (cond b 1 0 + x * 2) % 2 ≡ cond b 1 0
odd true x = omega arith
odd false x = omega arith

first : (b : Bool) (x : ℕ) → is_set (cond b 1 0 + x * 2) 0 ≡ b
unfolding is_set
first b x = ap (λ (y : ℕ). eqb y 1) (lowest (cond b 1 0 + x * 2) ∙ odd b x) ∙ one_is b
  where
    one_is : (b : Bool) → eqb (cond b 1 0) 1 ≡ b
    one_is true = refl
    one_is false = refl

halved : (b : Bool) (x : ℕ) → (cond b 1 0 + x * 2) / 2 ≡ x
halved true x = omega arith
halved false x = omega arith

later : (b : Bool) (x k : ℕ) → is_set (cond b 1 0 + x * 2) (suc k) ≡ is_set x k
unfolding is_set
later b x k = ap (λ (y : ℕ). eqb y 1) (ap (bit_of (cond b 1 0 + x * 2)) (omega arith) ∙ sym (half_bit (cond b 1 0 + x * 2) k) ∙ ap (λ (y : ℕ). bit_of y k) (halved b x))

word_bit : (l : List Bool) (k : ℕ) → is_set (word_of l) k ≡ get_or l k false
unfolding word_of
word_bit [] k = is_zero k
word_bit (b ∷ l) zero = first b (word_of l)
word_bit (b ∷ l) (suc k) = later b (word_of l) k ∙ word_bit l k

pub perms_of_word : (l : List Bool) → length l ≡ THREADS → perms_of (word_of l) ≡ l
perms_of_word l e = perms_is (word_of l) l e (λ k h. word_bit l k)

pub word_below : (l : List Bool) → word_of l < 2 ^ length l
unfolding word_of
word_below [] = lit< tt
word_below (true ∷ l) = omega (arith, word_below l, pow-suc 2 (length l))
word_below (false ∷ l) = omega (arith, word_below l, pow-suc 2 (length l))

-- ---- any sequence

pub step_table : (p : Op) (o : KernelObject) → did_of (step p o) ≡ step_t p (table_of o)
unfolding step step_t table_of
step_table (Op.new t) o = ap becomes_t (new_step t)
step_table (Op.grant t) o = grant_step o t
step_table (Op.revoke t) o = revoke_step o t
step_table (Op.clear_thread t) o = revoke_step o t
step_table (Op.recycle t) o = recycle_step o t
step_table Op.clear_all o = ap becomes_t (clear_all_step o)
step_table Op.init o = ap becomes_t (init_step o)
step_table Op.uninit o = ap becomes_t (uninit_step o)
step_table Op.make_public o = ap becomes_t (make_public_step o)
step_table (Op.check_access t s) o = ap (λ (b : Bool). tells_t (says b) (table_of o)) (check_access_step o t s)
step_table (Op.validate e t s c) o = ap (λ (v : Validated). tells_t (answer_of v) (table_of o)) (validate_step o e t s c)
step_table Op.is_initialized o = refl
step_table Op.is_public o = refl
step_table Op.is_alloc o = refl
step_table Op.is_driver o = refl
step_table Op.obj_type_get o = refl
step_table (Op.has_perm t) o = ap (λ (a : Answer). tells_t a (table_of o)) (has_perm_step o t)

pub run_table : (ps : List Op) (o : KernelObject) → table_of (after ps o) ≡ after_t ps (table_of o)
unfolding after after_t
run_table [] o = refl
run_table (p ∷ ps) o = run_table ps (step p o).object ∙ ap (λ (d : Did). after_t ps d.table) (step_table p o)

pub run_heard : (ps : List Op) (o : KernelObject) → heard ps o ≡ heard_t ps (table_of o)
unfolding heard heard_t
run_heard [] o = refl
run_heard (p ∷ ps) o = ap (λ (l : List Answer). record { code = (step p o).code; value = (step p o).value } ∷ l) (run_heard ps (step p o).object)
    ∙ ap (λ (d : Did). record { code = d.code; value = d.value } ∷ heard_t ps d.table) (step_table p o)
