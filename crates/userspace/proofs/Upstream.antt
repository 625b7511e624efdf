-- Upstream's clauses about userspace.rs, each for what it says of a record here; docs/CONTRACTS.md names the lemma of each row.
-- Where upstream speaks of one flag or of tid < 64 and more holds, the lemma says the more.
use Prim.Native.Nat.{ℕ, ◌-◌, ◌*◌, ◌^◌, ◌<◌, ◌≤◌, min}
use mathlib.Core.Path.{◌≡◌, refl, sym, ap, ◌∙◌}
use mathlib.Core.Logic.{◌≢◌, ◌⊎◌, inl, inr}
use mathlib.Core.Bool.{Bool, true, false, ◌&&◌, ◌||◌, or-true, and-false}
use lib.Dec.{ltb, eqb, lit<}
use lib.Bits.{bit_and, bit_or}
use native.Mathlib.Decide.{dec_lt, ℕ_discrete}
use native.Mathlib.Nat.{one-mul, zero-mul}
use native.Mathlib.Omega.{arith}
use borrow.Author.Tests.{lt-ltb, le-ltb, eq-eqb, ne_eqb, eqb-true}
use Rattle.answer.specs.Tests.{gt_eqb}
use Rattle.userspace_names.specs.declared.ObjType.{ObjType}
use Rattle.userspace_names.specs.declared.ObjType.TheVariants.{Any, Thread, Sem, Mutex, CondVar, MsgQ, Stack, Pipe, Timer, Event, MemSlab, Fifo, Lifo, SysMutex, Futex, Mbox}
use Rattle.std.specs.Prelude.{Some, None}
use Rattle.userspace_names.specs.declared.InitCheck.{InitCheck}
use Rattle.userspace_names.specs.declared.InitCheck.TheVariants.{MustBeInit, MustNotBeInit, DontCare}
use Rattle.userspace.specs.declared.KernelObject.{KernelObject}
use Rattle.std.specs.Prelude.{Ok, Err}
use Rattle.answer.specs.declared.Code.TheVariants.{Einval, Eperm, Ebadf}
use Rattle.answer.specs.Answer.{code_in}
use Rattle.bits.specs.Bit.{bit_of, is_set, set_bit, clear_bit, bit_lt, set_same, set_other, clear_same, clear_other, is_set_same, is_set_other, is_clear_same, is_clear_other, is_zero, is_bit, bit_ext, bit_ext_below, and_one, clear_mask, bit_and_lem, set_lt, clear_lt}
use Rattle.userspace_names.specs.Names.{type_number, type_named, check_number, check_named}
use Rattle.userspace_decide.specs.Decide.{passed, INITIALISED, PUBLIC, ALLOC, DRIVER, judged}
use Rattle.userspace.specs.Userspace.{Changed, THREADS, initialised, public, holds, access, changed_at, done, refused, new_object, granted, revoked, cleared_all, recycled, initiated, uninitiated, published, bit_answer, type_fits, validated, with_word}
use Rattle.userspace.specs.Laws.{refuses, does, either_way}
use Rattle.userspace.specs.Table.{Op, step}

-- ---- constants and names

pub max_threads : THREADS ≡ 64
max_threads = refl

pub flag_numbers : (2 ^ INITIALISED ≡ 1) × (2 ^ PUBLIC ≡ 2) × (2 ^ ALLOC ≡ 4) × (2 ^ DRIVER ≡ 8)
flag_numbers = (refl, refl, refl, refl)

-- a type's number names it again, and the table of types ends at 15
pub type_of_number : (t : ObjType) → type_named (type_number t) ≡ Some t
unfolding type_named
type_of_number Any = refl
type_of_number Thread = refl
type_of_number Sem = refl
type_of_number Mutex = refl
type_of_number CondVar = refl
type_of_number MsgQ = refl
type_of_number Stack = refl
type_of_number Pipe = refl
type_of_number Timer = refl
type_of_number Event = refl
type_of_number MemSlab = refl
type_of_number Fifo = refl
type_of_number Lifo = refl
type_of_number SysMutex = refl
type_of_number Futex = refl
type_of_number Mbox = refl

pub no_type_from_16 : (n : ℕ) → 15 < n → type_named n ≡ None
unfolding type_named
no_type_from_16 n h =
    simp (gt_eqb n 0 (omega arith), gt_eqb n 1 (omega arith), gt_eqb n 2 (omega arith), gt_eqb n 3 (omega arith), gt_eqb n 4 (omega arith), gt_eqb n 5 (omega arith), gt_eqb n 6 (omega arith), gt_eqb n 7 (omega arith), gt_eqb n 8 (omega arith), gt_eqb n 9 (omega arith), gt_eqb n 10 (omega arith), gt_eqb n 11 (omega arith), gt_eqb n 12 (omega arith), gt_eqb n 13 (omega arith), gt_eqb n 14 (omega arith), gt_eqb n 15 (omega arith))

pub check_of_number : (c : InitCheck) → check_named (check_number c) ≡ Some c
check_of_number MustBeInit = refl
check_of_number MustNotBeInit = refl
check_of_number DontCare = refl

-- ---- predicates

-- `has_perm_spec`
pub has_perm_spec : (o : KernelObject) (t : ℕ) → holds o t ≡ (ltb t 64 && is_set o.word t)
unfolding holds
has_perm_spec o t = refl

-- `check_access_spec`
pub check_access_spec : (o : KernelObject) (t : ℕ) (s : Bool) → access o t s ≡ (s || (public o || holds o t))
unfolding access
check_access_spec o t s = refl

-- `all_perms_clear_spec`: the word 0 and no other
pub all_perms_clear : (w : ℕ) → w < 2 ^ 64 → ((k : ℕ) → k < 64 → is_set w k ≡ false) → w ≡ 0
all_perms_clear w h f = bit_ext_below 64 w 0 h (lit< tt) (λ k i. is_bit w 0 k (f k i ∙ sym (is_zero k)))

-- ---- new

pub new_type : (t : ℕ) → (new_object t).obj_type ≡ t
new_type t = refl

pub new_no_perms : (t k : ℕ) → is_set (new_object t).word k ≡ false
new_no_perms t k = is_zero k

-- no flag at all: initialised, public, alloc and driver among them
pub new_no_flags : (t k : ℕ) → is_set (new_object t).flags k ≡ false
new_no_flags t k = is_zero k

-- ---- grant, revoke and recycle at a thread

-- EINVAL, and the whole record as before
pub grant_refuses : (o : KernelObject) (t : ℕ) → 64 ≤ t → granted o t ≡ refused o
unfolding granted
grant_refuses o t h = refuses t o _ h

pub grant_does : (o : KernelObject) (t : ℕ) → t < 64 → granted o t ≡ done (with_word o (set_bit o.word t))
unfolding granted
grant_does o t h = does t o _ h

pub grant_ok : (o : KernelObject) (t : ℕ) → t < 64 → code_in (granted o t).answer ≡ 0
grant_ok o t h = ap (λ (c : Changed). code_in c.answer) (grant_does o t h)

pub grant_sets : (o : KernelObject) (t : ℕ) → t < 64 → is_set (granted o t).object.word t ≡ true
grant_sets o t h = ap (λ (c : Changed). is_set c.object.word t) (grant_does o t h) ∙ is_set_same o.word t

-- every flag, whatever the thread: alloc and driver too
pub grant_keeps_flags : (o : KernelObject) (t : ℕ) → (granted o t).object.flags ≡ o.flags
unfolding granted
grant_keeps_flags o t = either_way (λ p. p.flags) t o _ refl

pub grant_keeps_type : (o : KernelObject) (t : ℕ) → (granted o t).object.obj_type ≡ o.obj_type
unfolding granted
grant_keeps_type o t = either_way (λ p. p.obj_type) t o _ refl

pub grant_keeps_others : (o : KernelObject) (t k : ℕ) → k ≢ t → is_set (granted o t).object.word k ≡ is_set o.word k
unfolding granted
grant_keeps_others o t k ne = either_way (λ p. is_set p.word k) t o _ (is_set_other o.word t k ne)

-- revoke, which per-thread clear is too
pub revoke_refuses : (o : KernelObject) (t : ℕ) → 64 ≤ t → revoked o t ≡ refused o
unfolding revoked
revoke_refuses o t h = refuses t o _ h

pub revoke_does : (o : KernelObject) (t : ℕ) → t < 64 → revoked o t ≡ done (with_word o (clear_bit o.word t))
unfolding revoked
revoke_does o t h = does t o _ h

pub revoke_ok : (o : KernelObject) (t : ℕ) → t < 64 → code_in (revoked o t).answer ≡ 0
revoke_ok o t h = ap (λ (c : Changed). code_in c.answer) (revoke_does o t h)

pub revoke_clears : (o : KernelObject) (t : ℕ) → t < 64 → is_set (revoked o t).object.word t ≡ false
revoke_clears o t h = ap (λ (c : Changed). is_set c.object.word t) (revoke_does o t h) ∙ is_clear_same o.word t

pub revoke_keeps_flags : (o : KernelObject) (t : ℕ) → (revoked o t).object.flags ≡ o.flags
unfolding revoked
revoke_keeps_flags o t = either_way (λ p. p.flags) t o _ refl

pub revoke_keeps_type : (o : KernelObject) (t : ℕ) → (revoked o t).object.obj_type ≡ o.obj_type
unfolding revoked
revoke_keeps_type o t = either_way (λ p. p.obj_type) t o _ refl

pub revoke_keeps_others : (o : KernelObject) (t k : ℕ) → k ≢ t → is_set (revoked o t).object.word k ≡ is_set o.word k
unfolding revoked
revoke_keeps_others o t k ne = either_way (λ p. is_set p.word k) t o _ (is_clear_other o.word t k ne)

-- ---- clear all

pub clear_all_clears : (o : KernelObject) (k : ℕ) → is_set (cleared_all o).word k ≡ false
clear_all_clears o k = is_zero k

pub clear_all_keeps : (o : KernelObject) → ((cleared_all o).flags ≡ o.flags) × ((cleared_all o).obj_type ≡ o.obj_type)
clear_all_keeps o = (refl, refl)

-- ---- access

pub access_supervisor : (o : KernelObject) (t : ℕ) → access o t true ≡ true
unfolding access
access_supervisor o t = refl

pub access_public : (o : KernelObject) (t : ℕ) (s : Bool) → public o ≡ true → access o t s ≡ true
unfolding access
access_public o t s e = rw e (or-true s)

pub access_bit : (o : KernelObject) (t : ℕ) → public o ≡ false → access o t false ≡ holds o t
unfolding access
access_bit o t e = rw e

pub access_none : (o : KernelObject) (t : ℕ) → public o ≡ false → 64 ≤ t → access o t false ≡ false
unfolding holds
access_none o t e h = access_bit o t e ∙ simp (le-ltb t THREADS h)

-- ---- validate

-- EBADF exactly where the type is neither Any nor the record's: on raw numbers, and on upstream's sixteen
pub type_differs : (e a : ℕ) → e ≢ 0 → a ≢ e → type_fits e a ≡ false
unfolding type_fits
type_differs e a z ne = simp (ne_eqb e 0 z, ne_eqb e a (λ p. ne (sym p)))

number_injective : (e a : ObjType) → type_number e ≡ type_number a → e ≡ a
number_injective e a p = inside (sym (type_of_number e) ∙ ap type_named p ∙ type_of_number a)
  where
    inside : Some e ≡ Some a → e ≡ a
    inside q = cc

pub type_mismatch : (e a : ObjType) → e ≢ Any → a ≢ e → type_fits (type_number e) (type_number a) ≡ false
type_mismatch e a z ne = type_differs (type_number e) (type_number a) (λ p. z (number_injective e Any p)) (λ p. ne (number_injective a e p))

pub type_matches : (e a : ObjType) → (e ≡ Any) ⊎ (a ≡ e) → type_fits (type_number e) (type_number a) ≡ true
unfolding type_fits
type_matches e a (inl p) = rw p
type_matches e a (inr p) = rw (eq-eqb (type_number e) (type_number a) (ap type_number (sym p))) (or-true (eqb (type_number e) 0))

pub type_fits_says : (e a : ℕ) → type_fits e a ≡ true → (e ≡ 0) ⊎ (e ≡ a)
unfolding type_fits
type_fits_says e a p = go (ℕ_discrete e 0)
  where
    go : Dec (e ≡ 0) → (e ≡ 0) ⊎ (e ≡ a)
    go (yes z) = inl z
    go (no ne) = inr (eqb-true e a (sym (ap (λ (b : Bool). b || eqb e a) (ne_eqb e 0 ne)) ∙ p))

pub validate_ebadf : (o : KernelObject) (e t : ℕ) (s : Bool) (c : InitCheck) → type_fits e o.obj_type ≡ false → validated o e t s c ≡ Err Ebadf
unfolding validated judged
validate_ebadf o e t s c p = rw p

-- OK says that all three hold
ok_says : (f a i : Bool) (c : InitCheck) → judged f a i c ≡ passed → (f ≡ true) × (a ≡ true) × (c ≡ MustBeInit → i ≡ true) × (c ≡ MustNotBeInit → i ≡ false)
unfolding judged
ok_says true true true MustBeInit e = (refl, refl, λ q. refl, λ q. cc)
ok_says true true false MustBeInit e = (refl, refl, λ q. cc, λ q. refl)
ok_says true true true MustNotBeInit e = (refl, refl, λ q. refl, λ q. cc)
ok_says true true false MustNotBeInit e = (refl, refl, λ q. cc, λ q. refl)
ok_says true true true DontCare e = (refl, refl, λ q. refl, λ q. cc)
ok_says true true false DontCare e = (refl, refl, λ q. cc, λ q. refl)
ok_says true false i c e = (refl, cc, λ q. cc, λ q. cc)
ok_says false a i c e = (cc, cc, λ q. cc, λ q. cc)

pub validate_ok_type : (o : KernelObject) (e t : ℕ) (s : Bool) (c : InitCheck) → validated o e t s c ≡ passed → type_fits e o.obj_type ≡ true
unfolding validated
validate_ok_type o e t s c p = (ok_says _ _ _ c p).0

pub validate_ok_access : (o : KernelObject) (e t : ℕ) (s : Bool) (c : InitCheck) → validated o e t s c ≡ passed → access o t s ≡ true
unfolding validated
validate_ok_access o e t s c p = (ok_says _ _ _ c p).1

pub validate_ok_initialised : (o : KernelObject) (e t : ℕ) (s : Bool) → validated o e t s MustBeInit ≡ passed → initialised o ≡ true
unfolding validated
validate_ok_initialised o e t s p = (ok_says _ _ _ MustBeInit p).2 refl

pub validate_ok_uninitialised : (o : KernelObject) (e t : ℕ) (s : Bool) → validated o e t s MustNotBeInit ≡ passed → initialised o ≡ false
unfolding validated
validate_ok_uninitialised o e t s p = (ok_says _ _ _ MustNotBeInit p).3 refl

-- ---- init, uninit, make public: one flag, every other as before, type and word as before

pub init_sets : (o : KernelObject) → initialised (initiated o) ≡ true
init_sets o = is_set_same o.flags INITIALISED

pub init_keeps_flags : (o : KernelObject) (k : ℕ) → k ≢ INITIALISED → is_set (initiated o).flags k ≡ is_set o.flags k
init_keeps_flags o k ne = is_set_other o.flags INITIALISED k ne

pub init_keeps : (o : KernelObject) → ((initiated o).word ≡ o.word) × ((initiated o).obj_type ≡ o.obj_type)
init_keeps o = (refl, refl)

pub uninit_clears : (o : KernelObject) → initialised (uninitiated o) ≡ false
uninit_clears o = is_clear_same o.flags INITIALISED

pub uninit_keeps_flags : (o : KernelObject) (k : ℕ) → k ≢ INITIALISED → is_set (uninitiated o).flags k ≡ is_set o.flags k
uninit_keeps_flags o k ne = is_clear_other o.flags INITIALISED k ne

pub uninit_keeps : (o : KernelObject) → ((uninitiated o).word ≡ o.word) × ((uninitiated o).obj_type ≡ o.obj_type)
uninit_keeps o = (refl, refl)

pub make_public_sets : (o : KernelObject) → public (published o) ≡ true
make_public_sets o = is_set_same o.flags PUBLIC

pub make_public_keeps_flags : (o : KernelObject) (k : ℕ) → k ≢ PUBLIC → is_set (published o).flags k ≡ is_set o.flags k
make_public_keeps_flags o k ne = is_set_other o.flags PUBLIC k ne

pub make_public_keeps : (o : KernelObject) → ((published o).word ≡ o.word) × ((published o).obj_type ≡ o.obj_type)
make_public_keeps o = (refl, refl)

-- ---- recycle

pub recycle_refuses : (o : KernelObject) (t : ℕ) → 64 ≤ t → recycled o t ≡ refused o
unfolding recycled
recycle_refuses o t h = refuses t o _ h

pub recycle_does : (o : KernelObject) (t : ℕ) → t < 64 → recycled o t ≡ done (with_word (initiated o) (set_bit 0 t))
unfolding recycled
recycle_does o t h = does t o _ h

pub recycle_ok : (o : KernelObject) (t : ℕ) → t < 64 → code_in (recycled o t).answer ≡ 0
recycle_ok o t h = ap (λ (c : Changed). code_in c.answer) (recycle_does o t h)

-- the caller's bit and no other
one_bit : (t k : ℕ) → is_set (set_bit 0 t) k ≡ eqb k t
one_bit t k = go (ℕ_discrete k t)
  where
    go : Dec (k ≡ t) → is_set (set_bit 0 t) k ≡ eqb k t
    go (yes e) = ap (is_set (set_bit 0 t)) e ∙ is_set_same 0 t ∙ sym (eq-eqb k t e)
    go (no ne) = is_set_other 0 t k ne ∙ is_zero k ∙ sym (ne_eqb k t ne)

pub recycle_single : (o : KernelObject) (t k : ℕ) → t < 64 → is_set (recycled o t).object.word k ≡ eqb k t
recycle_single o t k h = ap (λ (c : Changed). is_set c.object.word k) (recycle_does o t h) ∙ one_bit t k

pub recycle_initialises : (o : KernelObject) (t : ℕ) → t < 64 → initialised (recycled o t).object ≡ true
recycle_initialises o t h = ap (λ (c : Changed). initialised c.object) (recycle_does o t h) ∙ init_sets o

pub recycle_keeps_type : (o : KernelObject) (t : ℕ) → (recycled o t).object.obj_type ≡ o.obj_type
unfolding recycled
recycle_keeps_type o t = either_way (λ p. p.obj_type) t o _ refl

-- public, alloc and driver, and any further flag
pub recycle_keeps_flags : (o : KernelObject) (t k : ℕ) → k ≢ INITIALISED → is_set (recycled o t).object.flags k ≡ is_set o.flags k
unfolding recycled
recycle_keeps_flags o t k ne = either_way (λ p. is_set p.flags k) t o _ (init_keeps_flags o k ne)

-- ---- queries

pub bit_query : (o : KernelObject) (t : ℕ) → t < 64 → bit_answer o t ≡ Ok (holds o t)
unfolding bit_answer holds
bit_query o t h = simp (lt-ltb t THREADS h)

pub bit_query_refuses : (o : KernelObject) (t : ℕ) → 64 ≤ t → bit_answer o t ≡ Err Einval
unfolding bit_answer
bit_query_refuses o t h = simp (le-ltb t THREADS h)

-- ---- the "lemmas" that end in true, stated for real

-- a word stays within its 64 bits through every step
bounded : (t : ℕ) (o p : KernelObject) → o.word < 2 ^ 64 → (t < 64 → p.word < 2 ^ 64) → (changed_at t o p).object.word < 2 ^ 64
bounded t o p h f = go (dec_lt t 64)
  where
    go : Dec (t < 64) → (changed_at t o p).object.word < 2 ^ 64
    go (yes i) = rw (does t o p i) (f i)
    go (no g) = rw (refuses t o p (omega arith)) h

pub invariant_inductive : (p : Op) (o : KernelObject) → o.word < 2 ^ 64 → (step p o).object.word < 2 ^ 64
unfolding step granted revoked recycled
invariant_inductive (Op.new t) o h = lit< tt
invariant_inductive (Op.grant t) o h = bounded t o _ h (λ i. set_lt 64 o.word t h i)
invariant_inductive (Op.revoke t) o h = bounded t o _ h (λ i. clear_lt 64 o.word t h)
invariant_inductive (Op.clear_thread t) o h = bounded t o _ h (λ i. clear_lt 64 o.word t h)
invariant_inductive (Op.recycle t) o h = bounded t o _ h (λ i. set_lt 64 0 t (lit< tt) i)
invariant_inductive Op.clear_all o h = lit< tt
invariant_inductive Op.init o h = h
invariant_inductive Op.uninit o h = h
invariant_inductive Op.make_public o h = h
invariant_inductive (Op.check_access t s) o h = h
invariant_inductive (Op.validate e t s c) o h = h
invariant_inductive Op.is_initialized o h = h
invariant_inductive Op.is_public o h = h
invariant_inductive Op.is_alloc o h = h
invariant_inductive Op.is_driver o h = h
invariant_inductive Op.obj_type_get o h = h
invariant_inductive (Op.has_perm t) o h = h

-- grant then revoke leaves the bit clear; where it was clear, the very record
pub grant_revoke : (o : KernelObject) (t : ℕ) → t < 64 → is_set (revoked (granted o t).object t).object.word t ≡ false
grant_revoke o t h = revoke_clears (granted o t).object t h

set_clear : (w t : ℕ) → is_set w t ≡ false → clear_bit (set_bit w t) t ≡ w
set_clear w t e = bit_ext _ _ (λ k. is_bit _ _ k (go k (ℕ_discrete k t)))
  where
    go : (k : ℕ) → Dec (k ≡ t) → is_set (clear_bit (set_bit w t) t) k ≡ is_set w k
    go k (yes p) = ap (is_set (clear_bit (set_bit w t) t)) p ∙ is_clear_same (set_bit w t) t ∙ sym (ap (is_set w) p ∙ e)
    go k (no ne) = is_clear_other (set_bit w t) t k ne ∙ is_set_other w t k ne

pub grant_revoke_roundtrip : (o : KernelObject) (t : ℕ) → t < 64 → is_set o.word t ≡ false → revoked (granted o t).object t ≡ done o
grant_revoke_roundtrip o t h e =
    revoke_does (granted o t).object t h
    ∙ ap (λ (c : Changed). done (with_word c.object (clear_bit c.object.word t))) (grant_does o t h)
    ∙ ap (λ (w : ℕ). done (with_word o w)) (set_clear o.word t e)

-- twice is once, whatever the thread
set_twice : (w t : ℕ) → set_bit (set_bit w t) t ≡ set_bit w t
set_twice w t = bit_ext _ _ (λ k. is_bit _ _ k (go k (ℕ_discrete k t)))
  where
    go : (k : ℕ) → Dec (k ≡ t) → is_set (set_bit (set_bit w t) t) k ≡ is_set (set_bit w t) k
    go k (yes p) = ap (is_set (set_bit (set_bit w t) t)) p ∙ is_set_same (set_bit w t) t ∙ sym (ap (is_set (set_bit w t)) p ∙ is_set_same w t)
    go k (no ne) = is_set_other (set_bit w t) t k ne

clear_twice : (w t : ℕ) → clear_bit (clear_bit w t) t ≡ clear_bit w t
clear_twice w t = bit_ext _ _ (λ k. is_bit _ _ k (go k (ℕ_discrete k t)))
  where
    go : (k : ℕ) → Dec (k ≡ t) → is_set (clear_bit (clear_bit w t) t) k ≡ is_set (clear_bit w t) k
    go k (yes p) = ap (is_set (clear_bit (clear_bit w t) t)) p ∙ is_clear_same (clear_bit w t) t ∙ sym (ap (is_set (clear_bit w t)) p ∙ is_clear_same w t)
    go k (no ne) = is_clear_other (clear_bit w t) t k ne

-- a step at a thread that does no more on what it made is done once
once : (f : KernelObject → KernelObject) → ((o : KernelObject) → f (f o) ≡ f o) → (o : KernelObject) (t : ℕ) → changed_at t (changed_at t o (f o)).object (f (changed_at t o (f o)).object) ≡ changed_at t o (f o)
once f e o t = go (dec_lt t 64)
  where
    go : Dec (t < 64) → changed_at t (changed_at t o (f o)).object (f (changed_at t o (f o)).object) ≡ changed_at t o (f o)
    go (yes h) = ap (λ (c : Changed). changed_at t c.object (f c.object)) (does t o (f o) h) ∙ does t (f o) (f (f o)) h ∙ ap done (e o) ∙ sym (does t o (f o) h)
    go (no g) = let h : 64 ≤ t = omega arith in ap (λ (c : Changed). changed_at t c.object (f c.object)) (refuses t o (f o) h)

pub grant_idempotent : (o : KernelObject) (t : ℕ) → granted (granted o t).object t ≡ granted o t
unfolding granted
grant_idempotent o t = once (λ p. with_word p (set_bit p.word t)) (λ p. ap (with_word p) (set_twice p.word t)) o t

pub revoke_idempotent : (o : KernelObject) (t : ℕ) → revoked (revoked o t).object t ≡ revoked o t
unfolding revoked
revoke_idempotent o t = once (λ p. with_word p (clear_bit p.word t)) (λ p. ap (with_word p) (clear_twice p.word t)) o t

pub supervisor_always_granted : (o : KernelObject) (t : ℕ) → access o t true ≡ true
supervisor_always_granted = access_supervisor

-- no bit, no flag: neither public nor initialised, and no thread has access
pub new_no_access : (n t : ℕ) → access (new_object n) t false ≡ false
unfolding access holds
new_no_access n t = simp (is_zero, and-false)

pub type_mismatch_fails : (o : KernelObject) (e a : ObjType) (t : ℕ) (s : Bool) (c : InitCheck) → o.obj_type ≡ type_number a → e ≢ Any → a ≢ e → validated o (type_number e) t s c ≡ Err Ebadf
type_mismatch_fails o e a t s c is z ne = validate_ebadf o (type_number e) t s c (ap (type_fits (type_number e)) is ∙ type_mismatch e a z ne)

pub uninit_fails_must_be_init : (o : KernelObject) (t : ℕ) → initialised o ≡ false → validated o (type_number Any) t true MustBeInit ≡ Err Einval
unfolding validated judged type_fits access
uninit_fails_must_be_init o t e = rw e

pub grant_then_check : (o : KernelObject) (t : ℕ) (s : Bool) → t < 64 → access (granted o t).object t s ≡ true
unfolding access holds
grant_then_check o t s h = simp (lt-ltb t THREADS h, grant_sets o t h, or-true)

gone : (o : KernelObject) (t : ℕ) → holds (revoked o t).object t ≡ false
unfolding holds
gone o t = go (dec_lt t 64)
  where
    go : Dec (t < 64) → (ltb t 64 && is_set (revoked o t).object.word t) ≡ false
    go (yes h) = simp (lt-ltb t 64 h, revoke_clears o t h)
    go (no g) = simp (le-ltb t 64 (omega arith))

pub revoke_then_check : (o : KernelObject) (t : ℕ) → public o ≡ false → access (revoked o t).object t false ≡ false
revoke_then_check o t e = access_bit (revoked o t).object t (ap (λ (f : ℕ). is_set f PUBLIC) (revoke_keeps_flags o t) ∙ e) ∙ gone o t

-- ---- the decide functions

pub decide_ebadf : (a i : Bool) (c : InitCheck) → judged false a i c ≡ Err Ebadf
unfolding judged
decide_ebadf a i c = refl

pub decide_eperm : (i : Bool) (c : InitCheck) → judged true false i c ≡ Err Eperm
unfolding judged
decide_eperm i c = refl

-- `current_flags | FLAG`
pub set_is_or : (f t : ℕ) → set_bit f t ≡ bit_or f (2 ^ t)
unfolding set_bit
set_is_or f t = refl

-- `result & FLAG == FLAG`
pub set_shows : (f t : ℕ) → bit_and (set_bit f t) (2 ^ t) ≡ 2 ^ t
set_shows f t = and_one (set_bit f t) t ∙ ap (λ (b : ℕ). b * 2 ^ t) (set_same f t) ∙ one-mul (2 ^ t)

-- `current_flags & result == current_flags`
pub set_monotone : (f t : ℕ) → bit_and f (set_bit f t) ≡ f
set_monotone f t = bit_ext _ _ (λ k. bit_and_lem f (set_bit f t) k ∙ go k (ℕ_discrete k t))
  where
    go : (k : ℕ) → Dec (k ≡ t) → min (bit_of f k) (bit_of (set_bit f t) k) ≡ bit_of f k
    go k (yes p) = omega (arith, bit_lt f k, ap (bit_of (set_bit f t)) p ∙ set_same f t)
    go k (no ne) = omega (arith, set_other f t k ne)

-- `current_flags & !FLAG`
pub clear_is_and : (f t : ℕ) → f < 256 → t < 8 → bit_and f (255 - 2 ^ t) ≡ clear_bit f t
clear_is_and f t h ht = clear_mask 8 f t h ht

-- `result & FLAG == 0`
pub clear_shows : (f t : ℕ) → bit_and (clear_bit f t) (2 ^ t) ≡ 0
clear_shows f t = and_one (clear_bit f t) t ∙ ap (λ (b : ℕ). b * 2 ^ t) (clear_same f t) ∙ zero-mul (2 ^ t)

-- another flag as before
pub set_other_flag : (f t k : ℕ) → k ≢ t → bit_and (set_bit f t) (2 ^ k) ≡ bit_and f (2 ^ k)
set_other_flag f t k ne = and_one (set_bit f t) k ∙ ap (λ (b : ℕ). b * 2 ^ k) (set_other f t k ne) ∙ sym (and_one f k)

pub clear_other_flag : (f t k : ℕ) → k ≢ t → bit_and (clear_bit f t) (2 ^ k) ≡ bit_and f (2 ^ k)
clear_other_flag f t k ne = and_one (clear_bit f t) k ∙ ap (λ (b : ℕ). b * 2 ^ k) (clear_other f t k ne) ∙ sym (and_one f k)
