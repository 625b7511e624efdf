-- What the functions' proofs share: each case split once, over plain values.
use Rattle.std.specs.Int.Bits.{bit_and, bit_or}
use Rattle.bits.specs.Bit.{set_bit, clear_bit, clear_mask, code_test, bit_ext, bit_or_lem, zero_bit}
use Rattle.std.specs.Prelude.{ℕ, ◌-◌, ◌^◌, ◌<◌, ◌≤◌, ◌≡◌, Bool, not, eqb, ℤ, Ok, Err}
use Rattle.std.proofs.Common.{refl, ap, ◌∙◌, arith, lt-ltb, le-ltb}
use Rattle.std.proofs.Math.Decide.{dec_lt}
use Rattle.answer.specs.declared.Code.{Code}
use Rattle.answer.specs.declared.Code.TheVariants.{Einval}
use mir.Syntax.{w8}
use mir.Val.{of_z, to_z}
use Rattle.userspace_names.specs.Names.{mode_of, check_number}
use Rattle.userspace_decide.specs.Decide.{judged}
use Rattle.userspace.specs.Userspace.{THREADS, bit_for, bit_answer, changed_at, done}
use Rattle.userspace.specs.Laws.{does, refuses}
use Rattle.userspace.specs.declared.KernelObject.{KernelObject}
use Rattle.userspace_names.specs.declared.InitCheck.{InitCheck}
use Rattle.userspace_names.specs.declared.InitCheck.TheVariants.{MustBeInit, MustNotBeInit, DontCare}

-- what the one refusal of a thread says: its bit alone, or EINVAL
pub bit_ok : (t m : ℕ) → bit_for t ≡ Ok m → (t < THREADS) × (m ≡ 2 ^ t)
unfolding bit_for
bit_ok t m e = go (dec_lt t THREADS)
  where
    go : Dec (t < THREADS) → (t < THREADS) × (m ≡ 2 ^ t)
    go (yes h) = (h, grind (arith, rw (lt-ltb t THREADS h) at e))
    go (no g) = absurd (grind (arith, rw (le-ltb t THREADS (omega arith)) at e))

pub bit_err : (t : ℕ) (c : Code) → bit_for t ≡ Err c → (THREADS ≤ t) × (c ≡ Einval)
unfolding bit_for
bit_err t c e = go (dec_lt t THREADS)
  where
    go : Dec (t < THREADS) → (THREADS ≤ t) × (c ≡ Einval)
    go (yes h) = absurd (grind (arith, rw (lt-ltb t THREADS h) at e))
    go (no g) = (omega arith, grind (arith, rw (le-ltb t THREADS (omega arith)) at e))

-- so a change is done with that bit, or refused with that name
pub taken : (t m : ℕ) (o p : KernelObject) → bit_for t ≡ Ok m → changed_at t o p ≡ done p
taken t m o p e = does t o p (bit_ok t m e).0

pub missed : (t : ℕ) (c : Code) (o p : KernelObject) → bit_for t ≡ Err c → changed_at t o p ≡ record { answer = Err c; object = o }
missed t c o p e = let (h, d) = bit_err t c e in rw d (refuses t o p h)

-- a word with it set, with it alone, and with it clear
pub set_is : (w t m : ℕ) → m ≡ 2 ^ t → bit_or w m ≡ set_bit w t
unfolding set_bit
set_is w t m e = rw e refl

pub set_zero : (t m : ℕ) → m ≡ 2 ^ t → m ≡ set_bit 0 t
unfolding set_bit
set_zero t m e = e ∙ bit_ext (2 ^ t) (bit_or 0 (2 ^ t)) (λ k. omega (arith, bit_or_lem 0 (2 ^ t) k, zero_bit k))

pub clear_is_mask : (w t m : ℕ) → t < THREADS → m ≡ 2 ^ t → w < 2 ^ 64 → bit_and w ((2 ^ 64 - 1) - m) ≡ clear_bit w t
clear_is_mask w t m h e l = rw e (clear_mask 64 w t l h)

-- whether a thread holds its bit, by its mask
pub held : (o : KernelObject) (t m : ℕ) → bit_for t ≡ Ok m → bit_answer o t ≡ Ok (not (eqb (bit_and o.word m) 0))
unfolding bit_answer
held o t m e = let b = bit_ok t m e in rw (lt-ltb t THREADS b.0, b.1, code_test o.word t) refl

pub none_held : (o : KernelObject) (t : ℕ) (c : Code) → bit_for t ≡ Err c → bit_answer o t ≡ Err c
unfolding bit_answer
none_held o t c e = let (h, d) = bit_err t c e in rw (le-ltb t THREADS h, d) refl

-- a mode is that of its number, also where the number went through eight bits
number_mode : (c : InitCheck) → mode_of (to_z w8 (of_z w8 (check_number c))) ≡ c
number_mode MustBeInit = refl
number_mode MustNotBeInit = refl
number_mode DontCare = refl

pub mode_number_lem : (c : InitCheck) (z : ℤ) → z ≡ check_number c → mode_of (to_z w8 (of_z w8 z)) ≡ c
mode_number_lem c z e = ap (λ (x : ℤ). mode_of (to_z w8 (of_z w8 x))) e ∙ number_mode c

-- a judgement of equal parts
pub same_judged : {f g a b i j : Bool} {c d : InitCheck} → f ≡ g → a ≡ b → i ≡ j → c ≡ d → judged f a i c ≡ judged g b j d
same_judged p q r s = λ k. judged (p k) (q k) (r k) (s k)
