-- What upstream leaves open, closed; and the cases of docs/SPEC.md, 4.6, 4.7 and 4.22. Assumes nothing.
use Prim.Native.Nat.{ℕ, ◌/◌, ◌^◌, ◌+◌, ◌<◌}
use mathlib.Core.Path.{◌≡◌, refl, sym, ap, ◌∙◌}
use mathlib.Core.Logic.{◌≢◌, ◌↔◌}
use mathlib.Core.Bool.{Bool, true, false, not}
use lib.Dec.{lit<, lit≤}
use native.Mathlib.Omega.{arith}
use Rattle.userspace_names.specs.declared.InitCheck.{InitCheck}
use Rattle.userspace_names.specs.declared.InitCheck.TheVariants.{MustBeInit, MustNotBeInit, DontCare}
use Rattle.userspace.specs.declared.KernelObject.{KernelObject}
use Rattle.std.specs.Prelude.{Err}
use Rattle.answer.specs.declared.Code.{Code}
use Rattle.answer.specs.declared.Code.TheVariants.{Einval, Eperm, Ebadf, Eaddrinuse}
use Rattle.bits.specs.Bit.{bit_of, is_set, set_bit, clear_bit, bit_ext, bit_shr, set_other, clear_other}
use Rattle.userspace_decide.specs.Decide.{Validated, passed, ALLOC, DRIVER, PUBLIC, judged}
use Rattle.userspace.specs.Userspace.{initialised, public, holds, access, changed_at, done, refused, new_object, granted, revoked, recycled, type_fits, validated, with_word, bit_in}
use Rattle.userspace.specs.Laws.{either_way}
use Rattle.userspace.specs.Table.{Op, step}
use Rattle.userspace.proofs.Upstream.{grant_refuses, grant_does, grant_sets, grant_keeps_flags, revoke_keeps_flags, revoke_keeps_others, recycle_keeps_flags, access_bit}
use Rattle.userspace.proofs.KernelObject.validate.Reads as validate

-- ---- validate says OK exactly when all three hold, and each refusal exactly on its condition

-- what a mode asks of the initialised flag
unfoldable pub met : InitCheck → Bool → Bool
met MustBeInit i = i
met MustNotBeInit i = not i
met DontCare i = true

judged_ok : (f a i : Bool) (c : InitCheck) → judged f a i c ≡ passed ↔ ((f ≡ true) × (a ≡ true) × (met c i ≡ true))
unfolding judged met
judged_ok true true true MustBeInit = (λ e. (refl, refl, refl), λ p. refl)
judged_ok true true false MustBeInit = (λ e. (refl, refl, cc), λ p. cc)
judged_ok true true true MustNotBeInit = (λ e. (refl, refl, cc), λ p. cc)
judged_ok true true false MustNotBeInit = (λ e. (refl, refl, refl), λ p. refl)
judged_ok true true i DontCare = (λ e. (refl, refl, refl), λ p. refl)
judged_ok true false i c = (λ e. (refl, cc, cc), λ p. cc)
judged_ok false a i c = (λ e. (cc, cc, cc), λ p. cc)

judged_ebadf : (f a i : Bool) (c : InitCheck) → judged f a i c ≡ Err Ebadf ↔ (f ≡ false)
unfolding judged
judged_ebadf true true true MustBeInit = (λ e. cc, λ p. cc)
judged_ebadf true true false MustBeInit = (λ e. cc, λ p. cc)
judged_ebadf true true true MustNotBeInit = (λ e. cc, λ p. cc)
judged_ebadf true true false MustNotBeInit = (λ e. cc, λ p. cc)
judged_ebadf true true i DontCare = (λ e. cc, λ p. cc)
judged_ebadf true false i c = (λ e. cc, λ p. cc)
judged_ebadf false a i c = (λ e. refl, λ p. refl)

judged_eperm : (f a i : Bool) (c : InitCheck) → judged f a i c ≡ Err Eperm ↔ ((f ≡ true) × (a ≡ false))
unfolding judged
judged_eperm true true true MustBeInit = (λ e. (refl, cc), λ p. cc)
judged_eperm true true false MustBeInit = (λ e. (refl, cc), λ p. cc)
judged_eperm true true true MustNotBeInit = (λ e. (refl, cc), λ p. cc)
judged_eperm true true false MustNotBeInit = (λ e. (refl, cc), λ p. cc)
judged_eperm true true i DontCare = (λ e. (refl, cc), λ p. cc)
judged_eperm true false i c = (λ e. (refl, refl), λ p. refl)
judged_eperm false a i c = (λ e. (cc, cc), λ p. cc)

judged_einval : (f a i : Bool) (c : InitCheck) → judged f a i c ≡ Err Einval ↔ ((f ≡ true) × (a ≡ true) × (c ≡ MustBeInit) × (i ≡ false))
unfolding judged
judged_einval true true true MustBeInit = (λ e. (refl, refl, refl, cc), λ p. cc)
judged_einval true true false MustBeInit = (λ e. (refl, refl, refl, refl), λ p. refl)
judged_einval true true true MustNotBeInit = (λ e. (refl, refl, cc, cc), λ p. cc)
judged_einval true true false MustNotBeInit = (λ e. (refl, refl, cc, cc), λ p. cc)
judged_einval true true i DontCare = (λ e. (refl, refl, cc, cc), λ p. cc)
judged_einval true false i c = (λ e. (refl, cc, cc, cc), λ p. cc)
judged_einval false a i c = (λ e. (cc, cc, cc, cc), λ p. cc)

judged_eaddrinuse : (f a i : Bool) (c : InitCheck) → judged f a i c ≡ Err Eaddrinuse ↔ ((f ≡ true) × (a ≡ true) × (c ≡ MustNotBeInit) × (i ≡ true))
unfolding judged
judged_eaddrinuse true true true MustBeInit = (λ e. (refl, refl, cc, cc), λ p. cc)
judged_eaddrinuse true true false MustBeInit = (λ e. (refl, refl, cc, cc), λ p. cc)
judged_eaddrinuse true true true MustNotBeInit = (λ e. (refl, refl, refl, refl), λ p. refl)
judged_eaddrinuse true true false MustNotBeInit = (λ e. (refl, refl, refl, cc), λ p. cc)
judged_eaddrinuse true true i DontCare = (λ e. (refl, refl, cc, cc), λ p. cc)
judged_eaddrinuse true false i c = (λ e. (refl, cc, cc, cc), λ p. cc)
judged_eaddrinuse false a i c = (λ e. (cc, cc, cc, cc), λ p. cc)

module _ (o : KernelObject) (e t : ℕ) (s : Bool) (c : InitCheck) where
  pub validate_ok_iff : validated o e t s c ≡ passed ↔ ((type_fits e o.obj_type ≡ true) × (access o t s ≡ true) × (met c (initialised o) ≡ true))
  unfolding validated
  validate_ok_iff = judged_ok _ _ _ c

  pub validate_ebadf_iff : validated o e t s c ≡ Err Ebadf ↔ (type_fits e o.obj_type ≡ false)
  unfolding validated
  validate_ebadf_iff = judged_ebadf _ _ _ c

  pub validate_eperm_iff : validated o e t s c ≡ Err Eperm ↔ ((type_fits e o.obj_type ≡ true) × (access o t s ≡ false))
  unfolding validated
  validate_eperm_iff = judged_eperm _ _ _ c

  pub validate_einval_iff : validated o e t s c ≡ Err Einval ↔ ((type_fits e o.obj_type ≡ true) × (access o t s ≡ true) × (c ≡ MustBeInit) × (initialised o ≡ false))
  unfolding validated
  validate_einval_iff = judged_einval _ _ _ c

  pub validate_eaddrinuse_iff : validated o e t s c ≡ Err Eaddrinuse ↔ ((type_fits e o.obj_type ≡ true) × (access o t s ≡ true) × (c ≡ MustNotBeInit) × (initialised o ≡ true))
  unfolding validated
  validate_eaddrinuse_iff = judged_eaddrinuse _ _ _ c

-- ---- what grant, revoke and recycle keep

-- per-thread clear is revoke: the other threads' bits stay
pub clear_thread_keeps_others : (o : KernelObject) (t k : ℕ) → k ≢ t → is_set (revoked o t).object.word k ≡ is_set o.word k
clear_thread_keeps_others = revoke_keeps_others

pub grant_keeps_alloc_driver : (o : KernelObject) (t : ℕ) → (is_set (granted o t).object.flags ALLOC ≡ is_set o.flags ALLOC) × (is_set (granted o t).object.flags DRIVER ≡ is_set o.flags DRIVER)
grant_keeps_alloc_driver o t = (ap (λ (f : ℕ). is_set f ALLOC) (grant_keeps_flags o t), ap (λ (f : ℕ). is_set f DRIVER) (grant_keeps_flags o t))

pub revoke_keeps_alloc_driver : (o : KernelObject) (t : ℕ) → (is_set (revoked o t).object.flags ALLOC ≡ is_set o.flags ALLOC) × (is_set (revoked o t).object.flags DRIVER ≡ is_set o.flags DRIVER)
revoke_keeps_alloc_driver o t = (ap (λ (f : ℕ). is_set f ALLOC) (revoke_keeps_flags o t), ap (λ (f : ℕ). is_set f DRIVER) (revoke_keeps_flags o t))

pub recycle_keeps_public_alloc_driver : (o : KernelObject) (t : ℕ) → (public (recycled o t).object ≡ public o) × (is_set (recycled o t).object.flags ALLOC ≡ is_set o.flags ALLOC) × (is_set (recycled o t).object.flags DRIVER ≡ is_set o.flags DRIVER)
recycle_keeps_public_alloc_driver o t = (recycle_keeps_flags o t PUBLIC (λ e. omega arith), recycle_keeps_flags o t ALLOC (λ e. omega arith), recycle_keeps_flags o t DRIVER (λ e. omega arith))

-- the flag bits above driver's, which upstream has no field for, are kept by every step but new
above : (f g n : ℕ) → ((k : ℕ) → bit_of f (n + k) ≡ bit_of g (n + k)) → f / 2 ^ n ≡ g / 2 ^ n
above f g n e = bit_ext _ _ (λ k. bit_shr f n k ∙ e k ∙ sym (bit_shr g n k))

set_above : (f t n : ℕ) → t < n → set_bit f t / 2 ^ n ≡ f / 2 ^ n
set_above f t n h = above (set_bit f t) f n (λ k. set_other f t (n + k) (λ e. omega arith))

clear_above : (f t n : ℕ) → t < n → clear_bit f t / 2 ^ n ≡ f / 2 ^ n
clear_above f t n h = above (clear_bit f t) f n (λ k. clear_other f t (n + k) (λ e. omega arith))

pub further_flags_kept : (p : Op) (o : KernelObject) → ((t : ℕ) → p ≢ Op.new t) → (step p o).object.flags / 16 ≡ o.flags / 16
unfolding step granted revoked recycled
further_flags_kept (Op.new t) o ne = absurd (ne t refl)
further_flags_kept (Op.grant t) o ne = either_way (λ q. q.flags / 16) t o _ refl
further_flags_kept (Op.revoke t) o ne = either_way (λ q. q.flags / 16) t o _ refl
further_flags_kept (Op.clear_thread t) o ne = either_way (λ q. q.flags / 16) t o _ refl
further_flags_kept (Op.recycle t) o ne = either_way (λ q. q.flags / 16) t o _ (set_above o.flags 0 4 (lit< tt))
further_flags_kept Op.clear_all o ne = refl
further_flags_kept Op.init o ne = set_above o.flags 0 4 (lit< tt)
further_flags_kept Op.uninit o ne = clear_above o.flags 0 4 (lit< tt)
further_flags_kept Op.make_public o ne = set_above o.flags 1 4 (lit< tt)
further_flags_kept (Op.check_access t s) o ne = refl
further_flags_kept (Op.validate e t s c) o ne = refl
further_flags_kept Op.is_initialized o ne = refl
further_flags_kept Op.is_public o ne = refl
further_flags_kept Op.is_alloc o ne = refl
further_flags_kept Op.is_driver o ne = refl
further_flags_kept Op.obj_type_get o ne = refl
further_flags_kept (Op.has_perm t) o ne = refl

-- ---- SPEC's cases

-- grant to the last thread that there is, and to the first that there is not (SPEC 4.6, 4.7)
pub grant_at_63 : (o : KernelObject) → (granted o 63 ≡ done (with_word o (set_bit o.word 63))) × (is_set (granted o 63).object.word 63 ≡ true)
grant_at_63 o = (grant_does o 63 (lit< tt), grant_sets o 63 (lit< tt))

pub grant_at_63_from_none : (t : ℕ) → (granted (new_object t) 63).object.word ≡ 9223372036854775808
unfolding granted changed_at set_bit
grant_at_63_from_none t = refl

pub grant_at_64 : (o : KernelObject) → granted o 64 ≡ refused o
grant_at_64 o = grant_refuses o 64 (lit≤ tt)

pub grant_at_the_largest : (o : KernelObject) → granted o 4294967295 ≡ refused o
grant_at_the_largest o = grant_refuses o 4294967295 (lit≤ tt)

-- a leaf with refusals alone fails: a supervisor's validate of any record, type Any and mode either, is OK and nothing else (SPEC 4.22)
pub always_refusing_fails : (o : KernelObject) (t : ℕ) (r : Validated) (s : _) → validate.Post (tt {0}) (o, (0, (t, (true, (DontCare, tt))))) r s → r ≡ passed
unfolding validated judged type_fits access
always_refusing_fails o t r s p = p

-- one with OK alone fails: the same for a thread that is no supervisor and has no bit, of a record that is not public, is EPERM
pub always_ok_fails : (o : KernelObject) (t : ℕ) (r : Validated) (s : _) → public o ≡ false → holds o t ≡ false → validate.Post (tt {0}) (o, (0, (t, (false, (DontCare, tt))))) r s → r ≡ Err Eperm
unfolding validated judged type_fits
always_ok_fails o t r s e h p = p ∙ rw (access_bit o t e ∙ h)

-- told as a number and a value, a bit query that is refused has the value 0
pub refused_bit_value : (c : Code) → bit_in (Err c) ≡ 0
refused_bit_value c = refl
