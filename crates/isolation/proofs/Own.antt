-- A thread's own calls go by its view alone: the answer is the same in two states that agree on it, and they agree again afterwards.
use Prim.Native.Nat.{ℕ, ◌<◌}
use native.Mathlib.Decide.{dec_lt, ℕ_discrete}
use native.Mathlib.Omega.{arith}
use mathlib.Core.Path.{◌≡◌, refl, sym, ap, ◌∙◌}
use mathlib.Core.Logic.{◌≢◌, ◌⊎◌, inl, inr}
use mathlib.Core.Bool.{Bool, true, false, not, ◌&&◌, true≢false, false≢true}
use mathlib.Core.List.{List}
use lib.ListN.{length}
use borrow.Author.Tests.{not-false}
use Rattle.answer.specs.declared.Answer.{Answer}
use Rattle.bits.specs.Bit.{is_set}
use Rattle.userspace_names.specs.declared.InitCheck.{InitCheck}
use Rattle.userspace_decide.specs.Decide.{PUBLIC, judged, answer_of}
use Rattle.userspace.specs.Userspace.{THREADS, type_fits, public, access, validated}
use Rattle.tables.specs.State.{State, object, thread}
use Rattle.rules.specs.Rules.{is_supervisor, Keeps}
use Rattle.decoding.specs.declared.Call.{Call}
use Rattle.decoding.specs.Calls.{Op, validate, grant, release, check, exit, sup, unknown, op_of, call_of}
use Rattle.judging.specs.Judge.{live, supervisor, type_of, may_use, mode_of, Use, no_handle, taken, free, use_of, with_handle, rule, is_privileged, judge_op, judge, heard}
use Rattle.judging.specs.Change.{after, left}
use Rattle.call_laws.proofs.Cascade.{past}
use Rattle.call_laws.proofs.Conditions.{access_iff}
use Rattle.call_laws.proofs.Operations.{grant_ok_means, release_ok_means}
use Rattle.call_laws.proofs.Changes.{BitIs, OneObject, Ended, after_refused, validate_does, check_does, grant_does, release_does, exit_does}
use Rattle.call_laws.proofs.Order.{heard_short, heard_long, heard_whole, left_other, left_whole}
use Rattle.isolation.specs.View.{bit_at, SameBits, Agree}
use Rattle.isolation.proofs.Step.{Step, refuses, validates, checks, grants, releases, exits, step, same_threads, one_fixed, ended_fixed}
use Rattle.isolation.proofs.Views.{access_by, same_access, same_supervisor, Fate, stays, dies, agree_next}

-- ---- the answer

-- type before access before initialisation: the flag is looked at where there is access
same_validated : (e : Bool) (a i₁ i₂ : Bool) (m : InitCheck) → (a ≡ true → i₁ ≡ i₂) → answer_of (judged e a i₁ m) ≡ answer_of (judged e a i₂ m)
unfolding judged
same_validated false a i₁ i₂ m f = refl
same_validated true false i₁ i₂ m f = refl
same_validated true true i₁ i₂ m f = rw (f refl)

same_rule : (o : Op) (s₁ s₂ : State) (c : Call) → Agree s₁ s₂ c.caller → live s₁ c.caller ≡ true → is_privileged o ≡ false → rule o s₁ c ≡ rule o s₂ c
unfolding rule is_privileged validated
same_rule validate s₁ s₂ c g l n =
    rw (same_access g c.a, g.types c.a)
    (same_validated (type_fits c.b (type_of s₂ c.a)) (may_use s₂ c.caller c.a) _ _ (mode_of c.c) (λ a. g.inits c.a (same_access g c.a ∙ a)))
same_rule grant s₁ s₂ c g l n =
    rw (same_access g c.a, g.lives c.b)
    (past _ _ _ _ λ _. past _ _ _ _ λ p.
    let e : (thread s₁ c.b).handle ≡ (thread s₂ c.b).handle = g.handles c.b (g.lives c.b ∙ not-false (live s₂ c.b) p) in
    rw (e, same_access g (thread s₂ c.b).handle))
same_rule release s₁ s₂ c g l n = rw (same_access g c.a)
same_rule check s₁ s₂ c g l n = rw (same_supervisor g, g.slots l)
same_rule exit s₁ s₂ c g l n = refl
same_rule (sup p) s₁ s₂ c g l n = absurd (true≢false n)
same_rule unknown s₁ s₂ c g l n = refl

same_handle : (w : Use) (s₁ s₂ : State) (h : ℕ) (x₁ x₂ : Answer) → type_of s₁ h ≡ type_of s₂ h → x₁ ≡ x₂ → with_handle w s₁ h x₁ ≡ with_handle w s₂ h x₂
unfolding with_handle
same_handle no_handle s₁ s₂ h x₁ x₂ e f = f
same_handle taken s₁ s₂ h x₁ x₂ e f = rw (e, f)
same_handle free s₁ s₂ h x₁ x₂ e f = rw (e, f)

open_to : (b : Bool) → b && not false ≡ false → b ≡ false
open_to true e = e
open_to false e = refl

pub own_answer : (s₁ s₂ : State) (c : Call) → Agree s₁ s₂ c.caller → supervisor s₁ c.caller ≡ false → judge s₁ c ≡ judge s₂ c
unfolding judge judge_op
own_answer s₁ s₂ c g u =
    rw (g.lives c.caller, u, sym (same_supervisor g) ∙ u)
    (past _ _ _ _ λ _. past _ _ _ _ λ l. past _ _ _ _ λ _. past _ _ _ _ λ n. past _ _ _ _ λ _.
    same_handle (use_of (op_of c.op)) s₁ s₂ c.a _ _ (g.types c.a)
    (same_rule (op_of c.op) s₁ s₂ c g (g.lives c.caller ∙ not-false (live s₂ c.caller) l) (open_to (is_privileged (op_of c.op)) n)))

-- ---- the view afterwards

-- t's bits, where one bit of one object was put to b in both states
same_put : {s₁ s₁' s₂ s₂' : State} {a v : ℕ} {b : Bool} (t : ℕ) → OneObject s₁ s₁' a (BitIs b v) → OneObject s₂ s₂' a (BitIs b v) → SameBits s₁ s₂ t → SameBits s₁' s₂' t
same_put {s₁} {s₁'} {s₂} {s₂'} {a} {v} t r₁ r₂ f h = go (ℕ_discrete h a) (ℕ_discrete t v)
  where
    go : Dec (h ≡ a) → Dec (t ≡ v) → bit_at s₁' h t ≡ bit_at s₂' h t
    go (no n) d = rw (r₁.others h n, r₂.others h n) (f h)
    go (yes e) (yes q) = rw (e, q) (r₁.here.bit ∙ sym r₂.here.bit)
    go (yes e) (no n) = rw e (r₁.here.others t n ∙ f a ∙ sym (r₂.here.others t n))

-- who had access to that object can use no other than before
put_access : {s s' : State} {a v : ℕ} {b : Bool} (t : ℕ) → OneObject s s' a (BitIs b v) → may_use s t a ≡ true → (h : ℕ) → may_use s' t h ≡ true → may_use s t h ≡ true
put_access {s} {s'} {a} t r m h p = go (ℕ_discrete h a)
  where
    go : Dec (h ≡ a) → may_use s t h ≡ true
    go (yes e) = rw e m
    go (no n) = access_by s s' t h (ap (λ r. r.role) (sym (same_threads s s' r.threads t))) (rw (r.others h n)) (rw (r.others h n)) ∙ p

same_next : {s₁ s₁' s₂ s₂' : State} {a v : ℕ} {b : Bool} (t : ℕ) → OneObject s₁ s₁' a (BitIs b v) → OneObject s₂ s₂' a (BitIs b v) → may_use s₁ t a ≡ true → Agree s₁ s₂ t
    → Agree s₁' s₂' t
same_next {s₁} {s₁'} {s₂} {s₂'} t r₁ r₂ m g =
    agree_next (one_fixed r₁) (one_fixed r₂) g (λ u. stays (same_threads s₁ s₁' r₁.threads u) (same_threads s₂ s₂' r₂.threads u)) (same_put t r₁ r₂ g.bits)
    (λ h p. g.inits h (put_access t r₁ m h p))

-- who has ended has access to what is public alone, as before
pub ended_access : {s s' : State} (t : ℕ) → Ended s s' t → (h : ℕ) → may_use s' t h ≡ true → may_use s t h ≡ true
ended_access {s} {s'} t r h p = go ((access_iff s' t h).0 p)
  where
    go : (supervisor s' t ≡ true) ⊎ ((public (object s' h) ≡ true) ⊎ ((t < THREADS) × (bit_at s' h t ≡ true))) → may_use s t h ≡ true
    go (inl v) = absurd (false≢true (sym (ap is_supervisor r.here) ∙ v))
    go (inr (inl q)) = (access_iff s t h).1 (inr (inl (ap (λ (f : ℕ). is_set f PUBLIC) (sym (r.objects h).flags) ∙ q)))
    go (inr (inr (l, b))) = absurd (false≢true (sym (r.objects h).bit ∙ b))

same_end : {s₁ s₁' s₂ s₂' : State} (t : ℕ) → Ended s₁ s₁' t → Ended s₂ s₂' t → Agree s₁ s₂ t → Agree s₁' s₂' t
same_end {s₁} {s₁'} {s₂} {s₂'} t r₁ r₂ g =
    agree_next (ended_fixed r₁) (ended_fixed r₂) g (λ u. fate u (ℕ_discrete u t)) (λ h. (r₁.objects h).bit ∙ sym (r₂.objects h).bit) (λ h p. g.inits h (ended_access t r₁ h p))
  where
    fate : (u : ℕ) → Dec (u ≡ t) → Fate s₁ s₁' s₂ s₂' u
    fate u (yes e) = rw e (dies r₁.here r₂.here)
    fate u (no n) = stays (r₁.others u n) (r₂.others u n)

pub own_view : (s₁ s₂ : State) (c : Call) → Keeps s₁ → Keeps s₂ → Agree s₁ s₂ c.caller → supervisor s₁ c.caller ≡ false → Agree (after s₁ c) (after s₂ c) c.caller
own_view s₁ s₂ c k₁ k₂ g u = go (step s₁ c k₁ u)
  where
    code : (judge s₂ c).code ≡ (judge s₁ c).code
    code = ap (λ a. a.code) (sym (own_answer s₁ s₂ c g u))

    go : Step s₁ c → Agree (after s₁ c) (after s₂ c) c.caller
    go (refuses n e) = rw (e, after_refused s₂ c (λ q. n (sym code ∙ q))) g
    go (validates e o f) = rw (f, validate_does s₂ c k₂ (code ∙ e) o) g
    go (checks e o f) = rw (f, check_does s₂ c k₂ (code ∙ e) o) g
    go (grants e o r) = same_next c.caller r (grant_does s₂ c k₂ (code ∙ e) o) (grant_ok_means s₁ c o e).access g
    go (releases e o r) = same_next c.caller r (release_does s₂ c k₂ (code ∙ e) o) (release_ok_means s₁ c o e).access g
    go (exits e o r) = same_end c.caller r (exit_does s₂ c k₂ (code ∙ e) o) g

-- ---- the theorem

-- a call that is not sixteen bytes is answered by its length alone
pub other_length : (s₁ s₂ : State) (bs : List ℕ) → length bs ≢ 16 → heard s₁ bs ≡ heard s₂ bs
other_length s₁ s₂ bs n = go (dec_lt (length bs) 16)
  where
    go : Dec (length bs < 16) → heard s₁ bs ≡ heard s₂ bs
    go (yes h) = heard_short s₁ bs h ∙ sym (heard_short s₂ bs h)
    go (no f) = heard_long s₁ bs (omega arith) ∙ sym (heard_long s₂ bs (omega arith))

-- the answer, code and value, is the same in both, and the views agree afterwards
pub record Alike (a₁ a₂ : Answer) (s₁' s₂' : State) (t : ℕ) : Type 0 where
  pub answer : a₁ ≡ a₂
  pub view : Agree s₁' s₂' t

pub own_call : (s₁ s₂ : State) (t : ℕ) (c : Call) → c.caller ≡ t → Keeps s₁ → Keeps s₂ → Agree s₁ s₂ t → supervisor s₁ t ≡ false
    → Alike (judge s₁ c) (judge s₂ c) (after s₁ c) (after s₂ c) t
own_call s₁ s₂ t c e k₁ k₂ g u = rw (← e) (record { answer = own_answer s₁ s₂ c (rw e g) (rw e u); view = own_view s₁ s₂ c k₁ k₂ (rw e g) (rw e u) })

-- bytes as they come, of any number; other lengths than sixteen name no caller, and are answered alike in every state
pub own_bytes : (s₁ s₂ : State) (t : ℕ) (bs : List ℕ) → (call_of bs).caller ≡ t → Keeps s₁ → Keeps s₂ → Agree s₁ s₂ t → supervisor s₁ t ≡ false
    → Alike (heard s₁ bs) (heard s₂ bs) (left s₁ bs) (left s₂ bs) t
own_bytes s₁ s₂ t bs e k₁ k₂ g u = go (ℕ_discrete (length bs) 16)
  where
    go : Dec (length bs ≡ 16) → Alike (heard s₁ bs) (heard s₂ bs) (left s₁ bs) (left s₂ bs) t
    go (yes n) = rw (heard_whole s₁ bs n, heard_whole s₂ bs n, left_whole s₁ bs n, left_whole s₂ bs n) (own_call s₁ s₂ t (call_of bs) e k₁ k₂ g u)
    go (no n) = record { answer = other_length s₁ s₂ bs n; view = rw (left_other s₁ bs n, left_other s₂ bs n) g }
