-- Noninterference with named exceptions. Two runs without a supervisor's call, from states that agree on t's view: if t sees the same of both, that is its own
-- calls, the accepted grants to it and the others' exits, in order, then it got the same answers and the views agree at the end. All other calls may differ in
-- any way and number. Nothing is asked of t itself: its own calls are unprivileged as all others of the run are.
use Prim.Native.Nat.{ℕ}
use native.Mathlib.Decide.{ℕ_discrete}
use native.Mathlib.Omega.{arith}
use mathlib.Core.Path.{◌≡◌, refl, sym, ap, ◌∙◌, subst}
use mathlib.Core.Logic.{◌≢◌}
use mathlib.Core.Bool.{true, false, cond}
use mathlib.Core.List.{List, [], ◌∷◌}
use lib.Dec.{eqb}
use borrow.Author.Tests.{eq-eqb, ne_eqb}
use Rattle.answer.specs.declared.Answer.{Answer}
use Rattle.userspace.specs.Userspace.{initialised}
use Rattle.tables.specs.State.{State, object}
use Rattle.rules.specs.Rules.{Keeps}
use Rattle.decoding.specs.declared.Call.{Call}
use Rattle.decoding.specs.Calls.{op_of}
use Rattle.judging.specs.Judge.{supervisor, may_use, judge}
use Rattle.judging.specs.Change.{after}
use Rattle.call_laws.proofs.Keeps.{keeps_after}
use Rattle.call_laws.proofs.Changes.{BitIs, OneObject, Ended}
use Rattle.isolation.specs.View.{bit_at, Agree}
use Rattle.isolation.specs.Trace.{run, Unprivileged, Event, asked, given, ended, Seen, nothing, seen, witnessed, event, noted, trace, answers}
use Rattle.isolation.proofs.Step.{Step, refuses, validates, checks, grants, releases, exits, step, same_threads, one_fixed, ended_fixed}
use Rattle.isolation.proofs.Views.{access_by, agree_refl, agree_sym, agree_trans, Fate, stays, dies, agree_next}
use Rattle.isolation.proofs.Own.{own_call}
use Rattle.isolation.proofs.Others.{put_bits, put_agree}

-- ---- what t sees of a call, beside what the call did

data Look (s : State) (t : ℕ) (c : Call) (x : Seen) : Type 0 where
  self : c.caller ≡ t → x ≡ seen (asked c) → Look s t c x
  hidden : c.caller ≢ t → x ≡ nothing → Agree s (after s c) t → Look s t c x
  gift : c.caller ≢ t → x ≡ seen (given c.a (initialised (object s c.a))) → OneObject s (after s c) c.a (BitIs true t) → Look s t c x
  loss : c.caller ≢ t → x ≡ seen (ended c.caller) → Ended s (after s c) c.caller → Look s t c x

-- another's call
look_other : (s : State) (t : ℕ) (c : Call) → c.caller ≢ t → Step s c → Look s t c (cond (eqb (judge s c).code 0) (witnessed (op_of c.op) s t c) nothing)
unfolding witnessed
look_other s t c n (refuses f e) = rw (ne_eqb (judge s c).code 0 f) (hidden n refl (rw e (agree_refl s t)))
look_other s t c n (validates e o q) = rw (e, o) (hidden n refl (rw q (agree_refl s t)))
look_other s t c n (checks e o q) = rw (e, o) (hidden n refl (rw q (agree_refl s t)))
look_other s t c n (releases e o r) = rw (e, o) (hidden n refl (put_agree r (λ q. n (sym q))))
look_other s t c n (exits e o r) = rw (e, o) (loss n refl r)
look_other s t c n (grants e o r) = rw (e, o) (go (ℕ_discrete c.b t))
  where
    go : Dec (c.b ≡ t) → Look s t c (cond (eqb c.b t) (seen (given c.a (initialised (object s c.a)))) nothing)
    go (yes q) = rw (eq-eqb c.b t q) (gift n refl (subst (λ (v : ℕ). OneObject s (after s c) c.a (BitIs true v)) q r))
    go (no d) = rw (ne_eqb c.b t d) (hidden n refl (put_agree r (λ q. d (sym q))))

look : (s : State) (t : ℕ) (c : Call) → Keeps s → supervisor s c.caller ≡ false → Look s t c (event s t c)
unfolding event
look s t c k u = go (ℕ_discrete c.caller t)
  where
    go : Dec (c.caller ≡ t) → Look s t c (cond (eqb c.caller t) (seen (asked c)) (cond (eqb (judge s c).code 0) (witnessed (op_of c.op) s t c) nothing))
    go (yes e) = rw (eq-eqb c.caller t e) (self e refl)
    go (no n) = rw (ne_eqb c.caller t n) (look_other s t c n (step s c k u))

-- ---- the answer to a call, if it is t's own

unfoldable answered : State → ℕ → Call → List Answer → List Answer
answered s t c l = cond (eqb c.caller t) (judge s c ∷ l) l

answers_step : (s : State) (t : ℕ) (c : Call) (cs : List Call) → answers s t (c ∷ cs) ≡ answered s t c (answers (after s c) t cs)
unfolding answers answered
answers_step s t c cs = refl

unanswered : (s : State) (t : ℕ) (c : Call) (l : List Answer) → c.caller ≢ t → answered s t c l ≡ l
unfolding answered
unanswered s t c l n = rw (ne_eqb c.caller t n)

own_answered : (s : State) (t : ℕ) (c : Call) (l : List Answer) → c.caller ≡ t → answered s t c l ≡ judge s c ∷ l
unfolding answered
own_answered s t c l e = rw (eq-eqb c.caller t e)

-- ---- two calls of which t sees the same

-- the same grant in two states
both_given :
    {s₁ s₁' s₂ s₂' : State} {a t : ℕ} → OneObject s₁ s₁' a (BitIs true t) → OneObject s₂ s₂' a (BitIs true t) → initialised (object s₁ a) ≡ initialised (object s₂ a) →
    Agree s₁ s₂ t → Agree s₁' s₂' t
both_given {s₁} {s₁'} {s₂} {s₂'} {a} {t} r₁ r₂ i g =
    agree_next (one_fixed r₁) (one_fixed r₂) g (λ u. stays (same_threads s₁ s₁' r₁.threads u) (same_threads s₂ s₂' r₂.threads u)) (λ h. bits h (ℕ_discrete h a))
    (λ h m. inits h m (ℕ_discrete h a))
  where
    bits : (h : ℕ) → Dec (h ≡ a) → bit_at s₁' h t ≡ bit_at s₂' h t
    bits h (yes e) = rw e (r₁.here.bit ∙ sym r₂.here.bit)
    bits h (no n) = sym (put_bits r₁ h t (λ e. absurd (n e))) ∙ g.bits h ∙ put_bits r₂ h t (λ e. absurd (n e))

    inits : (h : ℕ) → may_use s₁' t h ≡ true → Dec (h ≡ a) → initialised (object s₁ h) ≡ initialised (object s₂ h)
    inits h m (yes e) = rw e i
    inits h m (no n) =
        g.inits h (access_by s₁ s₁' t h (rw (same_threads s₁ s₁' r₁.threads t)) (rw (r₁.others h n)) (put_bits r₁ h t (λ e. absurd (n e))) ∙ m)

-- the same exit in two states
both_ended : {s₁ s₁' s₂ s₂' : State} {v t : ℕ} → t ≢ v → Ended s₁ s₁' v → Ended s₂ s₂' v → Agree s₁ s₂ t → Agree s₁' s₂' t
both_ended {s₁} {s₁'} {s₂} {s₂'} {v} {t} n r₁ r₂ g =
    agree_next (ended_fixed r₁) (ended_fixed r₂) g (λ u. fate u (ℕ_discrete u v)) (λ h. (r₁.objects h).others t n ∙ g.bits h ∙ sym ((r₂.objects h).others t n))
    (λ h m. g.inits h (access_by s₁ s₁' t h (rw (r₁.others t n)) (rw (r₁.objects h).flags) (sym ((r₁.objects h).others t n)) ∙ m))
  where
    fate : (u : ℕ) → Dec (u ≡ v) → Fate s₁ s₁' s₂ s₂' u
    fate u (yes e) = rw e (dies r₁.here r₂.here)
    fate u (no d) = stays (r₁.others u d) (r₂.others u d)

-- two calls with one event: the views agree afterwards, and what t is answered is the same
record Both (s₁ s₂ : State) (t : ℕ) (c₁ c₂ : Call) : Type 0 where
  view : Agree (after s₁ c₁) (after s₂ c₂) t
  reply : (l : List Answer) → answered s₁ t c₁ l ≡ answered s₂ t c₂ l

-- no event is of two kinds
differ : {A : Type 0} {x y z : Seen} → x ≡ y → x ≡ z → (y ≡ z → ◌≡◌ {A = ℕ} 0 1) → A
differ p q f = let z : ◌≡◌ {A = ℕ} 0 1 = f (sym p ∙ q) in absurd (omega arith)

-- another's call is not t's to be answered, in either run
unheard : (s₁ s₂ : State) (t : ℕ) (c₁ c₂ : Call) → c₁.caller ≢ t → c₂.caller ≢ t → (l : List Answer) → answered s₁ t c₁ l ≡ answered s₂ t c₂ l
unheard s₁ s₂ t c₁ c₂ n₁ n₂ l = unanswered s₁ t c₁ l n₁ ∙ sym (unanswered s₂ t c₂ l n₂)

module _ {s₁ s₂ : State} {t : ℕ} {c₁ c₂ : Call} (k₁ : Keeps s₁) (k₂ : Keeps s₂) (g : Agree s₁ s₂ t) (u : supervisor s₁ c₁.caller ≡ false) where
  both_asked : c₁.caller ≡ t → c₁ ≡ c₂ → Both s₁ s₂ t c₁ c₂
  both_asked e q =
      let r = own_call s₁ s₂ t c₁ e k₁ k₂ g (rw e at u) in
      subst (λ (c : Call). Both s₁ s₂ t c₁ c) q
      (record { view = r.view; reply = λ l. own_answered s₁ t c₁ l e ∙ ap (λ (x : Answer). x ∷ l) r.answer ∙ sym (own_answered s₂ t c₁ l e) })

  both : (e : Event) → Look s₁ t c₁ (seen e) → Look s₂ t c₂ (seen e) → Both s₁ s₂ t c₁ c₂
  both e (hidden _ p _) l = differ p refl (λ q. cc)
  both e (self _ p) (hidden _ q _) = differ p q (λ z. cc)
  both e (gift _ p _) (hidden _ q _) = differ p q (λ z. cc)
  both e (loss _ p _) (hidden _ q _) = differ p q (λ z. cc)
  both e (self m p) (self _ q) = both_asked m (cc)
  both e (self _ p) (gift _ q _) = differ p q (λ z. cc)
  both e (self _ p) (loss _ q _) = differ p q (λ z. cc)
  both e (gift _ p _) (self _ q) = differ p q (λ z. cc)
  both e (gift n₁ p r₁) (gift n₂ q r₂) =
      let a : c₂.a ≡ c₁.a = cc in
      let i : initialised (object s₁ c₁.a) ≡ initialised (object s₂ c₂.a) = cc in
      record {
        view = both_given r₁ (subst (λ (x : ℕ). OneObject s₂ (after s₂ c₂) x (BitIs true t)) a r₂) (i ∙ ap (λ (x : ℕ). initialised (object s₂ x)) a) g;
        reply = unheard s₁ s₂ t c₁ c₂ n₁ n₂;
      }
  both e (gift _ p _) (loss _ q _) = differ p q (λ z. cc)
  both e (loss _ p _) (self _ q) = differ p q (λ z. cc)
  both e (loss _ p _) (gift _ q _) = differ p q (λ z. cc)
  both e (loss n₁ p r₁) (loss n₂ q r₂) =
      let v : c₂.caller ≡ c₁.caller = cc in
      record { view = both_ended (λ z. n₁ (sym z)) r₁ (subst (λ (x : ℕ). Ended s₂ (after s₂ c₂) x) v r₂) g; reply = unheard s₁ s₂ t c₁ c₂ n₁ n₂ }

-- ---- a run up to the next call that t sees

record Hidden (s : State) (t : ℕ) (c : Call) : Type 0 where
  other : c.caller ≢ t
  same : Agree s (after s c) t

unseen : {s : State} {t : ℕ} {c : Call} → Look s t c nothing → Hidden s t c
unseen (self _ p) = differ p refl (λ q. cc)
unseen (hidden n _ g) = record { other = n; same = g }
unseen (gift _ p _) = differ p refl (λ q. cc)
unseen (loss _ p _) = differ p refl (λ q. cc)

-- a run of which t sees nothing: no answer, and the view as it was
record Silent (s : State) (t : ℕ) (cs : List Call) : Type 0 where
  same : Agree s (run s cs) t
  replies : answers s t cs ≡ []

silent : (cs : List Call) (s : State) (t : ℕ) → Keeps s → Unprivileged s cs → trace s t cs ≡ [] → Silent s t cs
unfolding run Unprivileged trace answers noted
silent [] s t k q p = record { same = agree_refl s t; replies = refl }
silent (c ∷ cs) s t k q p = go (event s t c) p (look s t c k q.0) (λ e. silent cs (after s c) t (keeps_after s c k) q.1 e)
  where
    go : (x : Seen) → noted x (trace (after s c) t cs) ≡ [] → Look s t c x → (trace (after s c) t cs ≡ [] → Silent (after s c) t cs) → Silent s t (c ∷ cs)
    go nothing p l later =
        let h = unseen l in
        let r = later p in
        record { same = agree_trans h.same r.same; replies = answers_step s t c cs ∙ unanswered s t c _ h.other ∙ r.replies }
    go (seen e) p l later = absurd (let z : ◌≡◌ {A = ℕ} 0 1 = cc in omega arith)

-- the next call that t sees: the state that it meets looks to t as the first one
record Next (s : State) (t : ℕ) (cs : List Call) (e : Event) (l : List Event) : Type 0 where
  state : State
  call : Call
  rest : List Call
  keeps : Keeps state
  quiet : Unprivileged (after state call) rest
  same : Agree s state t
  looks : Look state t call (seen e)
  follows : trace (after state call) t rest ≡ l
  replies : answers s t cs ≡ answered state t call (answers (after state call) t rest)
  ends : run s cs ≡ run (after state call) rest

next : (cs : List Call) (s : State) (t : ℕ) (e : Event) (l : List Event) → Keeps s → Unprivileged s cs → trace s t cs ≡ e ∷ l → Next s t cs e l
unfolding run Unprivileged trace answers noted
next [] s t e l k q p = absurd (let z : ◌≡◌ {A = ℕ} 0 1 = cc in omega arith)
next (c ∷ cs) s t e l k q p = go (event s t c) p (look s t c k q.0) (λ f. next cs (after s c) t e l (keeps_after s c k) q.1 f)
  where
    go : (x : Seen) → noted x (trace (after s c) t cs) ≡ e ∷ l → Look s t c x → (trace (after s c) t cs ≡ e ∷ l → Next (after s c) t cs e l) → Next s t (c ∷ cs) e l
    go nothing p k later =
        let h = unseen k in
        let r = later p in
        record {
          state = r.state;
          call = r.call;
          rest = r.rest;
          keeps = r.keeps;
          quiet = r.quiet;
          same = agree_trans h.same r.same;
          looks = r.looks;
          follows = r.follows;
          replies = answers_step s t c cs ∙ unanswered s t c _ h.other ∙ r.replies;
          ends = r.ends;
        }
    go (seen f) p w later =
        let m : f ≡ e = cc in
        let n : trace (after s c) t cs ≡ l = cc in
        record {
          state = s;
          call = c;
          rest = cs;
          keeps = k;
          quiet = q.1;
          same = agree_refl s t;
          looks = subst (λ (x : Event). Look s t c (seen x)) m w;
          follows = n;
          replies = answers_step s t c cs;
          ends = refl;
        }

-- ---- the theorem

-- t got the same answers in both runs, and the views agree at the end
pub record Indistinct (s₁ s₂ : State) (t : ℕ) (cs₁ cs₂ : List Call) : Type 0 where
  pub replies : answers s₁ t cs₁ ≡ answers s₂ t cs₂
  pub view : Agree (run s₁ cs₁) (run s₂ cs₂) t

pub noninterference :
    (cs₁ cs₂ : List Call) (s₁ s₂ : State) (t : ℕ) → Keeps s₁ → Keeps s₂ → Agree s₁ s₂ t → Unprivileged s₁ cs₁ → Unprivileged s₂ cs₂ →
    trace s₁ t cs₁ ≡ trace s₂ t cs₂ → Indistinct s₁ s₂ t cs₁ cs₂
unfolding run Unprivileged trace answers noted
noninterference [] cs₂ s₁ s₂ t k₁ k₂ g q₁ q₂ p =
    let r = silent cs₂ s₂ t k₂ q₂ (sym p) in record { replies = sym r.replies; view = agree_trans g r.same }
noninterference (c ∷ cs₁) cs₂ s₁ s₂ t k₁ k₂ g q₁ q₂ p =
    go (event s₁ t c) p (look s₁ t c k₁ q₁.0) (λ ds s k a q e. noninterference cs₁ ds (after s₁ c) s t (keeps_after s₁ c k₁) k a q₁.1 q e)
  where
    go :
        (x : Seen) → noted x (trace (after s₁ c) t cs₁) ≡ trace s₂ t cs₂ → Look s₁ t c x →
        ((ds : List Call) (s : State) → Keeps s → Agree (after s₁ c) s t → Unprivileged s ds → trace (after s₁ c) t cs₁ ≡ trace s t ds →
        Indistinct (after s₁ c) s t cs₁ ds) → Indistinct s₁ s₂ t (c ∷ cs₁) cs₂
    go nothing p l later =
        let h = unseen l in
        let r = later cs₂ s₂ k₂ (agree_trans (agree_sym h.same) g) q₂ p in
        record { replies = answers_step s₁ t c cs₁ ∙ unanswered s₁ t c _ h.other ∙ r.replies; view = r.view }
    go (seen e) p l later =
        let n = next cs₂ s₂ t e _ k₂ q₂ (sym p) in
        let b = both k₁ n.keeps (agree_trans g n.same) q₁.0 e l n.looks in
        let r = later n.rest (after n.state n.call) (keeps_after n.state n.call n.keeps) b.view n.quiet (sym n.follows) in
        record {
          replies = answers_step s₁ t c cs₁ ∙ b.reply _ ∙ ap (answered n.state t n.call) r.replies ∙ sym n.replies;
          view = rw n.ends r.view;
        }
