-- What the exported functions' steps give, over plain variables: what a lent domain is, and what a lower function's promise becomes.
use Rattle.std.specs.Prelude.{ℕ, ◌≡◌, Bool, true, false, cond, List, length, Result, Ok, Err, ⊤}
use Rattle.std.proofs.Common.{refl, sym, ap, subst, ◌∙◌, eq-eqb, ne_eqb}
use mir.Val.{bool_byte}
use Rattle.answer.specs.Answer.{refused, told, done_or}
use Rattle.answer.specs.declared.Answer.{Answer}
use Rattle.answer.specs.declared.Code.{Code}
use Rattle.answer.specs.declared.Code.TheVariants.{Value}
use Rattle.mem_partition.specs.declared.MemPartition.{MemPartition}
use Rattle.mem_domain.specs.Domain.{Changed, gotten}
use Rattle.mem_domain.specs.declared.MemDomain.{MemDomain}
use Rattle.tables.specs.Table.{put_domain}
use Rattle.mpu.specs.Mpu.{verdict, checked}
use Rattle.planner.specs.Planner.{Made, Planned}
use Rattle.planner.proofs.Answers.{planned_by}
use Rattle.image.specs.Read.{ReadIs}
use Rattle.firmware.specs.Lent.{whole, domain_in, lent, judged, said, slot_in, Changes, Plans, ReadsLeft}

module _ (ws : List ℕ) where
  -- forty-eight words are a domain, and no other number of words is
  pub lent_whole : (m : MemDomain) → length ws ≡ 48 → m ≡ domain_in ws → Ok m ≡ lent ws
  unfolding lent whole
  lent_whole m h e = rw (eq-eqb _ _ h, e) refl

  pub lent_other : (length ws ≡ 48 → ⊥) → Err Value ≡ lent ws
  unfolding lent whole
  lent_other h = rw (ne_eqb _ _ h) refl

  pub lent_ok : (m : MemDomain) → lent ws ≡ Ok m → (whole ws ≡ true) × (m ≡ domain_in ws)
  unfolding lent
  lent_ok m e = go (whole ws) refl e
    where
      go : (b : Bool) → whole ws ≡ b → cond {A = Result MemDomain Code} b (Ok (domain_in ws)) (Err Value) ≡ Ok m → (whole ws ≡ true) × (m ≡ domain_in ws)
      go true w e = (w, cc)
      go false w e = cc

  pub lent_err : (c : Code) → lent ws ≡ Err c → (whole ws ≡ false) × (c ≡ Value)
  unfolding lent
  lent_err c e = go (whole ws) refl e
    where
      go : (b : Bool) → whole ws ≡ b → cond {A = Result MemDomain Code} b (Ok (domain_in ws)) (Err Value) ≡ Err c → (whole ws ≡ false) × (c ≡ Value)
      go true w e = cc
      go false w e = (w, cc)

  -- what is not lent is VALUE
  module _ (c : Code) (e : lent ws ≡ Err c) where
    pub judged_err : (a : Answer) → refused Value ≡ judged ws a
    unfolding judged
    judged_err a = rw (lent_err c e).0 refl

    pub plan_err : (regions : ℕ) (before : List ℕ) → Plans ws regions before (refused Value) before
    unfolding judged
    plan_err regions before = let w = (lent_err c e).0 in record { answer = rw w refl; words = rw w refl }

    pub slot_err : (k : ℕ) → Err c ≡ slot_in ws k
    unfolding slot_in
    slot_err k = let (w, d) = lent_err c e in rw (w, d) refl

  -- what is lent is answered as the function below answers
  module _ (m : MemDomain) (e : lent ws ≡ Ok m) where
    judged_ok : (a : Answer) → a ≡ judged ws a
    unfolding judged
    judged_ok a = rw (lent_ok m e).0 refl

    pub said_ok : (f : MemDomain → Bool) (r : Answer) → r ≡ said (f m) → r ≡ judged ws (said (f (domain_in ws)))
    said_ok f r p = p ∙ ap (λ x. said (f x)) (lent_ok m e).1 ∙ judged_ok (said (f (domain_in ws)))

    pub slot_ok : (k : ℕ) (r : Result MemPartition Code) → r ≡ gotten m k → r ≡ slot_in ws k
    unfolding slot_in
    slot_ok k r p = let (w, d) = lent_ok m e in rw w (p ∙ ap (λ x. gotten x k) d)

    pub plan_ok : (regions : ℕ) (before after : List ℕ) (made : Result ℕ Code) (r : Answer) → Made m regions before after made → r ≡ told made
        → Plans ws regions before r after
    unfolding judged
    plan_ok regions before after made r p t =
        let (w, d) = lent_ok m e in
        let q : Planned (domain_in ws) regions before after (told made) = subst (λ x. Planned x regions before after (told made)) d (planned_by m regions before after made p) in
        record { answer = rw w (t ∙ q.answer); words = rw w q.words }

    pub check_ok : (plan : List ℕ) (v : Result ⊤ Code) (r : Answer) → v ≡ verdict m plan → r ≡ done_or v → r.code ≡ (judged ws (checked (domain_in ws) plan)).code
    unfolding checked
    check_ok plan v r p t = ap (λ a. a.code) (t ∙ ap done_or (p ∙ ap (λ x. verdict x plan) (lent_ok m e).1) ∙ judged_ok (done_or (verdict (domain_in ws) plan)))

  -- a change is stored where it is OK
  module _ (answer : Result ℕ Code) (next : MemDomain) where
    pub change_other : (length ws ≡ 48 → ⊥) → Changes ws (record { answer = answer; domain = next }) (refused Value) ws
    unfolding judged whole
    change_other h = record { answer = rw (ne_eqb _ _ h) refl; words = rw (ne_eqb _ _ h) refl }

    module _ (h : length ws ≡ 48) (r : Answer) (t : r ≡ told answer) where
      pub change_ok : (ws' : List ℕ) → r.code ≡ 0 → ws' ≡ put_domain ws 0 next → Changes ws (record { answer = answer; domain = next }) r ws'
      unfolding judged whole
      change_ok ws' o e = record { answer = rw (eq-eqb _ _ h) t; words = rw (eq-eqb _ _ h, eq-eqb _ _ (ap (λ a. a.code) (sym t) ∙ o)) e }

      pub change_refused : (r.code ≡ 0 → ⊥) → Changes ws (record { answer = answer; domain = next }) r ws
      unfolding judged whole
      change_refused n = record { answer = rw (eq-eqb _ _ h) t; words = rw (eq-eqb _ _ h, ne_eqb _ _ (λ o. n (ap (λ a. a.code) t ∙ o))) refl }

-- a yes or no as the value of an answer
pub said_by : (b x : Bool) (v : ℕ) → v ≡ bool_byte b → b ≡ x → record { code = 0; value = v } ≡ said x
said_by true x v e p = rw (e, ← p) refl
said_by false x v e p = rw (e, ← p) refl

-- a change of the domain in the words
pub changed :
    (f : MemDomain → Changed) (ws : List ℕ) (m : MemDomain) (a : Result ℕ Code) (n : MemDomain) (r : Answer) (ws' : List ℕ) → m ≡ domain_in ws → a ≡ (f m).answer → n ≡ (f m).domain
    → Changes ws (record { answer = a; domain = n }) r ws' → Changes ws (f (domain_in ws)) r ws'
changed f ws m a n r ws' d p q h =
    subst (λ (x : Changed). Changes ws x r ws') (ap f d) (subst (λ x. Changes ws (record { answer = (f m).answer; domain = x }) r ws') q (subst (λ x. Changes ws (record { answer = x; domain = n }) r ws') p h))

-- the part that the reader hands back, by its length
pub read_left :
    (b os ts ss os' ts' ss' part : List ℕ) (code left : ℕ) → left ≡ length part → ReadIs b os ts ss os' ts' ss' part code → ReadsLeft b os ts ss os' ts' ss' left code
read_left b os ts ss os' ts' ss' part code left e p =
    record { reads = subst (λ (x : List ℕ). ReadIs b os ts ss os' ts' ss' x code) p.rest p; rest = e ∙ ap length p.rest }
