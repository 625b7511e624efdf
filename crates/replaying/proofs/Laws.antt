-- From the promises of `run` and of the lines to that of a printed log; and what the functions below cite of numbers and parts.
use Rattle.std.proofs.Common.{◌≡◌, ℕ, ◌*◌, ◌<◌, ◌≤◌, Bool, true, false, cond, Result, Ok, Err, is_ok, ◌||◌, ltb, leb, List, [], ◌∷◌, ◌++◌, length, sym, refl, ap, ◌∙◌, subst, arith, ltb-false, le-ltb, lt-ltb, leb-false, leb-true}
use Rattle.answer.specs.Stores.{cat}
use Rattle.answer.specs.declared.Code.{Code}
use Rattle.answer.specs.declared.Code.TheVariants.{Value, Room}
use Rattle.text.specs.Text.{ascii}
use Rattle.words.specs.Words.{answer_words}
use Rattle.lines.specs.Steps.{Piece, loosely, all}
use Rattle.lines.specs.Lines.{line_at, Lines, lines_answer, text_after}
use Rattle.tables.specs.State.{State, state_of, Fit, objects_back, threads_back, domains_back}
use Rattle.rules.specs.Rules.{keeps_test}
use Rattle.rules.proofs.Rules.{test_sound}
use Rattle.calls.specs.Calls.{parts_in, ran_to, answers_to, run_result, run_answer, ran_by, ran_parts, Run, Ends}
use Rattle.replaying.specs.declared.Style.{Style}
use Rattle.replaying.specs.declared.Style.TheVariants.{Numbers, Words}
use Rattle.replaying.specs.Printing.{longest, line_in, lines_to, refusal_of, laid, print_answer, printed_parts, Printed}
use Rattle.calls.proofs.Answers.{answers_length}
use Rattle.replaying.proofs.Printed.{lines_are}

or_true : (b : Bool) → (b || true) ≡ true
or_true true = refl
or_true false = refl

-- lines that had room
lines_done :
    (line_of : ℕ → List ℕ) (most : ℕ) (out : List ℕ) (n : ℕ) {text after : List ℕ} {p : Result ℕ Code} → 2 * n ≤ length out → most * n ≤ length text →
    Lines line_of most out n text p after → (p ≡ Ok (length (cat line_of n))) × (after ≡ laid (cat line_of n) text)
unfolding lines_answer text_after
lines_done line_of most out n {text} g h l =
    let a = le-ltb (length out) (2 * n) g in
    let b = le-ltb (length text) (most * n) h in
    (l.answer ∙ rw (a, b), l.text ∙ rw (a, b))

-- ---- what a test says of the room

module _ (style : Style) (log text : List ℕ) {r : Bool} {each : ℕ} (e : r ≡ leb (each * parts_in (length log)) (length text)) (l : each ≡ longest style) where
  pub has_no_room : r ≡ false → length text < longest style * parts_in (length log)
  has_no_room n = leb-false _ _ (rw l at (sym e ∙ n))

  pub has_its_room : r ≡ true → longest style * parts_in (length log) ≤ length text
  has_its_room n = leb-true _ _ (rw l at (sym e ∙ n))

-- ---- lines of either kind

pub refusal_as : {a b : Style} (code : ℕ) {before after : List ℕ} {r : Result ℕ Code} → a ≡ b
    → Lines (λ _. refusal_of b code) 30 (code ∷ 0 ∷ []) 1 before r after → Lines (λ _. refusal_of a code) 30 (code ∷ 0 ∷ []) 1 before r after
refusal_as code {before} {after} {r} e l = subst (λ (w : Style). Lines (λ _. refusal_of w code) 30 (code ∷ 0 ∷ []) 1 before r after) (sym e) l

pub refusal_words : (code : ℕ) {t t' : List ℕ} {r : ℕ} → 30 ≤ length t → Piece t 0 29 (ascii "image" ++ answer_words false code 0) r t'
    → Lines (λ _. refusal_of Words code) 30 (code ∷ 0 ∷ []) 1 t (Ok r) t'
unfolding refusal_of cat
refusal_words code {t} {t'} {r} h p =
    all (λ _. refusal_of Words code) 30 (code ∷ 0 ∷ []) 1 t t' r (omega arith) (omega arith) (loosely 30 (omega arith) p)

pub refusal_line : (code : ℕ) {t t' : List ℕ} {r : Result ℕ Code} → 30 ≤ length t → Lines (line_at (code ∷ 0 ∷ [])) 22 (code ∷ 0 ∷ []) 1 t r t'
    → Lines (λ _. refusal_of Numbers code) 30 (code ∷ 0 ∷ []) 1 t r t'
unfolding lines_answer text_after refusal_of cat
refusal_line code {t} h l =
    let d = lines_done (line_at (code ∷ 0 ∷ [])) 22 (code ∷ 0 ∷ []) 1 (omega arith) (omega arith) l in
    let e = le-ltb (length t) 30 h in
    record { answer = d.0 ∙ rw e; text = d.1 ∙ rw e }

-- no parts, no lines
no_lines : (style : Style) (first : ℕ) (s : State) (log : List ℕ) → lines_to style first s log 0 ≡ []
unfolding lines_to cat
no_lines style first s log = refl

module _ (style : Style) (first : ℕ) (os ts ss log out : List ℕ) where
  -- nothing was done
  module _ (text : List ℕ) (p : Result ℕ Code) (a : p ≡ print_answer style first os ts ss log out (length text)) (n : is_ok p ≡ false) where
    none : printed_parts style first os ts ss log out (length text) ≡ 0
    none = let z : is_ok (print_answer style first os ts ss log out (length text)) ≡ false = ap is_ok (sym a) ∙ n in rw z

    untouched : (b : Bool) → keeps_test os ts ss ≡ b → Printed style first os ts ss log out text p os ts ss out text
    unfolding ran_to answers_to
    untouched false e =
        record {
          answer = a;
          objects = rw e;
          threads = rw e;
          slots = rw e;
          numbers = rw none;
          text = rw (none, no_lines);
        }
    untouched true e =
        let f : Fit os ts ss = (test_sound os ts ss e).fit in
        record {
          answer = a;
          objects = rw (e, none) (sym (objects_back f));
          threads = rw (e, none) (sym (threads_back f));
          slots = rw (e, none) (sym (domains_back f));
          numbers = rw none;
          text = rw (none, no_lines);
        }

  -- too little room for the lines
  pub print_without : (text : List ℕ) (c : Code) → length text < longest style * parts_in (length log)
      → c ≡ cond (keeps_test os ts ss) Room Value → Printed style first os ts ss log out text (Err c) os ts ss out text
  unfolding print_answer
  print_without text c h e = go (keeps_test os ts ss) refl
    where
      go : (b : Bool) → keeps_test os ts ss ≡ b → Printed style first os ts ss log out text (Err c) os ts ss out text
      go true k = untouched text (Err c) (ap Err e ∙ rw (k, lt-ltb _ _ h, or_true _)) refl true k
      go false k = untouched text (Err c) (ap Err e ∙ rw k) refl false k

  -- the lines have room: it goes as the run goes
  module _ (text : List ℕ) (h : longest style * parts_in (length log) ≤ length text) where
    -- both refuse for the same reason, or both do it
    data Way : Type 0 where
      unsound : run_result os ts ss log out ≡ Err Value → print_answer style first os ts ss log out (length text) ≡ Err Value → Way
      small : run_result os ts ss log out ≡ Err Room → print_answer style first os ts ss log out (length text) ≡ Err Room → Way
      does :
          2 * parts_in (length log) ≤ length out → run_result os ts ss log out ≡ Ok (parts_in (length log)) →
          print_answer style first os ts ss log out (length text) ≡ Ok (length (lines_to style first (state_of os ts ss) log (parts_in (length log)))) → Way

    way : Way
    unfolding print_answer run_result
    way = go (keeps_test os ts ss) (ltb (length out) (2 * parts_in (length log))) refl refl
      where
        go : (a b : Bool) → keeps_test os ts ss ≡ a → ltb (length out) (2 * parts_in (length log)) ≡ b → Way
        go true true e f = small (rw (e, f)) (rw (e, f))
        go true false e f = does (ltb-false _ _ f) (rw (e, f)) (rw (e, f, le-ltb _ _ h))
        go false b e f = unsound (rw e) (rw e)

    -- how many parts a run that ended so has run
    abbrev parts : Result ℕ Code → ℕ
    parts r = (ran_by r).answers

    same_parts : printed_parts style first os ts ss log out (length text) ≡ ran_parts os ts ss log out
    unfolding run_answer
    same_parts = go way
      where
        printed : Result ℕ Code → ℕ
        printed p = cond (is_ok p) (parts_in (length log)) 0

        go : Way → printed_parts style first os ts ss log out (length text) ≡ ran_parts os ts ss log out
        go (unsound e f) = ap printed f ∙ sym (ap parts e)
        go (small e f) = ap printed f ∙ sym (ap parts e)
        go (does m e f) = ap printed f ∙ sym (ap parts e)

    module _ {r : Result ℕ Code} {os' ts' ss' out' : List ℕ} (ended : Ends os ts ss log out r os' ts' ss' out') where
      q : Run os ts ss log out (ran_by r) os' ts' ss' out'
      q = ended.run

      -- the tables and the numbers are the run's
      as_run :
          {p : Result ℕ Code} {after : List ℕ} → p ≡ print_answer style first os ts ss log out (length text) →
          after ≡ laid (lines_to style first (state_of os ts ss) log (ran_parts os ts ss log out)) text →
          Printed style first os ts ss log out text p os' ts' ss' out' after
      as_run a t =
          record {
            answer = a;
            objects = rw same_parts q.objects;
            threads = rw same_parts q.threads;
            slots = rw same_parts q.slots;
            numbers = rw same_parts q.buffer;
            text = rw same_parts t;
          }

      -- the run was refused
      pub print_refused : {e : Code} → r ≡ Err e → Printed style first os ts ss log out text (Err e) os' ts' ss' out' text
      unfolding run_answer
      print_refused {e} z = go way
        where
          go : Way → Printed style first os ts ss log out text (Err e) os' ts' ss' out' text
          go (unsound d f) = as_run (sym z ∙ ended.answer ∙ d ∙ sym f) (rw (ap parts d, no_lines))
          go (small d f) = as_run (sym z ∙ ended.answer ∙ d ∙ sym f) (rw (ap parts d, no_lines))
          go (does m d f) = let y : Err e ≡ Ok (parts_in (length log)) = sym z ∙ ended.answer ∙ d in cc

      -- it was done, and its lines were put
      pub print_done :
          {p : Result ℕ Code} {n : ℕ} {after : List ℕ} → r ≡ Ok n → Lines (line_in style first log out') (longest style) out' n text p after →
          Printed style first os ts ss log out text p os' ts' ss' out' after
      unfolding run_answer
      print_done {p} {n} {after} z l = go way
        where
          go : Way → Printed style first os ts ss log out text p os' ts' ss' out' after
          go (unsound e f) = let y : Ok n ≡ Err Value = sym z ∙ ended.answer ∙ e in cc
          go (small e f) = let y : Ok n ≡ Err Room = sym z ∙ ended.answer ∙ e in cc
          go (does m e f) =
              let all = parts_in (length log) in
              let s = state_of os ts ss in
              let k : n ≡ all = ap parts (sym z ∙ ended.answer ∙ e) in
              let b : ran_parts os ts ss log out ≡ all = ap parts e in
              let o : out' ≡ answers_to s log out all = q.buffer ∙ ap (answers_to s log out) b in
              let same : cat (line_in style first log out') n ≡ lines_to style first s log all = rw (k, o) (lines_are style first s log out all m) in
              let room : length out' ≡ length out = ap length o ∙ answers_length s log out all in
              let d = lines_done (line_in style first log out') (longest style) out' n (omega (arith, k, room)) (rw k h) l in
              as_run (d.0 ∙ ap (λ (l : List ℕ). Ok (length l)) same ∙ sym f) (d.1 ∙ ap (λ (l : List ℕ). laid l text) (same ∙ ap (lines_to style first s log) (sym b)))

-- an accepted log: how many bytes were put
pub done_answer : (style : Style) (first : ℕ) (os ts ss log out : List ℕ) (room : ℕ) {n : ℕ} → Ok n ≡ print_answer style first os ts ss log out room
    → n ≡ length (lines_to style first (state_of os ts ss) log (parts_in (length log)))
unfolding print_answer
done_answer style first os ts ss log out room {n} a =
    go (keeps_test os ts ss) (ltb (length out) (2 * parts_in (length log)) || ltb room (longest style * parts_in (length log))) refl refl
  where
    go : (b c : Bool) → keeps_test os ts ss ≡ b → (ltb (length out) (2 * parts_in (length log)) || ltb room (longest style * parts_in (length log))) ≡ c
        → n ≡ length (lines_to style first (state_of os ts ss) log (parts_in (length log)))
    go false c e f = let y : Ok n ≡ Err Value = a ∙ rw e in cc
    go true true e f = let y : Ok n ≡ Err Room = a ∙ rw (e, f) in cc
    go true false e f = let y : Ok n ≡ Ok (length (lines_to style first (state_of os ts ss) log (parts_in (length log)))) = a ∙ rw (e, f) in cc
