-- The order of refusals as a list of tests, for every operation: a call is refused with a code exactly when the first test of the list that holds has
-- it. The one answer that is no test's is the memory check's EPERM with an address.
use Prim.Native.Nat.{ℕ, ◌+◌, ◌≤◌, ◌<◌}
use native.Mathlib.Decide.{dec_lt}
use native.Mathlib.Omega.{arith}
use mathlib.Core.Path.{◌≡◌, refl, sym, ap, ◌∙◌}
use mathlib.Core.Logic.{◌↔◌, ◌⊎◌, inl, inr, ⊎_elim, ◌≢◌}
use mathlib.Core.Bool.{Bool, true, false, cond, not, ◌&&◌, ◌||◌, true≢false}
use mathlib.Core.List.{List, [], ◌∷◌, ◌++◌}
use lib.Dec.{eqb, ltb, leb}
use lib.ListN.{length}
use borrow.Author.Tests.{not-false, lt-ltb, le-ltb, lt-leb, le-leb, leb-false}
use Rattle.answer.specs.declared.Answer.{Answer}
use Rattle.answer.specs.declared.Code.{Code}
use Rattle.answer.specs.declared.Code.TheVariants.{Ok, Einval, Eperm, Ebadf, Eaddrinuse, Enospc, Enoent, Short}
use Rattle.answer.specs.Answer.{number_of, refused, done}
use Rattle.answer.specs.Given.{one_of, either, one_of_more}
use Rattle.mem_partition.specs.declared.MemPartition.{MemPartition}
use Rattle.mem_domain.specs.Domain.{addable, has_free, has_window, lowest_free, lowest_window, with_count, changed_at, added, removed}
use Rattle.userspace_names.specs.declared.InitCheck.TheVariants.{MustBeInit, MustNotBeInit}
use Rattle.std.specs.Prelude.{Err}
use Rattle.userspace_decide.specs.Decide.{init_judged, judged, answer_of}
use Rattle.userspace.specs.Userspace.{THREADS, type_fits, initialised, validated}
use Rattle.tables.specs.Table.{HANDLES}
use Rattle.tables.specs.State.{State, object, thread, domain}
use Rattle.mem_check.specs.Memory.{is_covered, covered_run, reached, memory_rule}
use Rattle.decoding.specs.declared.Call.{Call}
use Rattle.decoding.specs.Calls.{create, delete, revoke, init, uninit, recycle, publish, thread as new_thread, end, inherit, assign, add, remove, Op, validate, grant, release, check, exit, sup, unknown, op_of, call_of}
use Rattle.judging.specs.Judge.{◌⇒◌⨾◌, live, supervisor, type_of, may_use, serves, mode_of, well_formed, partition_of, slot_answer, Use, no_handle, taken, free, use_of, with_handle, rule, sup_rule, is_unknown, is_privileged, judge_op, judge, heard}
use Rattle.judging.specs.Change.{change, after, left}
use Rattle.call_laws.proofs.Cascade.{stop, pass, past, Test, first_of, test_at, FirstAt, None, Verdict, by, none, verdict, refuses, lets, refusals, Refusals, refusals_append, refusal_at, By, same_name, ok_exactly, code_exactly}
use Rattle.mem_check.specs.Runs.{Least, run_all, run_least}
use Rattle.call_laws.proofs.Conditions.{Mode, Fields, fields_iff}

-- ---- the tests

unfoldable pub handle_tests : Use → State → ℕ → List Test
handle_tests no_handle s h = []
handle_tests taken s h = (leb HANDLES h, Ebadf) ∷ (eqb (type_of s h) 0, Ebadf) ∷ []
handle_tests free s h = (leb HANDLES h, Ebadf) ∷ (not (eqb (type_of s h) 0), Eaddrinuse) ∷ []

unfoldable pub rule_tests : Op → State → Call → List Test
rule_tests validate s c =
    (not (type_fits c.b (type_of s c.a)), Ebadf)
    ∷ (not (may_use s c.caller c.a), Eperm)
    ∷ (eqb c.c 0 && not (initialised (object s c.a)), Einval)
    ∷ (eqb c.c 4294967295 && initialised (object s c.a), Eaddrinuse)
    ∷ []
rule_tests grant s c =
    (not (may_use s c.caller c.a), Eperm)
    ∷ (not (live s c.b), Einval)
    ∷ (not (may_use s c.caller (thread s c.b).handle), Eperm)
    ∷ []
rule_tests release s c = (not (may_use s c.caller c.a), Eperm) ∷ []
rule_tests check s c = (eqb c.c 0 || ltb 4294967295 (c.b + c.c), Einval) ∷ []
rule_tests exit s c = []
rule_tests (sup create) s c = []
rule_tests (sup delete) s c = (serves s c.a, Eaddrinuse) ∷ []
rule_tests (sup revoke) s c = (not (live s c.b), Einval) ∷ []
rule_tests (sup init) s c = []
rule_tests (sup uninit) s c = []
rule_tests (sup recycle) s c = []
rule_tests (sup publish) s c = []
rule_tests (sup new_thread) s c = (live s c.b, Eaddrinuse) ∷ (not (eqb (type_of s c.a) 1), Ebadf) ∷ (serves s c.a, Eaddrinuse) ∷ []
rule_tests (sup end) s c = (not (live s c.b), Einval) ∷ []
rule_tests (sup inherit) s c = (not (live s c.b), Einval) ∷ (not (live s c.c), Einval) ∷ []
rule_tests (sup assign) s c = (not (live s c.b), Einval) ∷ []
rule_tests (sup add) s c = (not (addable (domain s c.a) (partition_of c)), Einval) ∷ (not (has_free (domain s c.a)), Enospc) ∷ []
rule_tests (sup remove) s c = (eqb c.c 0 || not (has_window (domain s c.a) c.b c.c), Enoent) ∷ []
rule_tests unknown s c = (true, Einval) ∷ []

abbrev pub order_of : Op → State → Call → List Test
order_of o s c =
    (leb THREADS c.caller, Einval)
    ∷ (not (live s c.caller), Eperm)
    ∷ (is_unknown o, Einval)
    ∷ (is_privileged o && not (supervisor s c.caller), Eperm)
    ∷ (not (well_formed o c), Einval)
    ∷ (handle_tests (use_of o) s c.a ++ rule_tests o s c)

unfoldable pub order : State → Call → List Test
order s c = order_of (op_of c.op) s c

-- ---- what is answered where none of them holds

-- add and remove answer the slot; the memory check walks, but for supervisors; all others answer OK and 0
unfoldable pub ending : Op → State → Call → Answer
ending validate s c = done
ending grant s c = done
ending release s c = done
ending check s c =
    cond (supervisor s c.caller) done
    (reached c.b c.c (covered_run (domain s (thread s c.caller).domain) (eqb c.d 1) c.b c.c))
ending exit s c = done
ending (sup create) s c = done
ending (sup delete) s c = done
ending (sup revoke) s c = done
ending (sup init) s c = done
ending (sup uninit) s c = done
ending (sup recycle) s c = done
ending (sup publish) s c = done
ending (sup new_thread) s c = done
ending (sup end) s c = done
ending (sup inherit) s c = done
ending (sup assign) s c = done
ending (sup add) s c = record { code = 0; value = lowest_free (domain s c.a) }
ending (sup remove) s c = record { code = 0; value = lowest_window (domain s c.a) c.b c.c }
ending unknown s c = done

-- ---- they are the definition

handle_order : (u : Use) (s : State) (h : ℕ) (l : List Test) (x rest : Answer) → x ≡ first_of l rest → with_handle u s h x ≡ first_of (handle_tests u s h ++ l) rest
unfolding with_handle handle_tests first_of
handle_order no_handle s h l x rest e = e
handle_order taken s h l x rest e = rw e
handle_order free s h l x rest e = rw e

-- validate's modes
mode_order : (n : ℕ) (i : Bool) → Mode n → answer_of (init_judged i (mode_of n)) ≡ ((eqb n 0 && not i) ⇒ Einval ⨾ (eqb n 4294967295 && i) ⇒ Eaddrinuse ⨾ done)
unfolding ◌⇒◌⨾◌
mode_order n i (inl e) = rw e (go i)
  where
    go : (i : Bool) → answer_of (init_judged i MustBeInit) ≡ cond (not i) (refused Einval) done
    go true = refl
    go false = refl
mode_order n i (inr (inl e)) = rw e
mode_order n i (inr (inr e)) = rw e (go i)
  where
    go : (i : Bool) → answer_of (init_judged i MustNotBeInit) ≡ cond i (refused Eaddrinuse) done
    go true = refl
    go false = refl

validate_order : (x y i : Bool) (n : ℕ) → Mode n
    → answer_of (cond x (cond y (init_judged i (mode_of n)) (Err Eperm)) (Err Ebadf))
    ≡ (not x ⇒ Ebadf ⨾ not y ⇒ Eperm ⨾ (eqb n 0 && not i) ⇒ Einval ⨾ (eqb n 4294967295 && i) ⇒ Eaddrinuse ⨾ done)
unfolding ◌⇒◌⨾◌
validate_order false y i n m = refl
validate_order true false i n m = refl
validate_order true true i n m = mode_order n i m

add_order : (l : List MemPartition) (p : MemPartition)
    → slot_answer (added (with_count l) p) ≡ (not (addable l p) ⇒ Einval ⨾ not (has_free l) ⇒ Enospc ⨾ record { code = 0; value = lowest_free l })
unfolding added with_count changed_at ◌⇒◌⨾◌
add_order l p = go (addable l p) (has_free l) refl refl
  where
    go : (x y : Bool) → addable l p ≡ x → has_free l ≡ y
        → slot_answer (added (with_count l) p) ≡ (not (addable l p) ⇒ Einval ⨾ not (has_free l) ⇒ Enospc ⨾ record { code = 0; value = lowest_free l })
    go true true e f = rw (e, f)
    go true false e f = rw (e, f)
    go false y e f = rw e

remove_order : (l : List MemPartition) (start size : ℕ)
    → slot_answer (removed (with_count l) start size)
    ≡ ((eqb size 0 || not (has_window l start size)) ⇒ Enoent ⨾ record { code = 0; value = lowest_window l start size })
unfolding removed with_count changed_at ◌⇒◌⨾◌
remove_order l start size = go (eqb size 0) (has_window l start size) refl refl
  where
    go : (x y : Bool) → eqb size 0 ≡ x → has_window l start size ≡ y
        → slot_answer (removed (with_count l) start size)
        ≡ ((eqb size 0 || not (has_window l start size)) ⇒ Enoent ⨾ record { code = 0; value = lowest_window l start size })
    go true y e f = rw e
    go false true e f = rw (e, f)
    go false false e f = rw (e, f)

rule_order : (o : Op) (s : State) (c : Call) → Fields o c → rule o s c ≡ first_of (rule_tests o s c) (ending o s c)
unfolding rule sup_rule rule_tests ending first_of Fields validated judged memory_rule ◌⇒◌⨾◌
rule_order validate s c f =
    validate_order (type_fits c.b (type_of s c.a)) (may_use s c.caller c.a) (initialised (object s c.a)) c.c f.1.0
rule_order grant s c f = refl
rule_order release s c f = refl
rule_order check s c f = refl
rule_order exit s c f = refl
rule_order (sup create) s c f = refl
rule_order (sup delete) s c f = refl
rule_order (sup revoke) s c f = refl
rule_order (sup init) s c f = refl
rule_order (sup uninit) s c f = refl
rule_order (sup recycle) s c f = refl
rule_order (sup publish) s c f = refl
rule_order (sup new_thread) s c f = refl
rule_order (sup end) s c f = refl
rule_order (sup inherit) s c f = refl
rule_order (sup assign) s c f = refl
rule_order (sup add) s c f = add_order (domain s c.a) (partition_of c)
rule_order (sup remove) s c f = remove_order (domain s c.a) c.b c.c
rule_order unknown s c f = absurd f

pub judge_order : (s : State) (c : Call) → judge s c ≡ first_of (order s c) (ending (op_of c.op) s c)
unfolding judge judge_op first_of order
judge_order s c =
    past _ _ _ _ (λ _.
    past _ _ _ _ (λ _.
    past _ _ _ _ (λ _.
    past _ _ _ _ (λ _.
    past _ _ _ _ (λ e.
    handle_order (use_of (op_of c.op)) s c.a (rule_tests (op_of c.op) s c) (rule (op_of c.op) s c) (ending (op_of c.op) s c)
    (rule_order (op_of c.op) s c ((fields_iff (op_of c.op) c).0 (not-false (well_formed (op_of c.op) c) e))))))))

-- ---- the laws of the order

handle_codes : (u : Use) (s : State) (h : ℕ) → Refusals (handle_tests u s h)
unfolding handle_tests Refusals one_of
handle_codes no_handle s h = tt
handle_codes taken s h = (refl, (refl, tt))
handle_codes free s h = (refl, (refl, tt))

rule_codes : (o : Op) (s : State) (c : Call) → Refusals (rule_tests o s c)
unfolding rule_tests Refusals one_of
rule_codes validate s c = (refl, (refl, (refl, (refl, tt))))
rule_codes grant s c = (refl, (refl, (refl, tt)))
rule_codes release s c = (refl, tt)
rule_codes check s c = (refl, tt)
rule_codes exit s c = tt
rule_codes (sup create) s c = tt
rule_codes (sup delete) s c = (refl, tt)
rule_codes (sup revoke) s c = (refl, tt)
rule_codes (sup init) s c = tt
rule_codes (sup uninit) s c = tt
rule_codes (sup recycle) s c = tt
rule_codes (sup publish) s c = tt
rule_codes (sup new_thread) s c = (refl, (refl, (refl, tt)))
rule_codes (sup end) s c = (refl, tt)
rule_codes (sup inherit) s c = (refl, (refl, tt))
rule_codes (sup assign) s c = (refl, tt)
rule_codes (sup add) s c = (refl, (refl, tt))
rule_codes (sup remove) s c = (refl, tt)
rule_codes unknown s c = (refl, tt)

order_codes : (s : State) (c : Call) → Refusals (order s c)
unfolding order Refusals one_of
order_codes s c =
    let o = op_of c.op in
    (refl, (refl, (refl, (refl, (refl, refusals_append (handle_tests (use_of o) s c.a) (rule_tests o s c) (handle_codes (use_of o) s c.a) (rule_codes o s c))))))

-- the answer where none refuses is OK, but for the memory check's walk
ends_ok : (o : Op) (s : State) (c : Call) → (o ≡ check) ⊎ ((ending o s c).code ≡ 0)
unfolding ending
ends_ok validate s c = inr refl
ends_ok grant s c = inr refl
ends_ok release s c = inr refl
ends_ok check s c = inl refl
ends_ok exit s c = inr refl
ends_ok (sup create) s c = inr refl
ends_ok (sup delete) s c = inr refl
ends_ok (sup revoke) s c = inr refl
ends_ok (sup init) s c = inr refl
ends_ok (sup uninit) s c = inr refl
ends_ok (sup recycle) s c = inr refl
ends_ok (sup publish) s c = inr refl
ends_ok (sup new_thread) s c = inr refl
ends_ok (sup end) s c = inr refl
ends_ok (sup inherit) s c = inr refl
ends_ok (sup assign) s c = inr refl
ends_ok (sup add) s c = inr refl
ends_ok (sup remove) s c = inr refl
ends_ok unknown s c = inr refl

module _ (s : State) (c : Call) where
  -- the first test that holds is the answer, with value 0
  pub refused_when : (i : ℕ) → FirstAt (order s c) i → judge s c ≡ refused (test_at (order s c) i).1
  refused_when i f = judge_order s c ∙ refuses (order s c) (ending (op_of c.op) s c) i f

  -- none holds: the ending is the answer
  pub ended_when : None (order s c) → judge s c ≡ ending (op_of c.op) s c
  ended_when f = judge_order s c ∙ lets (order s c) (ending (op_of c.op) s c) f

  -- OK exactly when none holds and the walk, if it comes to one, reaches its end
  pub ok_none : ((judge s c).code ≡ 0) ↔ (None (order s c) × ((ending (op_of c.op) s c).code ≡ 0))
  ok_none = rw (judge_order s c) (ok_exactly (order s c) (ending (op_of c.op) s c) (order_codes s c))

  -- each refusal exactly when it is the first of the order that holds
  pub refused_exactly : op_of c.op ≢ check → (n : Code) → 0 < number_of n → ((judge s c).code ≡ number_of n) ↔ By (order s c) n
  refused_exactly o n z =
      rw (judge_order s c)
      (code_exactly (order s c) (ending (op_of c.op) s c) (order_codes s c) n z (⊎_elim (λ e. absurd (o e)) (λ e. e) (ends_ok (op_of c.op) s c)))

-- ---- the memory check's walk

-- the slots of the caller's domain; with domain 255 none
abbrev pub slots_of : State → Call → List MemPartition
slots_of s c = domain s (thread s c.caller).domain

-- no test holds, the caller is no supervisor, and the value is the least address that is not covered with the right
pub record Walked (s : State) (c : Call) : Type 0 where
  pub none : None (order s c)
  pub user : supervisor s c.caller ≡ false
  pub least : Least (slots_of s c) (eqb c.d 1) c.b c.c (judge s c).value

module _ (s : State) (c : Call) (o : op_of c.op ≡ check) where
  abbrev run : ℕ
  run = covered_run (slots_of s c) (eqb c.d 1) c.b c.c

  walk_is : None (order s c) → judge s c ≡ cond (supervisor s c.caller) done (reached c.b c.c run)
  unfolding ending
  walk_is f = ended_when s c f ∙ ap (λ x. ending x s c) o

  walk_short : None (order s c) → supervisor s c.caller ≡ false → run < c.c → judge s c ≡ record { code = number_of Eperm; value = c.b + run }
  unfolding reached
  walk_short f u h = walk_is f ∙ rw (u, lt-leb c.c run h)

  -- none holds and the answer is not OK
  pub walk_ends : (x y : Bool) → (judge s c).code ≢ 0 → None (order s c) → supervisor s c.caller ≡ x → leb c.c run ≡ y
      → ((judge s c).code ≡ number_of Eperm) × Walked s c
  unfolding reached
  walk_ends true y n f u e = let d : judge s c ≡ done = walk_is f ∙ rw u in absurd (n (ap (λ a. a.code) d))
  walk_ends false true n f u e = let d : judge s c ≡ done = walk_is f ∙ rw (u, e) in absurd (n (ap (λ a. a.code) d))
  walk_ends false false n f u e =
      let h = leb-false c.c run e in
      let d = walk_short f u h in
      (ap (λ a. a.code) d, record { none = f; user = u; least = rw (ap (λ a. a.value) d) (run_least (slots_of s c) (eqb c.d 1) c.b c.c h) })

  -- the walk's EPERM: some byte of the range is not covered
  pub check_eperm_when : None (order s c) → supervisor s c.caller ≡ false → (x : ℕ) → c.b ≤ x → x < c.b + c.c
      → is_covered (slots_of s c) (eqb c.d 1) x ≡ false → (judge s c).code ≡ number_of Eperm
  check_eperm_when f u x l h e = go (dec_lt run c.c)
    where
      go : Dec (run < c.c) → (judge s c).code ≡ number_of Eperm
      go (yes g) = ap (λ a. a.code) (walk_short f u g)
      go (no g) = absurd (true≢false (sym (run_all (slots_of s c) (eqb c.d 1) c.b c.c (omega arith) x l h) ∙ e))

  -- each refusal exactly when it is the first of the order that holds, value 0, or it is the walk's EPERM
  pub check_exactly : (n : Code) → 0 < number_of n → ((judge s c).code ≡ number_of n) ↔ (By (order s c) n ⊎ ((n ≡ Eperm) × Walked s c))
  check_exactly n z = (there (verdict (order s c)), ⊎_elim back walked)
    where
      there : Verdict (order s c) → (judge s c).code ≡ number_of n → By (order s c) n ⊎ ((n ≡ Eperm) × Walked s c)
      there (by i f) e = inl (record { test = i; first = f; code = same_name (test_at (order s c) i).1 n (ap (λ a. a.code) (sym (refused_when s c i f)) ∙ e) })
      there (none f) e =
          let w = walk_ends (supervisor s c.caller) (leb c.c run) (λ q. omega arith) f refl refl in
          inr (same_name n Eperm (sym e ∙ w.0), w.1)

      back : By (order s c) n → (judge s c).code ≡ number_of n
      back b = ap (λ a. a.code) (refused_when s c b.test b.first) ∙ ap number_of b.code

      walked : (n ≡ Eperm) × Walked s c → (judge s c).code ≡ number_of n
      walked p =
          let w = p.1 in
          check_eperm_when w.none w.user (judge s c).value w.least.start w.least.end w.least.bare ∙ ap number_of (sym p.0)

-- ---- values

walk_value : (x y : Bool) (v : ℕ) → (cond {A = Answer} x done (cond y done (record { code = 2; value = v }))).code ≡ 0
    → (cond {A = Answer} x done (cond y done (record { code = 2; value = v }))).value ≡ 0
walk_value true y v e = refl
walk_value false true v e = refl
walk_value false false v e = absurd (omega arith)

-- OK returns 0, but for add and remove
ending_value : (o : Op) (s : State) (c : Call) → o ≢ sup add → o ≢ sup remove → (ending o s c).code ≡ 0 → (ending o s c).value ≡ 0
unfolding ending reached
ending_value validate s c a r e = refl
ending_value grant s c a r e = refl
ending_value release s c a r e = refl
ending_value check s c a r e =
    walk_value (supervisor s c.caller) (leb c.c (covered_run (slots_of s c) (eqb c.d 1) c.b c.c)) (c.b + covered_run (slots_of s c) (eqb c.d 1) c.b c.c) e
ending_value exit s c a r e = refl
ending_value (sup create) s c a r e = refl
ending_value (sup delete) s c a r e = refl
ending_value (sup revoke) s c a r e = refl
ending_value (sup init) s c a r e = refl
ending_value (sup uninit) s c a r e = refl
ending_value (sup recycle) s c a r e = refl
ending_value (sup publish) s c a r e = refl
ending_value (sup new_thread) s c a r e = refl
ending_value (sup end) s c a r e = refl
ending_value (sup inherit) s c a r e = refl
ending_value (sup assign) s c a r e = refl
ending_value (sup add) s c a r e = absurd (a refl)
ending_value (sup remove) s c a r e = absurd (r refl)
ending_value unknown s c a r e = refl

module _ (s : State) (c : Call) (e : (judge s c).code ≡ 0) where
  ends : judge s c ≡ ending (op_of c.op) s c
  ends = ended_when s c ((ok_none s c).0 e).0

  pub ok_value : op_of c.op ≢ sup add → op_of c.op ≢ sup remove → (judge s c).value ≡ 0
  ok_value a r = ap (λ x. x.value) ends ∙ ending_value (op_of c.op) s c a r ((ok_none s c).0 e).1

  -- add returns the lowest free slot, remove the lowest match
  pub add_value : op_of c.op ≡ sup add → (judge s c).value ≡ lowest_free (domain s c.a)
  unfolding ending
  add_value o = ap (λ x. x.value) (ends ∙ ap (λ x. ending x s c) o)

  pub remove_value : op_of c.op ≡ sup remove → (judge s c).value ≡ lowest_window (domain s c.a) c.b c.c
  unfolding ending
  remove_value o = ap (λ x. x.value) (ends ∙ ap (λ x. ending x s c) o)

-- a refusal returns 0, unless it is the memory check's walk: no test holds, and the value is the least address that is not covered
pub refused_value : (s : State) (c : Call) → (judge s c).code ≢ 0
    → ((judge s c).value ≡ 0) ⊎ ((op_of c.op ≡ check) × ((judge s c).code ≡ number_of Eperm) × Walked s c)
refused_value s c n = go (verdict (order s c))
  where
    ended : None (order s c) → (op_of c.op ≡ check) ⊎ ((ending (op_of c.op) s c).code ≡ 0)
        → ((judge s c).value ≡ 0) ⊎ ((op_of c.op ≡ check) × ((judge s c).code ≡ number_of Eperm) × Walked s c)
    ended f (inl o) = let w = walk_ends s c o (supervisor s c.caller) (leb c.c (run s c o)) n f refl refl in inr (o, w.0, w.1)
    ended f (inr z) = absurd (n (ap (λ a. a.code) (ended_when s c f) ∙ z))

    go : Verdict (order s c) → ((judge s c).value ≡ 0) ⊎ ((op_of c.op ≡ check) × ((judge s c).code ≡ number_of Eperm) × Walked s c)
    go (by i f) = inl (ap (λ a. a.value) (refused_when s c i f))
    go (none f) = ended f (ends_ok (op_of c.op) s c)

-- so where a test refuses it the memory check too returns 0: no such thread, a dead one, a bad range
bad_range : (w : Bool) (s : State) (c : Call) → (eqb c.c 0 || ltb 4294967295 (c.b + c.c)) ≡ true → (not w ⇒ Einval ⨾ rule check s c) ≡ refused Einval
unfolding rule memory_rule ◌⇒◌⨾◌
bad_range true s c e = rw e
bad_range false s c e = refl

module _ (s : State) (c : Call) where
  pub outside_refused : THREADS ≤ c.caller → judge s c ≡ refused Einval
  unfolding judge
  outside_refused h = stop _ _ _ (le-leb THREADS c.caller h)

  module _ (b : c.caller < THREADS) where
    pub dead_refused : live s c.caller ≡ false → judge s c ≡ refused Eperm
    unfolding judge
    dead_refused d = pass _ _ _ (lt-leb THREADS c.caller b) ∙ stop _ _ _ (rw d)

    pub range_refused : live s c.caller ≡ true → op_of c.op ≡ check → (eqb c.c 0 || ltb 4294967295 (c.b + c.c)) ≡ true → judge s c ≡ refused Einval
    unfolding judge judge_op is_unknown is_privileged use_of with_handle ◌⇒◌⨾◌
    range_refused l o e = rw (lt-leb THREADS c.caller b, l, o) (bad_range (well_formed check c) s c e)

-- ---- which answers there are at all

ending_given : (o : Op) (s : State) (c : Call) → one_of (Ok ∷ refusals) (ending o s c).code ≡ true
unfolding ending reached one_of
ending_given validate s c = refl
ending_given grant s c = refl
ending_given release s c = refl
ending_given check s c =
    either (λ (a : Answer). a.code) (Ok ∷ refusals) (supervisor s c.caller) _ _ refl
    (either (λ (a : Answer). a.code) (Ok ∷ refusals) (leb c.c (covered_run (slots_of s c) (eqb c.d 1) c.b c.c)) _ _ refl refl)
ending_given exit s c = refl
ending_given (sup create) s c = refl
ending_given (sup delete) s c = refl
ending_given (sup revoke) s c = refl
ending_given (sup init) s c = refl
ending_given (sup uninit) s c = refl
ending_given (sup recycle) s c = refl
ending_given (sup publish) s c = refl
ending_given (sup new_thread) s c = refl
ending_given (sup end) s c = refl
ending_given (sup inherit) s c = refl
ending_given (sup assign) s c = refl
ending_given (sup add) s c = refl
ending_given (sup remove) s c = refl
ending_given unknown s c = refl

behind_ok : (n : ℕ) → one_of refusals n ≡ true → one_of (Ok ∷ refusals) n ≡ true
unfolding one_of
behind_ok n e = rw e (or_true (eqb n 0))
  where
    or_true : (a : Bool) → (a || true) ≡ true
    or_true true = refl
    or_true false = refl

-- a call of sixteen bytes: OK or one of the six
pub judge_given : (s : State) (c : Call) → one_of (Ok ∷ refusals) (judge s c).code ≡ true
judge_given s c = go (verdict (order s c))
  where
    go : Verdict (order s c) → one_of (Ok ∷ refusals) (judge s c).code ≡ true
    go (by i f) = rw (ap (λ a. a.code) (refused_when s c i f)) (behind_ok (number_of (test_at (order s c) i).1) (refusal_at (order s c) i (order_codes s c) f.holds))
    go (none f) = rw (ap (λ a. a.code) (ended_when s c f)) (ending_given (op_of c.op) s c)

-- any bytes: those, or SHORT
pub heard_given : (s : State) (bs : List ℕ) → one_of (Ok ∷ refusals ++ (Short ∷ [])) (heard s bs).code ≡ true
unfolding heard ◌⇒◌⨾◌ one_of
heard_given s bs =
    either (λ (a : Answer). a.code) (Ok ∷ refusals ++ (Short ∷ [])) (ltb (length bs) 16) _ _ refl
    (either (λ (a : Answer). a.code) (Ok ∷ refusals ++ (Short ∷ [])) (ltb 16 (length bs)) _ _ refl
    (one_of_more (Ok ∷ refusals) (Short ∷ []) (judge s (call_of bs)).code (judge_given s (call_of bs))))

-- ---- bytes as they come

module _ (s : State) (bs : List ℕ) where
  -- fewer than sixteen SHORT, more EINVAL, sixteen the call that they are
  pub heard_short : length bs < 16 → heard s bs ≡ refused Short
  unfolding heard
  heard_short h = stop _ _ _ (lt-ltb (length bs) 16 h)

  pub heard_long : 16 < length bs → heard s bs ≡ refused Einval
  unfolding heard
  heard_long h = pass _ _ _ (le-ltb (length bs) 16 (omega arith)) ∙ stop _ _ _ (lt-ltb 16 (length bs) h)

  pub heard_whole : length bs ≡ 16 → heard s bs ≡ judge s (call_of bs)
  unfolding heard
  heard_whole h = pass _ _ _ (le-ltb (length bs) 16 (omega arith)) ∙ pass _ _ _ (le-ltb 16 (length bs) (omega arith))

  -- other lengths change nothing; sixteen bytes change what the call does
  pub left_other : length bs ≢ 16 → left s bs ≡ s
  unfolding left
  left_other n = go (dec_lt (length bs) 16)
    where
      go : Dec (length bs < 16) → cond (eqb (heard s bs).code 0) (change (op_of (call_of bs).op) (call_of bs) s) s ≡ s
      go (yes h) = rw (heard_short h)
      go (no h) = rw (heard_long (omega arith))

  pub left_whole : length bs ≡ 16 → left s bs ≡ after s (call_of bs)
  unfolding left after
  left_whole h = rw (heard_whole h)
