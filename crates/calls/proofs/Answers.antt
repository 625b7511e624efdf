-- Where the answers of a run stand: after n parts the buffer holds the answer to each of them, two numbers a part.
use Prim.Native.Nat.{ℕ, zero, suc, ◌+◌, ◌*◌, ◌≤◌, ◌<◌}
use native.Mathlib.Decide.{dec_lt}
use native.Mathlib.Omega.{arith}
use mathlib.Core.Path.{◌≡◌, refl, ◌∙◌}
use mathlib.Core.List.{List}
use lib.ListN.{length, set, get_or, length-set}
use lib.Seq.{get_or-set_same, get_or-set_other}
use Rattle.answer.specs.declared.Answer.{Answer}
use Rattle.tables.specs.State.{State}
use Rattle.judging.specs.Judge.{heard}
use Rattle.calls.specs.Calls.{part_at, put_answer, ran_to, answers_to}
use Rattle.calls.proofs.Laws.{put_length}

-- the two numbers of an answer in their place
pub record At (out : List ℕ) (k : ℕ) (a : Answer) : Type 0 where
  pub code : get_or out (2 * k) 0 ≡ a.code
  pub value : get_or out (2 * k + 1) 0 ≡ a.value

pub answers_length : (s : State) (log out : List ℕ) (n : ℕ) → length (answers_to s log out n) ≡ length out
unfolding answers_to
answers_length s log out zero = refl
answers_length s log out (suc n) = put_length (answers_to s log out n) n _ ∙ answers_length s log out n

put_here : (out : List ℕ) (k : ℕ) (a : Answer) → 2 * k + 1 < length out → At (put_answer out k a) k a
unfolding put_answer
put_here out k a h =
    let m : length (set out (2 * k) a.code) ≡ length out = length-set out (2 * k) a.code in
    record {
      code = get_or-set_other (set out (2 * k) a.code) (2 * k + 1) (2 * k) a.value 0 (λ e. omega arith) ∙ get_or-set_same out (2 * k) a.code 0 (omega arith);
      value = get_or-set_same (set out (2 * k) a.code) (2 * k + 1) a.value 0 (omega (arith, m));
    }

put_there : (out : List ℕ) (k j : ℕ) (a b : Answer) → j < k → At out j b → At (put_answer out k a) j b
unfolding put_answer
put_there out k j a b h p =
    let o : List ℕ = set out (2 * k) a.code in
    record {
      code = get_or-set_other o (2 * k + 1) (2 * j) a.value 0 (λ e. omega arith) ∙ get_or-set_other out (2 * k) (2 * j) a.code 0 (λ e. omega arith) ∙ p.code;
      value = get_or-set_other o (2 * k + 1) (2 * j + 1) a.value 0 (λ e. omega arith) ∙ get_or-set_other out (2 * k) (2 * j + 1) a.code 0 (λ e. omega arith) ∙ p.value;
    }

pub holds : (s : State) (log out : List ℕ) (n k : ℕ) → 2 * n ≤ length out → k < n → At (answers_to s log out n) k (heard (ran_to s log k) (part_at log k))
unfolding answers_to
holds s log out zero k h l = absurd (omega arith)
holds s log out (suc n) k h l =
    let m = answers_length s log out n in
    elim (dec_lt k n) [
      | yes b ↦ put_there (answers_to s log out n) n k _ _ b (holds s log out n k (omega arith) b)
      | no b ↦ let e : k ≡ n = omega arith in rw e (put_here (answers_to s log out n) n _ (omega (arith, m)))
    ]
