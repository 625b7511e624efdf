-- For the theorems: which answers a function gives at all (docs/SPEC.md, 1.9 to 1.12).
use Rattle.std.specs.Prelude.{ℕ, ◌≡◌, Bool, true, false, cond, ◌||◌, List, [], ◌∷◌, ◌++◌, eqb}
use Rattle.std.proofs.lemmas.Bool.{false≢true}
use Rattle.answer.specs.declared.Code.{Code}
use Rattle.answer.specs.Answer.{number_of}

-- a number is that of one of these names
unfoldable pub one_of : List Code → ℕ → Bool
one_of [] n = false
one_of (c ∷ l) n = eqb n (number_of c) || one_of l n

-- ---- laws

-- of two answers either
pub either : {A : Type 0} (code : A → ℕ) (l : List Code) (b : Bool) (x y : A) → one_of l (code x) ≡ true → one_of l (code y) ≡ true
    → one_of l (code (cond b x y)) ≡ true
either code l true x y p q = p
either code l false x y p q = q

or_left : (a b c : Bool) → (a || b) ≡ true → (b ≡ true → c ≡ true) → (a || c) ≡ true
or_left true b c p f = p
or_left false b c p f = f p

-- further names take none away
pub one_of_more : (l m : List Code) (n : ℕ) → one_of l n ≡ true → one_of (l ++ m) n ≡ true
unfolding one_of
one_of_more [] m n e = absurd (false≢true e)
one_of_more (c ∷ l) m n e = or_left (eqb n (number_of c)) (one_of l n) (one_of (l ++ m) n) e (one_of_more l m n)
