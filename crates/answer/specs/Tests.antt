-- What proofs of decisions share, here and in the crates above.
use Rattle.std.specs.Prelude.{ℕ, ◌<◌, ◌≡◌, refl, Bool, true, false, ◌&&◌, eqb}
use Rattle.std.proofs.Common.{sym, ◌∙◌, le-ltb, lt-ltb, le-leb, eq-eqb, ne_eqb, arith}
use Rattle.std.proofs.lemmas.Bool.{false≢true, lt-leb}

-- a number below another is not it, on either side
pub gt_eqb : (m n : ℕ) → n < m → eqb m n ≡ false
gt_eqb m n h = ne_eqb m n (λ e. omega arith)

pub lt_eqb : (m n : ℕ) → m < n → eqb m n ≡ false
lt_eqb m n h = ne_eqb m n (λ e. omega arith)

-- both of two tests that hold together hold
pub both_true : (a b : Bool) → a && b ≡ true → (a ≡ true) × (b ≡ true)
both_true true b e = (refl, e)
both_true false b e = absurd (false≢true e)

-- for `search`: a test in a goal becomes true or false where omega decides it from what is known
pub ruleset tests = (lt-ltb, le-ltb, le-leb, lt-leb, eq-eqb, ne_eqb, gt_eqb, lt_eqb, arith)

-- what a callee's answer is by its contract, and what the branch says of that answer
pub via : {A : Type 0} {x y z : A} → x ≡ y → x ≡ z → y ≡ z
via p q = sym p ∙ q
