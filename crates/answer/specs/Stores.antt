-- Parts one behind the other, and runs of stores: what every function that fills a lent buffer cites, here and in the crates above.
use Rattle.std.specs.Prelude.{ℕ, zero, suc, ◌+◌, ◌≤◌, ◌≡◌, refl, List, [], ◌∷◌, ◌++◌, length, drop, set}
use Rattle.std.proofs.Common.{add-zero, zero-add, arith, ◌∙◌}
use Rattle.std.proofs.lemmas.List.Edits.{sets, sets-eq}

-- parts 0 .. n - 1 one behind the other
unfoldable pub cat : (ℕ → List ℕ) → ℕ → List ℕ
cat f zero = []
cat f (suc n) = cat f n ++ f n

pub sets_append : (a b l : List ℕ) (i : ℕ) → sets (sets l i a) (i + length a) b ≡ sets l i (a ++ b)
sets_append [] b l i = rw add-zero refl
sets_append (x ∷ a) b l i =
    let e : i + suc (length a) ≡ suc i + length a = omega arith in
    rw e (sets_append a b (set l i x) (suc i))

-- the same where the second place is written out
pub behind : (a b o : List ℕ) (i j : ℕ) {p q : List ℕ} → p ≡ sets o i a → q ≡ sets p j b → i + length a ≡ j → q ≡ sets o i (a ++ b)
behind a b o i j ep eq e = eq ∙ rw (ep, ← e) (sets_append a b o i)

-- stores from the front on
pub sets_front : (vs l : List ℕ) → length vs ≤ length l → sets l 0 vs ≡ vs ++ drop (length vs) l
sets_front vs l h = sets-eq vs l 0 (omega arith) ∙ rw zero-add refl
