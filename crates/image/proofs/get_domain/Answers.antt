use Rattle.std.proofs.Common.{ℕ, List, [], ◌∷◌, ◌≡◌, ◌*◌, set, refl, sym, ap, ◌∙◌, arith}
use Rattle.answer.specs.Stores.{cat}
use Rattle.image_write.specs.Bytes.{le}
use Rattle.image_write.proofs.Bytes.{cat_length, sets_all}
use Rattle.image.specs.Read.{domain_of}
use Rattle.image.proofs.Turns.{cat_turn_1}
use Rattle.image.proofs.get_domain.Goals as goal

pub loop-k-init : goal.loop-k-init
unfolding cat
loop-k-init c = refl

pub overflow_cast-slots : goal.overflow_cast-slots
overflow_cast-slots c = omega arith

pub loop-k-preserved : goal.loop-k-preserved
loop-k-preserved c =
    let l = c.loop-k in
    let a = c.args in
    let f : ℕ → List ℕ = λ j. le 4 a.rec.now (4 * j) ∷ [] in
    ap (λ (x : ℕ). set l.slots l.k x) c.get.ensures.0
    ∙ ap (λ (xs : List ℕ). set xs l.k (le 4 a.rec.now (4 * l.k))) l.invariant
    ∙ cat_turn_1 f (λ j. refl) a.slots.now l.k

pub returns : goal.returns
unfolding domain_of
returns c =
    let a = c.args in
    let f : ℕ → List ℕ = λ j. le 4 a.rec.now (4 * j) ∷ [] in
    let z : c.loop-k.k ≡ 48 = omega arith in
    rw z at c.loop-k.invariant ∙ sets_all (cat f 48) a.slots.now (cat_length f 1 48 (λ j. refl) ∙ sym c.requires.1)
