use Rattle.std.proofs.Common.{ℕ, List, ◌≡◌, ◌+◌, ◌*◌, refl, sym, ◌∙◌, arith}
use Rattle.answer.specs.Stores.{cat}
use Rattle.image_write.specs.Encode.{slot_bytes, domain_bytes}
use Rattle.image_write.proofs.Bytes.{cat_turn, cat_length, sets_all}
use Rattle.image_write.proofs.Turns.{slot_length}
use Rattle.image_write.proofs.put_domain.Goals as goal

pub loop-k-init : goal.loop-k-init
unfolding cat
loop-k-init c = refl

pub loop-k-preserved : goal.loop-k-preserved
loop-k-preserved c =
    let k = c.loop-k.k in
    let ss = c.args.slots.now in
    let e : 0 + 4 * k ≡ 4 * k = omega arith in
    c.put.ensures ∙ rw (c.from.ensures, c.loop-k.invariant) (rw e at (cat_turn (slot_bytes ss) 4 (slot_length ss) c.args.rec.now 0 k))

pub returns : goal.returns
unfolding domain_bytes
returns c =
    let f : ℕ → List ℕ = slot_bytes c.args.slots.now in
    let z : c.loop-k.k ≡ 48 = omega arith in
    rw z at c.loop-k.invariant ∙ sets_all (cat f 48) c.args.rec.now (cat_length f 4 48 (slot_length c.args.slots.now) ∙ sym c.requires.0)
