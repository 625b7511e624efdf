use Rattle.std.proofs.Common.{◌≡◌, ◌+◌, ◌*◌, refl, sym, ◌∙◌, arith}
use Rattle.answer.specs.Stores.{cat}
use Rattle.image_write.proofs.Bytes.{cat_length, sets_all, part_length}
use Rattle.image.specs.Read.{domain_in, domains_in}
use Rattle.image.proofs.Turns.{domain_length, domains_turn}
use Rattle.image.proofs.get_domains.Goals as goal

pub loop-d-init : goal.loop-d-init
unfolding cat
loop-d-init c = refl

pub get_domain-requires : goal.get_domain-requires
get_domain-requires c =
    let l = c.loop-d in
    (part_length c.args.image.now (c.args.at + 192 * l.d) 192 (omega arith), part_length l.slots (48 * l.d) 48 (omega arith))

pub loop-d-preserved : goal.loop-d-preserved
loop-d-preserved c = domains_turn c.args.image.now c.args.at c.loop-d.d c.args.slots.now c.loop-d.slots c.get_domain.new.slots (omega arith) c.loop-d.invariant c.get_domain.ensures

pub returns : goal.returns
unfolding domains_in
returns c =
    let f = domain_in c.args.image.now c.args.at in
    let z : c.loop-d.d ≡ 8 = omega arith in
    rw z at c.loop-d.invariant ∙ sets_all (cat f 8) c.args.slots.now (cat_length f 48 8 (λ k. domain_length _) ∙ sym (omega arith))
