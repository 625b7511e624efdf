use Rattle.std.proofs.Common.{◌≡◌, ◌+◌, ◌*◌, refl, arith}
use Rattle.answer.specs.Stores.{cat}
use Rattle.image_write.specs.Encode.{domains_bytes}
use Rattle.image_write.proofs.Bytes.{part_length}
use Rattle.image_write.proofs.Turns.{domains_put}
use Rattle.image_write.proofs.put_domains.Goals as goal

pub loop-d-init : goal.loop-d-init
unfolding cat
loop-d-init c = refl

pub put_domain-requires : goal.put_domain-requires
put_domain-requires c =
    let l = c.loop-d in
    let a = c.args in
    (part_length l.out (a.at + 192 * l.d) 192 (omega arith), part_length a.slots.now (48 * l.d) 48 (omega arith))

pub loop-d-preserved : goal.loop-d-preserved
loop-d-preserved c = domains_put c.args.slots.now c.args.at c.loop-d.d c.args.out.now c.loop-d.out c.put_domain.new.rec (omega arith) c.loop-d.invariant c.put_domain.ensures

pub returns : goal.returns
unfolding domains_bytes
returns c = let z : c.loop-d.d ≡ 8 = omega arith in rw z at c.loop-d.invariant
