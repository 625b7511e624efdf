use Rattle.std.proofs.Common.{◌≡◌, ◌+◌, ◌-◌, refl, add-zero, arith}
use native.Mathlib.Nat.{sub_self, sub-zero}
use Rattle.image_write.specs.Bytes.{value}
use Rattle.image.proofs.Turns.{get_turn, get_most, get_fits}
use Rattle.image.proofs.get.Goals as goal

pub loop-k-init : goal.loop-k-init
unfolding value
loop-k-init c = record { number = rw sub_self refl; small = rw sub_self (omega arith) }

pub overflow_mul-r : goal.overflow_mul-r
overflow_mul-r c =
    let l = c.loop-k in
    let h = get_fits c.args.n l.k l.r 0 (omega arith) (omega arith) (omega arith) l.invariant.small (omega arith) in
    omega arith

pub overflow_add-r : goal.overflow_add-r
overflow_add-r c =
    let l = c.loop-k in
    let h = get_fits c.args.n l.k l.r c.from.result (omega arith) (omega arith) (omega arith) l.invariant.small (omega (arith, c.type_inv.s (c.args.at + (c.loop-k.k - 1)))) in
    omega arith

pub loop-k-preserved : goal.loop-k-preserved
loop-k-preserved c =
    let l = c.loop-k in
    let a = c.args in
    record {
      number = get_turn a.s.now a.at a.n l.k l.r c.from.result (omega arith) (omega arith) (omega arith) l.invariant.number c.from.ensures;
      small = get_most a.n l.k l.r c.from.result (omega arith) (omega arith) l.invariant.small (omega (arith, c.type_inv.s (a.at + (l.k - 1))));
    }

pub returns : goal.returns
returns c =
    let l = c.loop-k in
    let z : l.k ≡ 0 = omega arith in
    (rw (z, sub-zero, add-zero) at l.invariant.number, rw (z, sub-zero) at l.invariant.small)
