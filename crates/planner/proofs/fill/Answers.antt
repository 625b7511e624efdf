use Prim.Native.Nat.{◌+◌, ◌*◌, ◌<◌}
use mathlib.Core.Path.{◌≡◌, refl, sym, ◌∙◌}
use mathlib.Core.List.{◌++◌}
use native.Mathlib.Omega.{arith}
use lib.ListN.{drop}
use Rattle.mem_domain.specs.Domain.{slot_at, active_to, active_count}
use Rattle.mem_domain.proofs.Scan.{count_none}
use Rattle.planner.specs.Planner.{words_to, put_slot, plan_of}
use Rattle.planner.proofs.Filled.{active_step, active_le, room, none, fill_more, fits_at}
use Rattle.planner.proofs.fill.Goals as goal

pub loop-p-init : goal.loop-p-init
loop-p-init c = record { next = sym (count_none _); words = none _ _; same_length = refl }

pub fill_slot-m-requires : goal.fill_slot-m-requires
fill_slot-m-requires c =
    let g = c.loop-p in
    let k = g.p-index in
    let l = c.args.domain.partitions in
    let h : k < 16 = omega arith in
    let i : g.m ≡ active_to l k = g.invariant.next in
    let j = active_le l k in
    (omega arith, fits_at l k c.requires.0 h, λ a. rw (i, g.invariant.same_length) (room l k _ h c.requires.1 a))

pub loop-p-preserved : goal.loop-p-preserved
loop-p-preserved c =
    let g = c.loop-p in
    let k = g.p-index in
    let l = c.args.domain.partitions in
    let o = c.args.out.now in
    let f = c.fill_slot-m in
    let h : k < 16 = omega arith in
    let i : g.m ≡ active_to l k = g.invariant.next in
    let e : f.result ≡ active_to l (k + 1) = rw (active_step l k, ← i) f.ensures.0 in
    let w : put_slot (slot_at l k) g.m g.out ≡ words_to l (k + 1) ++ drop (active_to l (k + 1) * 2) o =
    rw (g.invariant.words, i) (fill_more l o k (room l k _ h c.requires.1)) in
    record { next = e; words = f.ensures.1 ∙ w; same_length = f.auto.out ∙ g.invariant.same_length }

pub shape_of-out : goal.shape_of-out
shape_of-out c = c.loop-p.invariant.same_length

pub returns : goal.returns
unfolding plan_of active_count
returns c = let e : c.loop-p.p-index ≡ 16 = omega arith in rw (← e) c.loop-p.invariant.words
