use Rattle.std.proofs.Common.{◌≡◌, ◌+◌, ◌≤◌, refl, sym, ◌∙◌, length, length-append, arith}
use Rattle.answer.specs.Stores.{behind, cat}
use Rattle.image_write.specs.Encode.{thread_bytes}
use Rattle.image_write.proofs.Bytes.{cat_room, cat_more}
use Rattle.image_write.proofs.put_threads.Goals as goal

pub loop-t-init : goal.loop-t-init
unfolding cat
loop-t-init c = record { place = omega arith; stored = refl }

pub put_thread-to-requires : goal.put_thread-to-requires
put_thread-to-requires c =
    let l = c.loop-t in
    let f = thread_bytes c.args.threads.now in
    let h : length (cat f l.t) + length (f l.t) ≤ length (cat f 64) = cat_room f l.t 64 (omega arith) in
    (omega arith, omega arith)

pub loop-t-preserved : goal.loop-t-preserved
loop-t-preserved c =
    let l = c.loop-t in
    let f = thread_bytes c.args.threads.now in
    let p = c.put_thread-to in
    record {
      place = p.ensures.1 ∙ rw (cat_more f l.t, length-append) (omega arith);
      stored = rw (cat_more f l.t) (behind (cat f l.t) (f l.t) c.args.out.now c.args.at l.to l.invariant.stored p.ensures.0 (sym l.invariant.place));
    }

pub returns : goal.returns
returns c = let z : c.loop-t.t ≡ 64 = omega arith in rw z at c.loop-t.invariant.stored
