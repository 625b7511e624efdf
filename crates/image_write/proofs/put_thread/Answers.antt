use Rattle.std.proofs.Common.{◌≡◌, ◌*◌, refl, sym, ◌∙◌, get_or, add-zero, arith}
use Rattle.image_write.proofs.Turns.{thread_dead, thread_live, thread_length}
use Rattle.image_write.proofs.put_thread.Goals as goal

pub returns-then-role-eq0 : goal.returns-then-role-eq0
returns-then-role-eq0 c =
    let e = thread_dead c.args.threads.now c.args.t (sym c.from-role.ensures ∙ c.if-role-eq0.true) in
    (rw e refl, rw (e, add-zero) refl)

pub put_record-requires : goal.put_record-requires
put_record-requires c =
    let e = thread_length c.args.threads.now c.args.t (λ z. c.if-role-eq0.false (c.from-role.ensures ∙ z)) in
    omega arith

pub returns : goal.returns
returns c =
    let a = c.args in
    let h : get_or a.threads.now (3 * a.t) 0 ≡ 0 → ⊥ = λ z. c.if-role-eq0.false (c.from-role.ensures ∙ z) in (
      c.put_record.ensures ∙ rw (thread_live a.threads.now a.t h, ← c.from-role.ensures, ← c.from-domain.ensures, ← c.from-handle.ensures) refl,
      rw (thread_length a.threads.now a.t h) refl,
    )
