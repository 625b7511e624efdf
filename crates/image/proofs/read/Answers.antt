use Rattle.std.proofs.Common.{ℕ, ◌≤◌, sym, ap, ◌∙◌, length, drop, arith}
use Rattle.answer.specs.Tests.{via}
use Rattle.tables.specs.Laws.{sizes}
use Rattle.image.proofs.Turns.{part_rest}
use Rattle.image.proofs.Answers.{head_is, wrong_size, wrong_head, wrong_contents, right, passed_on}
use Rattle.image.proofs.read.Goals as goal

pub returns-then-not-is_sized-clause-read : goal.returns-then-not-is_sized-clause-read
returns-then-not-is_sized-clause-read c = wrong_size _ _ _ _ (via c.is_sized.ensures c.if-not-is_sized.true)

pub returns-in_err-check_head-clause-read : goal.returns-in_err-check_head-clause-read
returns-in_err-check_head-clause-read c =
    let e = passed_on c.from_residual.result c.in_err-check_head.field-0.0 c.from_residual.ensures.1 in
    rw (e.0, e.1) (wrong_head _ _ _ _ (via c.is_sized.ensures c.if-not-is_sized.false) _ c.in_err-check_head.ensures.head c.in_err-check_head.ensures.named)

pub is_image-requires : goal.is_image-requires
is_image-requires c = omega (arith, c.decode-end.ensures.place, (head_is c.args.image.now (sym c.in_ok-check_head.ensures.head)).whole)

pub returns-then-not-is_image-clause-read : goal.returns-then-not-is_image-clause-read
returns-then-not-is_image-clause-read c =
    let d = c.decode-end.ensures in
    wrong_contents _ _ _ _ (via c.is_sized.ensures c.if-not-is_sized.false) (sym c.in_ok-check_head.ensures.head)
    (rw (← d.place, ← d.objects, ← d.threads, ← d.slots) (via c.is_image.ensures c.if-not-is_image.true))

pub copy_from_slice-requires : goal.copy_from_slice-requires
copy_from_slice-requires c = (sizes _ _ _ (via c.is_sized.ensures c.if-not-is_sized.false)).0 ∙ sym c.decode-end.array_long

pub copy_from_slice-requires-2 : goal.copy_from_slice-requires-2
copy_from_slice-requires-2 c = (sizes _ _ _ (via c.is_sized.ensures c.if-not-is_sized.false)).1 ∙ sym c.decode-end.array_long2

pub copy_from_slice-requires-3 : goal.copy_from_slice-requires-3
copy_from_slice-requires-3 c = (sizes _ _ _ (via c.is_sized.ensures c.if-not-is_sized.false)).2 ∙ sym c.decode-end.array_long3

pub slice_bounds-result-count : goal.slice_bounds-result-count
slice_bounds-result-count c = omega (arith, c.decode-end.ensures.place, (head_is c.args.image.now (sym c.in_ok-check_head.ensures.head)).whole)

pub slice_bounds-result-start : goal.slice_bounds-result-start
slice_bounds-result-start c = let h : c.decode-end.result ≤ length c.args.image.now = omega (arith, c.decode-end.ensures.place, (head_is c.args.image.now (sym c.in_ok-check_head.ensures.head)).whole) in h

pub returns-clause-read : goal.returns-clause-read
returns-clause-read c =
    let d = c.decode-end.ensures in
    right _ _ _ _ (via c.is_sized.ensures c.if-not-is_sized.false) (sym c.in_ok-check_head.ensures.head)
    (rw (← d.place, ← d.objects, ← d.threads, ← d.slots) (via c.is_image.ensures c.if-not-is_image.false))
    (c.copy_from_slice.ensures.after ∙ d.objects) (c.copy_from_slice-2.ensures.after ∙ d.threads) (c.copy_from_slice-3.ensures.after ∙ d.slots)
    (part_rest c.args.image.now c.decode-end.result ∙ ap (λ (k : ℕ). drop k c.args.image.now) d.place)
