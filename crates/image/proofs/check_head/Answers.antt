use mathlib.Core.Path.{sym}
use native.Mathlib.Omega.{arith}
use lib.Seq.{length-take-le}
use Rattle.answer.specs.Tests.{via}
use Rattle.image.proofs.Answers.{too_short, not_magic, bad_fields, cut_off, good_head}
use Rattle.image.proofs.check_head.Goals as goal

pub returns-then-image-lt-HEADER : goal.returns-then-image-lt-HEADER
returns-then-image-lt-HEADER c = record { head = too_short _ c.if-image-lt-HEADER.true; named = λ e. omega arith }

pub slice_bounds-is_magic-end : goal.slice_bounds-is_magic-end
slice_bounds-is_magic-end c = sym (length-take-le 8 c.args.image.now (omega arith))

pub returns-then-not-is_magic : goal.returns-then-not-is_magic
returns-then-not-is_magic c = record { head = not_magic _ c.if-image-lt-HEADER.false (via c.is_magic.ensures c.if-not-is_magic.true); named = λ e. omega arith }

pub returns-then-not-fields_ok : goal.returns-then-not-fields_ok
returns-then-not-fields_ok c = record { head = bad_fields _ c.if-image-lt-HEADER.false (via c.is_magic.ensures c.if-not-is_magic.false) c.get-m.ensures.0 c.get-n.ensures.0 c.get-d.ensures.0 c.get-t.ensures.0 (via c.fields_ok.ensures c.if-not-fields_ok.true); named = λ e. omega arith }

pub returns-then-image-t : goal.returns-then-image-t
returns-then-image-t c = record { head = cut_off _ c.if-image-lt-HEADER.false (via c.is_magic.ensures c.if-not-is_magic.false) c.get-m.ensures.0 c.get-n.ensures.0 c.get-d.ensures.0 c.get-t.ensures.0 (via c.fields_ok.ensures c.if-not-fields_ok.false) c.if-image-t.true; named = λ e. omega arith }

pub returns : goal.returns
returns c = record { head = good_head _ c.if-image-lt-HEADER.false (via c.is_magic.ensures c.if-not-is_magic.false) c.get-m.ensures.0 c.get-n.ensures.0 c.get-d.ensures.0 c.get-t.ensures.0 (via c.fields_ok.ensures c.if-not-fields_ok.false) c.if-image-t.false; named = tt }
