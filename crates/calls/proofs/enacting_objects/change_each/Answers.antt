use Rattle.std.proofs.Common.{refl, ap, ◌∙◌, arith}
use Rattle.tables.specs.Table.{object_at, put_object}
use Rattle.decoding.specs.Calls.{named}
use Rattle.applying.specs.Apply.{object_after}
use Rattle.applying.proofs.Ops.{each_none, each_more}
use Rattle.calls.proofs.enacting_objects.change_each.Goals as goal

pub loop-h-init : goal.loop-h-init
loop-h-init c = record { done = each_none _ _ _ _; same_length = refl }

pub loop-h-preserved : goal.loop-h-preserved
loop-h-preserved c =
    let h = c.loop-h.h in
    let f = object_after (named c.args.operation) c.args.c in
    record {
      done =
          c.change_object.ensures
          ∙ ap (λ xs. put_object xs h (f (object_at xs h))) c.loop-h.invariant.done
          ∙ each_more object_at put_object c.args.objects.now f h;
      same_length = omega arith;
    }
