use Rattle.std.proofs.Common.{◌≡◌, length}
use Rattle.tables.specs.Table.{object_at, put_object}
use Rattle.decoding.specs.Calls.{named}
use Rattle.applying.specs.Apply.{object_after, each_to}
use Rattle.calls.proofs.enacting_objects.change_each.Given as goal

abbrev pub invariant-loop-h : goal.invariant-loop-h
invariant-loop-h l = record {
  done : l.objects ≡ each_to object_at put_object (object_after (named l.operation) l.c) l.initial.objects l.h;
  same_length : length l.objects ≡ length l.initial.objects;
}
