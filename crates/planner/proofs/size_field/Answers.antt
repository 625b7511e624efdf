use Rattle.std.proofs.Common.{sym, arith}
use Rattle.planner.proofs.Bits.{field_not_one, field_one}
use Rattle.planner.proofs.size_field.Goals as goal
use Rattle.planner.proofs.size_field.Goals.{else-size-eq1-via-then-size-eq1+else-zeros-ne0, else-size-eq1-via-else-size-eq1}

pub returns-then-zeros-ne0 : goal.returns-then-zeros-ne0
returns-then-zeros-ne0 c = sym (field_one _ c.ranges.size.fits c.if-size-eq1.true)

pub returns-else-size-eq1 : goal.returns-else-size-eq1
returns-else-size-eq1 c =
    elim c.else-size-eq1.branch [
      | else-size-eq1-via-then-size-eq1+else-zeros-ne0 w ↦ let e = field_one _ c.ranges.size.fits w.if-size-eq1.true in omega arith
      | else-size-eq1-via-else-size-eq1 w ↦ sym (field_not_one _ w.if-size-eq1.false)
    ]
