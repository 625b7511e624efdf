use Rattle.firmware.proofs.Lent.{change_other, change_ok, change_refused}
use Rattle.firmware.proofs.settle.Goals as goal

pub returns-then-domain-ne-NUMBERS : goal.returns-then-domain-ne-NUMBERS
returns-then-domain-ne-NUMBERS c = change_other _ _ _ c.if-domain-ne-NUMBERS.true

pub returns-then-told-eq-OK : goal.returns-then-told-eq-OK
returns-then-told-eq-OK c = change_ok _ _ _ c.if-domain-ne-NUMBERS.false _ c.from-told.ensures _ c.if-told-eq-OK.true c.store_domain.ensures

pub returns-else-told-eq-OK : goal.returns-else-told-eq-OK
returns-else-told-eq-OK c = change_refused _ _ _ c.if-domain-ne-NUMBERS.false _ c.from-told.ensures c.if-told-eq-OK.false
