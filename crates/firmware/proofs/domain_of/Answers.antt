use Rattle.firmware.proofs.Lent.{lent_whole, lent_other}
use Rattle.firmware.proofs.domain_of.Goals as goal

pub returns-then-words-eq-NUMBERS : goal.returns-then-words-eq-NUMBERS
returns-then-words-eq-NUMBERS c = lent_whole _ _ c.if-words-eq-NUMBERS.true c.load_domain.ensures

pub returns-else-words-eq-NUMBERS : goal.returns-else-words-eq-NUMBERS
returns-else-words-eq-NUMBERS c = lent_other _ c.if-words-eq-NUMBERS.false
