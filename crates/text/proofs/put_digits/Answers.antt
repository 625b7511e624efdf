use Rattle.std.proofs.Common.{sym, ◌∙◌}
use Rattle.text.proofs.Laws.{digits_in_length, no_room, has_put}
use Rattle.text.proofs.put_digits.Goals as goal

pub returns-then-not-has_room : goal.returns-then-not-has_room
returns-then-not-has_room g c = no_room (digits_in_length _ _ _) (sym c.has_room.ensures ∙ c.if-not-has_room.true)

pub returns : goal.returns
returns g c = has_put (digits_in_length _ _ _) (sym c.has_room.ensures ∙ c.if-not-has_room.false) c.spell.ensures
