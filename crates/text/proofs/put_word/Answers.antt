use Rattle.std.proofs.Common.{refl, sym, ◌∙◌, leb-true}
use Rattle.text.proofs.Laws.{no_room, has_put, part_set}
use Rattle.text.proofs.put_word.Goals as goal

pub returns-then-not-has_room : goal.returns-then-not-has_room
returns-then-not-has_room c = no_room refl (sym c.has_room.ensures ∙ c.if-not-has_room.true)

pub returns : goal.returns
returns c =
    let room = sym c.has_room.ensures ∙ c.if-not-has_room.false in
    has_put refl room (rw c.copy_from_slice.ensures.after (part_set _ _ _ (leb-true _ _ room)))
