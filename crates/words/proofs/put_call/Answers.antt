use Rattle.std.proofs.Common.{rules}
use Rattle.words.specs.Words.{widest_call}
use Rattle.words.specs.Laws.{was_put, nothing_put}
use Rattle.words.proofs.Pieces.{granted, refused}
use Rattle.words.proofs.put_call.Goals as goal

pub returns-then-not-has_room : goal.returns-then-not-has_room
returns-then-not-has_room c = nothing_put widest_call _ (refused _ _ c.has_room.ensures c.if-not-has_room.true)

pub returns : goal.returns
returns c =
    let room = granted _ _ c.has_room.ensures c.if-not-has_room.false in
    let put = c.spell_call.ensures.piece room in
    was_put widest_call room (search rules)
