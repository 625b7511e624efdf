use Rattle.std.proofs.Common.{rules}
use Rattle.words.specs.Words.{widest_answer}
use Rattle.words.specs.Laws.{was_put, nothing_put}
use Rattle.words.proofs.Pieces.{granted, refused}
use Rattle.words.proofs.put_answer.Goals as goal

pub returns-then-not-has_room : goal.returns-then-not-has_room
returns-then-not-has_room c = nothing_put widest_answer _ (refused _ _ c.has_room.ensures c.if-not-has_room.true)

pub returns : goal.returns
returns c =
    let room = granted _ _ c.has_room.ensures c.if-not-has_room.false in
    let put = c.spell_answer.ensures.piece room in
    was_put widest_answer room (search rules)
