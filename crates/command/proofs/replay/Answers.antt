use Rattle.std.proofs.Common.{rules}
use Rattle.image_laws.proofs.Promises.{read_keeps}
use Rattle.command.proofs.replay.Goals as goal

pub answer_all-requires-clause-sound : goal.answer_all-requires-clause-sound
answer_all-requires-clause-sound c = let kept = read_keeps c.read.ensures.read in search rules

pub answer_all-requires-in-Words-clause-sound : goal.answer_all-requires-in-Words-clause-sound
answer_all-requires-in-Words-clause-sound c = let kept = read_keeps c.read.ensures.read in search rules
