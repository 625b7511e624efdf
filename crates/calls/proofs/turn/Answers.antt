use Rattle.calls.proofs.Laws.{told_at}
use Rattle.calls.proofs.turn.Goals as goal

pub returns : goal.returns
returns c = told_at _ _ c.args.k c.requires.1.0 c.decode-c.ensures c.step-a.ensures c.put_answer.ensures
