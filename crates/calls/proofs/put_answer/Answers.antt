use mathlib.Core.Path.{refl}
use Rattle.calls.specs.Calls.{put_answer}
use Rattle.calls.proofs.put_answer.Goals as goal

pub returns : goal.returns
unfolding put_answer
returns c = refl
