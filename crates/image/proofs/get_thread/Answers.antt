use Rattle.image.proofs.Turns.{enter_in, enter_out}
use Rattle.image.proofs.get_thread.Goals as goal

pub returns-then-id-lt-ALL_THREADS : goal.returns-then-id-lt-ALL_THREADS
returns-then-id-lt-ALL_THREADS c =
    enter_in c.args.image.now c.args.from c.args.threads.now _ _ _ _ c.get-id.ensures.0 c.get.ensures.0 c.get-domain.ensures.0 c.get-handle.ensures.0 c.if-id-lt-ALL_THREADS.true

pub returns-else-id-lt-ALL_THREADS : goal.returns-else-id-lt-ALL_THREADS
returns-else-id-lt-ALL_THREADS c = enter_out c.args.image.now c.args.from c.args.threads.now _ c.get-id.ensures.0 c.if-id-lt-ALL_THREADS.false
