use Rattle.firmware.proofs.wardlatch_run.Goals as goal

pub returns-in-Ok : goal.returns-in-Ok
returns-in-Ok c = c.in-Ok.ensures.run

pub returns-in-Err : goal.returns-in-Err
returns-in-Err c = rw c.number.ensures c.in-Err.ensures.run
