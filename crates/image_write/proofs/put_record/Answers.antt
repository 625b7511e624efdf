use Rattle.image_write.proofs.Turns.{record_put}
use Rattle.image_write.proofs.put_record.Goals as goal

pub returns : goal.returns
returns c = let a = c.args in
    record_put a.at a.id a.supervisor a.domain a.handle a.out.now c.put.ensures c.put-2.ensures c.put-3.ensures c.put-4.ensures
