use Rattle.image_write.proofs.Turns.{header_put}
use Rattle.image_write.proofs.put_header.Goals as goal

pub returns : goal.returns
returns c = let a = c.args in
    header_put a.out.now a.m a.n c.put_magic.ensures c.put.ensures c.put-2.ensures c.put-3.ensures c.put-4.ensures
