use Rattle.image_write.proofs.Turns.{threads_length, encode_put}
use mathlib.Core.Path.{refl}
use Prim.Native.Nat.{◌+◌, ◌*◌}
use native.Mathlib.Omega.{arith}
use Rattle.image_write.proofs.put_image.Goals as goal

pub put_threads-requires : goal.put_threads-requires
put_threads-requires c = let h = threads_length c.args.threads.now 64 in omega arith

pub returns : goal.returns
returns c = let a = c.args in
    encode_put a.objects.now a.threads.now a.slots.now a.out.now a.m a.n (16 + 12 * a.m) (16 + 12 * a.m + 8 * a.n) c.requires.m_is c.requires.n_is refl refl
    c.put_header.ensures c.put_objects.ensures c.put_threads.ensures c.put_domains.ensures
