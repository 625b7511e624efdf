use Rattle.std.proofs.Common.{◌≡◌, ◌∙◌}
use native.Mathlib.Nat.{add-sub_cancel_left}
use Rattle.image_write.specs.Bytes.{bytes}
use Rattle.image_write.proofs.Bytes.{bytes_length, part_home}
use Rattle.image_write.proofs.Counts.{low_bytes}
use Rattle.image_write.proofs.put.Goals as goal

pub returns : goal.returns
returns c =
    let a = c.args in
    let e : c.copy_from_slice.new.self ≡ bytes a.n a.v = c.copy_from_slice.ensures.after ∙ rw c.to_le_bytes.ensures (low_bytes a.v a.n c.requires.0) in
    rw (add-sub_cancel_left a.at a.n, e) (part_home a.out.now (bytes a.n a.v) a.at a.n (bytes_length a.n a.v) c.requires.1)
