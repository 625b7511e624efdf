-- r is the number of the bytes from k on
use Rattle.std.proofs.Common.{◌≡◌, ◌+◌, ◌-◌, ◌^◌, ◌<◌}
use Rattle.image_write.specs.Bytes.{le}
use Rattle.image.proofs.get.Given as goal

abbrev pub invariant-loop-k : goal.invariant-loop-k
invariant-loop-k l = record { number : l.r ≡ le (l.n - l.k) l.s (l.at + l.k); small : l.r < 256 ^ (l.n - l.k) }
