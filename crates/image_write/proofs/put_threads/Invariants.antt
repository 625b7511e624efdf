use Rattle.std.proofs.Common.{◌≡◌, ◌+◌, length}
use Rattle.std.proofs.lemmas.List.Edits.{sets}
use Rattle.answer.specs.Stores.{cat}
use Rattle.image_write.specs.Encode.{thread_bytes}
use Rattle.image_write.proofs.put_threads.Given as goal

abbrev pub invariant-loop-t : goal.invariant-loop-t
invariant-loop-t l = record { place : l.to ≡ l.at + length (cat (thread_bytes l.threads) l.t); stored : l.out ≡ sets l.initial.out l.at (cat (thread_bytes l.threads) l.t) }
