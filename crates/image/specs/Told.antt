-- The reader's `Result` as what the specification speaks of: the part that it hands back, empty on a refusal.
use Rattle.std.specs.Prelude.{ℕ, List, [], Result, Ok, Err}
use denote.Ref.{Bor}
use Rattle.answer.specs.declared.Code.{Code}

abbrev pub part_of : Result (Bor (List ℕ)) Code → List ℕ
part_of (Ok p) = p.now
part_of (Err c) = []

-- what is seen of it: the bytes, or the code
abbrev pub seen : Result (Bor (List ℕ)) Code → Result (List ℕ) Code
seen (Ok p) = Ok p.now
seen (Err c) = Err c
