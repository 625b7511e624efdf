-- What a number of the table, told of a `Result`, needs to name that `Result` alone.
use Rattle.std.specs.Prelude.{◌≡◌, Result, Ok, Err}
use Rattle.answer.specs.declared.Code.{Code}
use Rattle.answer.specs.Answer.{number_of}

-- a refusal is no OK: so a number names one `Result`
abbrev pub NamesRefusal : {A : Type 0} → Result A Code → Type 0
NamesRefusal (Ok x) = Unit {0}
NamesRefusal (Err c) = number_of c ≡ 0 → ⊥
