-- What words that were put where they have room make of a pen.
use Rattle.std.proofs.Common.{◌≡◌, ℕ, ◌≤◌, List, length, refl}
use Rattle.lines.specs.declared.Pen.{Pen}
use Rattle.lines.specs.Pens.{Writes}
use Rattle.words.specs.Placed.{Placed}
use Rattle.words.specs.Laws.{fits}

pub placed : {pen : Pen} {xs after : List ℕ} {r : ℕ} (widest : ℕ) → length xs ≤ widest → Placed widest pen.text.now pen.at xs r after
    → length after ≡ length pen.text.now → Writes pen (record { text = record pen.text { now = after }; at = r }) widest xs
placed widest m p e = record { same = refl; kept = e; piece = λ room. fits widest m room p }
