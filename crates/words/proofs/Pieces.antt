-- What the functions that put words cite: a word where one is chosen, a mode with a sign, room.
use Rattle.std.proofs.lemmas.List.{length-map}
use Rattle.std.proofs.Common.{◌≡◌, Bor, ℕ, ◌+◌, ◌-◌, ◌%◌, ◌^◌, ◌<◌, ◌≤◌, Bool, true, false, leb, List, ◌++◌, length, sym, refl, ◌∙◌, arith, le-ltb, lt-ltb, leb-false, leb-true}
use Rattle.lines.specs.declared.Pen.{Pen}
use Rattle.lines.specs.Pens.{Writes, known_as, loosely}
use Rattle.text.specs.Text.{ascii, decimal}
use Rattle.words.specs.Words.{nth, texts, field, named, operation_names, mode_names, unknown, rank, operation, mode_number, mode}

-- a word of its own length, where at most so many bytes are asked
pub word : {a b : Pen} {xs ys : List ℕ} (m : ℕ) → length xs ≤ m → xs ≡ ys → Writes a b (length xs) xs → Writes a b m ys
word m h e p = known_as e (loosely m h p)

-- ---- an operation

module _ (op : ℕ) {k : ℕ} (e : k ≡ rank op) where
  pub has_name : k < 18 → nth k operation_names ≡ operation op
  unfolding operation
  has_name h = rw (← e, lt-ltb k 18 h) refl

  pub has_none : 18 ≤ k → unknown op ≡ operation op
  unfolding operation
  has_none h = rw (← e, le-ltb k 18 h) refl

-- ---- a mode

module _ (n : ℕ) {k : ℕ} (e : k ≡ (n + 1) % 2 ^ 32) where
  pub mode_named : k < 3 → ascii ", " ++ nth k mode_names ≡ mode n
  unfolding mode
  mode_named h = rw (← e, lt-ltb k 3 h) refl

  pub mode_numbered : 3 ≤ k → mode_number n ≡ mode n
  unfolding mode
  mode_numbered h = rw (← e, le-ltb k 3 h) refl

-- the upper half of the modes, counted down from 2^32
pub below_zero : (n : ℕ) → 2147483648 ≤ n → n ≤ 4294967295 → ascii ", mode -" ++ decimal (4294967295 - n + 1) ≡ mode_number n
unfolding mode_number
below_zero n h g =
    let e : 4294967295 - n + 1 ≡ 4294967296 - n = omega arith in
    rw (e, le-ltb n 2147483648 h) refl

-- ---- room, as `has_room` says it

pub granted : {r : Bool} (m n : ℕ) → r ≡ leb m n → r ≡ true → m ≤ n
granted {r} m n e t = leb-true m n (sym e ∙ t)

pub refused : {r : Bool} (m n : ℕ) → r ≡ leb m n → r ≡ false → n < m
refused {r} m n e t = leb-false m n (sym e ∙ t)

-- ---- one of some names, or the number

module _ (front : List ℕ) (names : List (Bor (List ℕ))) (name : List ℕ) (n : ℕ) where
  pub is_named : n < length names → front ++ nth n (texts names) ≡ named front (texts names) name n
  unfolding named
  is_named h = rw (length-map names (λ (x : Bor (List ℕ)). x.now), lt-ltb n (length names) h) refl

  pub is_numbered : length names ≤ n → field name n ≡ named front (texts names) name n
  unfolding named
  is_numbered h = rw (length-map names (λ (x : Bor (List ℕ)). x.now), le-ltb n (length names) h) refl
