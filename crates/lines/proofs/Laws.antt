-- What a pen's writers cite; a short line; room for lines of a form.
use Rattle.std.proofs.Common.{◌≡◌, ℕ, ◌+◌, ◌*◌, ◌/◌, ◌%◌, ◌<◌, ◌≤◌, List, [], ◌∷◌, length, max, refl, lt-ltb, le-leb, arith}
use Rattle.std.proofs.Math.Decide.{dec_le}
use Rattle.std.proofs.lemmas.Bool.{lt-leb}
use native.Mathlib.Nat.{mul_comm, le-div_iff_mul-le, div-lt_iff_lt-mul}
use Rattle.text.specs.Text.{places, digits, decimal, put_count, Put}
use Rattle.lines.specs.declared.Pen.{Pen}
use Rattle.lines.specs.Lines.{line}
use Rattle.lines.specs.Steps.{piece}
use Rattle.lines.specs.Pens.{Writes}

module _ (pen : Pen) (xs after : List ℕ) {r : ℕ} (p : Put pen.text.now pen.at xs r after) where
  pub put_in_room : (most : ℕ) → length xs ≤ most → length after ≡ length pen.text.now → Writes pen (record { text = record pen.text { now = after }; at = pen.at + r }) most xs
  put_in_room most m e = record { same = refl; kept = e; piece = λ room. piece _ _ _ _ _ _ m room p }

-- a put ends within the buffer, or nothing was put
pub put_within : (t t' xs : List ℕ) (at r : ℕ) → Put t at xs r t' → at + r ≤ max at (length t)
unfolding put_count
put_within t t' xs at r p =
    elim (dec_le (at + length xs) (length t)) [
      | yes h ↦ rw (p.count, le-leb _ _ h) (omega arith)
      | no h ↦ rw (p.count, lt-leb (at + length xs) (length t) (omega arith)) (omega arith)
    ]

-- a digit by itself
one_digit : (n : ℕ) → n < 10 → decimal n ≡ (48 + n) ∷ []
unfolding decimal places digits
one_digit n h =
    let e : n % 10 ≡ n = omega arith in
    rw (lt-ltb n 10 h, e) refl

pub short_line : (code : ℕ) → code < 10 → (48 + code) ∷ 32 ∷ 48 ∷ 10 ∷ [] ≡ line code 0
unfolding line
short_line code h = rw (one_digit code h, one_digit 0 (omega arith)) refl

-- ---- room for n lines, each as long as the longest

pub room_for : {longest n room : ℕ} → 0 < longest → n ≤ room / longest → longest * n ≤ room
room_for {longest} {n} h g = rw (mul_comm longest n) ((le-div_iff_mul-le h).0 g)

pub no_room_for : {longest n room : ℕ} → 0 < longest → room / longest < n → room < longest * n
no_room_for {longest} {n} h g = rw (mul_comm longest n) ((div-lt_iff_lt-mul h).0 g)
