-- What the loop over the input cites: a ready state and roomy buffers make every feeding Ok, and are so again behind it.
use Rattle.std.proofs.Common.{◌≡◌, ℕ, ◌+◌, ◌*◌, ◌/◌, ◌<◌, ◌≤◌, Bool, true, false, Result, Ok, IsOk, is_ok, List, [], ◌∷◌, length, take, drop, refl, sym, ap, ◌∙◌, arith, length-append, length-drop, length-take, length-take-le, le-ltb}
use borrow.Rule.Slice.PartMut.{mid_of, put_mid, same_len_mid}
use Rattle.answer.specs.declared.Code.{Code}
use Rattle.answer.specs.Stores.{cat}
use Rattle.lines.specs.Lines.{Lines, lines_answer, text_after}
use Rattle.tables.specs.State.{state_of}
use Rattle.rules.specs.Rules.{Sound}
use Rattle.rules.proofs.Rules.{sound_test}
use Rattle.calls.specs.Calls.{parts_in}
use Rattle.calls.proofs.Left.{ran_left}
use Rattle.replaying.specs.declared.Fed.{Fed}
use Rattle.replaying.specs.declared.Style.{Style}
use Rattle.replaying.specs.declared.Style.TheVariants.{Numbers, Words}
use Rattle.replaying.specs.Printing.{longest, lines_to, laid, print_answer, printed_parts}
use Rattle.replaying.specs.Feeding.{cut_at, ripe, rest, unanswered, FedIs}
use Rattle.replaying.proofs.Parts.{parts_are}
use Rattle.command.specs.Ready.{Roomy, Ready, Kept}
use Rattle.command.specs.Counts.{IsPrefixLen}

-- bytes counted at the start of a buffer whose length is known
pub counts : (n m : ℕ) (xs : List ℕ) → length xs ≡ m → n ≤ m → IsPrefixLen n xs
counts n m xs e h =
    let g : n ≤ length xs = omega (arith, e) in
    (g, sym (length-take-le n xs g))

-- ---- room

parts_most : (m n : ℕ) → m ≤ n → parts_in m ≤ parts_in n
parts_most m n h = omega (arith, parts_are m, parts_are n)

longest_most : (style : Style) (m n : ℕ) → m ≤ n → longest style * m ≤ longest style * n
longest_most Numbers m n h = omega arith
longest_most Words m n h = omega arith

-- what a reading leaves behind a part of the log has the log's length
pub read_room : {style : Style} {out text : ℕ} (a k : ℕ) (log xs : List ℕ) → length xs ≡ length (mid_of a k log)
    → Roomy style (length log) out text → Roomy style (length (put_mid a k log xs)) out text
read_room a k log xs e r = rw (same_len_mid a k log xs e) r

-- ---- a feeding

-- what is kept of bytes whose whole calls were answered is less than a call
kept_less : (last : Bool) (bs : List ℕ) → length (rest last bs) < 16
kept_less true bs = omega (arith, length-drop (length bs) bs)
kept_less false bs = omega (arith, length-drop (16 * (length bs / 16)) bs)

ripe_most : (last : Bool) (bs : List ℕ) → length (ripe last bs) ≤ length bs
ripe_most last bs = omega (arith, length-take (cut_at last (length bs)) bs)

module _ {style : Style} {last : Bool} {first : ℕ} {os ts ss log : List ℕ} {n : ℕ} {out text : List ℕ} {r : Fed} {os' ts' ss' log' out' text' : List ℕ}
    (d : FedIs style last first os ts ss log n out text r os' ts' ss' log' out' text')
    (sound : Sound os ts ss) (room : Roomy style (length log) (length out) (length text)) where
  now_ripe : List ℕ
  now_ripe = ripe last (take n log)

  ripe_parts : parts_in (length now_ripe) ≤ parts_in (length log)
  unfolding now_ripe
  ripe_parts = parts_most (length now_ripe) (length log) (omega (arith, ripe_most last (take n log), length-take n log))

  its_lines : List ℕ
  its_lines = lines_to style first (state_of os ts ss) now_ripe (parts_in (length now_ripe))

  put_is : r.put ≡ Ok (length its_lines)
  unfolding print_answer now_ripe its_lines
  put_is =
      let a = le-ltb (length out) (2 * parts_in (length now_ripe)) (omega (arith, ripe_parts, room.answers)) in
      let b = le-ltb (length text) (longest style * parts_in (length now_ripe)) (omega (arith, longest_most style _ _ ripe_parts, room.lines)) in
      d.printed.answer ∙ rw (sound_test os ts ss sound, a, b)

  pub fed_ok : IsOk r.put
  fed_ok = ap is_ok put_is

  -- the bytes to print are there
  pub fed_bytes : {m : ℕ} → r.put ≡ Ok m → m ≤ length text'
  unfolding now_ripe its_lines
  fed_bytes {m} e =
      let lines : ℕ → List ℕ = lines_to style first (state_of os ts ss) now_ripe in
      let z : print_answer style first os ts ss now_ripe out (length text) ≡ Ok m = sym d.printed.answer ∙ e in
      let k : printed_parts style first os ts ss now_ripe out (length text) ≡ parts_in (length now_ripe) = rw z in
      let same : Ok m ≡ Ok (length its_lines) = sym e ∙ put_is in
      let a : m ≡ length its_lines = cc in
      let b : length text' ≡ length its_lines + length (drop (length its_lines) text) =
      ap length (d.printed.text ∙ ap (λ (i : ℕ). laid (lines i) text) k) ∙ length-append its_lines (drop (length its_lines) text)
      in
      omega (arith, a, b)

  pub fed_ready : length log' ≡ length log → length out' ≡ length out → length text' ≡ length text → Ready style os' ts' ss' log' out' text' r.left
  unfolding now_ripe
  fed_ready a b c =
      let u : unanswered last (take n log) r.put ≡ rest last (take n log) = rw put_is in
      record {
        sound = (ran_left sound now_ripe _ d.printed.objects d.printed.threads d.printed.slots).0;
        room = rw (a, b, c) room;
        less = rw (d.left, u) (kept_less last (take n log));
      }

-- ---- the line of a refused image

module _ (line_of : ℕ → List ℕ) (code : ℕ) {before after : List ℕ} {p : Result ℕ Code} (l : Lines line_of 30 (code ∷ 0 ∷ []) 1 before p after) (room : length before ≡ 30) where
  line_put : (p ≡ Ok (length (cat line_of 1))) × (after ≡ laid (cat line_of 1) before)
  unfolding lines_answer text_after
  line_put = let e = le-ltb (length before) 30 (omega arith) in (l.answer ∙ rw e, l.text ∙ rw e)

  pub refusal_ok : IsOk p
  refusal_ok = ap is_ok line_put.0

  pub refusal_bytes : {m : ℕ} → p ≡ Ok m → m ≤ length after
  refusal_bytes {m} e =
      let same : Ok m ≡ Ok (length (cat line_of 1)) = sym e ∙ line_put.0 in
      let a : m ≡ length (cat line_of 1) = cc in
      omega (arith, a, ap length line_put.1 ∙ length-append (cat line_of 1) (drop (length (cat line_of 1)) before))

-- ---- lengths that stay, turn by turn

pub kept_none : (os ts ss log out text : List ℕ) → Kept os ts ss log out text os ts ss log out text
kept_none os ts ss log out text = record { objects = refl; threads = refl; slots = refl; bytes = refl; numbers = refl; lines = refl }

pub kept_more :
    {os₀ ts₀ ss₀ log₀ out₀ text₀ os ts ss log out text os' ts' ss' log' out' text' : List ℕ} → Kept os₀ ts₀ ss₀ log₀ out₀ text₀ os ts ss log out text →
    Kept os ts ss log out text os' ts' ss' log' out' text' → Kept os₀ ts₀ ss₀ log₀ out₀ text₀ os' ts' ss' log' out' text'
kept_more a b =
    record {
      objects = b.objects ∙ a.objects;
      threads = b.threads ∙ a.threads;
      slots = b.slots ∙ a.slots;
      bytes = b.bytes ∙ a.bytes;
      numbers = b.numbers ∙ a.numbers;
      lines = b.lines ∙ a.lines;
    }
