-- A whole input, in whatever pieces it comes: what is printed of the pieces is what is printed of the whole, and the tables at the end stand for the
-- state after the whole. First over the definitions (`any_pieces`), then over the promise of `feed`, fed again and again (`replayed`).
use Rattle.std.proofs.Common.{◌≡◌, ℕ, ◌+◌, ◌*◌, ◌/◌, Bool, true, false, Ok, List, [], ◌∷◌, ◌++◌, length, take, drop, sym, refl, ap, ◌∙◌, append_assoc, append-nil, arith, length-append, take-append-drop, length-take-le, take_at}
use lib.Seq.{take-length}
use Rattle.tables.specs.State.{State, state_of}
use Rattle.rules.specs.Rules.{Sound}
use Rattle.calls.specs.Calls.{parts_in, ran_to}
use Rattle.calls.proofs.Left.{ran_left}
use Rattle.explain.specs.Words.{number_at}
use Rattle.replaying.specs.declared.Fed.{Fed}
use Rattle.replaying.specs.declared.Style.{Style}
use Rattle.replaying.specs.Printing.{lines_to, laid, print_answer, printed_parts}
use Rattle.replaying.specs.Feeding.{cut_at, ripe, rest, unanswered, FedIs}
use Rattle.replaying.proofs.Parts.{parts_behind, parts_whole}
use Rattle.replaying.proofs.Pieces.{ran_second, lines_in_pieces}
use Rattle.replaying.proofs.Laws.{done_answer}

-- pieces, one behind the other
abbrev pub joined : List (List ℕ) → List ℕ
joined [] = []
joined (c ∷ cs) = c ++ joined cs

-- the lines of all of a log, and the state after it
abbrev pub all_lines : Style → ℕ → State → List ℕ → List ℕ
all_lines style first s log = lines_to style first s log (parts_in (length log))

abbrev pub all_ran : State → List ℕ → State
all_ran s log = ran_to s log (parts_in (length log))

whole_calls : (m : ℕ) → 16 * m / 16 ≡ m
whole_calls m = omega arith

-- ---- bytes that are there, cut behind the last whole call
module _ (b : List ℕ) where
  whole_length : length (ripe false b) ≡ 16 * (length b / 16)
  whole_length = length-take-le (16 * (length b / 16)) b (omega arith)

  cut_joins : ripe false b ++ rest false b ≡ b
  cut_joins = take-append-drop (16 * (length b / 16)) b

  module _ (later : List ℕ) where
    regroup : ripe false b ++ (rest false b ++ later) ≡ b ++ later
    regroup = sym (append_assoc (ripe false b) (rest false b) later) ∙ ap (λ (l : List ℕ). l ++ later) cut_joins

    parts_regroup : length b / 16 + parts_in (length (rest false b ++ later)) ≡ parts_in (length (b ++ later))
    parts_regroup =
        let n : length (b ++ later) ≡ 16 * (length b / 16) + length (rest false b ++ later) =
        ap length (sym regroup) ∙ length-append (ripe false b) (rest false b ++ later) ∙ ap (λ (i : ℕ). i + length (rest false b ++ later)) whole_length
        in
        sym (parts_behind (length b / 16) (length (rest false b ++ later))) ∙ ap parts_in (sym n)

    pub cut_lines : (style : Style) (first : ℕ) (s : State)
        → lines_to style first s (ripe false b) (length b / 16)
        ++ all_lines style (number_at first (length b / 16)) (ran_to s (ripe false b) (length b / 16)) (rest false b ++ later)
        ≡ all_lines style first s (b ++ later)
    cut_lines style first s =
        sym (lines_in_pieces (ripe false b) (rest false b ++ later) (length b / 16) whole_length style first s (parts_in (length (rest false b ++ later))))
        ∙ ap (λ (l : List ℕ). lines_to style first s l (length b / 16 + parts_in (length (rest false b ++ later)))) regroup
        ∙ ap (lines_to style first s (b ++ later)) parts_regroup

    pub cut_ran : (s : State) → all_ran (ran_to s (ripe false b) (length b / 16)) (rest false b ++ later) ≡ all_ran s (b ++ later)
    cut_ran s =
        sym (ran_second (ripe false b) (rest false b ++ later) (length b / 16) whole_length s (parts_in (length (rest false b ++ later))))
        ∙ ap (λ (l : List ℕ). ran_to s l (length b / 16 + parts_in (length (rest false b ++ later)))) regroup
        ∙ ap (ran_to s (b ++ later)) parts_regroup

-- ---- over the definitions

-- all that is printed of an input that comes in pieces, behind bytes that were kept
unfoldable pub fed : Style → ℕ → State → List ℕ → List (List ℕ) → List ℕ
fed style first s kept [] = all_lines style first s kept
fed style first s kept (c ∷ cs) =
    lines_to style first s (ripe false (kept ++ c)) (length (kept ++ c) / 16)
    ++ fed style (number_at first (length (kept ++ c) / 16)) (ran_to s (ripe false (kept ++ c)) (length (kept ++ c) / 16)) (rest false (kept ++ c)) cs

pub any_pieces : (cs : List (List ℕ)) (style : Style) (first : ℕ) (s : State) (kept : List ℕ) → fed style first s kept cs ≡ all_lines style first s (kept ++ joined cs)
unfolding fed
any_pieces [] style first s kept = ap (all_lines style first s) (sym (append-nil kept))
any_pieces (c ∷ cs) style first s kept =
    let b = kept ++ c in
    ap (λ (l : List ℕ). lines_to style first s (ripe false b) (length b / 16) ++ l)
    (any_pieces cs style (number_at first (length b / 16)) (ran_to s (ripe false b) (length b / 16)) (rest false b))
    ∙ cut_lines b (joined cs) style first s
    ∙ ap (all_lines style first s) (append_assoc kept c (joined cs))

-- ---- over the promise of `feed`

-- what an accepted feeding put, kept and left
module _ {style : Style} {last : Bool} {first : ℕ} {os ts ss log : List ℕ} {n : ℕ} {out text : List ℕ} {r : Fed} {os' ts' ss' log' out' text' : List ℕ}
    (d : FedIs style last first os ts ss log n out text r os' ts' ss' log' out' text') {put : ℕ} (ok : r.put ≡ Ok put) where
  its_parts : printed_parts style first os ts ss (ripe last (take n log)) out (length text) ≡ parts_in (length (ripe last (take n log)))
  its_parts = let z : print_answer style first os ts ss (ripe last (take n log)) out (length text) ≡ Ok put = sym d.printed.answer ∙ ok in rw z

  its_text : take put text' ≡ all_lines style first (state_of os ts ss) (ripe last (take n log))
  its_text =
      let l : List ℕ = all_lines style first (state_of os ts ss) (ripe last (take n log)) in
      let b : length l ≡ put = sym (done_answer style first os ts ss (ripe last (take n log)) out (length text) (sym ok ∙ d.printed.answer)) in
      ap (take put) (d.printed.text ∙ ap (λ (i : ℕ). laid (lines_to style first (state_of os ts ss) (ripe last (take n log)) i) text) its_parts)
      ∙ take_at l (drop (length l) text) put b

  its_kept : take r.left log' ≡ rest last (take n log)
  its_kept =
      let u : unanswered last (take n log) r.put ≡ rest last (take n log) = rw ok in
      let e : length (rest last (take n log)) ≡ r.left = sym (d.left ∙ ap length u) in
      ap (take r.left) (d.kept ∙ ap (λ (l : List ℕ). laid l log) u) ∙ take_at (rest last (take n log)) (drop (length (rest last (take n log))) log) r.left e

  its_next : r.next ≡ number_at first (cut_at last (length (take n log)) / 16)
  its_next = d.next ∙ rw ok

  its_state : Sound os ts ss → Sound os' ts' ss' × (state_of os' ts' ss' ≡ all_ran (state_of os ts ss) (ripe last (take n log)))
  its_state sound =
      let l = ran_left sound (ripe last (take n log)) _ d.printed.objects d.printed.threads d.printed.slots in
      (l.0, l.1 ∙ ap (ran_to (state_of os ts ss) (ripe last (take n log))) its_parts)

-- an input in pieces, fed one by one, and its end: each feeding finds at the buffer's front what the one before it kept and behind that the next piece,
-- and the bytes that it put are printed
pub data Feeds (style : Style) : ℕ → List ℕ → List ℕ → List ℕ → List ℕ → List (List ℕ) → List ℕ → List ℕ → List ℕ → List ℕ → Type 0 where
  end :
      {first n put : ℕ} {os ts ss kept log out text os' ts' ss' log' out' text' : List ℕ} {r : Fed} →
      FedIs style true first os ts ss log n out text r os' ts' ss' log' out' text' → take n log ≡ kept → r.put ≡ Ok put →
      Feeds style first os ts ss kept [] (take put text') os' ts' ss'
  piece :
      {first n put : ℕ} {os ts ss kept c log out text os' ts' ss' log' out' text' later os'' ts'' ss'' : List ℕ} {cs : List (List ℕ)} {r : Fed} →
      FedIs style false first os ts ss log n out text r os' ts' ss' log' out' text' → take n log ≡ kept ++ c → r.put ≡ Ok put →
      Feeds style r.next os' ts' ss' (take r.left log') cs later os'' ts'' ss'' →
      Feeds style first os ts ss kept (c ∷ cs) (take put text' ++ later) os'' ts'' ss''

-- what was printed is the lines of the whole, and the tables stand for the state after it and keep the rules
pub record Replayed (style : Style) (first : ℕ) (s : State) (log printed os' ts' ss' : List ℕ) : Type 0 where
  pub lines : printed ≡ all_lines style first s log
  pub state : state_of os' ts' ss' ≡ all_ran s log
  pub sound : Sound os' ts' ss'

pub replayed : {style : Style} {first : ℕ} {os ts ss kept printed os' ts' ss' : List ℕ} {cs : List (List ℕ)} → Sound os ts ss
    → Feeds style first os ts ss kept cs printed os' ts' ss' → Replayed style first (state_of os ts ss) (kept ++ joined cs) printed os' ts' ss'
replayed {style} {first} {os} {ts} {ss} {kept} z (end {n = n} {log = log} d e ok) =
    let all : ripe true (take n log) ≡ kept ++ [] = take-length (take n log) ∙ e ∙ sym (append-nil kept) in
    let t = its_state d ok z in
    record {
      lines = its_text d ok ∙ ap (all_lines style first (state_of os ts ss)) all;
      state = t.1 ∙ ap (all_ran (state_of os ts ss)) all;
      sound = t.0;
    }
replayed {style} {first} {os} {ts} {ss} {kept} z (piece {n = n} {c = c} {log = log} {os' = os₁} {ts' = ts₁} {ss' = ss₁} {log' = log₁} {later = later} {cs = cs} {r = r} d e ok f) =
    let b = kept ++ c in
    let m = length b / 16 in
    let s = state_of os ts ss in
    let t = its_state d ok z in
    let parts : parts_in (length (ripe false b)) ≡ m = ap parts_in (whole_length b) ∙ parts_whole m in
    let state : state_of os₁ ts₁ ss₁ ≡ ran_to s (ripe false b) m = t.1 ∙ ap (λ (l : List ℕ). all_ran s (ripe false l)) e ∙ ap (ran_to s (ripe false b)) parts in
    let next : r.next ≡ number_at first m = its_next d ok ∙ ap (λ (l : List ℕ). number_at first (cut_at false (length l) / 16)) e ∙ ap (number_at first) (whole_calls m) in
    let held : take r.left log₁ ≡ rest false b = its_kept d ok ∙ ap (rest false) e in
    let front : take _ _ ≡ lines_to style first s (ripe false b) m =
    its_text d ok ∙ ap (λ (l : List ℕ). all_lines style first s (ripe false l)) e ∙ ap (lines_to style first s (ripe false b)) parts
    in
    let i = replayed t.0 f in
    record {
      lines =
          ap (λ (l : List ℕ). l ++ later) front
          ∙ ap (λ (l : List ℕ). lines_to style first s (ripe false b) m ++ l) (i.lines ∙ rw (next, state, held) refl)
          ∙ cut_lines b (joined cs) style first s
          ∙ ap (all_lines style first s) (append_assoc kept c (joined cs));
      state = i.state ∙ rw (state, held) refl ∙ cut_ran b (joined cs) s ∙ ap (all_ran s) (append_assoc kept c (joined cs));
      sound = i.sound;
    }
