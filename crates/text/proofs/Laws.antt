-- Laws of putting bytes into a buffer: a turn of `spell`, and a put that has room or has not.
use Rattle.std.proofs.Common.{◌≡◌, ℕ, zero, suc, ◌+◌, ◌-◌, ◌/◌, ◌%◌, ◌<◌, ◌≤◌, true, false, leb, List, [], ◌∷◌, ◌++◌, length, set, refl, sym, ap, ◌∙◌, add-zero, add-one, arith, length-append, max, le-ltb, Option}
use Rattle.std.specs.Prelude.{MatchOption}
use Rattle.std.specs.Option.{unwrap_or}
use Rattle.std.specs.List.{AllWithin, HoldsAt}
use Rattle.std.proofs.lemmas.Iterator.{index_from_first}
use Rattle.std.proofs.Common.{append_assoc, drop-drop, lt-ltb}
use native.Mathlib.Nat.{add-sub_cancel_left}
use borrow.Rule.Slice.PartMut.{put_mid}
use Rattle.std.proofs.Math.Seq.{set_comm}
use Rattle.std.proofs.lemmas.List.Edits.{sets, sets-eq}
use Rattle.text.specs.Text.{up_to, places, digits, decimal, hex_digit, hex_places, hex_digits, hex, digits_in, put_at, put_count, Put}

-- the last store can come first: no other one touches its place
pub sets_last : (xs l : List ℕ) (at d : ℕ) → sets l at (xs ++ (d ∷ [])) ≡ sets (set l (at + length xs) d) at xs
sets_last [] l at d = rw add-zero refl
sets_last (x ∷ xs) l at d =
    let e : suc at + length xs ≡ at + suc (length xs) = omega arith in
    sets_last xs (set l at x) (suc at) d ∙ rw (e, set_comm l at (at + suc (length xs)) x d (λ f. omega arith)) refl

pub digits_in_length : (base k n : ℕ) → length (digits_in base k n) ≡ k
unfolding digits_in
digits_in_length base zero n = refl
digits_in_length base (suc k) n = length-append (digits_in base k (n / base)) _ ∙ rw (digits_in_length base k (n / base)) (add-one k)

-- a turn of `spell`
pub spell_turn : (base : ℕ) (l : List ℕ) (at i w : ℕ) {d : ℕ} → 0 < i → d ≡ hex_digit (w % base)
    → sets (set l (at + (i - 1)) d) at (digits_in base (i - 1) (w / base)) ≡ sets l at (digits_in base i w)
unfolding digits_in
spell_turn base l at i w {d} h e =
    let j : i ≡ suc (i - 1) = omega arith in
    sym (ap (λ k. sets l at (digits_in base k w)) j ∙ sets_last (digits_in base (i - 1) (w / base)) l at (hex_digit (w % base)) ∙ rw (digits_in_length base (i - 1) (w / base), e) refl)

-- ---- a put that has room, and one that has not

pub no_room : {text xs : List ℕ} {at k : ℕ} → length xs ≡ k → leb (at + k) (length text) ≡ false → Put text at xs 0 text
unfolding put_at put_count
no_room e h = record { count = rw (e, h) refl; text = rw (e, h) refl }

pub has_put : {text xs text' : List ℕ} {at k : ℕ} → length xs ≡ k → leb (at + k) (length text) ≡ true → text' ≡ sets text at xs → Put text at xs k text'
unfolding put_at put_count
has_put e h p = record { count = rw (e, h) refl; text = p ∙ sym (rw (e, h) refl) }

-- as the write of a part of the buffer leaves it
pub part_set : (text word : List ℕ) (at : ℕ) → at + length word ≤ length text → put_mid at (at + length word - at) text word ≡ sets text at word
part_set text word at h = rw (add-sub_cancel_left at (length word), sets-eq word text at h, drop-drop) (simp append_assoc)

-- ---- numbers: the digits of a base are those of the specification

digits_ten : (k n : ℕ) → digits_in 10 k n ≡ digits k n
unfolding digits_in digits hex_digit
digits_ten zero n = refl
digits_ten (suc k) n = rw (digits_ten k (n / 10), lt-ltb (n % 10) 10 (omega arith)) refl

digits_sixteen : (k n : ℕ) → digits_in 16 k n ≡ hex_digits k n
unfolding digits_in hex_digits
digits_sixteen zero n = refl
digits_sixteen (suc k) n = rw (digits_sixteen k (n / 16)) refl

pub in_decimal : (n : ℕ) {k : ℕ} → k ≡ places n → digits_in 10 k n ≡ decimal n
unfolding decimal
in_decimal n {k} e = digits_ten k n ∙ ap (λ (j : ℕ). digits j n) e

pub in_hex : (least n : ℕ) {k p : ℕ} → p ≡ hex_places n → k ≡ max least p → digits_in 16 k n ≡ hex least n
unfolding hex
in_hex least n {k} {p} e f = digits_sixteen k n ∙ ap (λ (j : ℕ). hex_digits j n) (f ∙ ap (λ (j : ℕ). max least j) e)

-- where the first power above n stands
pub first_above : (n : ℕ) (ps : List ℕ) (r : Option ℕ)
    → MatchOption r (AllWithin (λ p. p ≤ n) ps 0 (length ps)) (λ i. (i < length ps) × HoldsAt (λ p. n < p) ps i × AllWithin (λ p. p ≤ n) ps 0 i)
    → up_to n ps ≡ unwrap_or r (length ps)
unfolding up_to
first_above n ps r m = index_from_first (up_to n) (λ p. n < p) (λ p. p ≤ n) refl (λ p ps h. rw (lt-ltb n p h) refl) (λ p ps h. rw (le-ltb n p h) refl) ps r m
