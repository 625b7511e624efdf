-- From the promise of a printed log to that of a buffer of which some bytes are there.
use Rattle.std.proofs.Common.{◌≡◌, ℕ, ◌-◌, ◌/◌, ◌≤◌, min, Bool, true, false, Result, is_ok, List, length, take, drop, sym, ap, ◌∙◌, subst, arith, length-drop, length-take, take-take, w32, Fits}
use Rattle.answer.specs.declared.Code.{Code}
use Rattle.explain.specs.Words.{number_at}
use Rattle.replaying.specs.declared.Style.{Style}
use Rattle.replaying.specs.Printing.{laid, Printed}
use Rattle.replaying.specs.Feeding.{cut_at, ripe, rest, unanswered, calls, FedIs}
use Rattle.replaying.proofs.Parts.{first_bytes, still_laid}

-- numbers begin with their first
first_number : {n : ℕ} → Fits w32 n → n ≡ number_at n 0
first_number {n} h = omega (arith, h.fits)

module _ (style : Style) (last : Bool) (first : ℕ) (os ts ss log : List ℕ) (n : ℕ) (out text : List ℕ)
    {have cut : ℕ} (h : have ≡ min n (length log)) (c : (cut ≡ cut_at last have) × (cut ≤ have)) where
  there : length (take n log) ≡ have
  there = length-take n log ∙ sym h

  -- what the code cuts off is what is answered
  ripe_is : take cut log ≡ ripe last (take n log)
  ripe_is =
      sym (take-take cut n log (omega (arith, c.1)))
      ∙ ap (λ (k : ℕ). take k (take n log)) (c.0 ∙ ap (cut_at last) (sym there))

  rest_is : drop cut (take n log) ≡ rest last (take n log)
  rest_is = ap (λ (k : ℕ). drop k (take n log)) (c.0 ∙ ap (cut_at last) (sym there))

  module _ {p : Result ℕ Code} {os' ts' ss' out' text' : List ℕ} (d : Printed style first os ts ss (take cut log) out text p os' ts' ss' out' text') where
    as_ripe : Printed style first os ts ss (ripe last (take n log)) out text p os' ts' ss' out' text'
    as_ripe = subst (λ (l : List ℕ). Printed style first os ts ss l out text p os' ts' ss' out' text') ripe_is d

    pub feed_refused :
        is_ok p ≡ false → Fits w32 first → FedIs style last first os ts ss log n out text (record { put = p; left = have; next = first }) os' ts' ss' log out' text'
    feed_refused z f =
        let u : unanswered last (take n log) p ≡ take n log = rw z in
        let k : calls last (take n log) p ≡ 0 = rw z in
        record { printed = as_ripe; left = rw u (sym there); next = rw k (first_number f); kept = rw u (sym (still_laid n log)) }

    pub feed_done :
        {log' : List ℕ} {m : ℕ} → is_ok p ≡ true → log' ≡ laid (drop cut (take have log)) log → m ≡ number_at first (cut / 16) →
        FedIs style last first os ts ss log n out text (record { put = p; left = have - cut; next = m }) os' ts' ss' log' out' text'
    feed_done z e f =
        let q : cut / 16 ≡ calls last (take n log) p = rw z (ap (λ (i : ℕ). i / 16) (c.0 ∙ ap (cut_at last) (sym there))) in
        let u : unanswered last (take n log) p ≡ rest last (take n log) = rw z in
        let k : take have log ≡ take n log = ap (λ (i : ℕ). take i log) h ∙ first_bytes n log in
        let l : length (rest last (take n log)) ≡ have - cut = ap length (sym rest_is) ∙ length-drop cut (take n log) ∙ ap (λ (i : ℕ). i - cut) there in
        record {
          printed = as_ripe;
          left = rw u (sym l);
          next = f ∙ ap (number_at first) q;
          kept = rw u (e ∙ ap (λ (x : List ℕ). laid (drop cut x) log) k ∙ ap (λ (x : List ℕ). laid x log) rest_is);
        }
