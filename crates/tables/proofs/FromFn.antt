-- What `array::from_fn` gives where each call of the closure leaves it as it was: the table of what it answers.
use Rattle.std.proofs.Common.{ℕ, zero, suc, ◌≡◌, ◌+◌, ◌≤◌, ◌<◌, ◌≢◌, List, get_or, ◌∙◌, arith}
use Rattle.std.proofs.Math.Decide.{ℕ_discrete}
use Rattle.std.specs.Fn.{Called}
use Rattle.std.specs.Array.{IsFromFnResult, IsFromFnResultFrom}
use denote.Param.Members.{Mut}
use Rattle.tables.specs.Tabulate.{tabulate, fill_all}

module _ {F B : Type 0} (g : Mut F (ℕ × Unit {0}) B) (h : ℕ → B) (f : F) (ys : List B) (step : (x : ℕ) (y : B) (q : F) → Called g f (x, tt) y q → (q ≡ f) × (y ≡ h x)) where
  at_first : (i k : ℕ) (d y : B) → get_or ys i d ≡ y → y ≡ h i → (k ≢ i → get_or ys k d ≡ h k) → Dec (k ≡ i) → get_or ys k d ≡ h k
  at_first i k d y a b later (yes e) = rw e (a ∙ b)
  at_first i k d y a b later (no ne) = later ne

  each_at : (n i k : ℕ) (d : B) → IsFromFnResultFrom g f ys i n → i ≤ k → k < i + n → get_or ys k d ≡ h k
  each_at zero i k d r a b = absurd (omega arith)
  each_at (suc n) i k d (q, y, el, call, rest) a b =
      let s = step i y q call in
      at_first i k d y (el.1 d) s.1 (λ ne. each_at n (i + 1) k d (rw s.0 at rest) (omega arith) (omega arith)) (ℕ_discrete k i)

  pub from_fn_tabulate : (n : ℕ) (d : B) → IsFromFnResult g f ys n → ys ≡ tabulate n h
  from_fn_tabulate n d r =
      fill_all h d n ys n (record { within = omega arith; size = r.long; done = λ j b. each_at n 0 j d r.each (omega arith) (omega arith) }) (omega arith)
