-- A change at a thread: what it is from 64 on, below 64, and what it leaves as it was. For the crates above too.
use Rattle.std.specs.Prelude.{ℕ, ◌<◌, ◌≤◌, ◌≡◌}
use Rattle.std.proofs.Common.{ap, ◌∙◌, arith, lt-ltb, le-ltb}
use Rattle.std.proofs.Math.Decide.{dec_lt}
use Rattle.userspace.specs.declared.KernelObject.{KernelObject}
use Rattle.userspace.specs.Userspace.{Changed, THREADS, changed_at, done, refused}

pub refuses : (t : ℕ) (o p : KernelObject) → THREADS ≤ t → changed_at t o p ≡ refused o
unfolding changed_at
refuses t o p h = simp (le-ltb t THREADS h)

pub does : (t : ℕ) (o p : KernelObject) → t < THREADS → changed_at t o p ≡ done p
unfolding changed_at
does t o p h = simp (lt-ltb t THREADS h)

-- what is so before and after is so of the answer, whatever the thread
module _ {A : Type 0} (f : KernelObject → A) where
  pub either_way : (t : ℕ) (o p : KernelObject) → f p ≡ f o → f (changed_at t o p).object ≡ f o
  either_way t o p e = go (dec_lt t THREADS)
    where
      go : Dec (t < THREADS) → f (changed_at t o p).object ≡ f o
      go (yes h) = ap (λ (c : Changed). f c.object) (does t o p h) ∙ e
      go (no g) = ap (λ (c : Changed). f c.object) (refuses t o p (omega arith))
