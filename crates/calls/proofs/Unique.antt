-- Two results that meet a function's own contract are equal, and so is what stands behind each `&mut` as it returns. `call` and `run` are what others can
-- call; the four others are what these two stand on, inside.
use mathlib.Core.Path.{◌≡◌, sym, ◌∙◌}
use Rattle.answer.specs.declared.Answer.{Answer}
use Prim.Native.Nat.{ℕ}
use Rattle.std.specs.Prelude.{Result}
use Rattle.answer.specs.declared.Code.{Code}
use Rattle.calls.proofs.call.Reads as call
use Rattle.calls.proofs.run.Reads as run
use Rattle.calls.proofs.deciding.judge.Reads as judge
use Rattle.calls.proofs.enacting_objects.change_objects.Reads as change-objects
use Rattle.calls.proofs.enacting.change_threads.Reads as change-threads
use Rattle.calls.proofs.enacting.change_slots.Reads as change-slots

pub call_unique :
    (κs : _) (a : _) (r₁ r₂ : Answer) (s₁ s₂ : _) → call.Post κs a r₁ s₁ → call.Post κs a r₂ s₂ →
    (r₁ ≡ r₂) × (s₁.0.now ≡ s₂.0.now) × (s₁.1.0.now ≡ s₂.1.0.now) × (s₁.1.1.0.now ≡ s₂.1.1.0.now)
call_unique κs a r₁ r₂ s₁ s₂ p q =
    (p.answer ∙ sym q.answer, p.objects ∙ sym q.objects, p.threads ∙ sym q.threads, p.slots ∙ sym q.slots)

pub run_unique :
    (κs : _) (a : _) (r₁ r₂ : Result ℕ Code) (s₁ s₂ : _) → run.Post κs a r₁ s₁ → run.Post κs a r₂ s₂ →
    (r₁ ≡ r₂) × (s₁.0.now ≡ s₂.0.now) × (s₁.1.0.now ≡ s₂.1.0.now) × (s₁.1.1.0.now ≡ s₂.1.1.0.now) × (s₁.1.1.1.1.0.now ≡ s₂.1.1.1.1.0.now)
run_unique κs a r₁ r₂ s₁ s₂ p q =
    let p' = p.run in
    let q' = q.run in
    (p.answer ∙ sym q.answer, p'.objects ∙ sym q'.objects, p'.threads ∙ sym q'.threads, p'.slots ∙ sym q'.slots, p'.buffer ∙ sym q'.buffer)

-- ---- inside

pub judge_unique : (κs : _) (a : _) (r₁ r₂ : Answer) (s₁ s₂ : _) → judge.Post κs a r₁ s₁ → judge.Post κs a r₂ s₂ → r₁ ≡ r₂
judge_unique κs a r₁ r₂ s₁ s₂ p q = p ∙ sym q

pub change_objects_unique :
    (κs : _) (a : _) (r₁ r₂ : _) (s₁ s₂ : _) → change-objects.Post κs a r₁ s₁ → change-objects.Post κs a r₂ s₂ → s₁.0.now ≡ s₂.0.now
change_objects_unique κs a r₁ r₂ s₁ s₂ p q = p ∙ sym q

pub change_threads_unique :
    (κs : _) (a : _) (r₁ r₂ : _) (s₁ s₂ : _) → change-threads.Post κs a r₁ s₁ → change-threads.Post κs a r₂ s₂ → s₁.0.now ≡ s₂.0.now
change_threads_unique κs a r₁ r₂ s₁ s₂ p q = p ∙ sym q

pub change_slots_unique :
    (κs : _) (a : _) (r₁ r₂ : _) (s₁ s₂ : _) → change-slots.Post κs a r₁ s₁ → change-slots.Post κs a r₂ s₂ → s₁.0.now ≡ s₂.0.now
change_slots_unique κs a r₁ r₂ s₁ s₂ p q = p ∙ sym q
