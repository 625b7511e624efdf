-- Two results that meet a contract are equal, and so is what stands behind each `&mut` as the function returns.
use Rattle.std.proofs.Common.{◌≡◌, ℕ, Bool, Result, List, length, take, sym, ap, ◌∙◌}
use Rattle.answer.specs.declared.Code.{Code}
use Rattle.replaying.specs.declared.Fed.{Fed}
use Rattle.replaying.specs.declared.Style.{Style}
use Rattle.explain.specs.Words.{number_at}
use Rattle.replaying.specs.Printing.{laid}
use Rattle.replaying.specs.Feeding.{unanswered, calls, FedIs}
use Rattle.replaying.proofs.put_refusal.Reads as put-refusal
use Rattle.replaying.proofs.feed.Reads as feed

-- what is kept goes by the answer
module _ {style : Style} {last : Bool} {first : ℕ} {os ts ss log : List ℕ} {n : ℕ} {out text : List ℕ} {r₁ r₂ : Fed}
    {os₁ ts₁ ss₁ log₁ out₁ text₁ os₂ ts₂ ss₂ log₂ out₂ text₂ : List ℕ}
    (p : FedIs style last first os ts ss log n out text r₁ os₁ ts₁ ss₁ log₁ out₁ text₁)
    (q : FedIs style last first os ts ss log n out text r₂ os₂ ts₂ ss₂ log₂ out₂ text₂) where
  same_put : r₁.put ≡ r₂.put
  same_put = p.printed.answer ∙ sym q.printed.answer

  same_fed : r₁ ≡ r₂
  same_fed =
      let e : r₁.left ≡ r₂.left = p.left ∙ ap (λ (x : Result ℕ Code). length (unanswered last (take n log) x)) same_put ∙ sym q.left in
      let f : r₁.next ≡ r₂.next = p.next ∙ ap (λ (x : Result ℕ Code). number_at first (calls last (take n log) x)) same_put ∙ sym q.next in
      ap (λ (x : Result ℕ Code). record { put = x; left = r₁.left; next = r₁.next }) same_put
      ∙ ap (λ (k : ℕ). record { put = r₂.put; left = k; next = r₁.next }) e
      ∙ ap (λ (k : ℕ). record { put = r₂.put; left = r₂.left; next = k }) f

  same_kept : log₁ ≡ log₂
  same_kept = p.kept ∙ ap (λ (x : Result ℕ Code). laid (unanswered last (take n log) x) log) same_put ∙ sym q.kept

pub put_refusal_unique :
    (κs : _) (a : _) (r₁ r₂ : Result ℕ Code) (s₁ s₂ : _) → put-refusal.Post κs a r₁ s₁ → put-refusal.Post κs a r₂ s₂ → (r₁ ≡ r₂) × (s₁.1.1.0.now ≡ s₂.1.1.0.now)
put_refusal_unique κs a r₁ r₂ s₁ s₂ p q = (p.answer ∙ sym q.answer, p.text ∙ sym q.text)

pub feed_unique :
    (κs : _) (a : _) (r₁ r₂ : Fed) (s₁ s₂ : _) → feed.Post κs a r₁ s₁ → feed.Post κs a r₂ s₂ →
    (r₁ ≡ r₂) × (s₁.0.now ≡ s₂.0.now) × (s₁.1.0.now ≡ s₂.1.0.now) × (s₁.1.1.0.now ≡ s₂.1.1.0.now)
    × (s₁.1.1.1.1.0.now ≡ s₂.1.1.1.1.0.now) × (s₁.1.1.1.1.1.1.1.1.0.now ≡ s₂.1.1.1.1.1.1.1.1.0.now)
    × (s₁.1.1.1.1.1.1.1.1.1.0.now ≡ s₂.1.1.1.1.1.1.1.1.1.0.now)
feed_unique κs a r₁ r₂ s₁ s₂ p q =
    let f = p.printed in
    let g = q.printed in (
      same_fed p q,
      f.objects ∙ sym g.objects,
      f.threads ∙ sym g.threads,
      f.slots ∙ sym g.slots,
      same_kept p q,
      f.numbers ∙ sym g.numbers,
      f.text ∙ sym g.text,
    )
