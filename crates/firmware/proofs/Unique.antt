-- Two results that meet a function's own contract are equal, and so is what stands behind each `&mut` as it returns.
use mathlib.Core.Path.{◌≡◌, sym, ap, ◌∙◌}
use mathlib.Core.Bool.{Bool}
use Prim.Native.Nat.{ℕ}
use Rattle.answer.specs.declared.Answer.{Answer}
use Rattle.calls.specs.Calls.{Ran}
use Rattle.firmware.specs.Lent.{Got}
use Rattle.firmware.proofs.wardlatch_call.Reads as wardlatch-call
use Rattle.firmware.proofs.wardlatch_run.Reads as wardlatch-run
use Rattle.firmware.proofs.wardlatch_read.Reads as wardlatch-read
use Rattle.firmware.proofs.wardlatch_write.Reads as wardlatch-write
use Rattle.firmware.proofs.wardlatch_plan.Reads as wardlatch-plan
use Rattle.firmware.proofs.wardlatch_check.Reads as wardlatch-check
use Rattle.firmware.proofs.wardlatch_domain_add.Reads as wardlatch-domain-add
use Rattle.firmware.proofs.wardlatch_domain_remove.Reads as wardlatch-domain-remove
use Rattle.firmware.proofs.wardlatch_domain_get.Reads as wardlatch-domain-get
use Rattle.firmware.proofs.wardlatch_domain_has_free.Reads as wardlatch-domain-has-free
use Rattle.firmware.proofs.wardlatch_domain_contains.Reads as wardlatch-domain-contains
use Rattle.firmware.proofs.wardlatch_partition_valid.Reads as wardlatch-partition-valid
use Rattle.firmware.proofs.wardlatch_partitions_overlap.Reads as wardlatch-partitions-overlap
use Rattle.firmware.proofs.wardlatch_grant.Reads as wardlatch-grant
use Rattle.firmware.proofs.wardlatch_revoke.Reads as wardlatch-revoke
use Rattle.firmware.proofs.wardlatch_recycle.Reads as wardlatch-recycle
use Rattle.firmware.proofs.wardlatch_has_perm.Reads as wardlatch-has-perm
use Rattle.firmware.proofs.wardlatch_check_access.Reads as wardlatch-check-access
use Rattle.firmware.proofs.wardlatch_validate.Reads as wardlatch-validate
use Rattle.firmware.proofs.wardlatch_to_errno.Reads as wardlatch-to-errno

-- equal answers have equal parts
code_of : {x y : Answer} → x ≡ y → x.code ≡ y.code
code_of e = ap (λ (x : Answer). x.code) e

value_of : {x y : Answer} → x ≡ y → x.value ≡ y.value
value_of e = ap (λ (x : Answer). x.value) e

pub wardlatch_call_unique :
    (κs : _) (a : _) (r₁ r₂ : ℕ) (s₁ s₂ : _) → wardlatch-call.Post κs a r₁ s₁ → wardlatch-call.Post κs a r₂ s₂ →
    (r₁ ≡ r₂) × (s₁.0.now ≡ s₂.0.now) × (s₁.1.0.now ≡ s₂.1.0.now) × (s₁.1.1.0.now ≡ s₂.1.1.0.now) × (s₁.1.1.1.1.0.now ≡ s₂.1.1.1.1.0.now)
wardlatch_call_unique κs a r₁ r₂ s₁ s₂ p q =
    let e = p.answer ∙ sym q.answer in
    (code_of e, p.objects ∙ sym q.objects, p.threads ∙ sym q.threads, p.slots ∙ sym q.slots, value_of e)

pub wardlatch_run_unique :
    (κs : _) (a : _) (r₁ r₂ : ℕ) (s₁ s₂ : _) → wardlatch-run.Post κs a r₁ s₁ → wardlatch-run.Post κs a r₂ s₂ →
    (r₁ ≡ r₂) × (s₁.0.now ≡ s₂.0.now) × (s₁.1.0.now ≡ s₂.1.0.now) × (s₁.1.1.0.now ≡ s₂.1.1.0.now) × (s₁.1.1.1.1.0.now ≡ s₂.1.1.1.1.0.now) × (s₁.1.1.1.1.1.0.now ≡ s₂.1.1.1.1.1.0.now)
wardlatch_run_unique κs a r₁ r₂ s₁ s₂ p q =
    let e = p.answer ∙ sym q.answer in
    (ap (λ (x : Ran). x.code) e, p.objects ∙ sym q.objects, p.threads ∙ sym q.threads, p.slots ∙ sym q.slots, p.buffer ∙ sym q.buffer, ap (λ (x : Ran). x.answers) e)

pub wardlatch_read_unique :
    (κs : _) (a : _) (r₁ r₂ : ℕ) (s₁ s₂ : _) → wardlatch-read.Post κs a r₁ s₁ → wardlatch-read.Post κs a r₂ s₂ →
    (r₁ ≡ r₂) × (s₁.1.0.now ≡ s₂.1.0.now) × (s₁.1.1.0.now ≡ s₂.1.1.0.now) × (s₁.1.1.1.0.now ≡ s₂.1.1.1.0.now) × (s₁.1.1.1.1.0.now ≡ s₂.1.1.1.1.0.now)
wardlatch_read_unique κs a r₁ r₂ s₁ s₂ p q =
    let x = p.reads in
    let y = q.reads in
    (x.answer ∙ sym y.answer, x.objects ∙ sym y.objects, x.threads ∙ sym y.threads, x.slots ∙ sym y.slots, p.rest ∙ sym q.rest)

pub wardlatch_write_unique :
    (κs : _) (a : _) (r₁ r₂ : ℕ) (s₁ s₂ : _) → wardlatch-write.Post κs a r₁ s₁ → wardlatch-write.Post κs a r₂ s₂ →
    (r₁ ≡ r₂) × (s₁.1.1.1.0.now ≡ s₂.1.1.1.0.now) × (s₁.1.1.1.1.0.now ≡ s₂.1.1.1.1.0.now)
wardlatch_write_unique κs a r₁ r₂ s₁ s₂ p q =
    let e = p.answer ∙ sym q.answer in
    (code_of e, p.bytes ∙ sym q.bytes, value_of e)

pub wardlatch_plan_unique :
    (κs : _) (a : _) (r₁ r₂ : ℕ) (s₁ s₂ : _) → wardlatch-plan.Post κs a r₁ s₁ → wardlatch-plan.Post κs a r₂ s₂ →
    (r₁ ≡ r₂) × (s₁.1.1.0.now ≡ s₂.1.1.0.now) × (s₁.1.1.1.0.now ≡ s₂.1.1.1.0.now)
wardlatch_plan_unique κs a r₁ r₂ s₁ s₂ p q =
    let e = p.answer ∙ sym q.answer in
    (code_of e, p.words ∙ sym q.words, value_of e)

pub wardlatch_check_unique : (κs : _) (a : _) (r₁ r₂ : ℕ) (s₁ s₂ : _) → wardlatch-check.Post κs a r₁ s₁ → wardlatch-check.Post κs a r₂ s₂ → r₁ ≡ r₂
wardlatch_check_unique κs a r₁ r₂ s₁ s₂ p q = p ∙ sym q

pub wardlatch_domain_add_unique :
    (κs : _) (a : _) (r₁ r₂ : ℕ) (s₁ s₂ : _) → wardlatch-domain-add.Post κs a r₁ s₁ → wardlatch-domain-add.Post κs a r₂ s₂ →
    (r₁ ≡ r₂) × (s₁.0.now ≡ s₂.0.now) × (s₁.1.1.1.1.0.now ≡ s₂.1.1.1.1.0.now)
wardlatch_domain_add_unique κs a r₁ r₂ s₁ s₂ p q =
    let e = p.answer ∙ sym q.answer in
    (code_of e, p.words ∙ sym q.words, value_of e)

pub wardlatch_domain_remove_unique :
    (κs : _) (a : _) (r₁ r₂ : ℕ) (s₁ s₂ : _) → wardlatch-domain-remove.Post κs a r₁ s₁ → wardlatch-domain-remove.Post κs a r₂ s₂ →
    (r₁ ≡ r₂) × (s₁.0.now ≡ s₂.0.now) × (s₁.1.1.1.0.now ≡ s₂.1.1.1.0.now)
wardlatch_domain_remove_unique κs a r₁ r₂ s₁ s₂ p q =
    let e = p.answer ∙ sym q.answer in
    (code_of e, p.words ∙ sym q.words, value_of e)

pub wardlatch_domain_get_unique :
    (κs : _) (a : _) (r₁ r₂ : ℕ) (s₁ s₂ : _) → wardlatch-domain-get.Post κs a r₁ s₁ → wardlatch-domain-get.Post κs a r₂ s₂ →
    (r₁ ≡ r₂) × (s₁.1.1.0.now ≡ s₂.1.1.0.now) × (s₁.1.1.1.0.now ≡ s₂.1.1.1.0.now) × (s₁.1.1.1.1.0.now ≡ s₂.1.1.1.1.0.now)
wardlatch_domain_get_unique κs a r₁ r₂ s₁ s₂ p q =
    let e = p ∙ sym q in
    (ap (λ (x : Got). x.code) e, ap (λ (x : Got). x.start) e, ap (λ (x : Got). x.size) e, ap (λ (x : Got). x.attr) e)

pub wardlatch_domain_has_free_unique :
    (κs : _) (a : _) (r₁ r₂ : ℕ) (s₁ s₂ : _) → wardlatch-domain-has-free.Post κs a r₁ s₁ → wardlatch-domain-has-free.Post κs a r₂ s₂ →
    (r₁ ≡ r₂) × (s₁.1.0.now ≡ s₂.1.0.now)
wardlatch_domain_has_free_unique κs a r₁ r₂ s₁ s₂ p q = (code_of (p ∙ sym q), value_of (p ∙ sym q))

pub wardlatch_domain_contains_unique :
    (κs : _) (a : _) (r₁ r₂ : ℕ) (s₁ s₂ : _) → wardlatch-domain-contains.Post κs a r₁ s₁ → wardlatch-domain-contains.Post κs a r₂ s₂ →
    (r₁ ≡ r₂) × (s₁.1.1.0.now ≡ s₂.1.1.0.now)
wardlatch_domain_contains_unique κs a r₁ r₂ s₁ s₂ p q = (code_of (p ∙ sym q), value_of (p ∙ sym q))

pub wardlatch_partition_valid_unique :
    (a : _) (r₁ r₂ : Bool) (s₁ s₂ : _) → wardlatch-partition-valid.Post (tt {0}) a r₁ s₁ → wardlatch-partition-valid.Post (tt {0}) a r₂ s₂ → r₁ ≡ r₂
wardlatch_partition_valid_unique a r₁ r₂ s₁ s₂ p q = p ∙ sym q

pub wardlatch_partitions_overlap_unique :
    (a : _) (r₁ r₂ : Bool) (s₁ s₂ : _) → wardlatch-partitions-overlap.Post (tt {0}) a r₁ s₁ → wardlatch-partitions-overlap.Post (tt {0}) a r₂ s₂ → r₁ ≡ r₂
wardlatch_partitions_overlap_unique a r₁ r₂ s₁ s₂ p q = p ∙ sym q

pub wardlatch_grant_unique :
    (κs : _) (a : _) (r₁ r₂ : ℕ) (s₁ s₂ : _) → wardlatch-grant.Post κs a r₁ s₁ → wardlatch-grant.Post κs a r₂ s₂ → (r₁ ≡ r₂) × (s₁.0.now ≡ s₂.0.now)
wardlatch_grant_unique κs a r₁ r₂ s₁ s₂ p q = (p.code ∙ sym q.code, p.word ∙ sym q.word)

pub wardlatch_revoke_unique :
    (κs : _) (a : _) (r₁ r₂ : ℕ) (s₁ s₂ : _) → wardlatch-revoke.Post κs a r₁ s₁ → wardlatch-revoke.Post κs a r₂ s₂ → (r₁ ≡ r₂) × (s₁.0.now ≡ s₂.0.now)
wardlatch_revoke_unique κs a r₁ r₂ s₁ s₂ p q = (p.code ∙ sym q.code, p.word ∙ sym q.word)

pub wardlatch_recycle_unique :
    (κs : _) (a : _) (r₁ r₂ : ℕ) (s₁ s₂ : _) → wardlatch-recycle.Post κs a r₁ s₁ → wardlatch-recycle.Post κs a r₂ s₂ →
    (r₁ ≡ r₂) × (s₁.0.now ≡ s₂.0.now) × (s₁.1.0.now ≡ s₂.1.0.now)
wardlatch_recycle_unique κs a r₁ r₂ s₁ s₂ p q = (p.code ∙ sym q.code, p.flags_after_lem ∙ sym q.flags_after_lem, p.word_after ∙ sym q.word_after)

pub wardlatch_has_perm_unique :
    (κs : _) (a : _) (r₁ r₂ : ℕ) (s₁ s₂ : _) → wardlatch-has-perm.Post κs a r₁ s₁ → wardlatch-has-perm.Post κs a r₂ s₂ →
    (r₁ ≡ r₂) × (s₁.1.1.0.now ≡ s₂.1.1.0.now)
wardlatch_has_perm_unique κs a r₁ r₂ s₁ s₂ p q = (p.code ∙ sym q.code, p.told ∙ sym q.told)

pub wardlatch_check_access_unique :
    (a : _) (r₁ r₂ : Bool) (s₁ s₂ : _) → wardlatch-check-access.Post (tt {0}) a r₁ s₁ → wardlatch-check-access.Post (tt {0}) a r₂ s₂ → r₁ ≡ r₂
wardlatch_check_access_unique a r₁ r₂ s₁ s₂ p q = p ∙ sym q

pub wardlatch_validate_unique :
    (a : _) (r₁ r₂ : ℕ) (s₁ s₂ : _) → wardlatch-validate.Post (tt {0}) a r₁ s₁ → wardlatch-validate.Post (tt {0}) a r₂ s₂ → r₁ ≡ r₂
wardlatch_validate_unique a r₁ r₂ s₁ s₂ p q = p ∙ sym q

pub wardlatch_to_errno_unique :
    (κs : _) (a : _) (r₁ r₂ : ℕ) (s₁ s₂ : _) → wardlatch-to-errno.Post κs a r₁ s₁ → wardlatch-to-errno.Post κs a r₂ s₂ →
    (r₁ ≡ r₂) × (s₁.1.0.now ≡ s₂.1.0.now)
wardlatch_to_errno_unique κs a r₁ r₂ s₁ s₂ p q = (p.0 ∙ sym q.0, p.1 ∙ sym q.1)
