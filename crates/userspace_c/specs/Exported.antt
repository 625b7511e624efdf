-- What the exported functions promise: the leaf's own definitions, with the record's fields as plain numbers (docs/SPEC.md, 12.8 to 12.10).
use Rattle.std.specs.Prelude.{ℕ, ◌≡◌, Bool, ℤ}
use Rattle.userspace.specs.declared.KernelObject.{KernelObject}
use Rattle.answer.specs.Answer.{code_in}
use Rattle.userspace_names.specs.Names.{mode_of}
use Rattle.userspace_decide.specs.Decide.{answer_of}
use Rattle.userspace.specs.Userspace.{granted, revoked, recycled, bit_answer, bit_in, access, validated}

-- a record of these fields; the type plays no part but in validate
abbrev pub object_of : ℕ → ℕ → ℕ → KernelObject
object_of kind flags word = record { obj_type = kind; flags = flags; word = word }

-- grant: the code, and the word after
pub record Grants (before tid r after : ℕ) : Type 0 where
  pub code : r ≡ code_in (granted (object_of 0 0 before) tid).answer
  pub word : after ≡ (granted (object_of 0 0 before) tid).object.word

-- revoke: the code, and the word after
pub record Revokes (before tid r after : ℕ) : Type 0 where
  pub code : r ≡ code_in (revoked (object_of 0 0 before) tid).answer
  pub word : after ≡ (revoked (object_of 0 0 before) tid).object.word

-- recycle: the code, and the flags and the word after
pub record Recycles (flags word tid r flags_after wordAfter : ℕ) : Type 0 where
  pub code : r ≡ code_in (recycled (object_of 0 flags word) tid).answer
  pub flags_after_lem : flags_after ≡ (recycled (object_of 0 flags word) tid).object.flags
  pub word_after : wordAfter ≡ (recycled (object_of 0 flags word) tid).object.word

-- bit query: the code, and the value
pub record Queries (word tid r value : ℕ) : Type 0 where
  pub code : r ≡ code_in (bit_answer (object_of 0 0 word) tid)
  pub told : value ≡ bit_in (bit_answer (object_of 0 0 word) tid)

-- access
abbrev pub may_use : ℕ → ℕ → ℕ → Bool → Bool
may_use flags word tid supervisor = access (object_of 0 flags word) tid supervisor

-- validate with a raw mode: the number that the answer stands for
abbrev pub valid_code : ℕ → ℕ → ℕ → ℕ → ℕ → Bool → ℤ → ℕ
valid_code kind flags word expected tid supervisor mode =
    (answer_of (validated (object_of kind flags word) expected tid supervisor (mode_of mode))).code
