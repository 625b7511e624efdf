-- Each of the eighteen operations: OK exactly when its conditions hold. The conditions stand in one record by their names, so that a reader can hold
-- them against docs/SPEC.md, 7.26 to 7.87; proofs/Conditions.antt has the proof for all of them.
use Prim.Native.Nat.{◌+◌, ◌≤◌, ◌<◌}
use mathlib.Core.Path.{◌≡◌, refl, subst}
use mathlib.Core.Logic.{◌↔◌, ◌≢◌}
use mathlib.Core.Bool.{true, false, false≢true}
use lib.Dec.{eqb}
use Rattle.userspace.specs.Userspace.{THREADS, initialised}
use Rattle.tables.specs.Table.{HANDLES, DOMAINS}
use Rattle.tables.specs.State.{State, object, thread, domain}
use Rattle.decoding.specs.declared.Call.{Call}
use Rattle.decoding.specs.Calls.{create, delete, revoke, init, uninit, recycle, publish, thread as new_thread, end, inherit, assign, add, remove, Op, validate, grant, release, check, exit, sup, op_of}
use Rattle.judging.specs.Judge.{live, supervisor, type_of, may_use, partition_of, use_of, is_privileged, judge}
use Rattle.judging.specs.Passed.{TakenAt}
use Rattle.mem_check.specs.Runs.{EveryByte}
use Rattle.call_laws.proofs.Conditions.{Mode, Attr, Home, FitsType, Unserved, Apart, Room, Match, Fields, UsedAt, RuleHolds, OkAs, ok_exactly}

-- an operation by its number
pub ok_as : (o : Op) (s : State) (c : Call) → op_of c.op ≡ o → ((judge s c).code ≡ 0) ↔ OkAs o s c
ok_as o s c e = subst (λ (x : Op). ((judge s c).code ≡ 0) ↔ OkAs x s c) e (ok_exactly s c)

-- a live caller with access to a taken handle, whose type fits and whose initialisation is as the mode wants it
pub record ValidateOk (s : State) (c : Call) : Type 0 where
  pub caller : c.caller < THREADS
  pub lives : live s c.caller ≡ true
  pub kind : c.b < 16
  pub mode : Mode c.c
  pub unused_d : c.d ≡ 0
  pub handle : c.a < HANDLES
  pub taken : type_of s c.a ≢ 0
  pub fits : FitsType c.b (type_of s c.a)
  pub access : may_use s c.caller c.a ≡ true
  pub ready : c.c ≡ 0 → initialised (object s c.a) ≡ true
  pub bare : c.c ≡ 4294967295 → initialised (object s c.a) ≡ false

pub validate_ok_means : (s : State) (c : Call) → op_of c.op ≡ validate → (judge s c).code ≡ 0 → ValidateOk s c
unfolding Fields UsedAt use_of RuleHolds is_privileged
validate_ok_means s c o e =
    let k = (ok_as validate s c o).0 e in
    record {
      caller = k.caller;
      lives = k.lives;
      kind = k.fields.0;
      mode = k.fields.1.0;
      unused_d = k.fields.1.1;
      handle = k.handle.below;
      taken = k.handle.taken;
      fits = k.rule.0;
      access = k.rule.1.0;
      ready = k.rule.1.1.0;
      bare = k.rule.1.1.1;
    }

pub validate_ok_when : (s : State) (c : Call) → op_of c.op ≡ validate → ValidateOk s c → (judge s c).code ≡ 0
unfolding Fields UsedAt use_of RuleHolds is_privileged
validate_ok_when s c o g =
    (ok_as validate s c o).1
    (record {
      caller = g.caller;
      lives = g.lives;
      rank = λ e. absurd (false≢true e);
      fields = (g.kind, (g.mode, g.unused_d));
      handle = record { below = g.handle; taken = g.taken };
      rule = (g.fits, (g.access, (g.ready, g.bare)));
    })

-- the caller has access to the object and to the thread object of the target, which lives
pub record GrantOk (s : State) (c : Call) : Type 0 where
  pub caller : c.caller < THREADS
  pub lives : live s c.caller ≡ true
  pub target : c.b < THREADS
  pub unused_c : c.c ≡ 0
  pub unused_d : c.d ≡ 0
  pub handle : c.a < HANDLES
  pub taken : type_of s c.a ≢ 0
  pub access : may_use s c.caller c.a ≡ true
  pub target_lives : live s c.b ≡ true
  pub target_access : may_use s c.caller (thread s c.b).handle ≡ true

pub grant_ok_means : (s : State) (c : Call) → op_of c.op ≡ grant → (judge s c).code ≡ 0 → GrantOk s c
unfolding Fields UsedAt use_of RuleHolds is_privileged
grant_ok_means s c o e =
    let k = (ok_as grant s c o).0 e in
    record {
      caller = k.caller;
      lives = k.lives;
      target = k.fields.0;
      unused_c = k.fields.1.0;
      unused_d = k.fields.1.1;
      handle = k.handle.below;
      taken = k.handle.taken;
      access = k.rule.0;
      target_lives = k.rule.1.0;
      target_access = k.rule.1.1;
    }

pub grant_ok_when : (s : State) (c : Call) → op_of c.op ≡ grant → GrantOk s c → (judge s c).code ≡ 0
unfolding Fields UsedAt use_of RuleHolds is_privileged
grant_ok_when s c o g =
    (ok_as grant s c o).1
    (record {
      caller = g.caller;
      lives = g.lives;
      rank = λ e. absurd (false≢true e);
      fields = (g.target, (g.unused_c, g.unused_d));
      handle = record { below = g.handle; taken = g.taken };
      rule = (g.access, (g.target_lives, g.target_access));
    })

-- the caller has access; it need not hold the bit
pub record ReleaseOk (s : State) (c : Call) : Type 0 where
  pub caller : c.caller < THREADS
  pub lives : live s c.caller ≡ true
  pub unused_b : c.b ≡ 0
  pub unused_c : c.c ≡ 0
  pub unused_d : c.d ≡ 0
  pub handle : c.a < HANDLES
  pub taken : type_of s c.a ≢ 0
  pub access : may_use s c.caller c.a ≡ true

pub release_ok_means : (s : State) (c : Call) → op_of c.op ≡ release → (judge s c).code ≡ 0 → ReleaseOk s c
unfolding Fields UsedAt use_of RuleHolds is_privileged
release_ok_means s c o e =
    let k = (ok_as release s c o).0 e in
    record {
      caller = k.caller;
      lives = k.lives;
      unused_b = k.fields.0;
      unused_c = k.fields.1.0;
      unused_d = k.fields.1.1;
      handle = k.handle.below;
      taken = k.handle.taken;
      access = k.rule;
    }

pub release_ok_when : (s : State) (c : Call) → op_of c.op ≡ release → ReleaseOk s c → (judge s c).code ≡ 0
unfolding Fields UsedAt use_of RuleHolds is_privileged
release_ok_when s c o g =
    (ok_as release s c o).1
    (record {
      caller = g.caller;
      lives = g.lives;
      rank = λ e. absurd (false≢true e);
      fields = (g.unused_b, (g.unused_c, g.unused_d));
      handle = record { below = g.handle; taken = g.taken };
      rule = g.access;
    })

-- the range has a length and ends in 32 bits, and for all but supervisors every byte of it is covered (SPEC 7.41 to 7.44)
pub record CheckOk (s : State) (c : Call) : Type 0 where
  pub caller : c.caller < THREADS
  pub lives : live s c.caller ≡ true
  pub unused_a : c.a ≡ 0
  pub right : c.d < 2
  pub length : c.c ≢ 0
  pub ends : c.b + c.c ≤ 4294967295
  pub covered : supervisor s c.caller ≡ false → EveryByte (domain s (thread s c.caller).domain) (eqb c.d 1) c.b c.c

pub check_ok_means : (s : State) (c : Call) → op_of c.op ≡ check → (judge s c).code ≡ 0 → CheckOk s c
unfolding Fields UsedAt use_of RuleHolds is_privileged
check_ok_means s c o e =
    let k = (ok_as check s c o).0 e in
    record {
      caller = k.caller;
      lives = k.lives;
      unused_a = k.fields.0;
      right = k.fields.1;
      length = k.rule.0.0;
      ends = k.rule.0.1;
      covered = k.rule.1;
    }

pub check_ok_when : (s : State) (c : Call) → op_of c.op ≡ check → CheckOk s c → (judge s c).code ≡ 0
unfolding Fields UsedAt use_of RuleHolds is_privileged
check_ok_when s c o g =
    (ok_as check s c o).1
    (record {
      caller = g.caller;
      lives = g.lives;
      rank = λ e. absurd (false≢true e);
      fields = (g.unused_a, g.right);
      handle = tt;
      rule = ((g.length, g.ends), g.covered);
    })

-- any live caller, the last supervisor too
pub record ExitOk (s : State) (c : Call) : Type 0 where
  pub caller : c.caller < THREADS
  pub lives : live s c.caller ≡ true
  pub unused_a : c.a ≡ 0
  pub unused_b : c.b ≡ 0
  pub unused_c : c.c ≡ 0
  pub unused_d : c.d ≡ 0

pub exit_ok_means : (s : State) (c : Call) → op_of c.op ≡ exit → (judge s c).code ≡ 0 → ExitOk s c
unfolding Fields UsedAt use_of RuleHolds is_privileged
exit_ok_means s c o e =
    let k = (ok_as exit s c o).0 e in
    record {
      caller = k.caller;
      lives = k.lives;
      unused_a = k.fields.0;
      unused_b = k.fields.1.0;
      unused_c = k.fields.1.1.0;
      unused_d = k.fields.1.1.1;
    }

pub exit_ok_when : (s : State) (c : Call) → op_of c.op ≡ exit → ExitOk s c → (judge s c).code ≡ 0
unfolding Fields UsedAt use_of RuleHolds is_privileged
exit_ok_when s c o g =
    (ok_as exit s c o).1
    (record {
      caller = g.caller;
      lives = g.lives;
      rank = λ e. absurd (false≢true e);
      fields = (g.unused_a, (g.unused_b, (g.unused_c, g.unused_d)));
      handle = tt;
      rule = tt;
    })

-- a type from 1 to 15 and a free handle
pub record CreateOk (s : State) (c : Call) : Type 0 where
  pub caller : c.caller < THREADS
  pub lives : live s c.caller ≡ true
  pub rules : supervisor s c.caller ≡ true
  pub some_kind : 0 < c.b
  pub kind : c.b < 16
  pub unused_c : c.c ≡ 0
  pub unused_d : c.d ≡ 0
  pub handle : c.a < HANDLES
  pub free : type_of s c.a ≡ 0

pub create_ok_means : (s : State) (c : Call) → op_of c.op ≡ sup create → (judge s c).code ≡ 0 → CreateOk s c
unfolding Fields UsedAt use_of RuleHolds is_privileged
create_ok_means s c o e =
    let k = (ok_as (sup create) s c o).0 e in
    record {
      caller = k.caller;
      lives = k.lives;
      rules = k.rank refl;
      some_kind = k.fields.0;
      kind = k.fields.1.0;
      unused_c = k.fields.1.1.0;
      unused_d = k.fields.1.1.1;
      handle = k.handle.below;
      free = k.handle.free;
    }

pub create_ok_when : (s : State) (c : Call) → op_of c.op ≡ sup create → CreateOk s c → (judge s c).code ≡ 0
unfolding Fields UsedAt use_of RuleHolds is_privileged
create_ok_when s c o g =
    (ok_as (sup create) s c o).1
    (record {
      caller = g.caller;
      lives = g.lives;
      rank = λ _. g.rules;
      fields = (g.some_kind, (g.kind, (g.unused_c, g.unused_d)));
      handle = record { below = g.handle; free = g.free };
      rule = tt;
    })

-- a taken handle that no live thread has
pub record DeleteOk (s : State) (c : Call) : Type 0 where
  pub caller : c.caller < THREADS
  pub lives : live s c.caller ≡ true
  pub rules : supervisor s c.caller ≡ true
  pub unused_b : c.b ≡ 0
  pub unused_c : c.c ≡ 0
  pub unused_d : c.d ≡ 0
  pub handle : c.a < HANDLES
  pub taken : type_of s c.a ≢ 0
  pub unserved : Unserved s c.a

pub delete_ok_means : (s : State) (c : Call) → op_of c.op ≡ sup delete → (judge s c).code ≡ 0 → DeleteOk s c
unfolding Fields UsedAt use_of RuleHolds is_privileged
delete_ok_means s c o e =
    let k = (ok_as (sup delete) s c o).0 e in
    record {
      caller = k.caller;
      lives = k.lives;
      rules = k.rank refl;
      unused_b = k.fields.0;
      unused_c = k.fields.1.0;
      unused_d = k.fields.1.1;
      handle = k.handle.below;
      taken = k.handle.taken;
      unserved = k.rule;
    }

pub delete_ok_when : (s : State) (c : Call) → op_of c.op ≡ sup delete → DeleteOk s c → (judge s c).code ≡ 0
unfolding Fields UsedAt use_of RuleHolds is_privileged
delete_ok_when s c o g =
    (ok_as (sup delete) s c o).1
    (record {
      caller = g.caller;
      lives = g.lives;
      rank = λ _. g.rules;
      fields = (g.unused_b, (g.unused_c, g.unused_d));
      handle = record { below = g.handle; taken = g.taken };
      rule = g.unserved;
    })

-- a taken handle and a live thread
pub record RevokeOk (s : State) (c : Call) : Type 0 where
  pub caller : c.caller < THREADS
  pub lives : live s c.caller ≡ true
  pub rules : supervisor s c.caller ≡ true
  pub target : c.b < THREADS
  pub unused_c : c.c ≡ 0
  pub unused_d : c.d ≡ 0
  pub handle : c.a < HANDLES
  pub taken : type_of s c.a ≢ 0
  pub target_lives : live s c.b ≡ true

pub revoke_ok_means : (s : State) (c : Call) → op_of c.op ≡ sup revoke → (judge s c).code ≡ 0 → RevokeOk s c
unfolding Fields UsedAt use_of RuleHolds is_privileged
revoke_ok_means s c o e =
    let k = (ok_as (sup revoke) s c o).0 e in
    record {
      caller = k.caller;
      lives = k.lives;
      rules = k.rank refl;
      target = k.fields.0;
      unused_c = k.fields.1.0;
      unused_d = k.fields.1.1;
      handle = k.handle.below;
      taken = k.handle.taken;
      target_lives = k.rule;
    }

pub revoke_ok_when : (s : State) (c : Call) → op_of c.op ≡ sup revoke → RevokeOk s c → (judge s c).code ≡ 0
unfolding Fields UsedAt use_of RuleHolds is_privileged
revoke_ok_when s c o g =
    (ok_as (sup revoke) s c o).1
    (record {
      caller = g.caller;
      lives = g.lives;
      rank = λ _. g.rules;
      fields = (g.target, (g.unused_c, g.unused_d));
      handle = record { below = g.handle; taken = g.taken };
      rule = g.target_lives;
    })

-- init, uninit, recycle, make public: any taken handle
pub record TakenOk (s : State) (c : Call) : Type 0 where
  pub caller : c.caller < THREADS
  pub lives : live s c.caller ≡ true
  pub rules : supervisor s c.caller ≡ true
  pub unused_b : c.b ≡ 0
  pub unused_c : c.c ≡ 0
  pub unused_d : c.d ≡ 0
  pub handle : c.a < HANDLES
  pub taken : type_of s c.a ≢ 0

-- one proof for the four
taken_means :
    {o : Op} {s : State} {c : Call} → OkAs o s c → supervisor s c.caller ≡ true → (c.b ≡ 0) × ((c.c ≡ 0) × (c.d ≡ 0)) → TakenAt s c.a →
    TakenOk s c
taken_means k r f h =
    record {
      caller = k.caller;
      lives = k.lives;
      rules = r;
      unused_b = f.0;
      unused_c = f.1.0;
      unused_d = f.1.1;
      handle = h.below;
      taken = h.taken;
    }

taken_when :
    {o : Op} {s : State} {c : Call} → ((c.b ≡ 0) × ((c.c ≡ 0) × (c.d ≡ 0)) → Fields o c) → (TakenAt s c.a → UsedAt (use_of o) s c.a) →
    RuleHolds o s c → TakenOk s c → OkAs o s c
taken_when f h r g =
    record {
      caller = g.caller;
      lives = g.lives;
      rank = λ _. g.rules;
      fields = f (g.unused_b, (g.unused_c, g.unused_d));
      handle = h (record { below = g.handle; taken = g.taken });
      rule = r;
    }

pub init_ok_means : (s : State) (c : Call) → op_of c.op ≡ sup init → (judge s c).code ≡ 0 → TakenOk s c
unfolding Fields UsedAt use_of is_privileged
init_ok_means s c o e = let k = (ok_as (sup init) s c o).0 e in taken_means k (k.rank refl) k.fields k.handle

pub init_ok_when : (s : State) (c : Call) → op_of c.op ≡ sup init → TakenOk s c → (judge s c).code ≡ 0
unfolding Fields UsedAt use_of RuleHolds
init_ok_when s c o g = (ok_as (sup init) s c o).1 (taken_when (λ f. f) (λ h. h) tt g)

pub uninit_ok_means : (s : State) (c : Call) → op_of c.op ≡ sup uninit → (judge s c).code ≡ 0 → TakenOk s c
unfolding Fields UsedAt use_of is_privileged
uninit_ok_means s c o e = let k = (ok_as (sup uninit) s c o).0 e in taken_means k (k.rank refl) k.fields k.handle

pub uninit_ok_when : (s : State) (c : Call) → op_of c.op ≡ sup uninit → TakenOk s c → (judge s c).code ≡ 0
unfolding Fields UsedAt use_of RuleHolds
uninit_ok_when s c o g = (ok_as (sup uninit) s c o).1 (taken_when (λ f. f) (λ h. h) tt g)

pub recycle_ok_means : (s : State) (c : Call) → op_of c.op ≡ sup recycle → (judge s c).code ≡ 0 → TakenOk s c
unfolding Fields UsedAt use_of is_privileged
recycle_ok_means s c o e = let k = (ok_as (sup recycle) s c o).0 e in taken_means k (k.rank refl) k.fields k.handle

pub recycle_ok_when : (s : State) (c : Call) → op_of c.op ≡ sup recycle → TakenOk s c → (judge s c).code ≡ 0
unfolding Fields UsedAt use_of RuleHolds
recycle_ok_when s c o g = (ok_as (sup recycle) s c o).1 (taken_when (λ f. f) (λ h. h) tt g)

pub publish_ok_means : (s : State) (c : Call) → op_of c.op ≡ sup publish → (judge s c).code ≡ 0 → TakenOk s c
unfolding Fields UsedAt use_of is_privileged
publish_ok_means s c o e = let k = (ok_as (sup publish) s c o).0 e in taken_means k (k.rank refl) k.fields k.handle

pub publish_ok_when : (s : State) (c : Call) → op_of c.op ≡ sup publish → TakenOk s c → (judge s c).code ≡ 0
unfolding Fields UsedAt use_of RuleHolds
publish_ok_when s c o g = (ok_as (sup publish) s c o).1 (taken_when (λ f. f) (λ h. h) tt g)

-- a dead thread and a handle of type Thread that no live thread has
pub record ThreadOk (s : State) (c : Call) : Type 0 where
  pub caller : c.caller < THREADS
  pub lives : live s c.caller ≡ true
  pub rules : supervisor s c.caller ≡ true
  pub number : c.b < THREADS
  pub role : c.c < 2
  pub unused_d : c.d ≡ 0
  pub handle : c.a < HANDLES
  pub taken : type_of s c.a ≢ 0
  pub dead : live s c.b ≡ false
  pub kind : type_of s c.a ≡ 1
  pub unserved : Unserved s c.a

pub thread_ok_means : (s : State) (c : Call) → op_of c.op ≡ sup new_thread → (judge s c).code ≡ 0 → ThreadOk s c
unfolding Fields UsedAt use_of RuleHolds is_privileged
thread_ok_means s c o e =
    let k = (ok_as (sup new_thread) s c o).0 e in
    record {
      caller = k.caller;
      lives = k.lives;
      rules = k.rank refl;
      number = k.fields.0;
      role = k.fields.1.0;
      unused_d = k.fields.1.1;
      handle = k.handle.below;
      taken = k.handle.taken;
      dead = k.rule.0;
      kind = k.rule.1.0;
      unserved = k.rule.1.1;
    }

pub thread_ok_when : (s : State) (c : Call) → op_of c.op ≡ sup new_thread → ThreadOk s c → (judge s c).code ≡ 0
unfolding Fields UsedAt use_of RuleHolds is_privileged
thread_ok_when s c o g =
    (ok_as (sup new_thread) s c o).1
    (record {
      caller = g.caller;
      lives = g.lives;
      rank = λ _. g.rules;
      fields = (g.number, (g.role, g.unused_d));
      handle = record { below = g.handle; taken = g.taken };
      rule = (g.dead, (g.kind, g.unserved));
    })

-- any live thread, the caller too
pub record EndOk (s : State) (c : Call) : Type 0 where
  pub caller : c.caller < THREADS
  pub lives : live s c.caller ≡ true
  pub rules : supervisor s c.caller ≡ true
  pub unused_a : c.a ≡ 0
  pub target : c.b < THREADS
  pub unused_c : c.c ≡ 0
  pub unused_d : c.d ≡ 0
  pub target_lives : live s c.b ≡ true

pub end_ok_means : (s : State) (c : Call) → op_of c.op ≡ sup end → (judge s c).code ≡ 0 → EndOk s c
unfolding Fields UsedAt use_of RuleHolds is_privileged
end_ok_means s c o e =
    let k = (ok_as (sup end) s c o).0 e in
    record {
      caller = k.caller;
      lives = k.lives;
      rules = k.rank refl;
      unused_a = k.fields.0;
      target = k.fields.1.0;
      unused_c = k.fields.1.1.0;
      unused_d = k.fields.1.1.1;
      target_lives = k.rule;
    }

pub end_ok_when : (s : State) (c : Call) → op_of c.op ≡ sup end → EndOk s c → (judge s c).code ≡ 0
unfolding Fields UsedAt use_of RuleHolds is_privileged
end_ok_when s c o g =
    (ok_as (sup end) s c o).1
    (record {
      caller = g.caller;
      lives = g.lives;
      rank = λ _. g.rules;
      fields = (g.unused_a, (g.target, (g.unused_c, g.unused_d)));
      handle = tt;
      rule = g.target_lives;
    })

-- two live threads, which may be one
pub record InheritOk (s : State) (c : Call) : Type 0 where
  pub caller : c.caller < THREADS
  pub lives : live s c.caller ≡ true
  pub rules : supervisor s c.caller ≡ true
  pub unused_a : c.a ≡ 0
  pub parent : c.b < THREADS
  pub child : c.c < THREADS
  pub unused_d : c.d ≡ 0
  pub parent_lives : live s c.b ≡ true
  pub child_lives : live s c.c ≡ true

pub inherit_ok_means : (s : State) (c : Call) → op_of c.op ≡ sup inherit → (judge s c).code ≡ 0 → InheritOk s c
unfolding Fields UsedAt use_of RuleHolds is_privileged
inherit_ok_means s c o e =
    let k = (ok_as (sup inherit) s c o).0 e in
    record {
      caller = k.caller;
      lives = k.lives;
      rules = k.rank refl;
      unused_a = k.fields.0;
      parent = k.fields.1.0;
      child = k.fields.1.1.0;
      unused_d = k.fields.1.1.1;
      parent_lives = k.rule.0;
      child_lives = k.rule.1;
    }

pub inherit_ok_when : (s : State) (c : Call) → op_of c.op ≡ sup inherit → InheritOk s c → (judge s c).code ≡ 0
unfolding Fields UsedAt use_of RuleHolds is_privileged
inherit_ok_when s c o g =
    (ok_as (sup inherit) s c o).1
    (record {
      caller = g.caller;
      lives = g.lives;
      rank = λ _. g.rules;
      fields = (g.unused_a, (g.parent, (g.child, g.unused_d)));
      handle = tt;
      rule = (g.parent_lives, g.child_lives);
    })

-- a live thread, and a domain or the 255 that stands for none
pub record AssignOk (s : State) (c : Call) : Type 0 where
  pub caller : c.caller < THREADS
  pub lives : live s c.caller ≡ true
  pub rules : supervisor s c.caller ≡ true
  pub unused_a : c.a ≡ 0
  pub target : c.b < THREADS
  pub home : Home c.c
  pub unused_d : c.d ≡ 0
  pub target_lives : live s c.b ≡ true

pub assign_ok_means : (s : State) (c : Call) → op_of c.op ≡ sup assign → (judge s c).code ≡ 0 → AssignOk s c
unfolding Fields UsedAt use_of RuleHolds is_privileged
assign_ok_means s c o e =
    let k = (ok_as (sup assign) s c o).0 e in
    record {
      caller = k.caller;
      lives = k.lives;
      rules = k.rank refl;
      unused_a = k.fields.0;
      target = k.fields.1.0;
      home = k.fields.1.1.0;
      unused_d = k.fields.1.1.1;
      target_lives = k.rule;
    }

pub assign_ok_when : (s : State) (c : Call) → op_of c.op ≡ sup assign → AssignOk s c → (judge s c).code ≡ 0
unfolding Fields UsedAt use_of RuleHolds is_privileged
assign_ok_when s c o g =
    (ok_as (sup assign) s c o).1
    (record {
      caller = g.caller;
      lives = g.lives;
      rank = λ _. g.rules;
      fields = (g.unused_a, (g.target, (g.home, g.unused_d)));
      handle = tt;
      rule = g.target_lives;
    })

-- a valid window with an allowed attr that overlaps no active slot, and a free slot
pub record AddOk (s : State) (c : Call) : Type 0 where
  pub caller : c.caller < THREADS
  pub lives : live s c.caller ≡ true
  pub rules : supervisor s c.caller ≡ true
  pub number : c.a < DOMAINS
  pub rights : Attr c.d
  pub length : 0 < c.c
  pub ends : c.b + c.c ≤ 4294967295
  pub apart : Apart (domain s c.a) (partition_of c)
  pub room : Room (domain s c.a)

pub add_ok_means : (s : State) (c : Call) → op_of c.op ≡ sup add → (judge s c).code ≡ 0 → AddOk s c
unfolding Fields UsedAt use_of RuleHolds is_privileged
add_ok_means s c o e =
    let k = (ok_as (sup add) s c o).0 e in
    record {
      caller = k.caller;
      lives = k.lives;
      rules = k.rank refl;
      number = k.fields.0;
      rights = k.fields.1;
      length = k.rule.0.0;
      ends = k.rule.0.1;
      apart = k.rule.1.0;
      room = k.rule.1.1;
    }

pub add_ok_when : (s : State) (c : Call) → op_of c.op ≡ sup add → AddOk s c → (judge s c).code ≡ 0
unfolding Fields UsedAt use_of RuleHolds is_privileged
add_ok_when s c o g =
    (ok_as (sup add) s c o).1
    (record {
      caller = g.caller;
      lives = g.lives;
      rank = λ _. g.rules;
      fields = (g.number, g.rights);
      handle = tt;
      rule = ((g.length, g.ends), (g.apart, g.room));
    })

-- a slot with that start and size, which is not 0
pub record RemoveOk (s : State) (c : Call) : Type 0 where
  pub caller : c.caller < THREADS
  pub lives : live s c.caller ≡ true
  pub rules : supervisor s c.caller ≡ true
  pub number : c.a < DOMAINS
  pub unused_d : c.d ≡ 0
  pub length : c.c ≢ 0
  pub matched : Match (domain s c.a) c.b c.c

pub remove_ok_means : (s : State) (c : Call) → op_of c.op ≡ sup remove → (judge s c).code ≡ 0 → RemoveOk s c
unfolding Fields UsedAt use_of RuleHolds is_privileged
remove_ok_means s c o e =
    let k = (ok_as (sup remove) s c o).0 e in
    record {
      caller = k.caller;
      lives = k.lives;
      rules = k.rank refl;
      number = k.fields.0;
      unused_d = k.fields.1;
      length = k.rule.0;
      matched = k.rule.1;
    }

pub remove_ok_when : (s : State) (c : Call) → op_of c.op ≡ sup remove → RemoveOk s c → (judge s c).code ≡ 0
unfolding Fields UsedAt use_of RuleHolds is_privileged
remove_ok_when s c o g =
    (ok_as (sup remove) s c o).1
    (record {
      caller = g.caller;
      lives = g.lives;
      rank = λ _. g.rules;
      fields = (g.number, g.unused_d);
      handle = tt;
      rule = (g.length, g.matched);
    })
