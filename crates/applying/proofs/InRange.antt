-- What an OK of `judge` says of the records that the call names: they are of their tables, so that the tables after are the state after.
use Prim.Native.Nat.{ℕ, ◌<◌}
use mathlib.Core.Path.{◌≡◌, refl}
use mathlib.Core.Bool.{Bool, true, ◌&&◌, ◌||◌}
use mathlib.Core.List.{List}
use lib.Dec.{eqb, ltb}
use borrow.Author.Tests.{ltb-true, eq-eqb}
use Rattle.answer.specs.Tests.{both_true}
use Rattle.userspace.specs.Userspace.{THREADS}
use Rattle.tables.specs.Table.{DOMAINS}
use Rattle.tables.specs.State.{State, state_of, Fit}
use Rattle.decoding.specs.declared.Call.{Call}
use Rattle.decoding.specs.Calls.{create, delete, revoke, init, uninit, recycle, publish, thread, end, inherit, assign, add, remove, Op, validate, grant, release, check, exit, sup, unknown, op_of}
use Rattle.judging.specs.Judge.{well_formed, use_of, judge}
use Rattle.judging.specs.Change.{object_change, thread_change, domain_change, after}
use Rattle.judging.specs.Passed.{PassedAs, in_range}
use Rattle.applying.specs.Apply.{enact_objects, enact_threads, enact_slots}
use Rattle.applying.proofs.Picture.{InRange, applied}

-- field b of a call that has nothing in a
thread_below : (c : Call) (b : Bool) → eqb c.a 0 && (ltb c.b THREADS && b) ≡ true → c.b < THREADS
thread_below c b e = ltb-true c.b THREADS (both_true (ltb c.b THREADS) b (both_true (eqb c.a 0) (ltb c.b THREADS && b) e).1).0

-- operation by operation
ranged : (o : Op) (s : State) (c : Call) → PassedAs o s c → InRange o c
unfolding object_change thread_change domain_change well_formed use_of
ranged validate s c p = record { object = tt; thread = tt; domain = tt }
ranged grant s c p = record { object = (p.takes refl).below; thread = tt; domain = tt }
ranged release s c p = record { object = (p.takes refl).below; thread = tt; domain = tt }
ranged check s c p = record { object = tt; thread = tt; domain = tt }
ranged exit s c p = record { object = tt; thread = p.caller; domain = tt }
ranged (sup create) s c p = record { object = (p.frees refl).below; thread = tt; domain = tt }
ranged (sup delete) s c p = record { object = (p.takes refl).below; thread = tt; domain = tt }
ranged (sup revoke) s c p = record { object = (p.takes refl).below; thread = tt; domain = tt }
ranged (sup init) s c p = record { object = (p.takes refl).below; thread = tt; domain = tt }
ranged (sup uninit) s c p = record { object = (p.takes refl).below; thread = tt; domain = tt }
ranged (sup recycle) s c p = record { object = (p.takes refl).below; thread = tt; domain = tt }
ranged (sup publish) s c p = record { object = (p.takes refl).below; thread = tt; domain = tt }
ranged (sup thread) s c p = record { object = tt; thread = ltb-true c.b THREADS (both_true (ltb c.b THREADS) _ p.fields).0; domain = tt }
ranged (sup end) s c p = record { object = tt; thread = thread_below c (eqb c.c 0 && eqb c.d 0) p.fields; domain = tt }
ranged (sup inherit) s c p = record { object = tt; thread = tt; domain = tt }
ranged (sup assign) s c p = record { object = tt; thread = thread_below c ((ltb c.c DOMAINS || eqb c.c 255) && eqb c.d 0) p.fields; domain = tt }
ranged (sup add) s c p = record { object = tt; thread = tt; domain = ltb-true c.a DOMAINS (both_true (ltb c.a DOMAINS) _ p.fields).0 }
ranged (sup remove) s c p = record { object = tt; thread = tt; domain = ltb-true c.a DOMAINS (both_true (ltb c.a DOMAINS) _ p.fields).0 }
ranged unknown s c p = record { object = tt; thread = tt; domain = tt }

-- a call that is answered OK on a state's tables: the tables after are the state after the call
pub applied_ok :
    (os ts ss : List ℕ) → Fit os ts ss → (c : Call) → (judge (state_of os ts ss) c).code ≡ 0 →
    state_of (enact_objects (object_change (op_of c.op) c) os) (enact_threads (thread_change (op_of c.op) c) ts) (enact_slots (domain_change (op_of c.op) c) ss)
    ≡ after (state_of os ts ss) c
unfolding after
applied_ok os ts ss f c e = rw (eq-eqb (judge (state_of os ts ss) c).code 0 e) (applied os ts ss f (op_of c.op) c (ranged (op_of c.op) (state_of os ts ss) c (in_range (state_of os ts ss) c e)))
