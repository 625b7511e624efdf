-- Two calls that no latch with one answer can meet, over any state: docs/SPEC.md, 7.30 and 7.31. And a memory check from one slot into the next,
-- over any state: SPEC 7.49.
use Prim.Native.Nat.{ℕ, ◌+◌, ◌≤◌, ◌<◌}
use native.Mathlib.Decide.{dec_lt}
use native.Mathlib.Omega.{arith}
use mathlib.Core.Path.{◌≡◌, refl, sym, ap, ◌∙◌}
use mathlib.Core.Logic.{◌≢◌, inl, inr}
use mathlib.Core.Bool.{Bool, true, false, not, false≢true}
use mathlib.Core.List.{List, []}
use lib.Dec.{eqb, lit<, lit≤}
use lib.ListN.{length, get_or-eq_default}
use borrow.Author.Tests.{lt-leb, eqb-true, ne_eqb}
use Rattle.answer.specs.Answer.{refused, done}
use Rattle.answer.specs.declared.Answer.{Answer}
use Rattle.answer.specs.declared.Code.TheVariants.{Einval, Eperm}
use Rattle.mem_partition.specs.declared.MemPartition.{MemPartition}
use Rattle.mem_partition.specs.Partition.{end_of}
use Rattle.mem_domain.specs.Domain.{slots as SLOTS, slot_at}
use Rattle.domain_rules.proofs.All.{isnt_true}
use Rattle.userspace_decide.specs.Decide.{judged}
use Rattle.userspace.specs.Userspace.{THREADS, public, holds, access, validated}
use Rattle.tables.specs.Table.{HANDLES, DOMAINS}
use Rattle.tables.specs.State.{State, object, thread, domain}
use Rattle.mem_check.specs.Memory.{gives, is_covered}
use Rattle.mem_check.proofs.Memory.{covered_when, no_slots}
use Rattle.rules.specs.Rules.{Keeps}
use Rattle.decoding.specs.declared.Call.{Call}
use Rattle.decoding.specs.Calls.{Op, validate, check, op_of}
use Rattle.judging.specs.Judge.{live, supervisor, type_of, may_use, well_formed, use_of, with_handle, rule, is_unknown, is_privileged, judge_op, judge}
use Rattle.call_laws.proofs.Conditions.{Mode, FitsType, Fields, fields_iff, fits_iff}
use Rattle.call_laws.proofs.Cascade.{stop, pass}
use Rattle.call_laws.proofs.Operations.{validate_ok_when, check_ok_when}
use Rattle.call_laws.proofs.Order.{ok_value}

-- a call by its numbers
abbrev pub asks : ℕ → ℕ → ℕ → ℕ → ℕ → ℕ → Call
asks op caller a b c d = record { op = op; caller = caller; a = a; b = b; c = c; d = d }

-- thread t asks for handle h with type e and mode m
abbrev pub asks_for : ℕ → ℕ → ℕ → ℕ → Call
asks_for t h e m = asks 0 t h e m 0

validates : op_of 0 ≡ validate
unfolding op_of
validates = refl

checks : op_of 3 ≡ check
unfolding op_of
checks = refl

answer_is : (a : Answer) (x y : ℕ) → a.code ≡ x → a.value ≡ y → a ≡ record { code = x; value = y }
answer_is a x y p q = rw (← p, ← q)

-- an OK of a call that is open to all returns 0
ok_done : (s : State) (c : Call) (o : Op) → op_of c.op ≡ o → is_privileged o ≡ false → (judge s c).code ≡ 0 → judge s c ≡ done
unfolding is_privileged
ok_done s c o p f e =
    answer_is (judge s c) 0 0 e (ok_value s c e (λ q. false≢true (sym f ∙ ap is_privileged (sym p ∙ q))) (λ q. false≢true (sym f ∙ ap is_privileged (sym p ∙ q))))

-- a latch with refusals alone fails here (SPEC 7.30)
pub always_refusing_fails :
    (s : State) (t h : ℕ) → t < THREADS → supervisor s t ≡ true → h < HANDLES → type_of s h ≢ 0 → judge s (asks_for t h 0 1) ≡ done
unfolding access is_privileged
always_refusing_fails s t h b v k y =
    ok_done s (asks_for t h 0 1) validate validates refl
    (validate_ok_when s (asks_for t h 0 1) validates
    (record {
      caller = b;
      lives = rules_lives (thread s t).role v;
      kind = lit< tt;
      mode = inr (inl refl);
      unused_d = refl;
      handle = k;
      taken = y;
      fits = inl refl;
      access = rw v;
      ready = λ e. absurd (omega arith);
      bare = λ e. absurd (omega arith);
    }))
  where
    rules_lives : (n : ℕ) → eqb n 2 ≡ true → not (eqb n 0) ≡ true
    rules_lives n e = ap not (ne_eqb n 0 (λ z. omega (arith, eqb-true n 2 e)))

-- a live user, and a taken object that is not public and lacks the user's bit (SPEC 7.31)
pub record Shut (s : State) (t h : ℕ) : Type 0 where
  pub number : t < THREADS
  pub lives : live s t ≡ true
  pub user : supervisor s t ≡ false
  pub handle : h < HANDLES
  pub taken : type_of s h ≢ 0
  pub hidden : public (object s h) ≡ false
  pub bare : holds (object s h) t ≡ false

module _ (s : State) (t h : ℕ) (g : Shut s t h) where
  no_access : may_use s t h ≡ false
  unfolding access
  no_access = rw (g.user, g.hidden, g.bare)

  -- its validate is EPERM, for every type that fits and every mode
  pub shut_refused : (e m : ℕ) → e < 16 → FitsType e (type_of s h) → Mode m → judge s (asks_for t h e m) ≡ refused Eperm
  unfolding judge judge_op op_of is_unknown is_privileged Fields use_of with_handle rule validated judged
  shut_refused e m b f k =
      pass _ _ _ (lt-leb THREADS t g.number)
      ∙ pass _ _ _ (ap not g.lives)
      ∙ pass _ _ _ refl
      ∙ pass _ _ _ refl
      ∙ pass _ _ _ (ap not ((fields_iff validate (asks_for t h e m)).1 fields))
      ∙ pass _ _ _ (lt-leb HANDLES h g.handle)
      ∙ pass _ _ _ (ne_eqb (type_of s h) 0 g.taken)
      ∙ rw ((fits_iff e (type_of s h)).1 f, no_access)
    where
      fields : Fields validate (asks_for t h e m)
      fields = (b, (k, refl))

  -- and every number that is no mode is EINVAL, whatever the type
  pub shut_no_mode : (e m : ℕ) → (Mode m → ⊥) → judge s (asks_for t h e m) ≡ refused Einval
  unfolding judge judge_op op_of is_unknown is_privileged Fields
  shut_no_mode e m n =
      pass _ _ _ (lt-leb THREADS t g.number)
      ∙ pass _ _ _ (ap not g.lives)
      ∙ pass _ _ _ refl
      ∙ pass _ _ _ refl
      ∙ stop _ _ _ (ap not (isnt_true (well_formed validate (asks_for t h e m)) (λ w. n (fields w))))
    where
      fields : well_formed validate (asks_for t h e m) ≡ true → Mode m
      fields w = ((fields_iff validate (asks_for t h e m)).0 w).1.0

  -- a latch with OK alone fails here: the same call is EPERM
  pub always_ok_fails : judge s (asks_for t h 0 1) ≡ refused Eperm
  always_ok_fails = shut_refused 0 1 (lit< tt) (inl refl) (inr (inl refl))

-- ---- a memory check from one slot into the next (SPEC 7.49)

-- slot k begins where slot j ends, and both give the right
pub record Neighbours (ps : List MemPartition) (write : Bool) (j k : ℕ) : Type 0 where
  pub first : j < SLOTS
  pub second : k < SLOTS
  pub touch : end_of (slot_at ps j) ≡ (slot_at ps k).start
  pub first_gives : gives (slot_at ps j) write ≡ true
  pub second_gives : gives (slot_at ps k) write ≡ true

module _ (ps : List MemPartition) (write : Bool) where
  in_slot : (x k : ℕ) → k < SLOTS → (slot_at ps k).start ≤ x → x < end_of (slot_at ps k) → gives (slot_at ps k) write ≡ true → is_covered ps write x ≡ true
  in_slot x k b l h g = covered_when ps write x (record { slot = k; below = b; covers = record { active = omega arith; from = l; to = h; right = g } })

  both_cover : (j k : ℕ) → Neighbours ps write j k → (x : ℕ) → (slot_at ps j).start ≤ x → x < end_of (slot_at ps k) → is_covered ps write x ≡ true
  both_cover j k n x l h = go (dec_lt x (end_of (slot_at ps j)))
    where
      go : Dec (x < end_of (slot_at ps j)) → is_covered ps write x ≡ true
      go (yes b) = in_slot x j n.first l b n.first_gives
      go (no b) = in_slot x k n.second (omega (arith, n.touch)) h n.second_gives

-- a range that begins in one and ends in the other is OK for any live caller of that domain
pub across_neighbours :
    (s : State) (t j k from len d : ℕ) → t < THREADS → live s t ≡ true → d < 2 → Neighbours (domain s (thread s t).domain) (eqb d 1) j k → len ≢ 0 →
    from + len ≤ 4294967295 → (slot_at (domain s (thread s t).domain) j).start ≤ from → from + len ≤ end_of (slot_at (domain s (thread s t).domain) k) →
    judge s (asks 3 t 0 from len d) ≡ done
unfolding is_privileged
across_neighbours s t j k from len d b l r n z e f g =
    ok_done s (asks 3 t 0 from len d) check checks refl
    (check_ok_when s (asks 3 t 0 from len d) checks
    (record {
      caller = b;
      lives = l;
      unused_a = refl;
      right = r;
      length = z;
      ends = e;
      covered = λ _ x p h. both_cover (domain s (thread s t).domain) (eqb d 1) j k n x (omega arith) (omega arith);
    }))

-- ---- a memory check without a domain

no_domain : (s : State) → length s.domains ≡ DOMAINS → domain s 255 ≡ []
unfolding domain
no_domain s n = get_or-eq_default s.domains [] {n = 255} (rw n (lit≤ tt))

-- a live user with domain 255: EPERM with the first address, whatever the right
pub homeless_refused :
    (s : State) (t from len d : ℕ) → Keeps s → t < THREADS → live s t ≡ true → supervisor s t ≡ false → (thread s t).domain ≡ 255 → d < 2 → len ≢ 0 →
    from + len ≤ 4294967295 → judge s (asks 3 t 0 from len d) ≡ record { code = 2; value = from }
unfolding judge judge_op op_of is_unknown is_privileged use_of with_handle rule Fields
homeless_refused s t from len d k b l v h r z e =
    pass _ _ _ (lt-leb THREADS t b)
    ∙ pass _ _ _ (ap not l)
    ∙ pass _ _ _ refl
    ∙ pass _ _ _ refl
    ∙ pass _ _ _ (ap not ((fields_iff check (asks 3 t 0 from len d)).1 (refl, r)))
    ∙ rw (v, h, no_domain s k.domains_size) (no_slots (eqb d 1) from len (omega arith) e)
