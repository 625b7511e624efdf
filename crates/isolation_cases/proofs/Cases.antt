-- For each sentence of the view a pair of states that differ there alone, and the radio's call that tells them apart. Each state is the pump of `call_cases`
-- after some calls of its supervisor, so it keeps the rules; what such a call changes is a law of the calls, and only answers are computed.
use Prim.Native.Nat.{ℕ}
use native.Mathlib.Decide.{ℕ_discrete}
use native.Mathlib.Omega.{arith}
use mathlib.Core.Path.{◌≡◌, refl, sym, ap, ◌∙◌}
use mathlib.Core.Logic.{◌≢◌}
use mathlib.Core.Bool.{true, false, false≢true}
use Rattle.mem_domain.specs.Scan.{first_from}
use Rattle.mem_partition.specs.Partition.{is_valid, meets, overlap_of, holds as window_holds}
use Rattle.mem_domain.specs.Domain.{with_count, clashes, addable, lowest_free, has_free, added, changed_at as slot_changed}
use Rattle.domain_rules.specs.Sound.{attr_ok}
use Rattle.bits.specs.Bit.{bit_of, is_set, set_bit, clear_bit}
use Rattle.userspace.specs.declared.KernelObject.{KernelObject}
use Rattle.userspace_decide.specs.Decide.{PUBLIC, INITIALISED, judged}
use Rattle.userspace.specs.Userspace.{public, initialised, new_object, holds, type_fits, access, changed_at, validated, granted, revoked}
use Rattle.tables.specs.declared.Thread.{Thread}
use Rattle.tables.specs.Tabulate.{tabulate}
use Rattle.tables.specs.Table.{no_object, object_at, thread_at, partition_at, partitions_at}
use Rattle.tables.specs.State.{State, objects_of, threads_of, domains_of, object, thread, domain}
use Rattle.rules.specs.Rules.{is_live, is_supervisor, Keeps}
use Rattle.mem_check.specs.Memory.{gives, is_covered, covered_run, reached, memory_rule}
use Rattle.decoding.specs.declared.Call.{Call}
use Rattle.decoding.specs.Calls.{create, uninit, publish, thread as new_thread, end, add, grant, op_of, sup}
use Rattle.judging.specs.Judge.{◌⇒◌⨾◌, live, supervisor, well_formed, use_of, with_handle, rule, sup_rule, serves, is_unknown, is_privileged, judge_op, judge}
use Rattle.judging.specs.Change.{enact, object_change, born, thread_change, domain_change, change, after}
use Rattle.call_laws.proofs.Numbers.{op_number, number_names}
use Rattle.call_laws.proofs.Keeps.{keeps_after}
use Rattle.call_laws.proofs.Changes.{OneThread, Ended, create_does, uninit_does, publish_does, grant_does, thread_does, end_does, add_does}
use Rattle.call_cases.proofs.Latch.{asks, asks_for}
use Rattle.call_cases.proofs.Pump.{os, ts, ss, supervisor_thread, radio, display, rate_setpoint, pump, pump_keeps}
use Rattle.isolation_cases.proofs.Sentences.{Sentence, types, publics, lives, handles, own, bits, inits, slots, Says, Needed, object_differs, threads_differ, domains_differ}

-- a call of the supervisor
abbrev orders : ℕ → ℕ → ℕ → ℕ → ℕ → Call
orders op a b c d = asks op supervisor_thread a b c d

-- put together: the radio's call, answered with two codes
needed :
    (x : Sentence) (s₁ s₂ : State) (c : Call) {m n : ℕ} → Keeps s₁ → Keeps s₂ → supervisor s₁ radio ≡ false → c.caller ≡ radio →
    ((y : Sentence) → y ≢ x → Says y s₁ s₂ radio) → (judge s₁ c).code ≡ m → (judge s₂ c).code ≡ n → m ≢ n → Needed x
needed x s₁ s₂ c k₁ k₂ u e f p q n =
    record {
      first = s₁;
      second = s₂;
      who = radio;
      call = c;
      first_keeps = k₁;
      second_keeps = k₂;
      user = u;
      caller = e;
      others = f;
      differs = λ z. n (sym p ∙ z ∙ q);
    }

-- what x itself says is not asked
itself : {A : Type 0} {x : Sentence} → x ≢ x → A
itself n = absurd (n refl)

-- the radio is no supervisor
radio_user : supervisor pump radio ≡ false
unfolding ts thread threads_of tabulate thread_at
radio_user = refl

-- ---- one object differs

-- handle 6 is free
six_free : object pump 6 ≡ no_object
unfolding os object objects_of tabulate object_at
six_free = refl

-- what a new semaphore and a free handle have in common
like : {A : Type 0} (f : KernelObject → A) → f (new_object 2) ≡ f no_object → {o : KernelObject} → o ≡ new_object 2 → f o ≡ f (object pump 6)
like f e q = ap f q ∙ e ∙ sym (ap f six_free)

-- types: handle 6 is free, or a semaphore: EBADF or EPERM
abbrev creates : Call
creates = orders 16 6 2 0 0

abbrev asks_six : Call
asks_six = asks_for radio 6 0 1

types_codes : ((judge pump creates).code ≡ 0) × (((judge pump asks_six).code ≡ 3) × ((judge (after pump creates) asks_six).code ≡ 2))
unfolding os ts after change enact object_change thread_change domain_change judge judge_op op_of ◌⇒◌⨾◌ is_unknown is_privileged well_formed use_of with_handle rule sup_rule validated judged type_fits access object thread objects_of threads_of tabulate object_at thread_at holds is_set bit_of
types_codes = (refl, (refl, refl))

pub needs_types : Needed types
unfolding op_number
needs_types =
    let (o, (p, q)) = types_codes in
    let r = create_does pump creates pump_keeps o (number_names (sup create)) in
    needed types pump (after pump creates) asks_six pump_keeps (keeps_after pump creates pump_keeps) radio_user refl
    (object_differs types radio r itself (λ _. like public refl r.here) (λ _. like (λ o. is_set o.word radio) refl r.here) (λ _. like initialised refl r.here))
    p q (λ z. omega arith)

-- public flags: the rate setpoint is not public, or is: EPERM or OK
abbrev publishes : Call
publishes = orders 22 rate_setpoint 0 0 0

abbrev asks_setpoint : Call
asks_setpoint = asks_for radio rate_setpoint 0 1

publics_codes : ((judge pump publishes).code ≡ 0) × (((judge pump asks_setpoint).code ≡ 2) × ((judge (after pump publishes) asks_setpoint).code ≡ 0))
unfolding os ts after change enact object_change thread_change domain_change judge judge_op op_of ◌⇒◌⨾◌ is_unknown is_privileged well_formed use_of with_handle rule sup_rule validated judged type_fits access object thread objects_of threads_of tabulate object_at thread_at holds is_set bit_of set_bit
publics_codes = (refl, (refl, refl))

pub needs_publics : Needed publics
unfolding op_number
needs_publics =
    let (o, (p, q)) = publics_codes in
    let r = publish_does pump publishes pump_keeps o (number_names (sup publish)) in
    needed publics pump (after pump publishes) asks_setpoint pump_keeps (keeps_after pump publishes pump_keeps) radio_user refl
    (object_differs publics radio r (λ _. r.here.kind) itself (λ _. ap (λ (w : ℕ). is_set w radio) r.here.word) (λ _. r.here.others INITIALISED (λ z. omega arith)))
    p q (λ z. omega arith)

-- its own bits: the radio has none on the rate setpoint, or has it: EPERM or OK
abbrev gives_setpoint : Call
gives_setpoint = orders 1 rate_setpoint radio 0 0

abbrev wants_setpoint : Call
wants_setpoint = asks_for radio rate_setpoint 0 1

bits_codes : ((judge pump gives_setpoint).code ≡ 0) × (((judge pump wants_setpoint).code ≡ 2) × ((judge (after pump gives_setpoint) wants_setpoint).code ≡ 0))
unfolding os ts after change enact object_change thread_change domain_change judge judge_op op_of ◌⇒◌⨾◌ is_unknown is_privileged well_formed use_of with_handle rule sup_rule validated judged type_fits access object thread objects_of threads_of tabulate object_at thread_at holds is_set bit_of granted changed_at set_bit
bits_codes = (refl, (refl, refl))

pub needs_bits : Needed bits
unfolding op_number
needs_bits =
    let (o, (p, q)) = bits_codes in
    let r = grant_does pump gives_setpoint pump_keeps o (number_names grant) in
    needed bits pump (after pump gives_setpoint) wants_setpoint pump_keeps (keeps_after pump gives_setpoint pump_keeps) radio_user refl
    (object_differs bits radio r (λ _. r.here.kind) (λ _. ap (λ (f : ℕ). is_set f PUBLIC) r.here.flags) itself (λ _. ap (λ (f : ℕ). is_set f INITIALISED) r.here.flags))
    p q (λ z. omega arith)

-- initialised flags: the radio's own object is initialised, or is not: OK or EINVAL
abbrev uninits : Call
uninits = orders 20 1 0 0 0

abbrev asks_own : Call
asks_own = asks_for radio 1 0 0

inits_codes : ((judge pump uninits).code ≡ 0) × (((judge pump asks_own).code ≡ 0) × ((judge (after pump uninits) asks_own).code ≡ 1))
unfolding os ts after change enact object_change thread_change domain_change judge judge_op op_of ◌⇒◌⨾◌ is_unknown is_privileged well_formed use_of with_handle rule sup_rule validated judged type_fits access object thread objects_of threads_of tabulate object_at thread_at holds is_set bit_of clear_bit
inits_codes = (refl, (refl, refl))

pub needs_inits : Needed inits
unfolding op_number
needs_inits =
    let (o, (p, q)) = inits_codes in
    let r = uninit_does pump uninits pump_keeps o (number_names (sup uninit)) in
    needed inits pump (after pump uninits) asks_own pump_keeps (keeps_after pump uninits pump_keeps) radio_user refl
    (object_differs inits radio r (λ _. r.here.kind) (λ _. r.here.others PUBLIC (λ z. omega arith)) (λ _. ap (λ (w : ℕ). is_set w radio) r.here.word) itself)
    p q (λ z. omega arith)

-- ---- threads differ

-- two states that come from one by a new thread u, the same but for its record
module _ (b s₁ s₂ : State) (u : ℕ) (p₁ p₂ : Thread) (r₁ : OneThread b s₁ u (λ x y. y ≡ p₁)) (r₂ : OneThread b s₂ u (λ x y. y ≡ p₂)) where
  twins : {A : Type 0} (f : Thread → A) → f p₁ ≡ f p₂ → (v : ℕ) → f (thread s₁ v) ≡ f (thread s₂ v)
  twins f e v = go (ℕ_discrete v u)
    where
      go : Dec (v ≡ u) → f (thread s₁ v) ≡ f (thread s₂ v)
      go (yes q) = rw q (ap f r₁.here ∙ e ∙ sym (ap f r₂.here))
      go (no n) = ap f (r₁.others v n ∙ sym (r₂.others v n))

  twins_differ :
      (x : Sentence) (t : ℕ) → is_live p₁ ≡ is_live p₂ → p₁.domain ≡ p₂.domain → (handles ≢ x → p₁.handle ≡ p₂.handle) → (own ≢ x → t ≢ u) →
      (y : Sentence) → y ≢ x → Says y s₁ s₂ t
  twins_differ x t l d h w =
      threads_differ x s₁ s₂ t (r₂.objects ∙ sym r₁.objects) (r₂.domains ∙ sym r₁.domains) (sym (twins (λ r. r.domain) d t)) (λ _. twins is_live l)
      (λ n v _. twins (λ r. r.handle) (h n) v) (λ n. r₁.others t (w n) ∙ sym (r₂.others t (w n)))

-- which threads live: the display is dead, or lives: for a grant to it EINVAL or EPERM
abbrev ends_display : Call
ends_display = orders 24 0 display 0 0

abbrev shows : Call
shows = asks 1 radio 1 display 0 0

lives_codes : ((judge pump ends_display).code ≡ 0) × (((judge (after pump ends_display) shows).code ≡ 1) × ((judge pump shows).code ≡ 2))
unfolding os ts after change enact object_change thread_change domain_change judge judge_op serves op_of ◌⇒◌⨾◌ is_unknown is_privileged well_formed use_of with_handle rule sup_rule validated judged type_fits access object thread objects_of threads_of tabulate object_at thread_at holds is_set bit_of revoked changed_at clear_bit first_from
lives_codes = (refl, (refl, refl))

-- all but the display's life is as it was; a handle is seen of the living
ended_differs : (s s' : State) (v t : ℕ) → t ≢ v → Ended s s' v → (y : Sentence) → y ≢ lives → Says y s' s t
unfolding Says domain
ended_differs s s' v t n r types d = λ h. (r.objects h).kind
ended_differs s s' v t n r publics d = λ h. ap (λ (f : ℕ). is_set f PUBLIC) (r.objects h).flags
ended_differs s s' v t n r lives d = itself d
ended_differs s s' v t n r handles d = λ u l. go u l (ℕ_discrete u v)
  where
    go : (u : ℕ) → live s' u ≡ true → Dec (u ≡ v) → (thread s' u).handle ≡ (thread s u).handle
    go u l (yes q) = absurd (false≢true (sym (ap is_live r.here) ∙ ap (live s') (sym q) ∙ l))
    go u l (no m) = ap (λ x. x.handle) (r.others u m)
ended_differs s s' v t n r own d = r.others t n
ended_differs s s' v t n r bits d = λ h. (r.objects h).others t n
ended_differs s s' v t n r inits d = λ h _. ap (λ (f : ℕ). is_set f INITIALISED) (r.objects h).flags
ended_differs s s' v t n r slots d = λ _. rw (r.others t n, r.domains)

pub needs_lives : Needed lives
unfolding op_number
needs_lives =
    let (o, (p, q)) = lives_codes in
    let r = end_does pump ends_display pump_keeps o (number_names (sup end)) in
    needed lives (after pump ends_display) pump shows (keeps_after pump ends_display pump_keeps) pump_keeps
    (ap is_supervisor (r.others radio (λ z. omega arith)) ∙ radio_user) refl (ended_differs pump (after pump ends_display) display radio (λ z. omega arith) r)
    p q (λ z. omega arith)

-- its own record: the radio is begun anew, as a user or as a supervisor: EPERM or OK
abbrev ends_radio : Call
ends_radio = orders 24 0 radio 0 0

abbrev begins : ℕ → Call
begins rank = orders 23 1 radio rank 0

abbrev asks_anew : Call
asks_anew = asks_for radio rate_setpoint 0 1

abbrev without_radio : State
without_radio = after pump ends_radio

own_codes :
    ((judge without_radio (begins 0)).code ≡ 0)
    × (((judge without_radio (begins 1)).code ≡ 0)
    × (((judge (after without_radio (begins 0)) asks_anew).code ≡ 2) × ((judge (after without_radio (begins 1)) asks_anew).code ≡ 0)))
unfolding os ts after change enact object_change thread_change domain_change judge judge_op serves op_of ◌⇒◌⨾◌ is_unknown is_privileged well_formed use_of with_handle rule sup_rule validated judged type_fits access object thread objects_of threads_of tabulate object_at thread_at holds is_set bit_of revoked changed_at clear_bit first_from
own_codes = (refl, (refl, (refl, refl)))

pub needs_own : Needed own
unfolding op_number
needs_own =
    let (o, (o', (p, q))) = own_codes in
    let k = keeps_after pump ends_radio pump_keeps in
    let r = thread_does without_radio (begins 0) k o (number_names (sup new_thread)) in
    let r' = thread_does without_radio (begins 1) k o' (number_names (sup new_thread)) in
    needed own (after without_radio (begins 0)) (after without_radio (begins 1)) asks_anew (keeps_after without_radio (begins 0) k)
    (keeps_after without_radio (begins 1) k) (ap is_supervisor r.here) refl
    (twins_differ without_radio (after without_radio (begins 0)) (after without_radio (begins 1)) radio (born (begins 0)) (born (begins 1)) r r' own radio refl refl
    (λ _. refl) itself) p q (λ z. omega arith)

-- handles: the display is begun anew, with a handle that is not public or with one that is: for a grant to it EPERM or OK
abbrev creates_body : Call
creates_body = orders 16 6 1 0 0

abbrev opens_body : Call
opens_body = orders 22 6 0 0 0

abbrev begins_at : ℕ → Call
begins_at h = orders 23 h display 0 0

abbrev with_body : State
with_body = after (after (after pump creates_body) opens_body) ends_display

handles_codes :
    ((judge with_body (begins_at 2)).code ≡ 0)
    × (((judge with_body (begins_at 6)).code ≡ 0)
    × (((judge (after with_body (begins_at 2)) shows).code ≡ 2) × ((judge (after with_body (begins_at 6)) shows).code ≡ 0)))
unfolding os ts after change enact object_change thread_change domain_change judge judge_op serves op_of ◌⇒◌⨾◌ is_unknown is_privileged well_formed use_of with_handle rule sup_rule validated judged type_fits access object thread objects_of threads_of tabulate object_at thread_at holds is_set bit_of revoked changed_at clear_bit first_from set_bit
handles_codes = (refl, (refl, (refl, refl)))

with_body_user : supervisor with_body radio ≡ false
unfolding os ts after change enact object_change thread_change domain_change judge judge_op serves op_of ◌⇒◌⨾◌ is_unknown is_privileged well_formed use_of with_handle rule sup_rule validated judged type_fits access object thread objects_of threads_of tabulate object_at thread_at holds is_set bit_of revoked changed_at clear_bit first_from set_bit
with_body_user = refl

with_body_keeps : Keeps with_body
with_body_keeps = keeps_after _ ends_display (keeps_after _ opens_body (keeps_after pump creates_body pump_keeps))

pub needs_handles : Needed handles
unfolding op_number
needs_handles =
    let (o, (o', (p, q))) = handles_codes in
    let r = thread_does with_body (begins_at 2) with_body_keeps o (number_names (sup new_thread)) in
    let r' = thread_does with_body (begins_at 6) with_body_keeps o' (number_names (sup new_thread)) in
    needed handles (after with_body (begins_at 2)) (after with_body (begins_at 6)) shows (keeps_after with_body (begins_at 2) with_body_keeps)
    (keeps_after with_body (begins_at 6) with_body_keeps) (ap is_supervisor (r.others radio (λ z. omega arith)) ∙ with_body_user) refl
    (twins_differ with_body (after with_body (begins_at 2)) (after with_body (begins_at 6)) display (born (begins_at 2)) (born (begins_at 6)) r r' handles radio refl refl
    itself (λ _ z. omega arith)) p q (λ z. omega arith)

-- ---- its own domain's slots: without a window at 0x30000000, or with it: EPERM or OK

abbrev adds : Call
adds = orders 27 0 0x30000000 4096 3

abbrev reads : Call
reads = asks 3 radio 0 0x30000000 1 0

slots_codes : ((judge pump adds).code ≡ 0) × (((judge pump reads).code ≡ 2) × ((judge (after pump adds) reads).code ≡ 0))
unfolding ss os ts after change enact object_change thread_change domain_change judge judge_op op_of ◌⇒◌⨾◌ is_unknown is_privileged well_formed attr_ok use_of with_handle rule sup_rule validated judged type_fits access object thread objects_of threads_of tabulate object_at thread_at holds is_set bit_of domain domains_of partitions_at partition_at with_count clashes addable lowest_free has_free added slot_changed first_from is_valid meets overlap_of window_holds gives is_covered covered_run reached memory_rule
slots_codes = (refl, (refl, refl))

pub needs_slots : Needed slots
unfolding op_number
needs_slots =
    let (o, (p, q)) = slots_codes in
    let r = add_does pump adds pump_keeps o (number_names (sup add)) in
    needed slots pump (after pump adds) reads pump_keeps (keeps_after pump adds pump_keeps) radio_user refl
    (domains_differ pump (after pump adds) radio r.objects r.threads) p q (λ z. omega arith)

-- ---- no sentence can be left out

pub every_sentence_needed : (x : Sentence) → Needed x
every_sentence_needed types = needs_types
every_sentence_needed publics = needs_publics
every_sentence_needed lives = needs_lives
every_sentence_needed handles = needs_handles
every_sentence_needed own = needs_own
every_sentence_needed bits = needs_bits
every_sentence_needed inits = needs_inits
every_sentence_needed slots = needs_slots
