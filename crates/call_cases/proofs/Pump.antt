-- A pump: a supervisor, a radio, a display, a drug library and a motor, each with its thread object; and the rate setpoint, which the drug library and
-- the motor may use. The state keeps the rules; the radio's validate of the rate setpoint is EPERM whatever the mode.
use Prim.Native.Nat.{ℕ}
use native.Mathlib.Omega.{arith}
use mathlib.Core.Path.{◌≡◌, refl, sym}
use mathlib.Core.Logic.{inl, inr}
use mathlib.Core.Bool.{true}
use mathlib.Core.List.{List, [], ◌∷◌}
use lib.Dec.{lit<}
use lib.ListN.{replicate}
use lib.Seq.{sets}
use Rattle.answer.specs.Answer.{refused, done}
use Rattle.answer.specs.declared.Code.TheVariants.{Einval, Eperm}
use Rattle.domain_rules.specs.Scan.{all_to}
use Rattle.domain_rules.specs.Sound.{slots_sound, slot_sound, slot_ok, apart_of, attr_ok}
use Rattle.mem_domain.specs.Scan.{first_from}
use Rattle.mem_partition.specs.Partition.{is_valid, meets, overlap_of, holds as window_holds}
use Rattle.bits.specs.Bit.{bit_of, is_set, set_bit}
use Rattle.userspace_decide.specs.Decide.{judged}
use Rattle.userspace.specs.Userspace.{holds, type_fits, access, validated}
use Rattle.tables.specs.Tabulate.{tabulate}
use Rattle.tables.specs.Table.{object_at, thread_at, partition_at, partitions_at}
use Rattle.tables.specs.State.{State, objects_of, threads_of, domains_of, state_of, object, thread, domain}
use Rattle.rules.specs.Rules.{Keeps, Sound, keeps_test, live_to, object_ok, thread_ok, thread_sound, domains_sound}
use Rattle.rules.proofs.Rules.{test_sound}
use Rattle.mem_check.specs.Memory.{gives, is_covered, covered_run, reached, memory_rule}
use Rattle.decoding.specs.Calls.{op_of}
use Rattle.judging.specs.Judge.{◌⇒◌⨾◌, type_of, well_formed, use_of, with_handle, rule, is_unknown, is_privileged, judge_op, judge}
use Rattle.call_laws.proofs.Conditions.{Mode}
use Rattle.call_cases.proofs.Latch.{asks, asks_for, always_refusing_fails, Shut, shut_refused, shut_no_mode}

-- ---- who is who

abbrev pub supervisor_thread : ℕ
supervisor_thread = 0

abbrev pub radio : ℕ
radio = 1

abbrev pub display : ℕ
display = 2

abbrev pub drug_library : ℕ
drug_library = 3

abbrev pub motor : ℕ
motor = 4

-- objects 0 to 4 are the threads' own
abbrev pub rate_setpoint : ℕ
rate_setpoint = 5

-- ---- the tables

-- five initialised Thread objects, each with its own thread's bit; the rate setpoint: an initialised MsgQ with the bits of drug library and motor
unfoldable pub os : List ℕ
os = sets (replicate 512 0) 0 (257 ∷ 1 ∷ 257 ∷ 2 ∷ 257 ∷ 4 ∷ 257 ∷ 8 ∷ 257 ∷ 16 ∷ 261 ∷ 24 ∷ [])

-- the supervisor has no domain, the others one each
unfoldable pub ts : List ℕ
ts = sets (replicate 192 0) 0 (2 ∷ 255 ∷ 0 ∷ 1 ∷ 0 ∷ 1 ∷ 1 ∷ 1 ∷ 2 ∷ 1 ∷ 2 ∷ 3 ∷ 1 ∷ 3 ∷ 4 ∷ [])

-- one window to read and write for each of the four; the motor's has a neighbour of 32 bytes behind it, to read alone
unfoldable pub ss : List ℕ
ss =
    sets
    (sets (sets (sets (replicate 384 0) 0 (0x20000000 ∷ 4096 ∷ 3 ∷ [])) 48 (0x20001000 ∷ 4096 ∷ 3 ∷ [])) 96 (0x20002000 ∷ 4096 ∷ 3 ∷ [])) 144
    (0x20004000 ∷ 4096 ∷ 3 ∷ 0x20005000 ∷ 32 ∷ 1 ∷ [])

abbrev pub pump : State
pump = state_of os ts ss

-- ---- it keeps the rules

passes : keeps_test os ts ss ≡ true
unfolding os ts ss keeps_test all_to slots_sound slot_sound slot_ok apart_of attr_ok is_valid overlap_of meets set_bit tabulate object_at thread_at partition_at partitions_at live_to object_ok thread_ok thread_sound domains_sound
passes = refl

pub pump_sound : Sound os ts ss
pump_sound = test_sound os ts ss passes

pub pump_keeps : Keeps pump
pump_keeps = pump_sound.keeps

-- ---- the rate setpoint

-- the radio lives, is no supervisor, and has no bit on the rate setpoint, which is not public
radio_shut : Shut pump radio rate_setpoint
unfolding os ts object thread objects_of threads_of tabulate object_at thread_at holds is_set bit_of
radio_shut =
    record { number = lit< tt; lives = refl; user = refl; handle = lit< tt; taken = λ e. omega arith; hidden = refl; bare = refl }

setpoint_kind : type_of pump rate_setpoint ≡ 5
unfolding os object objects_of tabulate object_at
setpoint_kind = refl

-- asked for as what it is, or as Any: EPERM in every mode
pub radio_refused : (m : ℕ) → Mode m → judge pump (asks_for radio rate_setpoint 5 m) ≡ refused Eperm
radio_refused m k = shut_refused pump radio rate_setpoint radio_shut 5 m (lit< tt) (inr (sym setpoint_kind)) k

pub radio_refused_any : (m : ℕ) → Mode m → judge pump (asks_for radio rate_setpoint 0 m) ≡ refused Eperm
radio_refused_any m k = shut_refused pump radio rate_setpoint radio_shut 0 m (lit< tt) (inl refl) k

-- and a number that is no mode is EINVAL, whatever the type
pub radio_no_mode : (e m : ℕ) → (Mode m → ⊥) → judge pump (asks_for radio rate_setpoint e m) ≡ refused Einval
radio_no_mode e m n = shut_no_mode pump radio rate_setpoint radio_shut e m n

-- the motor may use it, and the supervisor
pub motor_may : judge pump (asks_for motor rate_setpoint 5 0) ≡ done
unfolding os ts judge judge_op op_of ◌⇒◌⨾◌ is_unknown is_privileged well_formed use_of with_handle rule validated judged type_fits access object thread objects_of threads_of tabulate object_at thread_at holds is_set bit_of
motor_may = refl

pub supervisor_may : judge pump (asks_for supervisor_thread rate_setpoint 0 1) ≡ done
unfolding os ts object thread objects_of threads_of tabulate object_at thread_at
supervisor_may = always_refusing_fails pump supervisor_thread rate_setpoint (lit< tt) refl (lit< tt) (λ e. omega arith)

-- the radio cannot give it to itself
pub radio_cannot_grant : judge pump (asks 1 radio rate_setpoint radio 0 0) ≡ refused Eperm
unfolding os ts judge judge_op op_of ◌⇒◌⨾◌ is_unknown is_privileged well_formed use_of with_handle rule access object thread objects_of threads_of tabulate object_at thread_at holds is_set bit_of
radio_cannot_grant = refl

-- ---- the motor's memory: 0x20004000 to 0x20005000 to read and write, up to 0x20005020 to read

-- 32 bytes across the two neighbours are read
pub motor_reads_across : judge pump (asks 3 motor 0 0x20004FF0 32 0) ≡ done
unfolding ts ss judge judge_op op_of ◌⇒◌⨾◌ is_unknown is_privileged well_formed use_of with_handle rule memory_rule reached covered_run is_covered gives window_holds first_from thread domain threads_of domains_of tabulate thread_at partitions_at partition_at is_set bit_of
motor_reads_across = refl

-- written they are not: the first address that is not covered is the neighbour's
pub motor_writes_not : judge pump (asks 3 motor 0 0x20004FF0 32 1) ≡ record { code = 2; value = 0x20005000 }
unfolding ts ss judge judge_op op_of ◌⇒◌⨾◌ is_unknown is_privileged well_formed use_of with_handle rule memory_rule reached covered_run is_covered gives window_holds first_from thread domain threads_of domains_of tabulate thread_at partitions_at partition_at is_set bit_of
motor_writes_not = refl

-- and behind the second the range is not covered
pub motor_reads_not_behind : judge pump (asks 3 motor 0 0x20005010 17 0) ≡ record { code = 2; value = 0x20005020 }
unfolding ts ss judge judge_op op_of ◌⇒◌⨾◌ is_unknown is_privileged well_formed use_of with_handle rule memory_rule reached covered_run is_covered gives window_holds first_from thread domain threads_of domains_of tabulate thread_at partitions_at partition_at is_set bit_of
motor_reads_not_behind = refl
