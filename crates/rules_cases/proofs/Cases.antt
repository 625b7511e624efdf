-- One state that keeps the rules, and for each rule the same state with one number changed, which breaks that rule and is refused. The test is computed.
-- By proofs/Rules.antt of `rules` a refusal means that the rules in plain statements do not hold either (`refused`).
use Prim.Native.Nat.{ℕ}
use mathlib.Core.Path.{◌≡◌, refl, sym, ◌∙◌}
use mathlib.Core.Bool.{true, false, true≢false}
use mathlib.Core.List.{List, [], ◌∷◌}
use lib.ListN.{set, take, replicate}
use lib.Seq.{sets}
use Rattle.domain_rules.specs.Scan.{all_to}
use Rattle.domain_rules.specs.Sound.{slots_sound, slot_sound, slot_ok, apart_of, attr_ok}
use Rattle.mem_partition.specs.Partition.{is_valid, meets, overlap_of}
use Rattle.bits.specs.Bit.{set_bit}
use Rattle.tables.specs.Tabulate.{tabulate}
use Rattle.tables.specs.Table.{object_at, thread_at, partition_at, partitions_at}
use Rattle.rules.specs.Rules.{Sound, keeps_test, live_to, object_ok, thread_ok, thread_sound, domains_sound}
use Rattle.rules.proofs.Rules.{test_sound, sound_test}

-- thread 0, a supervisor, and thread 1, a user with domain 0, have objects 0 and 1; object 2 is a public, initialised Sem on which both hold a bit
unfoldable pub os : List ℕ
os = sets (replicate 512 0) 0 (257 ∷ 1 ∷ 257 ∷ 2 ∷ 770 ∷ 3 ∷ [])

unfoldable pub ts : List ℕ
ts = sets (replicate 192 0) 0 (2 ∷ 255 ∷ 0 ∷ 1 ∷ 0 ∷ 1 ∷ [])

-- domain 0 has two windows that touch: 0x1000 to 0x2000 to read and write, 0x2000 to 0x2010 to read and execute
unfoldable pub ss : List ℕ
ss = sets (replicate 384 0) 0 (4096 ∷ 4096 ∷ 3 ∷ 8192 ∷ 16 ∷ 5 ∷ [])

-- what the test refuses breaks the rules
pub refused : (a b c : List ℕ) → keeps_test a b c ≡ false → Sound a b c → ⊥
refused a b c e s = true≢false (sym (sound_test a b c s) ∙ e)

-- a state with all tables zero keeps the rules
zeros_pass : keeps_test (replicate 512 0) (replicate 192 0) (replicate 384 0) ≡ true
unfolding keeps_test all_to slots_sound slot_sound slot_ok apart_of attr_ok is_valid overlap_of meets set_bit tabulate object_at thread_at partition_at partitions_at live_to object_ok thread_ok thread_sound domains_sound
zeros_pass = refl

pub zeros_keep : Sound (replicate 512 0) (replicate 192 0) (replicate 384 0)
zeros_keep = test_sound _ _ _ zeros_pass

pub good_keeps : keeps_test os ts ss ≡ true
unfolding os ts ss keeps_test all_to slots_sound slot_sound slot_ok apart_of attr_ok is_valid overlap_of meets set_bit tabulate object_at thread_at partition_at partitions_at live_to object_ok thread_ok thread_sound domains_sound
good_keeps = refl

pub good_sound : Sound os ts ss
good_sound = test_sound os ts ss good_keeps

-- a bit of a dead thread: object 2 has bit 2, and thread 2 is dead
pub dead_bit : keeps_test (set os 5 7) ts ss ≡ false
unfolding os ts ss keeps_test all_to slots_sound slot_sound slot_ok apart_of attr_ok is_valid overlap_of meets set_bit tabulate object_at thread_at partition_at partitions_at live_to object_ok thread_ok thread_sound domains_sound
dead_bit = refl

-- two live threads with one handle: thread 1 has thread 0's
pub one_handle_twice : keeps_test os (set ts 5 0) ss ≡ false
unfolding os ts ss keeps_test all_to slots_sound slot_sound slot_ok apart_of attr_ok is_valid overlap_of meets set_bit tabulate object_at thread_at partition_at partitions_at live_to object_ok thread_ok thread_sound domains_sound
one_handle_twice = refl

-- a thread's handle of another type: thread 1 has object 2, a Sem
pub handle_of_another_type : keeps_test os (set ts 5 2) ss ≡ false
unfolding os ts ss keeps_test all_to slots_sound slot_sound slot_ok apart_of attr_ok is_valid overlap_of meets set_bit tabulate object_at thread_at partition_at partitions_at live_to object_ok thread_ok thread_sound domains_sound
handle_of_another_type = refl

-- a thread's handle that is free
pub handle_of_none : keeps_test os (set ts 5 3) ss ≡ false
unfolding os ts ss keeps_test all_to slots_sound slot_sound slot_ok apart_of attr_ok is_valid overlap_of meets set_bit tabulate object_at thread_at partition_at partitions_at live_to object_ok thread_ok thread_sound domains_sound
handle_of_none = refl

-- a thread's handle that is none
pub handle_256 : keeps_test os (set ts 5 256) ss ≡ false
unfolding os ts ss keeps_test all_to slots_sound slot_sound slot_ok apart_of attr_ok is_valid overlap_of meets set_bit tabulate object_at thread_at partition_at partitions_at live_to object_ok thread_ok thread_sound domains_sound
handle_256 = refl

-- a free handle with a flag
pub free_with_flag : keeps_test (set os 6 256) ts ss ≡ false
unfolding os ts ss keeps_test all_to slots_sound slot_sound slot_ok apart_of attr_ok is_valid overlap_of meets set_bit tabulate object_at thread_at partition_at partitions_at live_to object_ok thread_ok thread_sound domains_sound
free_with_flag = refl

-- a free handle with a bit, though its thread lives
pub free_with_bit : keeps_test (set os 7 1) ts ss ≡ false
unfolding os ts ss keeps_test all_to slots_sound slot_sound slot_ok apart_of attr_ok is_valid overlap_of meets set_bit tabulate object_at thread_at partition_at partitions_at live_to object_ok thread_ok thread_sound domains_sound
free_with_bit = refl

-- type 16
pub type_16 : keeps_test (set os 4 784) ts ss ≡ false
unfolding os ts ss keeps_test all_to slots_sound slot_sound slot_ok apart_of attr_ok is_valid overlap_of meets set_bit tabulate object_at thread_at partition_at partitions_at live_to object_ok thread_ok thread_sound domains_sound
type_16 = refl

-- flags 16
pub flags_16 : keeps_test (set os 4 4098) ts ss ≡ false
unfolding os ts ss keeps_test all_to slots_sound slot_sound slot_ok apart_of attr_ok is_valid overlap_of meets set_bit tabulate object_at thread_at partition_at partitions_at live_to object_ok thread_ok thread_sound domains_sound
flags_16 = refl

-- a head above two bytes, whose record would look well
pub head_of_three_bytes : keeps_test (set os 4 66306) ts ss ≡ false
unfolding os ts ss keeps_test all_to slots_sound slot_sound slot_ok apart_of attr_ok is_valid overlap_of meets set_bit tabulate object_at thread_at partition_at partitions_at live_to object_ok thread_ok thread_sound domains_sound
head_of_three_bytes = refl

-- role 3
pub role_3 : keeps_test os (set ts 3 3) ss ≡ false
unfolding os ts ss keeps_test all_to slots_sound slot_sound slot_ok apart_of attr_ok is_valid overlap_of meets set_bit tabulate object_at thread_at partition_at partitions_at live_to object_ok thread_ok thread_sound domains_sound
role_3 = refl

-- domain 8
pub domain_8 : keeps_test os (set ts 4 8) ss ≡ false
unfolding os ts ss keeps_test all_to slots_sound slot_sound slot_ok apart_of attr_ok is_valid overlap_of meets set_bit tabulate object_at thread_at partition_at partitions_at live_to object_ok thread_ok thread_sound domains_sound
domain_8 = refl

-- a dead thread with a domain
pub dead_with_domain : keeps_test os (set ts 7 1) ss ≡ false
unfolding os ts ss keeps_test all_to slots_sound slot_sound slot_ok apart_of attr_ok is_valid overlap_of meets set_bit tabulate object_at thread_at partition_at partitions_at live_to object_ok thread_ok thread_sound domains_sound
dead_with_domain = refl

-- attr 2
pub attr_2 : keeps_test os ts (set ss 2 2) ≡ false
unfolding os ts ss keeps_test all_to slots_sound slot_sound slot_ok apart_of attr_ok is_valid overlap_of meets set_bit tabulate object_at thread_at partition_at partitions_at live_to object_ok thread_ok thread_sound domains_sound
attr_2 = refl

-- a slot that ends past the last address: 0xFFFFFFF0 with size 16
pub past_the_last_address : keeps_test os ts (set ss 3 4294967280) ≡ false
unfolding os ts ss keeps_test all_to slots_sound slot_sound slot_ok apart_of attr_ok is_valid overlap_of meets set_bit tabulate object_at thread_at partition_at partitions_at live_to object_ok thread_ok thread_sound domains_sound
past_the_last_address = refl

-- two slots that overlap by one byte
pub overlap_by_one : keeps_test os ts (set ss 3 8191) ≡ false
unfolding os ts ss keeps_test all_to slots_sound slot_sound slot_ok apart_of attr_ok is_valid overlap_of meets set_bit tabulate object_at thread_at partition_at partitions_at live_to object_ok thread_ok thread_sound domains_sound
overlap_by_one = refl

-- a free slot with a start
pub free_slot_with_start : keeps_test os ts (set ss 6 1) ≡ false
unfolding os ts ss keeps_test all_to slots_sound slot_sound slot_ok apart_of attr_ok is_valid overlap_of meets set_bit tabulate object_at thread_at partition_at partitions_at live_to object_ok thread_ok thread_sound domains_sound
free_slot_with_start = refl

-- an object table one short
pub objects_one_short : keeps_test (take 511 os) ts ss ≡ false
unfolding os ts ss keeps_test all_to slots_sound slot_sound slot_ok apart_of attr_ok is_valid overlap_of meets set_bit tabulate object_at thread_at partition_at partitions_at live_to object_ok thread_ok thread_sound domains_sound
objects_one_short = refl

-- a thread table one short
pub threads_one_short : keeps_test os (take 191 ts) ss ≡ false
unfolding os ts ss keeps_test all_to slots_sound slot_sound slot_ok apart_of attr_ok is_valid overlap_of meets set_bit tabulate object_at thread_at partition_at partitions_at live_to object_ok thread_ok thread_sound domains_sound
threads_one_short = refl

-- a slot table one short
pub slots_one_short : keeps_test os ts (take 383 ss) ≡ false
unfolding os ts ss keeps_test all_to slots_sound slot_sound slot_ok apart_of attr_ok is_valid overlap_of meets set_bit tabulate object_at thread_at partition_at partitions_at live_to object_ok thread_ok thread_sound domains_sound
slots_one_short = refl
