-- How long an image is: at least 1552 bytes, at most 5136, and each is reached by a state that keeps the rules.
use mathlib.Core.Path.{◌≡◌, refl, ◌∙◌}
use Prim.Native.Nat.{ℕ, ◌≤◌}
use native.Mathlib.Omega.{arith}
use mathlib.Core.Bool.{true, cond}
use mathlib.Core.List.{List, [], ◌∷◌, append-nil}
use lib.Dec.{ltb}
use lib.ListN.{length, replicate}
use Rattle.domain_rules.specs.Scan.{all_to}
use Rattle.domain_rules.specs.Sound.{slots_sound, slot_sound, slot_ok, apart_of}
use Rattle.bits.specs.Bit.{set_bit}
use Rattle.tables.specs.Tabulate.{tabulate}
use Rattle.tables.specs.Table.{object_at, thread_at, partition_at, partitions_at}
use Rattle.rules.specs.Rules.{Sound, keeps_test, live_to, object_ok, thread_ok, thread_sound, domains_sound}
use Rattle.rules.proofs.Rules.{test_sound}
use Rattle.rules_cases.proofs.Cases.{zeros_keep}
use Rattle.answer.specs.Stores.{cat}
use Rattle.image_write.specs.Encode.{top, live, total, encode}
use Rattle.image_write.proofs.Turns.{encode_length, encode_most}
use Rattle.image.specs.Read.{total_of, image_code}
use Rattle.image.proofs.Answers.{head_is}
use Rattle.image_laws.proofs.Round.{read_written, image_ok}

-- every image that is accepted lies between
pub between : (b : List ℕ) → image_code b ≡ 0 → (1552 ≤ total_of b) × (total_of b ≤ 5136)
between b e = let h = head_is b (image_ok b e).0 in (omega (arith, h.total_is), omega (arith, h.total_is, h.objects, h.threads))

-- and so does every image that is written
pub written_between : (os ts ss : List ℕ) → (1552 ≤ length (encode os ts ss)) × (length (encode os ts ss) ≤ 5136)
written_between os ts ss = (rw encode_length (omega arith), encode_most os ts ss)

-- ---- the least: nothing taken, nobody lives, no slot active

pub least_long : length (encode (replicate 512 0) (replicate 192 0) (replicate 384 0)) ≡ 1552
unfolding top live
least_long = encode_length (replicate 512 0) (replicate 192 0) (replicate 384 0)

pub least_accepted : image_code (encode (replicate 512 0) (replicate 192 0) (replicate 384 0)) ≡ 0
least_accepted = rw append-nil at (read_written (replicate 512 0) (replicate 192 0) (replicate 384 0) [] zeros_keep).answer

-- ---- the greatest: every handle taken, every thread alive, thread t with handle t, the other objects Sems

unfoldable pub full_objects : List ℕ
full_objects = cat (λ (h : ℕ). cond (ltb h 64) (1 ∷ 0 ∷ []) (2 ∷ 0 ∷ [])) 256

unfoldable pub full_threads : List ℕ
full_threads = cat (λ (t : ℕ). 1 ∷ 255 ∷ t ∷ []) 64

full_passes : keeps_test full_objects full_threads (replicate 384 0) ≡ true
unfolding full_objects full_threads cat keeps_test all_to slots_sound slot_sound slot_ok apart_of set_bit tabulate object_at thread_at partition_at partitions_at live_to object_ok thread_ok thread_sound domains_sound
full_passes = refl

pub full_keeps : Sound full_objects full_threads (replicate 384 0)
full_keeps = test_sound full_objects full_threads (replicate 384 0) full_passes

full_counts : total (top full_objects 256) (live full_threads 64) ≡ 5136
unfolding full_objects full_threads cat top live
full_counts = refl

pub greatest_long : length (encode full_objects full_threads (replicate 384 0)) ≡ 5136
greatest_long = encode_length full_objects full_threads (replicate 384 0) ∙ full_counts

pub greatest_accepted : image_code (encode full_objects full_threads (replicate 384 0)) ≡ 0
greatest_accepted = rw append-nil at (read_written full_objects full_threads (replicate 384 0) [] full_keeps).answer
