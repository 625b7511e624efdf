-- The state that is read off an image, by the layout of docs/SPEC.md, 9.5 to 9.7: which byte each field of each record is. `Document` asks that just this
-- state keeps the rules.
use mathlib.Core.Path.{◌≡◌, refl, ap, ◌∙◌}
use Prim.Native.Nat.{ℕ, ◌+◌, ◌*◌, ◌/◌, ◌%◌, ◌≤◌, ◌<◌}
use native.Mathlib.Omega.{arith}
use mathlib.Core.Logic.{◌≢◌}
use mathlib.Core.List.{List}
use lib.ListN.{get_or}
use Rattle.mem_domain.specs.Domain.{slot_at}
use Rattle.mem_domain.specs.Domain.{slots as SLOTS}
use Rattle.mem_partition.specs.Partition.{empty}
use Rattle.mem_partition.specs.declared.MemPartition.{MemPartition}
use Rattle.tables.specs.Tabulate.{get_d_tabulate}
use Rattle.tables.specs.Table.{DOMAINS, no_object, nobody, object_of, object_at, thread_of, thread_at, partition_at, partitions_at}
use Rattle.tables.specs.State.{State, state_of, object, thread, domain}
use Rattle.image_write.specs.Bytes.{le}
use Rattle.image.specs.Read.{object_count, thread_count, threads_place, domains_place, read_objects, read_threads, read_slots}
use Rattle.image_laws.proofs.Fits.{object_is, thread_is, domain_is, free_word}
use Rattle.image_laws.proofs.Place.{zeros, zeros_long, zeros_at}
use Rattle.image_laws.proofs.Again.{Below, le_below, le_split, row_kept, none_kept, slot_number}
use Rattle.image_laws.proofs.Document.{Document, object_place, thread_place, document_sound, size, threads_read, slots_read, head_is_at, word_is_at, free_is}

abbrev pub read_off : List ℕ → State
read_off b = state_of (read_objects b) (read_threads b) (read_slots b)

-- a head of two bytes and its word, as a record
two_bytes : (head word t f w : ℕ) → head ≡ t + 256 * f → t < 256 → f < 256 → word ≡ w → object_of head word ≡ record { obj_type = t; flags = f; word = w }
two_bytes head word t f w e p q g =
    let a : head % 256 ≡ t = omega arith in
    let c : head / 256 ≡ f = omega arith in
    let m : f % 256 ≡ f = omega arith in
    rw (a, c, m, g) refl

module _ (b : List ℕ) (d : Document b) (h : Below 256 b) where
  -- an object (SPEC 9.5)
  pub object_read :
      (k : ℕ) → k < object_count b →
      object (read_off b) k ≡ record { obj_type = le 1 b (object_place k); flags = le 1 b (object_place k + 1); word = le 8 b (object_place k + 4) }
  unfolding object_at
  object_read k p =
      let a : ℕ = object_place k in
      let l = size b d h in
      let w : 20 + 12 * k ≡ a + 4 = omega arith in
      let e : get_or (read_objects b) (2 * k) 0 ≡ le 1 b a + 256 * le 1 b (a + 1) =
      head_is_at b d h k p ∙ omega (arith, le_split b 2 2 a (omega arith), le_split b 1 1 a (omega arith), d.object_zeros k p) in
      object_is (document_sound b d h) k
      ∙ two_bytes (get_or (read_objects b) (2 * k) 0) (get_or (read_objects b) (2 * k + 1) 0) (le 1 b a) (le 1 b (a + 1)) (le 8 b (a + 4)) e (omega (arith, le_below b 1 a h)) (omega (arith, le_below b 1 (a + 1) h)) (rw w at (word_is_at b d h k p))

  -- what is not written is free
  pub object_unread : (k : ℕ) → object_count b ≤ k → object (read_off b) k ≡ no_object
  unfolding object_at
  object_unread k p =
      let z = free_is b d h k p in
      object_is (document_sound b d h) k ∙ rw (z, free_word (document_sound b d h) k z) refl

  -- a thread (SPEC 9.6, 9.16)
  pub thread_read :
      (i : ℕ) → i < thread_count b →
      thread (read_off b) (le 1 b (thread_place b i)) ≡ record { role = le 1 b (thread_place b i + 1) + 1; domain = le 1 b (thread_place b i + 2); handle = le 2 b (thread_place b i + 4) }
  unfolding thread_at
  thread_read i p =
      let a : ℕ = thread_place b i in
      let l = size b d h in
      let u : a + 2 + 1 ≡ a + 3 = omega arith in
      let v : a + 4 + 2 ≡ a + 6 = omega arith in
      let e : le 2 b (a + 2) ≡ le 1 b (a + 2) = omega (arith, rw u at (le_split b 1 1 (a + 2) (omega arith)), d.thread_zero i p) in
      let g : le 4 b (a + 4) ≡ le 2 b (a + 4) = omega (arith, rw v at (le_split b 2 2 (a + 4) (omega arith)), d.thread_zeros i p) in
      thread_is (document_sound b d h) (le 1 b a)
      ∙ rw (threads_read b d h, ← e, ← g) (row_kept b h (threads_place b) (zeros 192) (zeros_long 192) (zeros_at 192) thread_of (thread_count b) d.ids d.rising i p)

  -- who has no record is dead
  pub thread_unread : (t : ℕ) → ((i : ℕ) → i < thread_count b → le 1 b (thread_place b i) ≢ t) → thread (read_off b) t ≡ nobody
  unfolding thread_at
  thread_unread t o =
      thread_is (document_sound b d h) t
      ∙ rw (threads_read b d h) (none_kept b h (threads_place b) (zeros 192) (zeros_long 192) (zeros_at 192) thread_of (thread_count b) d.ids t o)

  -- a slot (SPEC 9.7)
  pub slot_read :
      (n k : ℕ) → n < DOMAINS → k < SLOTS →
      slot_at (domain (read_off b) n) k ≡ record { start = le 4 b (domains_place b + 192 * n + 12 * k); size = le 4 b (domains_place b + 192 * n + 12 * k + 4); attr = le 4 b (domains_place b + 192 * n + 12 * k + 8) }
  unfolding partitions_at partition_at
  slot_read n k p q =
      let a : ℕ = domains_place b + 192 * n in
      let c : 3 * (16 * n + k) ≡ 48 * n + 3 * k = omega arith in
      let c₁ : 48 * n + 3 * k + 1 ≡ 48 * n + (3 * k + 1) = omega arith in
      let c₂ : 48 * n + 3 * k + 2 ≡ 48 * n + (3 * k + 2) = omega arith in
      let f₀ : a + 4 * (3 * k) ≡ a + 12 * k = omega arith in
      let f₁ : a + 4 * (3 * k + 1) ≡ a + 12 * k + 4 = omega arith in
      let f₂ : a + 4 * (3 * k + 2) ≡ a + 12 * k + 8 = omega arith in
      let e₀ = rw f₀ at (slot_number b (domains_place b) n (3 * k) p (omega arith)) in
      let e₁ = rw f₁ at (slot_number b (domains_place b) n (3 * k + 1) p (omega arith)) in
      let e₂ = rw f₂ at (slot_number b (domains_place b) n (3 * k + 2) p (omega arith)) in
      ap (λ (l : List MemPartition). slot_at l k) (domain_is (document_sound b d h) n p)
      ∙ get_d_tabulate SLOTS (λ j. partition_at (read_slots b) (SLOTS * n + j)) k empty q
      ∙ rw (c, c₁, c₂, slots_read b d h, e₀, e₁, e₂) refl
