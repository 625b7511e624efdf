-- Which images are accepted, twice: those that begin with the image of a state that keeps the rules (`Starts`), and those of which each sentence
-- of docs/SPEC.md, section 9, about their bytes holds (`Document`). Both say the same as the answer OK.
use mathlib.Core.Path.{◌≡◌, refl, sym, ap, ◌∙◌}
use Prim.Native.Nat.{ℕ, zero, suc, ◌+◌, ◌*◌, ◌%◌, ◌≤◌, ◌<◌, ◌-◌}
use native.Mathlib.Nat.{le_refl}
use native.Mathlib.Decide.{dec_lt, ℕ_discrete}
use native.Mathlib.Omega.{arith}
use mathlib.Core.Logic.{◌≢◌, ◌↔◌}
use mathlib.Core.List.{List, ◌++◌}
use lib.ListN.{length, take, drop, get_or, take-append-drop}
use lib.Seq.{sets, length-sets, take-add, length-take-le}
use borrow.Author.Tests.{eq-eqb, ne_eqb}
use Rattle.userspace.specs.Userspace.{THREADS}
use Rattle.tables.specs.Table.{HANDLES, DOMAINS}
use Rattle.tables.specs.State.{state_of, Fit}
use Rattle.rules.specs.Rules.{Keeps, Sound}
use Rattle.answer.specs.Stores.{cat}
use Rattle.image_write.specs.Bytes.{bytes, le, magic}
use Rattle.image_write.specs.Encode.{object_bytes, thread_bytes, domains_bytes, top, live, total, header, encode}
use Rattle.image_write.proofs.Bytes.{cat_length, cat_mono}
use Rattle.image_write.proofs.Turns.{object_length, threads_length, top_most}
use Rattle.image.specs.Read.{object_count, thread_count, domain_count, total_of, threads_place, domains_place, object_in, read_objects, entered, read_threads, domain_in, domains_in, read_slots, image_code}
use Rattle.image.proofs.Turns.{domain_length}
use Rattle.image.proofs.Answers.{HeadIs, head_is}
use Rattle.image_laws.proofs.Fits.{head_fits, free_head, thread_fits}
use Rattle.image_laws.proofs.Place.{At, at_cat, at_part, zeros, zeros_long, zeros_at}
use Rattle.image_laws.proofs.Round.{Laid, laid, Header, head_good, head_read, row_read, RowAt, read_written, read_sound, written_read, image_ok, ok_image, is_image_lem}
use Rattle.image_laws.proofs.Again.{Below, le_below, le_split, again, joined, head_at, word_at, free_behind, objects_again, top_is, entered_long, threads_again, live_again, domains_again}

-- ---- the first description

-- b begins with the image of a state that keeps the rules
pub record Starts (b : List ℕ) : Type 0 where
  pub os : List ℕ
  pub ts : List ℕ
  pub ss : List ℕ
  pub rest : List ℕ
  pub sound : Sound os ts ss
  pub image : encode os ts ss ++ rest ≡ b

pub accepted_starts : (b : List ℕ) → image_code b ≡ 0 → Starts b
accepted_starts b e =
    record {
      os = read_objects b;
      ts = read_threads b;
      ss = read_slots b;
      rest = drop (total_of b) b;
      sound = read_sound b e;
      image = ap (λ (l : List ℕ). l ++ drop (total_of b) b) (written_read b e) ∙ take-append-drop (total_of b) b;
    }

pub starts_accepted : (b : List ℕ) → Starts b → image_code b ≡ 0
starts_accepted b s = rw s.image at (read_written s.os s.ts s.ss s.rest s.sound).answer

-- ---- the second description

-- where the record of object h begins, and that of thread i
abbrev pub object_place : ℕ → ℕ
object_place h = 16 + 12 * h

abbrev pub thread_place : List ℕ → ℕ → ℕ
thread_place b i = threads_place b + 8 * i

pub record Document (b : List ℕ) : Type 0 where
  -- the header (SPEC 9.2, 9.3 and 9.10 to 9.12)
  pub long : 16 ≤ length b
  pub magic_is : take 8 b ≡ magic
  pub objects : object_count b ≤ HANDLES
  pub threads : thread_count b ≤ THREADS
  pub domains : domain_count b ≡ DOMAINS
  -- the total length is that of the parts together (SPEC 9.4), and the buffer holds it (SPEC 9.13)
  pub total_is : total_of b ≡ 16 + 12 * object_count b + 8 * thread_count b + 192 * DOMAINS
  pub whole : total_of b ≤ length b
  -- the objects: their zeros, and the last is taken (SPEC 9.5, 9.21)
  pub object_zeros : (h : ℕ) → h < object_count b → le 2 b (object_place h + 2) ≡ 0
  pub last_taken : (h : ℕ) → suc h ≡ object_count b → le 1 b (object_place h) ≢ 0
  -- the threads: their numbers in rising order, and their zeros (SPEC 9.6, 9.21)
  pub ids : (i : ℕ) → i < thread_count b → le 1 b (thread_place b i) < THREADS
  pub rising : (i j : ℕ) → i < j → j < thread_count b → le 1 b (thread_place b i) < le 1 b (thread_place b j)
  pub thread_zero : (i : ℕ) → i < thread_count b → le 1 b (thread_place b i + 3) ≡ 0
  pub thread_zeros : (i : ℕ) → i < thread_count b → le 2 b (thread_place b i + 6) ≡ 0
  -- the state that is read off keeps the rules of SPEC, section 6 (SPEC 9.21)
  pub rules : Keeps (state_of (read_objects b) (read_threads b) (read_slots b))

-- ---- from OK to the sentences

-- the last object that is written is taken
top_last : (os : List ℕ) (n h : ℕ) → top os n ≡ suc h → get_or os (2 * h) 0 ≢ 0
unfolding top
top_last os zero h e z = absurd (omega arith)
top_last os (suc n) h e z =
    elim (ℕ_discrete (get_or os (2 * n) 0) 0) [
      | yes p ↦ top_last os n h (rw (eq-eqb _ _ p) at e) z
      | no p ↦ let q : suc n ≡ suc h = rw (ne_eqb _ _ p) at e in let r : n ≡ h = omega arith in p (rw r z)
    ]

-- record i of the threads is that of a thread t with i live ones below it
record Nth (ts : List ℕ) (n i : ℕ) : Type 0 where
  t : ℕ
  below : t < n
  alive : get_or ts (3 * t) 0 ≢ 0
  count : live ts t ≡ i

nth : (ts : List ℕ) (n i : ℕ) → i < live ts n → Nth ts n i
unfolding live
nth ts zero i p = absurd (omega arith)
nth ts (suc n) i p =
    elim (ℕ_discrete (get_or ts (3 * n) 0) 0) [
      | yes e ↦ let w = nth ts n i (rw (eq-eqb _ _ e) at p) in record { t = w.t; below = omega (arith, w.below); alive = w.alive; count = w.count }
      | no e ↦
          let p' : i < suc (live ts n) = rw (ne_eqb _ _ e) at p in
          elim (dec_lt i (live ts n)) [
            | yes q ↦ let w = nth ts n i q in record { t = w.t; below = omega (arith, w.below); alive = w.alive; count = w.count }
            | no q ↦ record { t = n; below = le_refl (suc n); alive = e; count = omega arith }
          ]
    ]

live_mono : (ts : List ℕ) (t u : ℕ) → t ≤ u → live ts t ≤ live ts u
live_mono ts t u p = omega (arith, cat_mono (thread_bytes ts) t u p, threads_length ts t, threads_length ts u)

-- the sentences of any buffer that begins with the image of a sound state, counted from that state
module _ {b os ts ss : List ℕ} (s : Sound os ts ss) (l : Laid b os ts ss) (n : total_of b ≤ length b) where
  private_size : total (top os 256) (live ts 64) ≤ length b
  private_size = rw (← l.header.total_is) n

  object_here : (h : ℕ) → h < top os 256 → At b (16 + 12 * h) (object_bytes os h)
  object_here h p = at_cat b 16 (object_bytes os) 12 (object_length os) h (top os 256) p l.objects

  zeros_here : (h : ℕ) → h < top os 256 → le 2 b (16 + 12 * h + 2) ≡ 0
  zeros_here h p =
      let q : h < 256 = omega (arith, top_most os 256) in
      let e = head_read s b h q (object_here h p) in
      omega (arith, le_split b 2 2 (16 + 12 * h) (omega (arith, private_size)), head_fits s h q)

  taken_here : (h : ℕ) → suc h ≡ top os 256 → le 1 b (16 + 12 * h) ≢ 0
  taken_here h p z =
      let q : h < 256 = omega (arith, top_most os 256) in
      let e = head_read s b h q (object_here h (omega arith)) in
      let f : get_or os (2 * h) 0 % 256 ≡ 0 = omega (arith, le_split b 1 3 (16 + 12 * h) (omega (arith, private_size))) in
      top_last os 256 h (sym p) (free_head s h q f)

  -- thread record i
  row_here : (i : ℕ) (w : Nth ts 64 i) → RowAt b (16 + 12 * top os 256 + 8 * i) w.t (get_or ts (3 * w.t) 0 - 1) (get_or ts (3 * w.t + 1) 0) (get_or ts (3 * w.t + 2) 0)
  row_here i w =
      let e : length (cat (thread_bytes ts) w.t) ≡ 8 * i = threads_length ts w.t ∙ ap (λ (k : ℕ). 8 * k) w.count in
      let p : At b (16 + 12 * top os 256 + 8 * i) (thread_bytes ts w.t) = rw e at (at_part b (16 + 12 * top os 256) (thread_bytes ts) w.t 64 w.below l.threads) in
      row_read s b w.t (16 + 12 * top os 256 + 8 * i) w.below w.alive p

  id_here : (i : ℕ) → i < live ts 64 → le 1 b (16 + 12 * top os 256 + 8 * i) < 64
  id_here i p = let w = nth ts 64 i p in omega (arith, (row_here i w).id, w.below)

  rise_here : (i j : ℕ) → i < j → j < live ts 64 → le 1 b (16 + 12 * top os 256 + 8 * i) < le 1 b (16 + 12 * top os 256 + 8 * j)
  rise_here i j p q =
      let w = nth ts 64 i (omega arith) in
      let v = nth ts 64 j q in
      elim (dec_lt w.t v.t) [
        | yes r ↦ omega (arith, (row_here i w).id, (row_here j v).id)
        | no r ↦ absurd (omega (arith, live_mono ts v.t w.t (omega arith), w.count, v.count))
      ]

  zero_here : (i : ℕ) → i < live ts 64 → le 1 b (16 + 12 * top os 256 + 8 * i + 3) ≡ 0
  zero_here i p =
      let w = nth ts 64 i p in
      let a : ℕ = 16 + 12 * top os 256 + 8 * i in
      let c : a + 2 + 1 ≡ a + 3 = omega arith in
      let e = rw c at (le_split b 1 1 (a + 2) (omega (arith, private_size))) in
      omega (arith, (row_here i w).domain, (thread_fits s w.t).domain)

  zeros_there : (i : ℕ) → i < live ts 64 → le 2 b (16 + 12 * top os 256 + 8 * i + 6) ≡ 0
  zeros_there i p =
      let w = nth ts 64 i p in
      let a : ℕ = 16 + 12 * top os 256 + 8 * i in
      let c : a + 4 + 2 ≡ a + 6 = omega arith in
      let e = rw c at (le_split b 2 2 (a + 4) (omega (arith, private_size))) in
      omega (arith, (row_here i w).handle, (thread_fits s w.t).handle)

pub accepted_document : (b : List ℕ) → image_code b ≡ 0 → Document b
accepted_document b e =
    let os : List ℕ = read_objects b in
    let ts : List ℕ = read_threads b in
    let ss : List ℕ = read_slots b in
    let s : Sound os ts ss = read_sound b e in
    let w : encode os ts ss ≡ take (total_of b) b = written_read b e in
    let h : HeadIs b = head_is b (image_ok b e).0 in
    let n : length (encode os ts ss) ≡ total_of b = ap length w ∙ length-take-le (total_of b) b h.whole in
    let l : Laid b os ts ss = laid b os ts ss (rw n (sym w)) in
    let eo : top os 256 ≡ object_count b = sym l.header.objects in
    let et : live ts 64 ≡ thread_count b = sym l.header.threads in
    record {
      long = h.long;
      magic_is = h.magic_is;
      objects = h.objects;
      threads = h.threads;
      domains = h.domains;
      total_is = omega (arith, h.total_is);
      whole = h.whole;
      object_zeros = λ i p. zeros_here s l h.whole i (rw eo p);
      last_taken = λ i p. taken_here s l h.whole i (rw eo p);
      ids = λ i p. rw (← eo) (id_here s l h.whole i (rw et p));
      rising = λ i j p q. rw (← eo) (rise_here s l h.whole i j p (rw et q));
      thread_zero = λ i p. rw (← eo) (zero_here s l h.whole i (rw et p));
      thread_zeros = λ i p. rw (← eo) (zeros_there s l h.whole i (rw et p));
      rules = s.keeps;
    }

-- ---- from the sentences to OK

-- five neighbouring parts are the first sixteen bytes
sixteen :
    (b a₁ a₂ a₃ a₄ a₅ : List ℕ) → a₁ ≡ take 8 b → a₂ ≡ take 2 (drop 8 b) → a₃ ≡ take 1 (drop 10 b) → a₄ ≡ take 1 (drop 11 b) → a₅ ≡ take 4 (drop 12 b) →
    a₁ ++ a₂ ++ a₃ ++ a₄ ++ a₅ ≡ take 16 b
sixteen b a₁ a₂ a₃ a₄ a₅ e₁ e₂ e₃ e₄ e₅ = rw (e₁, e₂, e₃, e₄, e₅, joined b 0 8 2, joined b 0 10 1, joined b 0 11 1, joined b 0 12 4) refl

-- four neighbouring parts are the whole
four :
    (b : List ℕ) (p q r : ℕ) (a₁ a₂ a₃ a₄ : List ℕ) → a₁ ≡ take 16 b → a₂ ≡ take p (drop 16 b) → a₃ ≡ take q (drop (16 + p) b) → a₄ ≡ take r (drop (16 + p + q) b) →
    a₁ ++ a₂ ++ a₃ ++ a₄ ≡ take (16 + p + q + r) b
four b p q r a₁ a₂ a₃ a₄ e₁ e₂ e₃ e₄ = rw (e₁, e₂, e₃, e₄, take-add (16 + p + q) r b, take-add (16 + p) q b, take-add 16 p b) refl

-- the tables that are read off have the right lengths, and a head whose u16 is zero has two bytes
module _ (b : List ℕ) (d : Document b) (h : Below 256 b) where
  pub size : total (object_count b) (thread_count b) ≤ length b
  size = omega (arith, d.total_is, d.whole)

  pub objects_read : read_objects b ≡ sets (zeros 512) 0 (cat (object_in b) (object_count b))
  unfolding read_objects
  objects_read = refl

  pub threads_read : read_threads b ≡ entered b (threads_place b) (zeros 192) (thread_count b)
  unfolding read_threads
  threads_read = refl

  pub slots_read : read_slots b ≡ domains_in b (domains_place b)
  unfolding read_slots
  slots_read = refl

  pub head_is_at : (k : ℕ) → k < object_count b → get_or (read_objects b) (2 * k) 0 ≡ le 4 b (object_place k)
  head_is_at k p = rw objects_read (head_at b h (zeros 512) (zeros_long 512) (zeros_at 512) (object_count b) d.objects k p)

  pub word_is_at : (k : ℕ) → k < object_count b → get_or (read_objects b) (2 * k + 1) 0 ≡ le 8 b (20 + 12 * k)
  word_is_at k p = rw objects_read (word_at b h (zeros 512) (zeros_long 512) (zeros_at 512) (object_count b) d.objects k p)

  pub free_is : (k : ℕ) → object_count b ≤ k → get_or (read_objects b) (2 * k) 0 ≡ 0
  free_is k p = rw objects_read (free_behind b h (zeros 512) (zeros_long 512) (zeros_at 512) (object_count b) d.objects k p)

  heads : (k : ℕ) → k < HANDLES → get_or (read_objects b) (2 * k) 0 < 65536
  heads k p =
      elim (dec_lt k (object_count b)) [
        | yes q ↦ rw (head_is_at k q) (omega (arith, le_split b 2 2 (object_place k) (omega (arith, size)), d.object_zeros k q, le_below b 2 (object_place k) h))
        | no q ↦ rw (free_is k (omega arith)) (omega arith)
      ]

  slots_long : length (read_slots b) ≡ 384
  unfolding domains_in
  slots_long = ap length slots_read ∙ cat_length (domain_in b (domains_place b)) 48 8 (λ k. domain_length _)

  fit : Fit (read_objects b) (read_threads b) (read_slots b)
  fit =
      record {
        objects = ap length objects_read ∙ length-sets (zeros 512) 0 (cat (object_in b) (object_count b)) ∙ zeros_long 512;
        threads = ap length threads_read ∙ entered_long b h (threads_place b) (zeros 192) (zeros_long 192) (zeros_at 192) (thread_count b) d.ids;
        slots = slots_long;
        heads = heads;
      }

  -- the counts are those that the header has
  count_objects : top (read_objects b) 256 ≡ object_count b
  count_objects =
      top_is (read_objects b) 256 (object_count b) d.objects free_is
      (λ k p z.
      let e : le 4 b (object_place k) ≡ 0 = sym (head_is_at k (omega arith)) ∙ z in
      d.last_taken k p (omega (arith, le_split b 1 3 (object_place k) (omega (arith, size)))))

  count_threads : live (read_threads b) 64 ≡ thread_count b
  count_threads =
      rw threads_read (live_again b h (threads_place b) (zeros 192) (zeros_long 192) (zeros_at 192) (thread_count b) (omega (arith, size)) d.ids d.rising)

  -- each part is what is written again
  header_again : header (object_count b) (thread_count b) ≡ take 16 b
  unfolding header
  header_again =
      let t : total (object_count b) (thread_count b) ≡ total_of b = omega (arith, d.total_is) in
      let l : 16 ≤ length b = d.long in
      sixteen b magic (bytes 2 (object_count b)) (bytes 1 (thread_count b)) (bytes 1 8) (bytes 4 (total (object_count b) (thread_count b))) (sym d.magic_is) (again b 2 8 h (omega arith)) (again b 1 10 h (omega arith))
      (ap (bytes 1) (sym d.domains) ∙ again b 1 11 h (omega arith))
      (ap (bytes 4) t ∙ again b 4 12 h (omega arith))

  pub written_again : encode (read_objects b) (read_threads b) (read_slots b) ≡ take (total_of b) b
  unfolding encode
  written_again =
      let m : ℕ = object_count b in
      let n : ℕ = thread_count b in
      let t : 16 + 12 * m + 8 * n + 1536 ≡ total_of b = omega (arith, d.total_is) in
      rw (count_objects, count_threads, ← t)
      (four b (12 * m) (8 * n) 1536 (header m n) (cat (object_bytes (read_objects b)) m) (cat (thread_bytes (read_threads b)) 64) (domains_bytes (read_slots b)) header_again
      (rw objects_read (objects_again b h (zeros 512) (zeros_long 512) (zeros_at 512) m d.objects (omega (arith, size))))
      (rw threads_read (threads_again b h (threads_place b) (zeros 192) (zeros_long 192) (zeros_at 192) n (omega (arith, size)) d.ids d.rising 64 d.ids))
      (rw slots_read (domains_again b h (domains_place b) (omega (arith, size)))))

  pub document_sound : Sound (read_objects b) (read_threads b) (read_slots b)
  document_sound = record { fit = fit; keeps = d.rules }

  pub document_accepted : image_code b ≡ 0
  document_accepted =
      let hd : Header b (object_count b) (thread_count b) =
      record { magic_is = d.magic_is; objects = refl; threads = refl; domains = d.domains; total_is = omega (arith, d.total_is) } in
      ok_image b (head_good b (object_count b) (thread_count b) d.objects d.threads size hd)
      (is_image_lem b (total_of b) (read_objects b) (read_threads b) (read_slots b) document_sound written_again)

-- ---- both descriptions are the same (SPEC 9.20, 9.21)

-- a buffer of bytes is accepted exactly when it begins with the image of a state that keeps the rules
pub exact : (b : List ℕ) → (image_code b ≡ 0) ↔ Starts b
exact b = (accepted_starts b, starts_accepted b)

-- and exactly when each sentence of SPEC section 9 about its bytes holds (SPEC 9.21)
pub exact_document : (b : List ℕ) → Below 256 b → (image_code b ≡ 0) ↔ Document b
exact_document b h = (accepted_document b, λ d. document_accepted b d h)

pub same_images : (b : List ℕ) → Below 256 b → Starts b ↔ Document b
same_images b h = ((λ s. accepted_document b (starts_accepted b s)), (λ d. accepted_starts b (document_accepted b d h)))
