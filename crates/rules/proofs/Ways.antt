-- What `keeps` answers at each of its ways out: tables of another length, a thread that breaks a rule, and the rules of objects and domains.
use Rattle.std.proofs.Common.{ℕ, ◌≡◌, List, length, Some, None, false, ◌&&◌, ne_eqb, eq-eqb}
use Rattle.std.specs.Array.{IsWholeChunk}
use Rattle.domain_rules.specs.Scan.{all_to}
use Rattle.rules.specs.Rules.{object_at_ok, domains_sound, judged_threads, keeps_test}
use Rattle.rules.proofs.Pass.{judged_none, judged_some}

module _ (os ts ss : List ℕ) where
  pub other_objects : (length os ≡ 512 → ⊥) → false ≡ keeps_test os ts ss
  unfolding keeps_test
  other_objects h = rw (ne_eqb _ _ h)

  module _ {os' : List ℕ} (a : IsWholeChunk os os' 512) where
    pub other_threads : (length ts ≡ 192 → ⊥) → false ≡ keeps_test os ts ss
    unfolding keeps_test
    other_threads h = rw (eq-eqb _ _ a.long, ne_eqb _ _ h)

    module _ {ts' : List ℕ} (b : IsWholeChunk ts ts' 192) where
      pub other_slots : (length ss ≡ 384 → ⊥) → false ≡ keeps_test os ts ss
      unfolding keeps_test
      other_slots h = rw (eq-eqb _ _ a.long, eq-eqb _ _ b.long, ne_eqb _ _ h)

      module _ {ss' : List ℕ} (d : IsWholeChunk ss ss' 384) where
        pub no_judged : None ≡ judged_threads os' ts' → false ≡ keeps_test os ts ss
        unfolding keeps_test
        no_judged e =
            let f = rw (a.same, b.same) at e in
            rw (eq-eqb _ _ a.long, eq-eqb _ _ b.long, eq-eqb _ _ d.long, judged_none os ts f)

        pub judged : (live : ℕ) → Some live ≡ judged_threads os' ts' → (all_to (object_at_ok os' live) 256 && domains_sound ss') ≡ keeps_test os ts ss
        unfolding keeps_test
        judged live e =
            let f = judged_some os ts live (rw (a.same, b.same) at e) in
            rw (eq-eqb _ _ a.long, eq-eqb _ _ b.long, eq-eqb _ _ d.long, f.0, a.same, d.same, f.1)
