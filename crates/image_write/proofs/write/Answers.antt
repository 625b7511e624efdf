use Rattle.std.proofs.Common.{refl, sym, ◌∙◌, arith}
use Rattle.image_write.proofs.Answers.{tables_fit, broken, short, done}
use Rattle.image_write.proofs.write.Goals as goal

pub returns-then-not-keeps : goal.returns-then-not-keeps
returns-then-not-keeps c = record { written = broken _ _ _ _ (sym c.keeps.ensures ∙ c.if-not-keeps.true); named = λ e. omega arith }

pub returns-in_default : goal.returns-in_default
returns-in_default c = absurd (c.in_default.ensures.cases (tables_fit _ _ _ (sym c.keeps.ensures ∙ c.if-not-keeps.false)).objects)

pub returns-in_default-as_array : goal.returns-in_default-as_array
returns-in_default-as_array c = absurd (c.in_default-as_array.ensures.cases (tables_fit _ _ _ (sym c.keeps.ensures ∙ c.if-not-keeps.false)).threads)

pub returns-in_default-as_array-2 : goal.returns-in_default-as_array-2
returns-in_default-as_array-2 c = absurd (c.in_default-as_array-2.ensures.cases (tables_fit _ _ _ (sym c.keeps.ensures ∙ c.if-not-keeps.false)).slots)

pub returns-then-out-t : goal.returns-then-out-t
returns-then-out-t c =
    let a = c.in-Some.ensures.cases.same in
    let b = c.in-Some-as_array.ensures.cases.same in
    record {
      written = short _ _ _ _ (sym c.keeps.ensures ∙ c.if-not-keeps.false) (rw (← a, ← b, ← c.count_objects-m.ensures.0, ← c.count_threads-n.ensures.0) c.if-out-t.true);
      named = λ e. omega arith;
    }

pub put_image-requires : goal.put_image-requires
put_image-requires c =
    let t = tables_fit _ _ _ (sym c.keeps.ensures ∙ c.if-not-keeps.false) in
    record {
      tables = rw (c.in-Some.ensures.cases.same, c.in-Some-as_array.ensures.cases.same, c.in-Some-as_array-2.ensures.cases.same) t;
      m_is = c.count_objects-m.ensures.0;
      m_most = c.count_objects-m.ensures.1;
      n_is = c.count_threads-n.ensures.0;
      n_most = c.count_threads-n.ensures.1;
      room = c.if-out-t.false;
    }

pub returns : goal.returns
returns c =
    let a = c.in-Some.ensures.cases.same in
    let b = c.in-Some-as_array.ensures.cases.same in
    let d = c.in-Some-as_array-2.ensures.cases.same in
    record {
      written =
          done _ _ _ _ (sym c.keeps.ensures ∙ c.if-not-keeps.false) _ _
          (rw (← a, ← b, ← c.count_objects-m.ensures.0, ← c.count_threads-n.ensures.0) c.if-out-t.false)
          (rw (a, b, d) at c.put_image.ensures)
          (rw (← a, ← b, ← c.count_objects-m.ensures.0, ← c.count_threads-n.ensures.0) refl);
      named = tt;
    }
