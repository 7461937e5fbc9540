use Rattle.std.specs.HashMap.{get}
use Rattle.std.proofs.Common.{◌≡◌, ◌∙◌, ◌+◌, true, false, suc, arith, sym}
use Rattle.pb_rows.specs.Name.{same_name}
use Rattle.pb_facts.specs.Assays.{is_assay_over}
use Rattle.pb_facts.proofs.AssayLemmas.{grade_passed, grade_put, grade_within}
use Rattle.pb_facts.proofs.assays.Assays.grades_by_name.Goals.{then-is_over+in_ok-insert, else-is_over}
use Rattle.pb_facts.proofs.assays.Assays.grades_by_name.Goals as goal

pub loop-i-preserved : goal.loop-i-preserved
loop-i-preserved c =
    let assays = c.args.self.now in
    let component = c.args.component.now in
    let period = c.args.period.now in
    let i = c.loop-i.i in
    let one = c.at-assay.result in
    let at = c.at-assay.ensures.value in
    let apart = c.len-i-end.ensures.apart in
    let old = c.loop-i.grades in
    let next : i + 1 ≡ suc i = omega arith in
    rw next (elim c.if-is_over.branch [
      | then-is_over+in_ok-insert w ↦
          let over : is_assay_over component period one ≡ true = sym c.is_over.ensures ∙ w.if-is_over.true in
          let updates = w.in_ok-insert.ensures.updates.0 in
          rw w.grades-is (record {
            value = λ stream. grade_put assays i one component period stream (get same_name old stream) (get same_name w.insert.new.self stream) apart at over (updates stream) (c.loop-i.invariant.value stream);
            limits = λ stream. rw (updates stream) (grade_within (same_name one.stream stream) one.grade (get same_name old stream) c.at-assay.ensures.grade (c.loop-i.invariant.limits stream));
          })
      | else-is_over w ↦
          let other : is_assay_over component period one ≡ false = sym c.is_over.ensures ∙ w.if-is_over.false in
          rw w.grades-is (record {
            value = λ stream. grade_passed assays i one component period stream (get same_name old stream) apart at other (c.loop-i.invariant.value stream);
            limits = c.loop-i.invariant.limits;
          })
    ])
