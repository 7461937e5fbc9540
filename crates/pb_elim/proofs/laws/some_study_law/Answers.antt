use Rattle.pb_elim.proofs.SomeStudyLemmas.{some_study_by}
use Rattle.pb_elim.proofs.laws.some_study_law.Goals as goal

pub returns : goal.returns
returns c = some_study_by (record {
  classification = c.some_classification_law.ensures;
  solution = c.some_solution_law.ensures;
  outside = c.outside_law.ensures;
  nodal = c.nodal_tests_law.ensures.some;
  measure = c.measure_tests_law.ensures.some;
})
