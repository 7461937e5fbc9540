use Rattle.pb_elim.proofs.UniqueLemmas.{one_study_by}
use Rattle.pb_elim.proofs.laws.one_study_law.Goals as goal

pub returns : goal.returns
returns c = one_study_by (record {
  forest = c.one_forest_law.ensures;
  classification = c.one_classification_law.ensures;
  solution = c.one_solution_law.ensures;
  nodal = c.nodal_tests_law.ensures.one;
  measure = c.measure_tests_law.ensures.one;
})
