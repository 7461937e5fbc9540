use Rattle.pb_stage.proofs.DropLemmas.{some_tests_by, one_tests_by}
use Rattle.pb_stage.proofs.laws.measure_tests_law.Goals as goal

pub returns : goal.returns
returns c = record {
  some = some_tests_by c.solved_statistic_law.ensures.some;
  one = one_tests_by c.solved_statistic_law.ensures.one;
}
