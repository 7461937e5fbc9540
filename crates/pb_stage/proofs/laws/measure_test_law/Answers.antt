use Rattle.pb_stage.proofs.DropLemmas.{some_test_by, one_test_by}
use Rattle.pb_stage.proofs.laws.measure_test_law.Goals as goal

pub returns : goal.returns
returns c = record {
  some = some_test_by c.solved_statistic_law.ensures.some;
  one = one_test_by c.solved_statistic_law.ensures.one;
}
