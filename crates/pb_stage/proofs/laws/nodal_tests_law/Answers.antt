use Rattle.pb_stage.proofs.NodalLemmas.{some_nodal_tests, one_nodal_tests}
use Rattle.pb_stage.proofs.laws.nodal_tests_law.Goals as goal

pub returns : goal.returns
returns c = record { some = some_nodal_tests; one = one_nodal_tests }
