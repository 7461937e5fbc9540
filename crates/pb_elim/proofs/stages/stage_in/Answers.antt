use Rattle.pb_elim.proofs.StageLemmas.{stage_tested, tested_formed}
use Rattle.pb_elim.proofs.stages.stage_in.Goals as goal

pub returns-clause-stage : goal.returns-clause-stage
returns-clause-stage c =
    stage_tested c.args.graph.now c.args.options.now c.args.critical.now c.in_ok-stage.stage c.in_ok-tests.tests c.in_ok-stage.ensures.stage
    c.in_ok-tests.ensures.asked c.in_ok-tests.ensures.tests

pub returns-clause-formed : goal.returns-clause-formed
returns-clause-formed c =
    tested_formed c.args.graph.now c.in_ok-stage.stage c.in_ok-tests.tests c.in_ok-stage.ensures.stage.graph_is c.in_ok-stage.ensures.formed
    c.in_ok-tests.ensures.within
