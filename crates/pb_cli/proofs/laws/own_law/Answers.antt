use Rattle.pb_cli.proofs.OwnStageLemmas.{own_by}
use Rattle.pb_cli.proofs.laws.own_law.Goals as goal

pub returns : goal.returns
returns c = own_by c.certified_law.ensures c.solution_law.ensures c.solved_law.ensures
