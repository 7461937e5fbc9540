use Rattle.pb_session.proofs.RenumberedLemmas.{left_out, renumbered}
use Rattle.pb_session.proofs.laws.left_out_law.Goals as goal

pub returns : goal.returns
returns c = record {
  renumbered = renumbered c.plain_law.ensures c.plain_graphs_law.ensures;
  left_out = left_out c.accepted_law.ensures c.plain_law.ensures c.plain_graphs_law.ensures;
}
