use Rattle.pb_graph.specs.ProcessGraph.{IsStream}
use Rattle.pb_fixed.proofs.Lists.{all_each}
use Rattle.pb_graph.proofs.ReachLemmas.{some_reach, one_reach}
use Rattle.pb_graph.proofs.laws.reach_law.Goals as goal

pub returns : goal.returns
returns c = record {
  some = λ graph may node is lt. some_reach graph.streams graph.nodes may node lt (all_each (IsStream graph.nodes) graph.streams is.joins);
  one = one_reach;
}
