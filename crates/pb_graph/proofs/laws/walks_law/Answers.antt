use Rattle.std.proofs.Common.{true}
use Rattle.pb_graph.specs.Walk.{ends_of}
use Rattle.pb_graph.proofs.WalkLemmas.{ends_is, reach_none, reach_one, reach_both, reach_back}
use Rattle.pb_graph.proofs.laws.walks_law.Goals as goal

pub returns : goal.returns
returns c = record {
  itself = λ streams may a. reach_none (ends_of may streams) a;
  back = λ streams may a b r. reach_back may streams a b r;
  further = λ streams may a b d r q. reach_both (ends_of may streams) a b d r q;
  along_one = λ streams may k stream at ok.
      reach_one (ends_of may streams) stream.from stream.to (record { stream = k; forward = true }) (ends_is may streams k stream true at ok);
}
