-- Statement. Sums of prices times flows, over nodes and over streams.
use Rattle.std.specs.Prelude.{ℕ, ℤ, pos, ◌+ℤ◌, ◌*ℤ◌, List, [], ◌∷◌}
use Rattle.pb_fixed.specs.Sums.{sum_over, sum_below, item}
use Rattle.pb_graph.specs.declared.records.Stream.{Stream}
use Rattle.pb_graph.specs.declared.records.Member.{Member}
use Rattle.pb_graph.specs.ProcessGraph.{ProcessGraph}
use Rattle.pb_graph.specs.Balance.{net_of}
use Rattle.pb_graph.specs.Prices.{rise_of}

-- the sum over the nodes of price times net flow
abbrev pub priced_nodes : (ℕ → ℤ) → ProcessGraph → List ℤ → ℤ
priced_nodes price graph flows = sum_below (λ n. price n *ℤ net_of n graph.streams flows) graph.nodes

-- the sum over the streams of the rise of the price along the stream times its flow
abbrev pub priced_streams : (ℕ → ℤ) → List Stream → List ℤ → ℤ
priced_streams price [] flows = pos 0
priced_streams price (stream ∷ streams) [] = pos 0
priced_streams price (stream ∷ streams) (flow ∷ flows) = (rise_of price stream *ℤ flow) +ℤ priced_streams price streams flows

-- the sum over the members of a boundary of sign times flow: what enters the side less what leaves it
abbrev pub signed_sum : List Member → List ℤ → ℤ
signed_sum members flows = sum_over (λ (m : Member). m.sign *ℤ item flows m.stream) members
