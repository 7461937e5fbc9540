-- Statement. The mass balance of each node.
use Rattle.std.specs.Prelude.{◌≡◌, ℕ, ◌<◌, ℤ, pos, ◌+ℤ◌, ◌-ℤ◌, ◌==◌, List, [], ◌∷◌, length, if◌then◌else◌}
use Rattle.pb_graph.specs.declared.records.Stream.{Stream}
use Rattle.pb_graph.specs.ProcessGraph.{ProcessGraph}

-- what the flow of a stream brings to a node: the flow if the stream enters it, less the flow if the stream leaves it
abbrev pub brought_to : ℕ → Stream → ℤ → ℤ
brought_to node stream flow = (if stream.to == node then flow else pos 0) -ℤ (if stream.from == node then flow else pos 0)

-- The net flow at a node: what enters less what leaves.
abbrev pub net_of : ℕ → List Stream → List ℤ → ℤ
net_of node [] flows = pos 0
net_of node (stream ∷ streams) [] = pos 0
net_of node (stream ∷ streams) (flow ∷ flows) = brought_to node stream flow +ℤ net_of node streams flows

-- One flow for each stream, and at every node, including the environment, what enters equals what leaves: the steady mass
-- balance of Narasimhan and Jordache.
pub record IsBalanced (graph : ProcessGraph) (flows : List ℤ) : Type 0 where
  pub each : length flows ≡ length graph.streams
  pub even : (n : ℕ) → n < graph.nodes → net_of n graph.streams flows ≡ pos 0
