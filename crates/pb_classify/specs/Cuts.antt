-- Statement. The boundaries of the trees of unmeasured streams, which cut off the sides of the measured streams.
use Rattle.std.specs.Prelude.{◌≡◌, ℕ, ◌<◌, List, length, Bool, true, Some, slice_get}
use Rattle.pb_graph.specs.declared.records.Stream.{Stream}
use Rattle.pb_graph.specs.declared.records.Member.{Member}
use Rattle.pb_graph.specs.ProcessGraph.{ProcessGraph, is_measured}
use Rattle.pb_graph.specs.Walk.{ends_of, unmeasured, IsReach}
use Rattle.pb_graph.specs.Boundary.{boundary_of}
use Rattle.pb_classify.specs.Points.{NodePoints, IsSideOf}

-- a side is the tree of node n: the set of nodes that it reaches over unmeasured streams
abbrev pub IsTreeOf : ProcessGraph → ℕ → List Bool → Type 0
IsTreeOf graph n side = IsReach (ends_of unmeasured graph.streams) graph.nodes n side

-- There is a list for each entry number. The list at the label of a node is the boundary of the node's tree.
pub record AreCuts (graph : ProcessGraph) (points : NodePoints) (cuts : List (List Member)) : Type 0 where
  pub each : length cuts ≡ graph.nodes
  pub boundary : (n : ℕ) (side : List Bool) → n < graph.nodes → IsTreeOf graph n side → slice_get cuts (points.label n) ≡ Some (boundary_of side graph.streams)

-- stream j has a measurement
abbrev pub IsMeasured : ProcessGraph → ℕ → Type 0
IsMeasured graph j = (stream : Stream) → slice_get graph.streams j ≡ Some stream → is_measured stream ≡ true

-- members are the boundary of the side of stream j
abbrev pub AreMembersOf : ProcessGraph → ℕ → List Member → Type 0
AreMembersOf graph j members = (side : List Bool) → IsSideOf graph j side → members ≡ boundary_of side graph.streams
