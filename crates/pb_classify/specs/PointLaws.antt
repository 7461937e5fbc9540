-- Statement. What low and high points say about held unmeasured streams.
use Rattle.std.specs.Prelude.{◌≡◌, ℕ, ◌<◌, Bool, List, Some}
use Rattle.pb_graph.specs.ProcessGraph.{ProcessGraph, IsProcessGraph}
use Rattle.pb_forest.specs.Forest.{IsForest}
use Rattle.pb_classify.specs.Points.{NodePoints, IsBelow, IsNumbering, HasPoints, IsApart, IsJoined}

-- a number is the entry number of a node below node n
pub record IsNumberBelow (graph : ProcessGraph) (held : List Bool) (points : NodePoints) (n number : ℕ) : Type 0 where
  pub node : ℕ
  pub there : node < graph.nodes
  pub below : IsBelow graph held points n node
  pub is : points.number node ≡ number

-- what the points of its lower end say about a held unmeasured stream
pub record Tell (graph : ProcessGraph) (held : List Bool) (points : NodePoints) (n j : ℕ) : Type 0 where
  pub apart : IsNumberBelow graph held points n (points.low n) → IsNumberBelow graph held points n (points.high n) → IsApart graph j
  pub by_low : (IsNumberBelow graph held points n (points.low n) → ⊥) → IsJoined graph j
  pub by_high : (IsNumberBelow graph held points n (points.high n) → ⊥) → IsJoined graph j

-- The ends of a held unmeasured stream aren't joined by other unmeasured streams exactly when both points of its lower end are entry
-- numbers of nodes below that end. It is then a bridge of the unmeasured streams (Tarjan 1974).
abbrev pub PointsLaw : Type 0
PointsLaw = (graph : ProcessGraph) (held : List Bool) (points : NodePoints) (n j : ℕ) → IsProcessGraph graph → IsForest graph.streams held
    → IsNumbering graph held points → n < graph.nodes → points.up n ≡ Some j → HasPoints graph held points n → Tell graph held points n j
