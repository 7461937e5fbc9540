-- Statement. The entry numbers of a walk of the held unmeasured streams, and the low and high points of its nodes.
use Rattle.std.specs.Prelude.{◌≡◌, ◌↔◌, ◌⊎◌, ℕ, ◌<◌, ◌≤◌, Bool, true, not, ◌&&◌, List, Option, Some, None, slice_get}
use Rattle.pb_graph.specs.declared.records.Stream.{Stream}
use Rattle.pb_graph.specs.ProcessGraph.{ProcessGraph, IsProcessGraph}
use Rattle.pb_graph.specs.Walk.{ends_of, unmeasured, unmeasured_but, Reaches, IsReach}
use Rattle.pb_graph.specs.Path.{is_open}
use Rattle.pb_forest.specs.Forest.{IsForest}
use Rattle.pb_forest.specs.Laws.{held_unmeasured, except}

-- What a walk of the trees of held unmeasured streams says about each node: its entry number, the last of the entry numbers of the
-- nodes below it, the stream to its parent (none at the node by which its tree is entered), the label of its tree, and its low and
-- high points.
pub record NodePoints : Type 0 where
  pub nodes : ℕ
  pub number : ℕ → ℕ
  pub last : ℕ → ℕ
  pub up : ℕ → Option ℕ
  pub label : ℕ → ℕ
  pub low : ℕ → ℕ
  pub high : ℕ → ℕ

-- tests of which streams may be taken: held unmeasured ones, except a given one if there is one; unmeasured ones that aren't held
abbrev pub branch_but : List Bool → Option ℕ → ℕ → Stream → Bool
branch_but held None = held_unmeasured held
branch_but held (Some j) = except j (held_unmeasured held)

abbrev pub unheld_unmeasured : List Bool → ℕ → Stream → Bool
unheld_unmeasured held k stream = not (is_open held k stream) && unmeasured k stream

-- The nodes below node n, including itself: those that it reaches over held unmeasured streams other than the one to its parent.
abbrev pub IsBelow : ProcessGraph → List Bool → NodePoints → ℕ → ℕ → Type 0
IsBelow graph held points n m = Reaches (ends_of (branch_but held (points.up n)) graph.streams) n m

-- the stream to the parent of node n is held and unmeasured, and has an end there
pub record IsUp (graph : ProcessGraph) (held : List Bool) (n j : ℕ) : Type 0 where
  pub stream : Stream
  pub at : slice_get graph.streams j ≡ Some stream
  pub branch : held_unmeasured held j stream ≡ true
  pub touch : (stream.from ≡ n) ⊎ (stream.to ≡ n)

-- stream j leads from a node to its parent
pub record HasLowerEnd (graph : ProcessGraph) (points : NodePoints) (j : ℕ) : Type 0 where
  pub node : ℕ
  pub there : node < graph.nodes
  pub up : points.up node ≡ Some j

-- Each node has a different number, and the nodes below it have the numbers from its own to its last, without a gap. Each held
-- unmeasured stream leads from one of its ends, the lower one, to the parent of that end. Two nodes have the same label exactly when
-- they are in the same tree, which is what unmeasured streams join.
pub record IsNumbering (graph : ProcessGraph) (held : List Bool) (points : NodePoints) : Type 0 where
  pub few : (n : ℕ) → n < graph.nodes → points.number n < graph.nodes
  pub own : (m n : ℕ) → m < graph.nodes → n < graph.nodes → points.number m ≡ points.number n → m ≡ n
  pub below : (n m : ℕ) → n < graph.nodes → m < graph.nodes → IsBelow graph held points n m ↔ ((points.number n ≤ points.number m) × (points.number m ≤ points.last n))
  pub up : (n j : ℕ) → n < graph.nodes → points.up n ≡ Some j → IsUp graph held n j
  pub each : (j : ℕ) (stream : Stream) → slice_get graph.streams j ≡ Some stream → held_unmeasured held j stream ≡ true → HasLowerEnd graph points j
  pub label : (m n : ℕ) → m < graph.nodes → n < graph.nodes → (points.label m ≡ points.label n) ↔ Reaches (ends_of unmeasured graph.streams) m n

-- a stream has one end at each of two nodes
abbrev pub Joins : Stream → ℕ → ℕ → Type 0
Joins stream a b = ((stream.from ≡ a) × (stream.to ≡ b)) ⊎ ((stream.to ≡ a) × (stream.from ≡ b))

-- an unmeasured stream that isn't held leads from a node below n to node m
pub record IsLeap (graph : ProcessGraph) (held : List Bool) (points : NodePoints) (n m : ℕ) : Type 0 where
  pub foot : ℕ
  pub below : IsBelow graph held points n foot
  pub k : ℕ
  pub stream : Stream
  pub at : slice_get graph.streams k ≡ Some stream
  pub unheld : unheld_unmeasured held k stream ≡ true
  pub joins : Joins stream foot m

-- the nodes that count for the points of node n: those below it, and the other ends of unmeasured streams that aren't held and have
-- an end at one of these
abbrev pub Counts : ProcessGraph → List Bool → NodePoints → ℕ → ℕ → Type 0
Counts graph held points n m = IsBelow graph held points n m ⊎ IsLeap graph held points n m

-- a number is the entry number of a node that counts for the points of node n
abbrev pub IsCounted : ProcessGraph → List Bool → NodePoints → ℕ → ℕ → Type 0
IsCounted graph held points n number = (m : ℕ) × (m < graph.nodes) × Counts graph held points n m × (points.number m ≡ number)

-- The low point of a node is the least entry number among the nodes that count for it, and the high point is the greatest (Tarjan
-- 1974, "A note on finding the bridges of a graph").
pub record HasPoints (graph : ProcessGraph) (held : List Bool) (points : NodePoints) (n : ℕ) : Type 0 where
  pub low : IsCounted graph held points n (points.low n)
  pub least : (m : ℕ) → m < graph.nodes → Counts graph held points n m → points.low n ≤ points.number m
  pub high : IsCounted graph held points n (points.high n)
  pub greatest : (m : ℕ) → m < graph.nodes → Counts graph held points n m → points.number m ≤ points.high n

-- the entry numbers and points of a graph, given its spanning forest
pub record ArePoints (graph : ProcessGraph) (points : NodePoints) : Type 0 where
  pub limits : IsProcessGraph graph
  pub nodes : points.nodes ≡ graph.nodes
  pub held : List Bool
  pub forest : IsForest graph.streams held
  pub numbering : IsNumbering graph held points
  pub each : (n : ℕ) → n < graph.nodes → HasPoints graph held points n

-- other unmeasured streams don't join the ends of stream j
abbrev pub IsApart : ProcessGraph → ℕ → Type 0
IsApart graph j = (stream : Stream) → slice_get graph.streams j ≡ Some stream → Reaches (ends_of (unmeasured_but j) graph.streams) stream.from stream.to → ⊥

-- other unmeasured streams join the ends of stream j
abbrev pub IsJoined : ProcessGraph → ℕ → Type 0
IsJoined graph j = (stream : Stream) → slice_get graph.streams j ≡ Some stream → Reaches (ends_of (unmeasured_but j) graph.streams) stream.from stream.to

-- a side is the set of nodes that the `from` end of stream j reaches over the other unmeasured streams
abbrev pub IsSideOf : ProcessGraph → ℕ → List Bool → Type 0
IsSideOf graph j side = (stream : Stream) → slice_get graph.streams j ≡ Some stream → IsReach (ends_of (unmeasured_but j) graph.streams) graph.nodes stream.from side
