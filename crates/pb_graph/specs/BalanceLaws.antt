-- Statement. What is proved of balanced flow vectors, law by law.
use Rattle.std.specs.Prelude.{◌≡◌, ℕ, ◌<◌, ℤ, pos, ◌↔◌, Bool, true, false, List, Some, slice_get, length}
use Rattle.pb_graph.specs.declared.records.Stream.{Stream}
use Rattle.pb_graph.specs.declared.records.Member.{Member}
use Rattle.pb_graph.specs.declared.records.Step.{Step}
use Rattle.pb_graph.specs.declared.records.Class.{Class}
use Rattle.pb_graph.specs.declared.records.Classified.{Classified}
use Rattle.pb_graph.specs.ProcessGraph.{ProcessGraph, IsProcessGraph}
use Rattle.pb_graph.specs.Walk.{ends_of, unmeasured_but, is_in, IsReach}
use Rattle.pb_graph.specs.Boundary.{boundary_of, IsCut}
use Rattle.pb_graph.specs.Balance.{net_of, IsBalanced}
use Rattle.pb_graph.specs.Classes.{IsDetermined, IsFree, IsClassOf}
use Rattle.pb_graph.specs.Certificates.{CutsOff, GoesRound, IsCertified}
use Rattle.pb_graph.specs.PricedSums.{priced_nodes, priced_streams, signed_sum}

-- whatever the prices and the flows, the sum over the nodes is the sum over the streams
abbrev pub PricedSumLaw : Type 0
PricedSumLaw = (graph : ProcessGraph) (price : ℕ → ℤ) (flows : List ℤ) → IsProcessGraph graph → priced_nodes price graph flows ≡ priced_streams price graph.streams flows

-- Whatever the prices, the sum over the streams is 0 for balanced flows: differences of prices and balanced flows are
-- orthogonal (Tellegen's theorem; Rockafellar, Network Flows and Monotropic Optimization, chapter 1).
abbrev pub BalancedSumLaw : Type 0
BalancedSumLaw = (graph : ProcessGraph) (price : ℕ → ℤ) (flows : List ℤ) → IsProcessGraph graph → IsBalanced graph flows → priced_streams price graph.streams flows ≡ pos 0

-- Flows that balance at every node except the environment are balanced: one balance follows from the others (Mah, Stanley and Downing
-- 1976).
abbrev pub BalancedButEnvLaw : Type 0
BalancedButEnvLaw =
    (graph : ProcessGraph) (flows : List ℤ) → IsProcessGraph graph → length flows ≡ length graph.streams
    → ((n : ℕ) → 0 < n → n < graph.nodes → net_of n graph.streams flows ≡ pos 0) → IsBalanced graph flows

-- balanced flows enter a side as much as they leave it
abbrev pub BoundarySumLaw : Type 0
BoundarySumLaw = (graph : ProcessGraph) (side : List Bool) (members : List Member) (flows : List ℤ) → IsProcessGraph graph → IsCut graph side members → IsBalanced graph flows
    → signed_sum members flows ≡ pos 0

-- a cut in which all streams but one are measured determines that one
abbrev pub CutLaw : Type 0
CutLaw = (graph : ProcessGraph) (stream_id : ℕ) (side : List Bool) (members : List Member) → IsProcessGraph graph → CutsOff graph stream_id side members → IsDetermined graph stream_id

-- a cycle in which all streams but one are unmeasured leaves that one free
abbrev pub CycleLaw : Type 0
CycleLaw = (graph : ProcessGraph) (stream_id : ℕ) (steps : List Step) → IsProcessGraph graph → GoesRound graph stream_id steps → IsFree graph stream_id

-- What decides between the two: the nodes that the `from` end of a stream reaches over the other unmeasured streams. The stream is
-- determined exactly when its `to` end isn't among them, and then their boundary cuts it off; it is free exactly when its `to` end is.
pub record IsDecidedBy (graph : ProcessGraph) (stream_id : ℕ) (stream : Stream) (side : List Bool) : Type 0 where
  pub determined : IsDetermined graph stream_id ↔ (is_in side stream.to ≡ false)
  pub free : IsFree graph stream_id ↔ (is_in side stream.to ≡ true)
  pub cut : is_in side stream.to ≡ false → CutsOff graph stream_id side (boundary_of side graph.streams)

abbrev pub DeterminedLaw : Type 0
DeterminedLaw = (graph : ProcessGraph) (stream_id : ℕ) (stream : Stream) (side : List Bool) → IsProcessGraph graph → slice_get graph.streams stream_id ≡ Some stream
    → IsReach (ends_of (unmeasured_but stream_id) graph.streams) graph.nodes stream.from side → IsDecidedBy graph stream_id stream side

-- a class that its certificate shows holds by meaning
abbrev pub CertificateLaw : Type 0
CertificateLaw = (graph : ProcessGraph) (stream_id : ℕ) (classified : Classified) → IsProcessGraph graph → IsCertified graph stream_id classified → IsClassOf graph stream_id classified.class

-- each stream of a graph has a class
abbrev pub EachClassLaw : Type 0
EachClassLaw = (graph : ProcessGraph) (stream_id : ℕ) → IsProcessGraph graph → stream_id < length graph.streams → (class : Class) × IsClassOf graph stream_id class

-- a stream has only one class
abbrev pub OneClassLaw : Type 0
OneClassLaw = (graph : ProcessGraph) (stream_id : ℕ) (one other : Class) → IsClassOf graph stream_id one → IsClassOf graph stream_id other → one ≡ other
