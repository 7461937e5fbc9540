-- Statement. The cut or the cycle that shows the class of a stream.
use Rattle.std.specs.Prelude.{◌≡◌, ◌≢◌, ℕ, ◌==◌, Bool, List, Some, None, slice_get, IsSome, IsTrue}
use Rattle.std.specs.List.{AllByRecursion, list_any}
use Rattle.pb_graph.specs.declared.records.Stream.{Stream}
use Rattle.pb_graph.specs.declared.records.Member.{Member}
use Rattle.pb_graph.specs.declared.records.Step.{Step}
use Rattle.pb_graph.specs.declared.records.Class.{Class}
use Rattle.pb_graph.specs.declared.records.Class.TheVariants.{Observable, Unobservable, Redundant, Nonredundant}
use Rattle.pb_graph.specs.declared.records.Witness.{Witness}
use Rattle.pb_graph.specs.declared.records.Witness.TheVariants.{Cut, Cycle}
use Rattle.pb_graph.specs.declared.records.Classified.{Classified}
use Rattle.pb_graph.specs.ProcessGraph.{ProcessGraph}
use Rattle.pb_graph.specs.Boundary.{IsCut}
use Rattle.pb_graph.specs.Cycle.{IsCycle}

-- the members are the boundary of the side, this stream is one of them, and the others are measured
pub record CutsOff (graph : ProcessGraph) (stream_id : ℕ) (side : List Bool) (members : List Member) : Type 0 where
  pub cut : IsCut graph side members
  pub has : IsTrue (list_any (λ (m : Member). m.stream == stream_id) members)
  pub others :
      AllByRecursion (λ (m : Member). m.stream ≢ stream_id → (stream : Stream) → slice_get graph.streams m.stream ≡ Some stream → IsSome stream.meas) members

-- the steps are a cycle, this stream is on it, and the others are unmeasured
pub record GoesRound (graph : ProcessGraph) (stream_id : ℕ) (steps : List Step) : Type 0 where
  pub cycle : IsCycle graph steps
  pub has : IsTrue (list_any (λ (t : Step). t.stream == stream_id) steps)
  pub others :
      AllByRecursion (λ (t : Step). t.stream ≢ stream_id → (stream : Stream) → slice_get graph.streams t.stream ≡ Some stream → stream.meas ≡ None) steps

-- what a class and its certificate claim about a stream: a cut shows how the other streams determine it, and a cycle how any
-- amount may circulate along it unseen
abbrev pub Shows : ProcessGraph → ℕ → Stream → Class → Witness → Type 0
Shows graph stream_id stream Observable (Cut side members) = (stream.meas ≡ None) × CutsOff graph stream_id side members
Shows graph stream_id stream Redundant (Cut side members) = IsSome stream.meas × CutsOff graph stream_id side members
Shows graph stream_id stream Unobservable (Cycle steps) = (stream.meas ≡ None) × GoesRound graph stream_id steps
Shows graph stream_id stream Nonredundant (Cycle steps) = IsSome stream.meas × GoesRound graph stream_id steps
Shows graph stream_id stream Observable (Cycle steps) = ⊥
Shows graph stream_id stream Redundant (Cycle steps) = ⊥
Shows graph stream_id stream Unobservable (Cut side members) = ⊥
Shows graph stream_id stream Nonredundant (Cut side members) = ⊥

-- the class of the stream at a place is shown by its certificate
abbrev pub IsCertified : ProcessGraph → ℕ → Classified → Type 0
IsCertified graph stream_id classified =
    (stream : Stream) × (slice_get graph.streams stream_id ≡ Some stream) × Shows graph stream_id stream classified.class classified.witness
