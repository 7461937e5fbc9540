-- Statement. The canonical certificates: a cut for a determined stream, and a cycle for a free one.
use Rattle.std.specs.Prelude.{◌≡◌, ℕ, ◌<◌, Bool, true, false, ◌==◌, List, ◌∷◌, Some, None, slice_get, get_or}
use Rattle.std.specs.List.{list_any}
use Rattle.pb_graph.specs.declared.records.Stream.{Stream}
use Rattle.pb_graph.specs.declared.records.Member.{Member}
use Rattle.pb_graph.specs.declared.records.Step.{Step}
use Rattle.pb_graph.specs.declared.records.Class.{Class}
use Rattle.pb_graph.specs.declared.records.Class.TheVariants.{Observable, Unobservable, Redundant, Nonredundant}
use Rattle.pb_graph.specs.declared.records.Witness.{Witness}
use Rattle.pb_graph.specs.declared.records.Witness.TheVariants.{Cut, Cycle}
use Rattle.pb_graph.specs.declared.records.Classified.{Classified}
use Rattle.pb_graph.specs.ProcessGraph.{ProcessGraph}
use Rattle.pb_graph.specs.Walk.{ends_of, unmeasured_but, IsReach}
use Rattle.pb_graph.specs.Path.{IsPath, is_open}
use Rattle.pb_graph.specs.Boundary.{IsCut}
use Rattle.pb_forest.specs.Forest.{IsForest}

-- The canonical cut of stream j: the nodes that its `from` end reaches over the other unmeasured streams, with their boundary.
pub record IsCutOf (graph : ProcessGraph) (j : ℕ) (stream : Stream) (side : List Bool) (members : List Member) : Type 0 where
  pub reach : IsReach (ends_of (unmeasured_but j) graph.streams) graph.nodes stream.from side
  pub cut : IsCut graph side members

-- The cycle of stream j, which is outside the forest: the stream forward, and then the path in the forest from its `to` end to its
-- `from` end (a fundamental cycle of graph theory; Deo, Graph Theory with Applications, chapter 3).
pub record IsCycleOf (graph : ProcessGraph) (held : List Bool) (j : ℕ) (steps : List Step) : Type 0 where
  pub s : Stream
  pub at : slice_get graph.streams j ≡ Some s
  pub outside : get_or held j false ≡ false
  pub back : List Step
  pub path : IsPath (ends_of (is_open held) graph.streams) graph.nodes graph.streams s.to back s.from
  pub round : steps ≡ record { stream = j; forward = true } ∷ back

-- whether some step is along stream j
abbrev pub has_stream : ℕ → List Step → Bool
has_stream j steps = list_any (λ (step : Step). step.stream == j) steps

abbrev pub IsUnmeasured : ProcessGraph → ℕ → Type 0
IsUnmeasured graph k = (stream : Stream) → slice_get graph.streams k ≡ Some stream → stream.meas ≡ None

-- the cycle of the first unmeasured stream outside the forest whose cycle has stream j
pub record IsFirstCycle (graph : ProcessGraph) (held : List Bool) (j : ℕ) (steps : List Step) : Type 0 where
  pub e : ℕ
  pub unmeasured : IsUnmeasured graph e
  pub cycle : IsCycleOf graph held e steps
  pub has : has_stream j steps ≡ true
  pub first : (k : ℕ) (other : List Step) → k < e → IsUnmeasured graph k → IsCycleOf graph held k other → has_stream j other ≡ false

-- the canonical certificate of each class, for a spanning forest
abbrev pub IsCanonical : ProcessGraph → List Bool → ℕ → Stream → Class → Witness → Type 0
IsCanonical graph held j stream Observable (Cut side members) = IsCutOf graph j stream side members
IsCanonical graph held j stream Redundant (Cut side members) = IsCutOf graph j stream side members
IsCanonical graph held j stream Unobservable (Cycle steps) = IsFirstCycle graph held j steps
IsCanonical graph held j stream Nonredundant (Cycle steps) = IsCycleOf graph held j steps
IsCanonical graph held j stream Observable (Cycle steps) = ⊥
IsCanonical graph held j stream Redundant (Cycle steps) = ⊥
IsCanonical graph held j stream Unobservable (Cut side members) = ⊥
IsCanonical graph held j stream Nonredundant (Cut side members) = ⊥

-- the certificate of stream j is the canonical one for the spanning forest of the graph
pub record IsCertificate (graph : ProcessGraph) (j : ℕ) (classified : Classified) : Type 0 where
  pub held : List Bool
  pub forest : IsForest graph.streams held
  pub s : Stream
  pub at : slice_get graph.streams j ≡ Some s
  pub canonical : IsCanonical graph held j s classified.class classified.witness
