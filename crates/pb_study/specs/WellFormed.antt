-- Statement. The form of results, stages and studies: what those who write and read them rely on.
use Rattle.std.specs.Prelude.{◌≡◌, ℕ, ◌+◌, ◌^◌, ◌<◌, ◌≤◌, ℤ, unsigned_abs, length, All, IfSome}
use Rattle.pb_limits.specs.Limits.{most_freedom, most_sweeps, most_wide}
use Rattle.pb_limits.specs.Ranges.{IsCriticalValue}
use Rattle.pb_graph.specs.ProcessGraph.{ProcessGraph}
use Rattle.pb_graph.specs.WellFormed.{IsWitnessWithin, IsFlow, IsPrice}
use Rattle.pb_study.specs.declared.results.Bounds.{Bounds}
use Rattle.pb_study.specs.declared.results.Solved.{Solved}
use Rattle.pb_study.specs.declared.results.Solved.TheVariants.{Converged, Unconverged}
use Rattle.pb_study.specs.declared.results.StreamResult.{StreamResult}
use Rattle.pb_study.specs.declared.results.NodalTest.{NodalTest}
use Rattle.pb_study.specs.declared.results.MeasureTest.{MeasureTest}
use Rattle.pb_study.specs.declared.results.Tests.{Tests}
use Rattle.pb_study.specs.declared.results.Stage.{Stage}
use Rattle.pb_study.specs.declared.results.Taken.{Taken}
use Rattle.pb_study.specs.declared.results.Study.{Study}

-- an end of bounds, in grams, a net flow with its variance, or a statistic in thousandths
abbrev pub IsWide : ℤ → Type 0
IsWide value = unsigned_abs value ≤ most_wide

-- both ends of bounds
pub record AreBoundsWithin (bounds : Bounds) : Type 0 where
  pub lo : IsWide bounds.lo
  pub hi : IsWide bounds.hi

-- a stream's result is within the ranges
pub record IsResultWithin (graph : ProcessGraph) (stream : StreamResult) : Type 0 where
  pub witness : IsWitnessWithin graph stream.classified.witness
  pub flow : IsFlow stream.flow
  pub bounds : IfSome stream.bounds AreBoundsWithin
  pub least : IfSome stream.least AreBoundsWithin

-- a test of a group of nodes is named by one of the nodes of the graph
pub record IsNodalWithin (graph : ProcessGraph) (test : NodalTest) : Type 0 where
  pub node : test.node < graph.nodes
  pub net : IsWide test.net
  pub variance : IsWide test.variance
  pub critical : IfSome test.critical IsCriticalValue

-- a test of a measurement belongs to a stream of the graph
pub record IsMeasureWithin (graph : ProcessGraph) (test : MeasureTest) : Type 0 where
  pub stream : test.stream < length graph.streams
  pub low : IsWide test.low
  pub high : IfSome test.high IsWide
  pub critical : IfSome test.critical IsCriticalValue

-- tests belong to nodes and streams of the graph
pub record AreTestsWithin (graph : ProcessGraph) (tests : Tests) : Type 0 where
  pub overall : IfSome tests.global.critical IsCriticalValue
  pub nodal : All (IsNodalWithin graph) tests.nodal
  pub measure : All (IsMeasureWithin graph) tests.measure

-- how many sweeps were done
abbrev pub sweeps_of : Solved → ℕ
sweeps_of (Converged sweeps) = sweeps
sweeps_of (Unconverged sweeps) = sweeps

-- a stage has one price for each node and one result for each stream, and each number is in its range
pub record IsWellFormed (stage : Stage) : Type 0 where
  pub each_price : length stage.prices ≡ stage.graph.nodes
  pub each_stream : length stage.streams ≡ length stage.graph.streams
  pub results : All (IsResultWithin stage.graph) stage.streams
  pub prices : All IsPrice stage.prices
  pub sweeps : sweeps_of stage.solved ≤ most_sweeps
  pub g : stage.g ≤ 2 ^ 63
  pub h : stage.h ≤ 32
  pub dof : stage.dof ≤ most_freedom
  pub low : IsWide stage.low
  pub high : IfSome stage.high IsWide
  pub tests : IfSome stage.tests (AreTestsWithin stage.graph)

-- the graph of a stage has as many nodes and streams as this one
pub record HasShapeOf (graph : ProcessGraph) (stage : Stage) : Type 0 where
  pub nodes : stage.graph.nodes ≡ graph.nodes
  pub streams : length stage.graph.streams ≡ length graph.streams

-- a stream that was taken is one of the graph
pub record IsTakenWithin (graph : ProcessGraph) (taken : Taken) : Type 0 where
  pub stream : taken.stream < length graph.streams
  pub low : IsWide taken.low

-- Each stage of a study of a graph is well formed and has the nodes and streams of the graph, and one stream is taken between
-- each stage and the next.
pub record IsWellFormedStudy (graph : ProcessGraph) (study : Study) : Type 0 where
  pub stages : All IsWellFormed study.stages
  pub shapes : All (HasShapeOf graph) study.stages
  pub between : length study.stages ≡ length study.taken + 1
  pub each_taken : All (IsTakenWithin graph) study.taken
