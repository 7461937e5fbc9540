-- Statement. What is proved of tests, and of stages that are shown.
use Rattle.std.specs.Prelude.{◌≡◌, ℕ, ◌<◌, ◌≤◌, ℤ, pos, ◌*ℤ◌, ◌≤ℤ◌, ◌<ℤ◌, unsigned_abs, List, All, Option, Some}
use Rattle.std.specs.List.{Any}
use Rattle.pb_study.specs.declared.results.Verdict.TheVariants.{Reject, Accept}
use Rattle.pb_study.specs.declared.results.NodalTest.{NodalTest}
use Rattle.pb_study.specs.declared.results.MeasureTest.{MeasureTest}
use Rattle.pb_graph.specs.ProcessGraph.{ProcessGraph, IsProcessGraph}
use Rattle.pb_graph.specs.Groups.{IsFreeGroup, SameGroup}
use Rattle.pb_graph.specs.Squares.{Fractional, IsBalancedFractional, AreSquaresAtMost, squares_unit, weighted_squares, whole_flows}
use Rattle.pb_graph.specs.Variance.{most_group_variance}
use Rattle.pb_gap.specs.Solution.{IsSolvedStatistic}
use Rattle.pb_stage.specs.Verdicts.{global_verdict, measure_verdict}
use Rattle.pb_stage.specs.Nodal.{AreNodalTests, most_group_net}
use Rattle.pb_stage.specs.Drop.{IsMeasureTestOf, AreMeasureTests, drop_high, drop_low, without_measurement}
use Rattle.pb_stage.specs.Decided.{AreSquaresAboveBy, AreSquaresWithinBy, AreEnds}
use Rattle.pb_study.specs.declared.results.Stage.{Stage}
use Rattle.pb_stage.specs.Certified.{IsShownStage, IsCertifiedStage}

-- the nodal tests of a process graph exist and are unique
abbrev pub SomeNodalTestsLaw : Type 0
SomeNodalTestsLaw = (graph : ProcessGraph) (critical : Option ℤ) → IsProcessGraph graph
    → (tests : List NodalTest) × AreNodalTests graph critical tests

abbrev pub OneNodalTestsLaw : Type 0
OneNodalTestsLaw = (graph : ProcessGraph) (critical : Option ℤ) (tests others : List NodalTest)
    → AreNodalTests graph critical tests → AreNodalTests graph critical others → tests ≡ others

-- a nodal test is of a free group, and named by the group's least node
pub record IsOfFreeGroup (graph : ProcessGraph) (test : NodalTest) : Type 0 where
  pub node : test.node < graph.nodes
  pub free : IsFreeGroup graph test.node
  pub least : (n : ℕ) → n < test.node → SameGroup graph.streams n test.node → ⊥

-- nodal tests are of free groups, and each free group has one
pub record AreOfFreeGroups (graph : ProcessGraph) (tests : List NodalTest) : Type 0 where
  pub each : All (IsOfFreeGroup graph) tests
  pub every : (n : ℕ) → n < graph.nodes → IsFreeGroup graph n
      → Any (λ (test : NodalTest). SameGroup graph.streams test.node n) tests

abbrev pub FreeGroupsLaw : Type 0
FreeGroupsLaw = (graph : ProcessGraph) (critical : Option ℤ) (tests : List NodalTest)
    → IsProcessGraph graph → AreNodalTests graph critical tests → AreOfFreeGroups graph tests

-- the net flow of a nodal test is at most what as many streams as a graph may have can bring, and its variance is at most the sum of as
-- many variances
pub record IsNodalNumber (test : NodalTest) : Type 0 where
  pub net : unsigned_abs test.net ≤ most_group_net
  pub positive : pos 0 ≤ℤ test.variance
  pub variance : test.variance ≤ℤ pos most_group_variance

abbrev pub NodalRangeLaw : Type 0
NodalRangeLaw = (graph : ProcessGraph) (critical : Option ℤ) (tests : List NodalTest)
    → IsProcessGraph graph → AreNodalTests graph critical tests → All IsNodalNumber tests

-- the test of the measurement of a stream exists and is unique
abbrev pub SomeMeasureTestLaw : Type 0
SomeMeasureTestLaw = (graph : ProcessGraph) (gap sweeps : ℕ) (low : ℤ) (high critical : Option ℤ) (stream : ℕ)
    → IsProcessGraph graph → (test : MeasureTest) × IsMeasureTestOf graph gap sweeps low high critical stream test

abbrev pub OneMeasureTestLaw : Type 0
OneMeasureTestLaw = (graph : ProcessGraph) (gap sweeps : ℕ) (low : ℤ) (high critical : Option ℤ) (stream : ℕ) (test other : MeasureTest)
    → IsProcessGraph graph → IsMeasureTestOf graph gap sweeps low high critical stream test
    → IsMeasureTestOf graph gap sweeps low high critical stream other → test ≡ other

-- the tests of the measurements of a list of streams exist and are unique
abbrev pub SomeMeasureTestsLaw : Type 0
SomeMeasureTestsLaw = (graph : ProcessGraph) (gap sweeps : ℕ) (low : ℤ) (high critical : Option ℤ) (streams : List ℕ)
    → IsProcessGraph graph → (tests : List MeasureTest) × AreMeasureTests graph gap sweeps low high critical streams tests

abbrev pub OneMeasureTestsLaw : Type 0
OneMeasureTestsLaw = (graph : ProcessGraph) (gap sweeps : ℕ) (low : ℤ) (high critical : Option ℤ) (streams : List ℕ) (tests others : List MeasureTest)
    → IsProcessGraph graph → AreMeasureTests graph gap sweeps low high critical streams tests
    → AreMeasureTests graph gap sweeps low high critical streams others → tests ≡ others

-- the ends of the statistic of a solved graph are ends by its flows
abbrev pub EndsLaw : Type 0
EndsLaw = (graph : ProcessGraph) (gap sweeps : ℕ) (low : ℤ) (high : Option ℤ) → IsProcessGraph graph
    → (statistic : IsSolvedStatistic graph gap sweeps low high) → AreEnds graph statistic.flows low high

-- If the global test rejects, the weighted squares of each balanced vector are above the critical value.
abbrev pub GlobalRejectLaw : Type 0
GlobalRejectLaw = (graph : ProcessGraph) (flows : List ℤ) (low : ℤ) (high : Option ℤ) (dof : ℕ) (critical : ℤ) (x : Fractional)
    → IsProcessGraph graph → AreEnds graph flows low high → global_verdict low high dof (Some critical) ≡ Reject
    → IsBalancedFractional graph x → (critical *ℤ squares_unit graph x) <ℤ (pos 1000 *ℤ weighted_squares graph x)

-- If it accepts, those of the flows are at most the critical value.
abbrev pub GlobalAcceptLaw : Type 0
GlobalAcceptLaw = (graph : ProcessGraph) (flows : List ℤ) (low : ℤ) (high : Option ℤ) (dof : ℕ) (critical : ℤ)
    → IsProcessGraph graph → AreEnds graph flows low high → global_verdict low high dof (Some critical) ≡ Accept
    → AreSquaresAtMost graph (whole_flows flows) critical

-- With ends by flows of a graph, and ends by other flows of the graph without the measurement of a stream: if the drop between them is
-- rejected, the weighted squares of each balanced vector are above those of the other flows, without the measurement, by more than the
-- critical value.
abbrev pub DropRejectLaw : Type 0
DropRejectLaw = (graph : ProcessGraph) (stream : ℕ) (flows others : List ℤ) (low low_without : ℤ) (high high_without : Option ℤ) (critical : ℤ) (x : Fractional)
    → IsProcessGraph graph → AreEnds graph flows low high
    → AreEnds (without_measurement stream graph) others low_without high_without
    → pos 0 ≤ℤ critical
    → measure_verdict (drop_low low high_without) (drop_high high low_without) (Some critical) ≡ Reject
    → IsBalancedFractional graph x
    → AreSquaresAboveBy graph x (without_measurement stream graph) (whole_flows others) critical

-- If it is accepted, the weighted squares of the flows are above those of each vector that is balanced without the measurement by at most
-- the critical value.
abbrev pub DropAcceptLaw : Type 0
DropAcceptLaw = (graph : ProcessGraph) (stream : ℕ) (flows others : List ℤ) (low low_without : ℤ) (high high_without : Option ℤ) (critical : ℤ) (y : Fractional)
    → IsProcessGraph graph → AreEnds graph flows low high
    → AreEnds (without_measurement stream graph) others low_without high_without
    → measure_verdict (drop_low low high_without) (drop_high high low_without) (Some critical) ≡ Accept
    → IsBalancedFractional (without_measurement stream graph) y
    → AreSquaresWithinBy graph (whole_flows flows) (without_measurement stream graph) y critical

-- If the test of a measurement rejects, the weighted squares of each balanced vector are above those of the second solution's flows,
-- without the measurement, by more than the critical value.
abbrev pub MeasureRejectLaw : Type 0
MeasureRejectLaw = (graph : ProcessGraph) (gap sweeps : ℕ) (low : ℤ) (high : Option ℤ) (critical : ℤ) (stream : ℕ) (test : MeasureTest) (x : Fractional)
    → IsProcessGraph graph → IsSolvedStatistic graph gap sweeps low high → pos 0 ≤ℤ critical
    → (is : IsMeasureTestOf graph gap sweeps low high (Some critical) stream test) → test.verdict ≡ Reject
    → IsBalancedFractional graph x
    → AreSquaresAboveBy graph x (without_measurement stream graph) (whole_flows is.statistic.flows) critical

-- If it accepts, the weighted squares of the first solution's flows are above those of each vector that is balanced, without the
-- measurement, by at most the critical value.
abbrev pub MeasureAcceptLaw : Type 0
MeasureAcceptLaw = (graph : ProcessGraph) (gap sweeps : ℕ) (low : ℤ) (high : Option ℤ) (critical : ℤ) (stream : ℕ) (test : MeasureTest) (y : Fractional)
    → IsProcessGraph graph → (solved : IsSolvedStatistic graph gap sweeps low high)
    → IsMeasureTestOf graph gap sweeps low high (Some critical) stream test → test.verdict ≡ Accept
    → IsBalancedFractional (without_measurement stream graph) y
    → AreSquaresWithinBy graph (whole_flows solved.flows) (without_measurement stream graph) y critical

-- a stage that is shown is certified, whatever made it
abbrev pub ShownLaw : Type 0
ShownLaw = (stage : Stage) → IsShownStage stage → IsCertifiedStage stage
