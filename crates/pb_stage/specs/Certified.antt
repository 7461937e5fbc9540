-- Statement. A shown stage, which an auditor can check, and a certified stage: what a shown stage promises to whoever reads it.
use Rattle.std.specs.Prelude.{◌≡◌, ℕ, ℤ, pos, ◌*ℤ◌, ◌<ℤ◌, length, map, Option, None, is_some, All, IfSome, MatchOption}
use Rattle.pb_graph.specs.declared.records.Class.{Class}
use Rattle.pb_graph.specs.declared.records.Class.TheVariants.{Unobservable}
use Rattle.pb_study.specs.declared.results.Bounds.{Bounds}
use Rattle.pb_study.specs.declared.results.StreamResult.{StreamResult}
use Rattle.pb_study.specs.declared.results.Verdict.{Verdict}
use Rattle.pb_study.specs.declared.results.Verdict.TheVariants.{Reject, Accept, NoCritical}
use Rattle.pb_study.specs.declared.results.GlobalTest.{GlobalTest}
use Rattle.pb_study.specs.declared.results.NodalTest.{NodalTest}
use Rattle.pb_study.specs.declared.results.MeasureTest.{MeasureTest}
use Rattle.pb_study.specs.declared.results.Tests.{Tests}
use Rattle.pb_study.specs.declared.results.Stage.{Stage}
use Rattle.pb_graph.specs.ProcessGraph.{IsProcessGraph}
use Rattle.pb_graph.specs.Balance.{IsBalanced}
use Rattle.pb_graph.specs.Classes.{IsClassOf}
use Rattle.pb_graph.specs.Certificates.{IsCertified}
use Rattle.pb_graph.specs.Squares.{Fractional, IsBalancedFractional, IsLeast, IsNoWorse, AreSquaresAtLeast, AreSquaresAtMost, squares_unit, weighted_squares, whole_flows}
use Rattle.pb_graph.specs.Prices.{PricesFit}
use Rattle.pb_gap.specs.Gap.{IsGap, deviations_of}
use Rattle.pb_gap.specs.StreamBounds.{IsStreamWithin, stream_bounds}
use Rattle.pb_gap.specs.LeastBounds.{stream_least_bounds}
use Rattle.pb_gap.specs.Statistic.{low_of, high_of}
use Rattle.pb_gap.specs.Least.{AreWithinGap}
use Rattle.pb_stage.specs.Verdicts.{global_verdict, measure_verdict, nodal_verdict}
use Rattle.pb_stage.specs.Nodal.{AreNodalTests}
use Rattle.pb_stage.specs.StageTests.{redundant_streams}
use Rattle.pb_stage.specs.Freedom.{HasFreedom}
use Rattle.pb_stage.specs.Printed.{printed_price, printed_flows, printed_gap, EachStream, HasLeastBounds}

-- the bounds of a stream, and its least bounds, from the printed flows, prices and gap, and from its certificate
abbrev pub found_bounds : Stage → ℕ → StreamResult → Option Bounds
found_bounds stage j r =
    stream_bounds (printed_price stage) stage.graph.streams (printed_gap stage) j r.classified

abbrev pub found_least : Stage → ℕ → StreamResult → Option Bounds
found_least stage j r =
    stream_least_bounds (printed_price stage) stage.graph.streams (printed_flows stage)
    (printed_gap stage) j r.classified

-- The gap, the bounds, the least bounds if the stage has any, the degrees of freedom and the statistic are what the rules give for the
-- printed flows, prices and certificates.
pub record AreNumbersOf (stage : Stage) : Type 0 where
  pub deviation :
      IsGap (deviations_of (printed_price stage) stage.graph.streams (printed_flows stage))
      (printed_gap stage)
  pub bounded : EachStream stage (λ j r. r.bounds ≡ found_bounds stage j r)
  pub least_bounded : HasLeastBounds stage → EachStream stage (λ j r. r.least ≡ found_least stage j r)
  pub freedom : HasFreedom stage.graph.streams stage.dof
  pub from_below : stage.low ≡ low_of stage.graph.streams (printed_flows stage) (printed_gap stage)
  pub from_above : stage.high ≡ high_of stage.graph.streams (printed_flows stage)

-- the verdict of the test of a measurement follows from its printed numbers
abbrev pub IsMeasureVerdict : MeasureTest → Type 0
IsMeasureVerdict test = test.verdict ≡ measure_verdict test.low test.high test.critical

-- the verdict of a nodal test follows from its printed numbers
abbrev pub IsNodalVerdict : NodalTest → Type 0
IsNodalVerdict test = test.verdict ≡ nodal_verdict test.net test.variance test.critical

-- a nodal test before it is compared with a critical value
abbrev pub unjudged : NodalTest → NodalTest
unjudged test = record test { critical = None; verdict = NoCritical }

-- The nodal tests are those of the graph, and each verdict follows from the printed numbers.
pub record AreShownTests (stage : Stage) (tests : Tests) : Type 0 where
  pub overall : tests.global.verdict ≡ global_verdict stage.low stage.high stage.dof tests.global.critical
  pub groups : AreNodalTests stage.graph None (map unjudged tests.nodal)
  pub nodal : All IsNodalVerdict tests.nodal
  pub measure : All IsMeasureVerdict tests.measure

-- if there are tests, each redundant stream has the test of its measurement, in order, and no other stream has one
abbrev pub TestsEachRedundant : Stage → Type 0
TestsEachRedundant stage =
    IfSome stage.tests (λ tests.
    map (λ (test : MeasureTest). test.stream) tests.measure ≡ redundant_streams stage.streams)

-- the streams that have bounds also have least bounds, and no others have them
abbrev pub HasLeastThroughout : Stage → Type 0
HasLeastThroughout stage = EachStream stage (λ j r. is_some r.least ≡ is_some r.bounds)

-- A stage is shown if all of this holds, which its printed numbers alone decide:
pub record IsShownStage (stage : Stage) : Type 0 where
  -- the graph is within its limits
  pub limits : IsProcessGraph stage.graph
  -- each stream has a class, and the printed cut or cycle shows it
  pub each : length stage.streams ≡ length stage.graph.streams
  pub shown : EachStream stage (λ j r. IsCertified stage.graph j r.classified)
  -- the flows balance at every node
  pub balanced : IsBalanced stage.graph (printed_flows stage)
  -- each node has its price, and the prices fit
  pub priced : length stage.prices ≡ stage.graph.nodes
  pub fit : PricesFit stage.graph (printed_price stage)
  -- the other numbers follow from these, and so do the tests, if there are tests
  pub numbers : AreNumbersOf stage
  pub tests : IfSome stage.tests (AreShownTests stage)

-- in x, the flow of a stream of a class is within the bounds of the stream; only an unobservable stream has no bounds
abbrev pub IsEnclosed : Fractional → ℕ → Class → Option Bounds → Type 0
IsEnclosed x j class bounds = MatchOption bounds (class ≡ Unobservable) (IsStreamWithin x j)

-- balanced fractional flows that are no worse than the printed ones
pub record IsAsGood (stage : Stage) (x : Fractional) : Type 0 where
  pub balanced : IsBalancedFractional stage.graph x
  pub no_worse : IsNoWorse stage.graph x (whole_flows (printed_flows stage))

-- a verdict that doesn't decide
abbrev pub IsUndecided : Verdict → Type 0
IsUndecided Reject = ⊥
IsUndecided Accept = ⊥
IsUndecided verdict = Unit {0}

-- what a verdict of the global test says with a critical value: if it rejects, all balanced flows have weighted squares above the
-- value, by cross products, and if it accepts, the printed flows don't
abbrev pub IsVerdictRight : Stage → ℤ → Verdict → Type 0
IsVerdictRight stage critical Reject =
    (x : Fractional) → IsBalancedFractional stage.graph x
    → (critical *ℤ squares_unit stage.graph x) <ℤ (pos 1000 *ℤ weighted_squares stage.graph x)
IsVerdictRight stage critical Accept =
    AreSquaresAtMost stage.graph (whole_flows (printed_flows stage)) critical
IsVerdictRight stage critical verdict = Unit {0}

-- the global test decides only if there is a critical value, and is then right
abbrev pub IsGlobalRight : Stage → GlobalTest → Type 0
IsGlobalRight stage test =
    MatchOption test.critical (IsUndecided test.verdict) (λ critical. IsVerdictRight stage critical test.verdict)

-- A stage is certified if it is shown, and all of this holds, which follows:
pub record IsCertifiedStage (stage : Stage) : Type 0 where
  pub shown : IsShownStage stage
  -- each stream's class holds by its meaning
  pub classes : EachStream stage (λ j r. IsClassOf stage.graph j r.classified.class)
  -- in balanced flows no worse than the printed ones, each measured and each observable stream is within its bounds
  pub enclosed : (x : Fractional) → IsAsGood stage x → EachStream stage (λ j r. IsEnclosed x j r.classified.class r.bounds)
  -- in least flows, each measured and each observable stream is within its least bounds, if the stage has any
  pub hypercircle : HasLeastBounds stage → (x : Fractional) → IsLeast stage.graph x
      → EachStream stage (λ j r. IsEnclosed x j r.classified.class r.least)
  -- the printed flows are at most the printed gap away from each least vector
  pub near : (x : Fractional) → IsLeast stage.graph x
      → AreWithinGap stage.graph (printed_gap stage) (whole_flows (printed_flows stage)) x
  -- no balanced flows have weighted squares below the low end of the statistic
  pub least : (x : Fractional) → IsBalancedFractional stage.graph x
      → AreSquaresAtLeast stage.graph x stage.low
  -- the weighted squares of the printed flows aren't above the high end of the statistic, if there is one
  pub most : IfSome stage.high (AreSquaresAtMost stage.graph (whole_flows (printed_flows stage)))
  -- the global test, if it decides, is right
  pub decided : IfSome stage.tests (λ tests. IsGlobalRight stage tests.global)
