-- Statement. What the decided tests of measurements say about the weighted squares themselves.
use Rattle.std.specs.Prelude.{ℕ, ℤ, List, All, IfSome, MatchOption}
use Rattle.pb_study.specs.declared.results.Verdict.{Verdict}
use Rattle.pb_study.specs.declared.results.Verdict.TheVariants.{Reject, Accept}
use Rattle.pb_study.specs.declared.results.MeasureTest.{MeasureTest}
use Rattle.pb_study.specs.declared.results.Stage.{Stage}
use Rattle.pb_graph.specs.Balance.{IsBalanced}
use Rattle.pb_graph.specs.Squares.{Fractional, IsBalancedFractional, whole_flows}
use Rattle.pb_stage.specs.Drop.{without_measurement}
use Rattle.pb_stage.specs.Decided.{AreSquaresAboveBy, AreSquaresWithinBy}
use Rattle.pb_stage.specs.Printed.{printed_flows}
use Rattle.pb_stage.specs.Certified.{IsUndecided}

-- What the verdict of the test of a measurement says with a critical value. If it rejects, there are balanced flows without the
-- measurement whose weighted squares are less than those of all balanced flows with it, by more than the value. If it accepts, the
-- weighted squares of the printed flows aren't above those of any balanced flows without it by more than the value.
abbrev pub IsDropRight : Stage → ℕ → ℤ → Verdict → Type 0
IsDropRight stage stream critical Reject =
    (flows : List ℤ) × IsBalanced (without_measurement stream stage.graph) flows
    × ((x : Fractional) → IsBalancedFractional stage.graph x
    → AreSquaresAboveBy stage.graph x (without_measurement stream stage.graph) (whole_flows flows) critical)
IsDropRight stage stream critical Accept =
    (y : Fractional) → IsBalancedFractional (without_measurement stream stage.graph) y
    → AreSquaresWithinBy stage.graph (whole_flows (printed_flows stage))
    (without_measurement stream stage.graph) y critical
IsDropRight stage stream critical verdict = Unit {0}

-- the test of a measurement decides only if there is a critical value, and is then right
abbrev pub IsMeasureRight : Stage → MeasureTest → Type 0
IsMeasureRight stage test =
    MatchOption test.critical (IsUndecided test.verdict)
    (λ critical. IsDropRight stage test.stream critical test.verdict)

-- the tests of measurements of a stage are right
abbrev pub AreMeasuresRight : Stage → Type 0
AreMeasuresRight stage = IfSome stage.tests (λ tests. All (IsMeasureRight stage) tests.measure)
