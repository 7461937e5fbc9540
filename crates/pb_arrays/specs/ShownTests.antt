-- Statement. The tests of a stage as C has them.
use Rattle.std.specs.Prelude.{◌≡◌}
use Rattle.pb_study.specs.declared.results.MeasureTest.{MeasureTest}
use Rattle.pb_study.specs.declared.results.NodalTest.{NodalTest}
use Rattle.pb_arrays.specs.ShownStage.{ShowsCritical, ShowsIf, verdict_number}
use Rattle.pb_arrays.specs.Wide.{wide_value}
use Rattle.pb_arrays.specs.declared.tests.PlantbalMeasureTest.{PlantbalMeasureTest}
use Rattle.pb_arrays.specs.declared.tests.PlantbalNodalTest.{PlantbalNodalTest}

-- the struct says what the test of a group of nodes is
pub record ShowsNodal (test : NodalTest) (shown : PlantbalNodalTest) : Type 0 where
  pub node : shown.node ≡ test.node
  pub net : wide_value shown.net ≡ test.net
  pub variance : wide_value shown.variance ≡ test.variance
  pub critical : ShowsCritical test.critical shown.has_critical shown.critical
  pub verdict : shown.verdict ≡ verdict_number test.verdict

-- the struct says what the test of a measurement is
pub record ShowsMeasure (test : MeasureTest) (shown : PlantbalMeasureTest) : Type 0 where
  pub stream : shown.stream ≡ test.stream
  pub low : wide_value shown.low ≡ test.low
  pub high : ShowsIf test.high shown.has_high shown.high
  pub critical : ShowsCritical test.critical shown.has_critical shown.critical
  pub verdict : shown.verdict ≡ verdict_number test.verdict
