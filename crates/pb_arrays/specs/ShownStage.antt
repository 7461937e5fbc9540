-- Statement. A study and its stages as C has them.
use Rattle.std.specs.Prelude.{◌≡◌, ℕ, ℤ, pos, Bool, true, false, Option, Some, None, length}
use Rattle.pb_study.specs.declared.results.Solved.{Solved}
use Rattle.pb_study.specs.declared.results.Solved.TheVariants.{Converged, Unconverged}
use Rattle.pb_study.specs.declared.results.Stage.{Stage}
use Rattle.pb_study.specs.declared.results.Stop.{Stop}
use Rattle.pb_study.specs.declared.results.Stop.TheVariants as stops
use Rattle.pb_study.specs.declared.results.Study.{Study}
use Rattle.pb_study.specs.declared.results.Taken.{Taken}
use Rattle.pb_study.specs.declared.results.Tests.{Tests}
use Rattle.pb_study.specs.declared.results.Verdict.{Verdict}
use Rattle.pb_study.specs.declared.results.Verdict.TheVariants as verdicts
use Rattle.pb_arrays.specs.Wide.{wide_value}
use Rattle.pb_arrays.specs.declared.numbers.PlantbalWide.{PlantbalWide}
use Rattle.pb_arrays.specs.declared.stages.PlantbalStage.{PlantbalStage}
use Rattle.pb_arrays.specs.declared.stages.PlantbalStudied.{PlantbalStudied}
use Rattle.pb_arrays.specs.declared.stages.PlantbalTaken.{PlantbalTaken}

-- the number of the reason to stop, and 0 if no elimination was asked for
abbrev pub stop_number : Option Stop → ℕ
stop_number None = 0
stop_number (Some stops.Accepted) = 1
stop_number (Some stops.Undecided) = 2
stop_number (Some stops.NoCritical) = 3
stop_number (Some stops.NoTest) = 4
stop_number (Some stops.NoSuspect) = 5
stop_number (Some stops.Spent) = 6

-- the number of what a test says
abbrev pub verdict_number : Verdict → ℕ
verdict_number verdicts.Reject = 0
verdict_number verdicts.Accept = 1
verdict_number verdicts.Undecided = 2
verdict_number verdicts.NoCritical = 3
verdict_number verdicts.NoTest = 4

-- a number, if there is one, otherwise 0
abbrev pub ShowsIf : Option ℤ → Bool → PlantbalWide → Type 0
ShowsIf (Some value) there shown = (there ≡ true) × (wide_value shown ≡ value)
ShowsIf None there shown = (there ≡ false) × (wide_value shown ≡ pos 0)

-- a critical value, if there is one, otherwise 0
abbrev pub ShowsCritical : Option ℤ → Bool → ℤ → Type 0
ShowsCritical (Some value) there shown = (there ≡ true) × (shown ≡ value)
ShowsCritical None there shown = (there ≡ false) × (shown ≡ pos 0)

-- how many sweeps were done, and whether the gap was met
abbrev pub ShowsSolved : Solved → Bool → ℕ → Type 0
ShowsSolved (Converged sweeps) converged shown = (converged ≡ true) × (shown ≡ sweeps)
ShowsSolved (Unconverged sweeps) converged shown = (converged ≡ false) × (shown ≡ sweeps)

-- the tests of a stage, if there are any; without tests there is nothing to test, and no critical value
abbrev pub ShowsTests : Option Tests → PlantbalStage → Type 0
ShowsTests (Some tests) shown =
    (shown.tested ≡ true) × ShowsCritical tests.global.critical shown.has_critical shown.critical
    × (shown.verdict ≡ verdict_number tests.global.verdict)
    × (shown.nodal ≡ length tests.nodal) × (shown.measure ≡ length tests.measure)
ShowsTests None shown =
    (shown.tested ≡ false) × ShowsCritical None shown.has_critical shown.critical
    × (shown.verdict ≡ verdict_number verdicts.NoTest) × (shown.nodal ≡ 0) × (shown.measure ≡ 0)

-- the struct says what the stage is
pub record ShowsStage (stage : Stage) (shown : PlantbalStage) : Type 0 where
  pub solved : ShowsSolved stage.solved shown.converged shown.sweeps
  pub g : shown.g ≡ stage.g
  pub h : shown.h ≡ stage.h
  pub dof : shown.dof ≡ stage.dof
  pub low : wide_value shown.low ≡ stage.low
  pub high : ShowsIf stage.high shown.has_high shown.high
  pub tests : ShowsTests stage.tests shown

-- the struct says what the study has
pub record ShowsStudy (study : Study) (shown : PlantbalStudied) : Type 0 where
  pub stages : shown.stages ≡ length study.stages
  pub taken : shown.taken ≡ length study.taken
  pub stop : shown.stop ≡ stop_number study.stop

-- the struct says which stream was taken
pub record ShowsTaken (taken : Taken) (shown : PlantbalTaken) : Type 0 where
  pub stream : shown.stream ≡ taken.stream
  pub low : wide_value shown.low ≡ taken.low
