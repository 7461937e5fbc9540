use Rattle.std.proofs.Common.{◌≡◌, ℕ, ◌<◌, Some, slice_get}
use Rattle.pb_study.specs.declared.results.MeasureTest.{MeasureTest}
use Rattle.pb_stage.specs.Certified.{IsMeasureVerdict}
use Rattle.pb_check.proofs.rows.measure_verdict_fault.Given as goal

-- the verdicts so far follow
abbrev pub invariant-loop-row : goal.invariant-loop-row
invariant-loop-row l = (k : ℕ) → k < l.row-index → (row : MeasureTest) → slice_get l.rows k ≡ Some row → IsMeasureVerdict row
