-- Statement. What is at a place of a study.
use Rattle.std.specs.Prelude.{ℕ, ℤ, Option, slice_get}
use Rattle.std.specs.Option.{option_and_then}
use Rattle.pb_study.specs.declared.results.MeasureTest.{MeasureTest}
use Rattle.pb_study.specs.declared.results.NodalTest.{NodalTest}
use Rattle.pb_study.specs.declared.results.Stage.{Stage}
use Rattle.pb_study.specs.declared.results.StreamResult.{StreamResult}
use Rattle.pb_study.specs.declared.results.Study.{Study}
use Rattle.pb_study.specs.declared.results.Tests.{Tests}

-- a stage
abbrev pub stage_in : Study → ℕ → Option Stage
stage_in study stage = slice_get study.stages stage

-- the price of a node in a stage
abbrev pub price_in_stage : Study → ℕ → ℕ → Option ℤ
price_in_stage study stage node = option_and_then (λ (s : Stage). slice_get s.prices node) (stage_in study stage)

-- the result of a stream in a stage
abbrev pub result_in : Study → ℕ → ℕ → Option StreamResult
result_in study stage stream = option_and_then (λ (s : Stage). slice_get s.streams stream) (stage_in study stage)

-- the tests of a stage, if it has any
abbrev pub tests_in : Study → ℕ → Option Tests
tests_in study stage = option_and_then (λ (s : Stage). s.tests) (stage_in study stage)

-- the test of a group of nodes in a stage
abbrev pub nodal_in : Study → ℕ → ℕ → Option NodalTest
nodal_in study stage place = option_and_then (λ (t : Tests). slice_get t.nodal place) (tests_in study stage)

-- the test of a measurement in a stage
abbrev pub measure_in : Study → ℕ → ℕ → Option MeasureTest
measure_in study stage place = option_and_then (λ (t : Tests). slice_get t.measure place) (tests_in study stage)
