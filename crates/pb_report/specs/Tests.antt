-- Statement. The rows of the tests of a stage.
use Rattle.std.specs.Prelude.{List, [], ◌∷◌, ◌++◌, map, Option, Some, None}
use Rattle.pb_rows.specs.declared.name.Names.{Names}
use Rattle.pb_form.specs.Value.{Name, Number, Word}
use Rattle.pb_form.specs.declared.output.OutputKind.TheVariants as kind
use Rattle.pb_study.specs.declared.results.GlobalTest.{GlobalTest}
use Rattle.pb_study.specs.declared.results.NodalTest.{NodalTest}
use Rattle.pb_study.specs.declared.results.MeasureTest.{MeasureTest}
use Rattle.pb_study.specs.declared.results.Tests.{Tests}
use Rattle.pb_report.specs.Names.{name_at}
use Rattle.pb_choices.specs.Places.{verdict_place}
use Rattle.pb_report.specs.Row.{OutputRow, row_of, value_or_none}

-- the global test: the critical value, and the verdict
abbrev pub global_row : GlobalTest → OutputRow
global_row test = row_of kind.Global (value_or_none Number test.critical ∷ Word (verdict_place test.verdict) ∷ [])

-- the test of a balance: the node, the net flow, its variance, the critical value, and the verdict
abbrev pub nodal_row : Names → NodalTest → OutputRow
nodal_row names test =
    row_of kind.Nodal
    (Name (name_at names.nodes test.node) ∷ Number test.net ∷ Number test.variance ∷ value_or_none Number test.critical
    ∷ Word (verdict_place test.verdict) ∷ [])

-- the test of a measurement: the stream, the bounds of the drop, the critical value, and the verdict
abbrev pub measure_row : Names → MeasureTest → OutputRow
measure_row names test =
    row_of kind.Measure
    (Name (name_at names.streams test.stream) ∷ Number test.low ∷ value_or_none Number test.high ∷ value_or_none Number test.critical
    ∷ Word (verdict_place test.verdict) ∷ [])

-- the rows of the tests, if tests were made
abbrev pub tests_rows : Names → Option Tests → List OutputRow
tests_rows names None = []
tests_rows names (Some tests) =
    global_row tests.global ∷ (map (nodal_row names) tests.nodal ++ map (measure_row names) tests.measure)
