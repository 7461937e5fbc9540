-- Statement. What the options of a run change: tests add their rows and change no other row, and an elimination adds its rounds and changes
-- nothing of the first.
use Rattle.std.specs.Prelude.{◌≡◌, ◌++◌, ℕ, Bool, true, false, not, List, [], ◌∷◌, filter, map, take, None}
use Rattle.pb_rows.specs.declared.name.Names.{Names}
use Rattle.pb_graph.specs.ProcessGraph.{ProcessGraph, IsProcessGraph}
use Rattle.pb_study.specs.declared.results.Stage.{Stage}
use Rattle.pb_study.specs.declared.results.Study.{Study}
use Rattle.pb_study.specs.declared.results.Options.{Options}
use Rattle.pb_study.specs.declared.results.Critical.{Critical}
use Rattle.pb_elim.specs.Study.{IsStudyOf}
use Rattle.pb_form.specs.declared.output.OutputKind.{OutputKind}
use Rattle.pb_form.specs.declared.output.OutputKind.TheVariants as kind
use Rattle.pb_report.specs.Row.{OutputRow}
use Rattle.pb_report.specs.Study.{study_rows}

-- the options without an elimination
abbrev pub without_elimination : Options → Options
without_elimination options = record options { eliminate = 0 }

-- the options without tests, and so without an elimination
abbrev pub without_tests : Options → Options
without_tests options = record options { tests = false; eliminate = 0 }

-- a stage without its tests
abbrev pub untested : Stage → Stage
untested stage = record stage { tests = None }

-- A study without elimination has the first stage of the study with it, and no other.
abbrev pub FirstRoundLaw : Type 0
FirstRoundLaw =
    (graph : ProcessGraph) (options : Options) (critical : Critical) (study other : Study) → IsProcessGraph graph
    → IsStudyOf graph options critical study → IsStudyOf graph (without_elimination options) critical other
    → other.stages ≡ take 1 study.stages

-- A study without tests has the same stage, without its tests.
abbrev pub UntestedLaw : Type 0
UntestedLaw =
    (graph : ProcessGraph) (options : Options) (critical : Critical) (study other : Study) → IsProcessGraph graph
    → IsStudyOf graph options critical study → IsStudyOf graph (without_tests options) critical other
    → other.stages ≡ map untested (take 1 study.stages)

-- a row of a test
abbrev pub is_of_a_test : OutputKind → Bool
is_of_a_test kind.Global = true
is_of_a_test kind.Nodal = true
is_of_a_test kind.Measure = true
is_of_a_test other = false

abbrev pub other_rows : List OutputRow → List OutputRow
other_rows rows = filter (λ (row : OutputRow). not (is_of_a_test row.kind)) rows

-- The rows of a report with tests are, without those of the tests, the rows of the report without tests.
abbrev pub OtherRowsLaw : Type 0
OtherRowsLaw =
    (graph : ProcessGraph) (options : Options) (critical : Critical) (names : Names) (period : List ℕ) (study other : Study) → IsProcessGraph graph
    → IsStudyOf graph (without_elimination options) critical study → IsStudyOf graph (without_tests options) critical other
    → other_rows (study_rows names period (without_elimination options) study) ≡ study_rows names period (without_tests options) other
