-- Statement. The ends of the drop that the test of a measurement prints are in order.
use Rattle.std.specs.Prelude.{ℤ, ◌≤ℤ◌, All, IfSome}
use Rattle.pb_graph.specs.ProcessGraph.{ProcessGraph, IsProcessGraph}
use Rattle.pb_study.specs.declared.results.Critical.{Critical}
use Rattle.pb_study.specs.declared.results.MeasureTest.{MeasureTest}
use Rattle.pb_study.specs.declared.results.Options.{Options}
use Rattle.pb_study.specs.declared.results.Stage.{Stage}
use Rattle.pb_study.specs.declared.results.Study.{Study}
use Rattle.pb_elim.specs.Study.{IsStudyOf}

-- the low end of a drop is at most its high end, if it has one
abbrev pub IsDropInOrder : MeasureTest → Type 0
IsDropInOrder test = IfSome test.high (λ high. test.low ≤ℤ high)

-- so it is in each test of a measurement of a stage
abbrev pub AreDropsInOrder : Stage → Type 0
AreDropsInOrder stage = IfSome stage.tests (λ tests. All IsDropInOrder tests.measure)

-- and in each stage of a study
abbrev pub DropOrderLaw : Type 0
DropOrderLaw =
    (graph : ProcessGraph) (options : Options) (critical : Critical) (study : Study) → IsProcessGraph graph
    → IsStudyOf graph options critical study → All AreDropsInOrder study.stages
