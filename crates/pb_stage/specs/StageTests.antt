-- Statement. The tests of a stage.
use Rattle.std.specs.Prelude.{◌≡◌, ℕ, suc, Bool, true, false, List, [], ◌∷◌, if◌then◌else◌}
use Rattle.pb_graph.specs.declared.records.Class.{Class}
use Rattle.pb_graph.specs.declared.records.Class.TheVariants.{Redundant}
use Rattle.pb_study.specs.declared.results.StreamResult.{StreamResult}
use Rattle.pb_study.specs.declared.results.Tests.{Tests}
use Rattle.pb_study.specs.declared.results.Stage.{Stage}
use Rattle.pb_study.specs.declared.results.Options.{Options}
use Rattle.pb_study.specs.declared.results.Critical.{Critical}
use Rattle.pb_graph.specs.ProcessGraph.{ProcessGraph}
use Rattle.pb_stage.specs.Verdicts.{global_test_of}
use Rattle.pb_stage.specs.Nodal.{AreNodalTests}
use Rattle.pb_stage.specs.Drop.{AreMeasureTests}

-- whether a class is that of a measured stream that the other measured flows determine too
abbrev pub is_redundant : Class → Bool
is_redundant Redundant = true
is_redundant class = false

-- the redundant streams of a list of results, the first of which is the result of this stream
abbrev pub redundant_from : ℕ → List StreamResult → List ℕ
redundant_from stream [] = []
redundant_from stream (result ∷ results) =
    if is_redundant result.classified.class then stream ∷ redundant_from (suc stream) results
    else redundant_from (suc stream) results

-- the redundant streams according to the results of all streams, in order
abbrev pub redundant_streams : List StreamResult → List ℕ
redundant_streams results = redundant_from 0 results

-- The tests of a stage of a graph: the global test of its statistic with the critical value for its degrees of freedom, the nodal test
-- of each free group, and the test of the measurement of each redundant stream.
pub record AreTestsOf (graph : ProcessGraph) (options : Options) (critical : Critical) (stage : Stage)
    (tests : Tests) : Type 0 where
  pub overall : tests.global ≡ global_test_of critical.global stage.low stage.high stage.dof
  pub nodal : AreNodalTests graph critical.nodal tests.nodal
  pub measure :
      AreMeasureTests graph options.gap options.sweeps stage.low stage.high critical.measure
      (redundant_streams stage.streams) tests.measure
