-- Statement. The study of a graph: its stages, and the streams whose measurements were taken between them.
use Rattle.std.specs.Prelude.{◌≡◌, ℕ, ◌+◌, ◌≤◌, List, [], ◌∷◌, length, take, None, Some, slice_get, IsSomeAnd}
use Rattle.pb_study.specs.declared.results.Stage.{Stage}
use Rattle.pb_study.specs.declared.results.Taken.{Taken}
use Rattle.pb_study.specs.declared.results.Study.{Study}
use Rattle.pb_study.specs.declared.results.Options.{Options}
use Rattle.pb_study.specs.declared.results.Critical.{Critical}
use Rattle.pb_graph.specs.ProcessGraph.{ProcessGraph}
use Rattle.pb_stage.specs.Drop.{without_measurement}
use Rattle.pb_elim.specs.Stage.{IsStageOf}
use Rattle.pb_elim.specs.Elimination.{IsStop, IsSuspect, stop_after}

-- the graph without the measurements of the streams that were taken
abbrev pub without_taken : ProcessGraph → List Taken → ProcessGraph
without_taken graph [] = graph
without_taken graph (t ∷ taken) = without_taken (without_measurement t.stream graph) taken

-- Stages of a graph, and the streams taken between them:
pub record AreRounds (graph : ProcessGraph) (options : Options) (critical : Critical)
    (stages : List Stage) (taken : List Taken) : Type 0 where
  -- the stage at a place is the stage of the graph without the measurements that were taken before it
  pub each :
      (i : ℕ) (stage : Stage) → slice_get stages i ≡ Some stage
      → IsStageOf (without_taken graph (take i taken)) options critical stage
  -- one stream is taken between each stage and the next, in at most as many rounds as are asked for
  pub between : length stages ≡ length taken + 1
  pub rounds : length taken ≤ options.eliminate
  -- that stream is the suspect of the stage before it, after which the rule doesn't stop
  pub suspects :
      (i : ℕ) (stage : Stage) (t : Taken) → slice_get stages i ≡ Some stage → slice_get taken i ≡ Some t
      → IsSomeAnd stage.tests (λ tests. (stop_after options critical i tests ≡ None) × IsSuspect tests.measure t)

-- The study of a graph: the stages of the graph and the streams taken between them, until the rule of elimination says to stop, or one
-- stage if no elimination is asked for.
pub record IsStudyOf (graph : ProcessGraph) (options : Options) (critical : Critical) (study : Study) : Type 0 where
  pub rounds : AreRounds graph options critical study.stages study.taken
  pub stop :
      (last : Stage) → slice_get study.stages (length study.taken) ≡ Some last
      → IsStop options critical (length study.taken) last study.stop
