-- Statement. The first stage of the study of a period, with which its report begins.
use Rattle.std.specs.Prelude.{◌≡◌, Option, Some, None, Result, Ok, Err, IfErr}
use Rattle.pb_study.specs.declared.results.Stage.{Stage}
use Rattle.pb_graph.specs.ProcessGraph.{ProcessGraph, IsProcessGraph}
use Rattle.pb_elim.specs.Stage.{IsStageOf}
use Rattle.pb_periods.specs.declared.period.Period.{Period}
use Rattle.pb_period.specs.Days.{days_of}
use Rattle.pb_period.specs.declared.graph.Assembly.{Assembly}
use Rattle.pb_period.specs.PeriodGraph.{NamesAStream, assembly_of}
use Rattle.pb_session.specs.Criticals.{critical_of}
use Rattle.pb_session.specs.Session.{SessionState}

-- A stage is the first of the study of this graph: the stage of the graph with all its measurements, by the options of the session
-- and the critical values of the stored rows.
pub record IsFirstStage (state : SessionState) (graph : ProcessGraph) (stage : Stage) : Type 0 where
  pub limits : IsProcessGraph graph
  pub is_stage : IsStageOf graph state.options (critical_of state.rows) stage

-- if there is a graph, its first stage; if there is none, the reason
abbrev pub BeginsBy : SessionState → Result ProcessGraph Assembly → Result Stage Assembly → Type 0
BeginsBy state (Ok graph) (Ok stage) = IsFirstStage state graph stage
BeginsBy state (Err why) (Err told) = told ≡ why
BeginsBy state (Ok graph) (Err told) = ⊥
BeginsBy state (Err why) (Ok stage) = ⊥

-- the first stage of the study of the period at a place
abbrev pub Begins : SessionState → Option Period → Result Stage Assembly → Type 0
Begins state (Some period) answer = BeginsBy state (assembly_of state.rows (days_of period)) answer
Begins state None answer = ⊥

-- a stream that is reported as over the limits is a stream of the period's graph
abbrev pub TellsAStream : SessionState → Option Period → Result Stage Assembly → Type 0
TellsAStream state (Some period) answer = IfErr answer (NamesAStream state.rows (days_of period))
TellsAStream state None answer = ⊥
