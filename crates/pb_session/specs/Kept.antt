-- Statement. What a session keeps beside its rows: studies of periods, and the first stage of its last report.
use Rattle.std.specs.Prelude.{◌≡◌, ◌==◌, ℕ, ◌+◌, not, List, [], ◌∷◌, filter, length, take, All, Option, Some, None, slice_get, Result, Ok, Err, if◌then◌else◌}
use Rattle.pb_study.specs.declared.results.Critical.{Critical}
use Rattle.pb_study.specs.declared.results.Options.{Options}
use Rattle.pb_study.specs.declared.results.Stage.{Stage}
use Rattle.pb_study.specs.declared.results.Study.{Study}
use Rattle.pb_graph.specs.ProcessGraph.{ProcessGraph, IsProcessGraph}
use Rattle.pb_study.specs.WellFormed.{IsWellFormedStudy}
use Rattle.pb_elim.specs.Stage.{IsStageOf}
use Rattle.pb_elim.specs.Study.{IsStudyOf}
use Rattle.pb_stage.specs.Certified.{IsCertifiedStage}
use Rattle.pb_book.specs.declared.answer.Accepted.{Accepted}
use Rattle.pb_book.specs.declared.answer.Accepted.TheVariants.{Report}
use Rattle.pb_periods.specs.declared.period.Period.{Period}
use Rattle.pb_book.specs.Answer.{Answer, Says, Stores, answer_of}
use Rattle.pb_book.specs.TakenOut.{touched_at}
use Rattle.pb_kinds.specs.declared.rows.StoredRow.{StoredRow}
use Rattle.pb_book.specs.Rows.{periods_of, with_row}
use Rattle.pb_period.specs.Days.{days_of}
use Rattle.pb_period.specs.declared.graph.Assembly.{Assembly}
use Rattle.pb_period.specs.PeriodGraph.{assembly_of}
use Rattle.pb_session.specs.Criticals.{critical_of}
use Rattle.pb_session.specs.Session.{SessionState, state_after}

-- the most studies that a session can keep
abbrev pub most_kept : ℕ
most_kept = 4

-- What a session holds: the state that determines its texts, the places of the periods whose studies it keeps, the last reported
-- first, and the graph of its last report.
pub record Held : Type 0 where
  pub state : SessionState
  pub kept : List ℕ
  pub reported : Option ProcessGraph

-- ---- which periods

-- the kept periods except one
abbrev pub without : ℕ → List ℕ → List ℕ
without i kept = filter (λ (k : ℕ). not (k == i)) kept

-- the kept periods after the report of period `i`: if its study has one stage, the period comes first, and the last ones are
-- dropped if there are too many; if it has several, the period isn't kept
abbrev pub kept_behind : ℕ → Study → List ℕ → List ℕ
kept_behind i study kept =
    if length study.stages == 1 then take most_kept (i ∷ without i kept) else without i kept

-- the kept periods that the last stored row doesn't touch
abbrev pub untouched : List StoredRow → List ℕ → List ℕ
untouched rows kept = filter (λ (k : ℕ). not (touched_at rows k)) kept

-- the kept periods after a report that wrote a study of this graph, or the row that names a stream over the limits
abbrev pub KeepsReport : SessionState → ℕ → List ℕ → Result ProcessGraph Assembly → List ℕ → Type 0
KeepsReport state i kept (Ok graph) new =
    (study : Study) × IsStudyOf graph state.options (critical_of state.rows) study × (new ≡ kept_behind i study kept)
KeepsReport state i kept (Err why) new = new ≡ without i kept

-- the kept periods after a report of the period at a place
abbrev pub KeepsReportOf : SessionState → ℕ → List ℕ → Option Period → List ℕ → Type 0
KeepsReportOf state i kept (Some period) new = KeepsReport state i kept (assembly_of state.rows (days_of period)) new
KeepsReportOf state i kept None new = ⊥

-- the kept periods after an accepted record that stores nothing
abbrev pub KeepsAccepted : SessionState → List ℕ → Accepted → List ℕ → Type 0
KeepsAccepted state kept (Report i) new = KeepsReportOf state i kept (slice_get (periods_of state.rows) i) new
KeepsAccepted state kept accepted new = new ≡ kept

-- the kept periods after the answer to the record with this number: a stored row removes those that it touches
abbrev pub KeepsBy : SessionState → List ℕ → ℕ → Answer → List ℕ → Type 0
KeepsBy state kept at (Stores row) new = new ≡ untouched (with_row state.rows at row) kept
KeepsBy state kept at (Says accepted) new = KeepsAccepted state kept accepted new
KeepsBy state kept at answer new = new ≡ kept

-- The periods whose studies are kept after the record with this number, given those that were kept before it.
abbrev pub Keeps : SessionState → List ℕ → ℕ → List (List ℕ) → List ℕ → Type 0
Keeps state kept at fields new = KeepsBy state kept at (answer_of state.rows fields) new

-- The periods whose studies are kept after some records, which are numbered from `at`, given those that were kept before them.
abbrev pub AreKept : SessionState → List ℕ → ℕ → List (List (List ℕ)) → List ℕ → Type 0
AreKept state kept at [] new = new ≡ kept
AreKept state kept at (fields ∷ records) new =
    (behind : List ℕ) × Keeps state kept at fields behind
    × AreKept (state_after state at fields) behind (at + 1) records new

-- ---- what is kept for a period

-- A study is kept for a graph: it is the study of this graph, by the options of the session and the critical values of the stored
-- rows; it has one stage, which is certified, and it is well formed.
pub record IsKeptOf (state : SessionState) (graph : ProcessGraph) (study : Study) : Type 0 where
  pub limits : IsProcessGraph graph
  pub is_study : IsStudyOf graph state.options (critical_of state.rows) study
  pub one_stage : length study.stages ≡ 1
  pub certified : All IsCertifiedStage study.stages
  pub formed : IsWellFormedStudy graph study

-- a study is kept for a period, which must have a graph
abbrev pub IsKeptBy : SessionState → Result ProcessGraph Assembly → Study → Type 0
IsKeptBy state (Ok graph) study = IsKeptOf state graph study
IsKeptBy state (Err why) study = ⊥

abbrev pub IsKeptAt : SessionState → Option Period → Study → Type 0
IsKeptAt state (Some period) study = IsKeptBy state (assembly_of state.rows (days_of period)) study
IsKeptAt state None study = ⊥

-- ---- the last report

-- A stage is the first of a study that was reported: the stage of the graph of the report, with all its measurements, by these options
-- and by the critical values that were declared then. (It has this graph: a field of its reconciliation says so.)
pub record IsReportedStage (options : Options) (stage : Stage) : Type 0 where
  pub graph : ProcessGraph
  pub limits : IsProcessGraph graph
  pub critical : Critical
  pub is_stage : IsStageOf graph options critical stage

-- the graph of the last report, after a report of a period that has this graph or has none
abbrev pub reported_by : Option ProcessGraph → Result ProcessGraph Assembly → Option ProcessGraph
reported_by before (Ok graph) = Some graph
reported_by before (Err why) = before

abbrev pub reported_of : SessionState → Option ProcessGraph → Option Period → Option ProcessGraph
reported_of state before (Some period) = reported_by before (assembly_of state.rows (days_of period))
reported_of state before None = before

-- the graph of the last report, after an accepted record
abbrev pub reported_behind : SessionState → Option ProcessGraph → Accepted → Option ProcessGraph
reported_behind state before (Report i) = reported_of state before (slice_get (periods_of state.rows) i)
reported_behind state before accepted = before

-- the graph of the last report, after the answer to a record
abbrev pub reported_after : SessionState → Option ProcessGraph → Answer → Option ProcessGraph
reported_after state before (Says accepted) = reported_behind state before accepted
reported_after state before answer = before
