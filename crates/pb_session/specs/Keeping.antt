-- Inside. The studies that a session keeps, and the stage that it reported last, as the code holds them.
use Rattle.std.specs.Prelude.{◌≡◌, ◌==◌, ℕ, ◌≤◌, Bool, Contains, not, List, [], ◌∷◌, filter, find, length, map, position, slice_get, take, All, Option, Some, None, IfSome, Result, Ok, Err, option_map, if◌then◌else◌}
use Rattle.std.specs.List.{AllByRecursion}
use Rattle.std.specs.Option.{option_and_then}
use Rattle.pb_graph.specs.declared.records.Classified.{Classified}
use Rattle.pb_study.specs.declared.results.Stage.{Stage}
use Rattle.pb_study.specs.declared.results.StreamResult.{StreamResult}
use Rattle.pb_study.specs.declared.results.Study.{Study}
use Rattle.pb_graph.specs.ProcessGraph.{ProcessGraph, IsProcessGraph}
use Rattle.pb_study.specs.WellFormed.{IsWellFormedStudy}
use Rattle.pb_classify.specs.Classification.{IsClassification}
use Rattle.pb_stage.specs.Printed.{printed_classes}
use Rattle.pb_stage.specs.Certified.{IsCertifiedStage, HasLeastThroughout, TestsEachRedundant}
use Rattle.pb_study.specs.Options.{AreOptions}
use Rattle.pb_elim.specs.Study.{IsStudyOf}
use Rattle.pb_book.specs.declared.answer.Accepted.{Accepted}
use Rattle.pb_book.specs.declared.answer.Accepted.TheVariants.{Stored}
use Rattle.pb_periods.specs.declared.period.Period.{Period}
use Rattle.pb_book.specs.TakenOut.{touched_at}
use Rattle.pb_kinds.specs.declared.rows.StoredRow.{StoredRow}
use Rattle.pb_book.specs.Rows.{periods_of}
use Rattle.pb_period.specs.Days.{days_of}
use Rattle.pb_period.specs.Grades.{grades_of}
use Rattle.pb_period.specs.declared.graph.Assembly.{Assembly}
use Rattle.pb_period.specs.PeriodGraph.{assembly_of}
use Rattle.pb_session.specs.declared.kept.KeptStudy.{KeptStudy}
use Rattle.pb_session.specs.declared.session.Reported.{Reported}
use Rattle.pb_session.specs.Criticals.{critical_of}
use Rattle.pb_session.specs.Kept.{Held, IsKeptAt, IsReportedStage, most_kept}
use Rattle.pb_session.specs.Session.{BalancesIn, SessionState}

-- ---- the kept studies

-- a study of this period
abbrev pub is_of : ℕ → KeptStudy → Bool
is_of period kept = kept.period == period

-- the place of the study of a period
abbrev pub place_in : ℕ → List KeptStudy → Option ℕ
place_in period kept = position (is_of period) kept

-- the studies of other periods
abbrev pub others_than : ℕ → List KeptStudy → List KeptStudy
others_than period kept = filter (λ (k : KeptStudy). not (is_of period k)) kept

-- the kept studies after this study of a period was written
abbrev pub studies_behind : ℕ → Study → List KeptStudy → List KeptStudy
studies_behind period study kept =
    if length study.stages == 1
    then take most_kept ((let first : KeptStudy = record { period = period; study = study } in first) ∷ others_than period kept)
    else others_than period kept

-- the kept studies after a report written from the kept study of the period, if it has one
abbrev pub settled_by : ℕ → Option KeptStudy → List KeptStudy → List KeptStudy
settled_by period (Some found) kept = studies_behind period found.study kept
settled_by period None kept = kept

-- the kept studies after a report of the period, written from a study that was made, or else from the kept one
abbrev pub settled : ℕ → Option Study → List KeptStudy → List KeptStudy
settled period (Some study) kept = studies_behind period study kept
settled period None kept = settled_by period (find (is_of period) kept) kept

-- the studies of the periods that the last stored row doesn't touch
abbrev pub untouched_studies : List StoredRow → List KeptStudy → List KeptStudy
untouched_studies rows kept = filter (λ (k : KeptStudy). not (touched_at rows k.period)) kept

-- the studies that an accepted record leaves
abbrev pub left_by : Accepted → List StoredRow → List KeptStudy → List KeptStudy
left_by Stored rows kept = untouched_studies rows kept
left_by accepted rows kept = kept

-- ---- the stage that was reported last

-- the first stage of the first kept study
abbrev pub first_stage : List KeptStudy → Option Stage
first_stage [] = None
first_stage (k ∷ kept) = slice_get k.study.stages 0

-- the first stage of the study that was reported last: a stage held separately, or that of the first kept study
abbrev pub last_stage : List KeptStudy → Option Stage → Option Stage
last_stage kept (Some stage) = Some stage
last_stage kept None = first_stage kept

-- the first stage of a study that isn't kept because it has several
abbrev pub stage_beside : Study → Option Stage
stage_beside study = if length study.stages == 1 then None else slice_get study.stages 0

-- that of the study that was written, whether it was made or was kept
abbrev pub settled_stage : ℕ → Option Study → List KeptStudy → Option Stage
settled_stage period (Some study) kept = stage_beside study
settled_stage period None kept = option_and_then (λ (k : KeptStudy). stage_beside k.study) (find (is_of period) kept)

-- if the first kept study is dropped, its first stage stays, unless another stage was reported last
abbrev pub saved_stage : (KeptStudy → Bool) → List KeptStudy → Option Stage → Option Stage
saved_stage goes kept (Some stage) = Some stage
saved_stage goes [] None = None
saved_stage goes (k ∷ kept) None = if goes k then slice_get k.study.stages 0 else None

-- this happens if the last stored row touches that study
abbrev pub saved_by : Accepted → List StoredRow → List KeptStudy → Option Stage → Option Stage
saved_by Stored rows kept last = saved_stage (λ (k : KeptStudy). touched_at rows k.period) kept last
saved_by accepted rows kept last = last

-- the classes in the results of streams
abbrev pub classes_in : List StreamResult → List Classified
classes_in results = map (λ (r : StreamResult). r.classified) results

-- ---- a study and what a report leaves to be kept

-- A study is that of a graph, by the options of the session and the critical values of the stored rows, with all that a report
-- promises about its stages; and it is well formed.
pub record IsStudied (state : SessionState) (graph : ProcessGraph) (study : Study) : Type 0 where
  pub limits : IsProcessGraph graph
  pub is_study : IsStudyOf graph state.options (critical_of state.rows) study
  pub certified : All IsCertifiedStage study.stages
  pub least : All HasLeastThroughout study.stages
  pub tested : All TestsEachRedundant study.stages
  pub formed : IsWellFormedStudy graph study

-- the study made is that of the graph; or none was made, because one is kept
abbrev pub IsMade : Held → ℕ → ProcessGraph → Option Study → Type 0
IsMade held i graph (Some study) =
    IsStudyOf graph held.state.options (critical_of held.state.rows) study
    × All IsCertifiedStage study.stages × IsWellFormedStudy graph study
IsMade held i graph None = Contains held.kept i

pub record IsReportedOf (held : Held) (i : ℕ) (graph : ProcessGraph) (reported : Reported) : Type 0 where
  pub limits : IsProcessGraph graph
  pub made : IsMade held i graph reported.made

abbrev pub IsReportedBy : Held → ℕ → Result ProcessGraph Assembly → Option Reported → Type 0
IsReportedBy held i (Ok graph) (Some reported) = IsReportedOf held i graph reported
IsReportedBy held i (Err why) None = Unit {0}
IsReportedBy held i (Ok graph) None = ⊥
IsReportedBy held i (Err why) (Some reported) = ⊥

abbrev pub IsReportedAt : Held → ℕ → Option Period → Option Reported → Type 0
IsReportedAt held i (Some period) reported = IsReportedBy held i (assembly_of held.state.rows (days_of period)) reported
IsReportedAt held i None reported = ⊥

-- ---- the component graph of a period

-- the period at a place has this graph, and this is a study of it by the critical values of the stored rows
pub record IsStudiedAt (state : SessionState) (found : Option Period) (graph : ProcessGraph) (study : Study) : Type 0 where
  pub period : Period
  pub there : found ≡ Some period
  pub is : Ok graph ≡ assembly_of state.rows (days_of period)
  pub limits : IsProcessGraph graph
  pub is_study : IsStudyOf graph state.options (critical_of state.rows) study
  pub formed : IsWellFormedStudy graph study

-- the answer is the component graph of the period at a place, or the first stream beyond the limits
abbrev pub IsBalanceAt : SessionState → List ℕ → Option Period → Result ProcessGraph Assembly → Type 0
IsBalanceAt state component (Some period) answer =
    BalancesIn state (grades_of state.rows component period) (assembly_of state.rows (days_of period)) answer
IsBalanceAt state component None answer = ⊥

-- ---- the invariant

-- a kept study is that of its period
abbrev pub IsKeptStudy : SessionState → KeptStudy → Type 0
IsKeptStudy state kept = IsKeptAt state (slice_get (periods_of state.rows) kept.period) kept.study

-- The kept studies are those of their periods by the rows stored so far, at most as many as are allowed, and the stage that was
-- reported last is the first one of a study, and has the classes of its graph.
pub record IsKeeping (state : SessionState) (kept : List KeptStudy) (last : Option Stage) : Type 0 where
  pub options : AreOptions state.options
  pub studies : AllByRecursion (IsKeptStudy state) kept
  pub few : length kept ≤ most_kept
  pub classes : IfSome (last_stage kept last) (λ (stage : Stage). IsClassification stage.graph (printed_classes stage))
  pub last_is : IfSome (last_stage kept last) (IsReportedStage state.options)

-- what a session made of these holds
abbrev pub held_of : SessionState → List KeptStudy → Option Stage → Held
held_of state studies last = record {
  state = state;
  kept = map (λ (k : KeptStudy). k.period) studies;
  reported = option_map (λ (stage : Stage). stage.graph) (last_stage studies last);
}
