-- Statement. The summary of a made session: one row on how its study came out.
use Rattle.std.specs.Prelude.{◌≡◌, ℕ, false, List, [], ◌∷◌, length, IsSomeAnd, slice_get, Result, Ok, Err}
use Rattle.pb_study.specs.declared.results.Options.{Options}
use Rattle.pb_study.specs.declared.results.Stage.{Stage}
use Rattle.pb_graph.specs.ProcessGraph.{ProcessGraph}
use Rattle.pb_periods.specs.declared.period.Period.{Period}
use Rattle.pb_book.specs.Rows.{periods_of}
use Rattle.pb_period.specs.Days.{days_of}
use Rattle.pb_period.specs.declared.graph.Assembly.{Assembly}
use Rattle.pb_period.specs.declared.graph.Assembly.TheVariants.{NoMemory, Over}
use Rattle.pb_period.specs.PeriodGraph.{assembly_of, period_names}
use Rattle.pb_report.specs.declared.form.Form.TheVariants.{Csv}
use Rattle.pb_report.specs.Form.{text_in}
use Rattle.pb_report.specs.Names.{name_at}
use Rattle.pb_report.specs.Over.{over_row}
use Rattle.pb_report.specs.Summary.{summary_row}
use Rattle.pb_make.specs.Rows.{session_rows, stored_rows}
use Rattle.pb_session.specs.FirstStage.{IsFirstStage}
use Rattle.pb_session.specs.Session.{SessionState, new_session, state_after_all}

-- what the study of a made session is asked for: a gap and this many sweeps, and no tests
abbrev pub made_options : ℕ → ℕ → Options
made_options gap sweeps = record { gap = gap; sweeps = sweeps; tests = false; eliminate = 0 }

-- A text sums up the study of a graph by its first stage; or it names the first stream that is over the limits.
abbrev pub SumsUpBy : ℕ → ℕ → ℕ → SessionState → Period → Result ProcessGraph Assembly → List ℕ → Type 0
SumsUpBy number streams rows state period (Ok graph) text =
    (stage : Stage) × IsFirstStage state graph stage
    × (text ≡ text_in Csv (summary_row number streams rows stage ∷ []))
SumsUpBy number streams rows state period (Err (Over j)) text =
    text ≡ text_in Csv (over_row period.name (name_at (period_names state.rows (days_of period)).streams j) ∷ [])
SumsUpBy number streams rows state period (Err NoMemory) text = ⊥

-- The text of the summary of the session made from a number, with this many streams, for this gap and at most this many sweeps: it
-- sums up the study of its period when the session is asked for its report.
abbrev pub IsSummaryText : ℕ → ℕ → ℕ → ℕ → List ℕ → Type 0
IsSummaryText number streams gap sweeps text =
    let state = state_after_all (new_session (made_options gap sweeps) Csv) 1 (stored_rows number streams) in
    IsSomeAnd (slice_get (periods_of state.rows) 0) (λ period.
    SumsUpBy number streams (length (session_rows number streams)) state period (assembly_of state.rows (days_of period)) text)
