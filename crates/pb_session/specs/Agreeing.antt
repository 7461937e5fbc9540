-- Statement. A report depends on what is declared and on the live facts that touch its period, in whatever order, and on nothing else that
-- was stored; a closing changes no report.
use Rattle.std.specs.Prelude.{◌≡◌, ◌↔◌, ℕ, List, Some, slice_get}
use Rattle.pb_facts.specs.Facts.{NoRepeats}
use Rattle.pb_kinds.specs.declared.rows.Effect.TheVariants.{Closes}
use Rattle.pb_kinds.specs.declared.rows.StoredRow.{StoredRow}
use Rattle.pb_periods.specs.declared.period.Period.{Period}
use Rattle.pb_book.specs.Accepted.{AreAccepted}
use Rattle.pb_book.specs.Plain.{opened}
use Rattle.pb_book.specs.Rows.{facts_of, periods_of, with_row}
use Rattle.pb_period.specs.Laws.{AgreeOn}
use Rattle.pb_session.specs.Session.{Reports, SessionState}

-- a session that has stored these rows instead of its own
abbrev pub with_stored : SessionState → List StoredRow → SessionState
with_stored state rows = record { options = state.options; form = state.form; rows = rows }

-- Two sessions with the same options and form, which declare the same, critical values among it, and have the same live facts that touch a
-- period, in whatever order, have the same report of it, whether it is closed in one of them or not.
abbrev pub AgreeingReportLaw : Type 0
AgreeingReportLaw =
    (state : SessionState) (rows : List StoredRow) (period twin : Period) (text : List ℕ) → AreAccepted state.rows → NoRepeats (facts_of state.rows)
    → AgreeOn state.rows rows period → opened twin ≡ opened period
    → Reports state (Some period) text ↔ Reports (with_stored state rows) (Some twin) text

-- Closing a period changes no report of any period.
abbrev pub ClosingLaw : Type 0
ClosingLaw =
    (state : SessionState) (at i : ℕ) (name text : List ℕ) → AreAccepted state.rows → AreAccepted (with_row state.rows at (Closes name))
    → Reports state (slice_get (periods_of state.rows) i) text
    ↔ Reports (with_stored state (with_row state.rows at (Closes name))) (slice_get (periods_of (with_row state.rows at (Closes name))) i) text
