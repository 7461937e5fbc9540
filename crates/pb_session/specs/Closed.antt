-- Statement. What a declaration doesn't change.
use Rattle.std.specs.Prelude.{◌≡◌, ℕ, true, List, Some, slice_get}
use Rattle.pb_site.specs.declared.declared.Declared.{Declared}
use Rattle.pb_site.specs.declared.declared.Version.TheVariants.{Two}
use Rattle.pb_site.specs.Site.{version_of}
use Rattle.pb_kinds.specs.declared.rows.Effect.TheVariants.{Declares}
use Rattle.pb_periods.specs.declared.period.Period.{Period}
use Rattle.pb_kinds.specs.declared.rows.StoredRow.{StoredRow}
use Rattle.pb_book.specs.Rows.{declared_of, periods_of, with_row}
use Rattle.pb_period.specs.Days.{days_of}
use Rattle.pb_period.specs.Laws.{LeavesGraph}

-- In version 2, if the record with this number is a declaration and joins the rows, it changes neither the graph of a closed period
-- nor the names of its nodes and streams.
abbrev pub LeavesClosed : List StoredRow → ℕ → List StoredRow → Type 0
LeavesClosed rows at new =
    (declared : Declared) (i : ℕ) (period : Period) → new ≡ with_row rows at (Declares declared) → version_of (declared_of rows) ≡ Two
    → slice_get (periods_of rows) i ≡ Some period → period.closed ≡ true → LeavesGraph rows new (days_of period)
