-- Inside. The periods of reports, histories, balances and windows.
use Rattle.std.specs.Prelude.{◌<◌, List, length}
use Rattle.pb_book.specs.declared.answer.Accepted.{Accepted}
use Rattle.pb_book.specs.declared.answer.Accepted.TheVariants.{Report, History, Component, Window}
use Rattle.pb_kinds.specs.declared.rows.StoredRow.{StoredRow}
use Rattle.pb_book.specs.Rows.{periods_of}
use Rattle.pb_book.specs.Windows.{IsWindowAsked}

-- a report, a history or a balance is of a period that exists, and there is no cause to refuse the window
abbrev pub IsOfPeriods : List StoredRow → Accepted → Type 0
IsOfPeriods rows (Report i) = i < length (periods_of rows)
IsOfPeriods rows (History i) = i < length (periods_of rows)
IsOfPeriods rows (Component component i) = i < length (periods_of rows)
IsOfPeriods rows (Window first last) = IsWindowAsked rows first last
IsOfPeriods rows accepted = Unit {0}
