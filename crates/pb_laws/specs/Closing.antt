-- Statement. A period is closed exactly when an accepted row closes it, and only a row that opens a period makes one.
use Rattle.std.specs.Prelude.{◌≡◌, ◌↔◌, ℕ, true, List, All, Option, Some, None, filter_map, map}
use Rattle.std.specs.List.{Any}
use Rattle.pb_kinds.specs.declared.rows.Effect.{Effect}
use Rattle.pb_kinds.specs.declared.rows.Effect.TheVariants.{Opens, Closes}
use Rattle.pb_periods.specs.declared.period.Period.{Period}
use Rattle.pb_kinds.specs.declared.rows.StoredRow.{StoredRow}
use Rattle.pb_book.specs.Accepted.{AreAccepted}
use Rattle.pb_book.specs.Plain.{opened}
use Rattle.pb_book.specs.Rows.{open_period, periods_of}

-- some row closes the period of this name
abbrev pub SomeRowCloses : List StoredRow → List ℕ → Type 0
SomeRowCloses rows name = Any (λ (stored : StoredRow). stored.effect ≡ Closes name) rows

-- Each period is closed exactly when some row closes it.
abbrev pub ClosedLaw : Type 0
ClosedLaw =
    (rows : List StoredRow) → AreAccepted rows
    → All (λ (period : Period). (period.closed ≡ true) ↔ SomeRowCloses rows period.name) (periods_of rows)

-- the period that a row opens, if it opens one
abbrev pub opened_by : Effect → Option Period
opened_by (Opens name first last) = Some (open_period name first last)
opened_by effect = None

-- Apart from whether they are closed, the periods are those that rows open, in order.
abbrev pub OpenedLaw : Type 0
OpenedLaw = (rows : List StoredRow) → map opened (periods_of rows) ≡ filter_map (λ (stored : StoredRow). opened_by stored.effect) rows
