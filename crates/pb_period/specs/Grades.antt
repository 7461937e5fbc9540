-- Statement. The grades of a component in the streams of the graph of a period.
use Rattle.std.specs.Prelude.{ℕ, List, map, Option}
use Rattle.pb_facts.specs.declared.grade.Grade.{Grade}
use Rattle.pb_periods.specs.declared.period.Period.{Period}
use Rattle.pb_kinds.specs.declared.rows.StoredRow.{StoredRow}
use Rattle.pb_book.specs.Assays.{grade_of}
use Rattle.pb_period.specs.Days.{days_of}
use Rattle.pb_period.specs.PeriodGraph.{period_names}

-- For each stream of the graph of a period, in order: the grade that an assay of the component in this period gives, if there is
-- one.
abbrev pub grades_of : List StoredRow → List ℕ → Period → List (Option Grade)
grades_of rows component period = map (grade_of rows component period.name) (period_names rows (days_of period)).streams
