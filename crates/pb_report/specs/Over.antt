-- Statement. The row in place of a report if a stream's total in the period is too great to be studied.
use Rattle.std.specs.Prelude.{ℕ, List, [], ◌∷◌}
use Rattle.pb_form.specs.Value.{Name}
use Rattle.pb_form.specs.declared.output.OutputKind.TheVariants as kind
use Rattle.pb_report.specs.Row.{OutputRow, row_of}

-- the name of the period, and the name of the first such stream
abbrev pub over_row : List ℕ → List ℕ → OutputRow
over_row period stream = row_of kind.Over (Name period ∷ Name stream ∷ [])
