-- Statement. The row before the balance of a component: the names of the component and of the period.
use Rattle.std.specs.Prelude.{ℕ, List, [], ◌∷◌}
use Rattle.pb_form.specs.Value.{Name}
use Rattle.pb_form.specs.declared.output.OutputKind.TheVariants as kind
use Rattle.pb_report.specs.Row.{OutputRow, row_of}

-- the row of a component and a period
abbrev pub component_row : List ℕ → List ℕ → OutputRow
component_row component period = row_of kind.Component (Name component ∷ Name period ∷ [])
