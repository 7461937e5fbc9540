-- Statement. The rows before the report of a window: which periods it has, and what its names stand for.
use Rattle.std.specs.Prelude.{ℕ, pos, List, [], ◌∷◌, map}
use Rattle.pb_plan.specs.declared.names.WindowPlace.{WindowPlace}
use Rattle.pb_form.specs.Value.{Name, Number}
use Rattle.pb_form.specs.declared.output.OutputKind.TheVariants as kind
use Rattle.pb_report.specs.Row.{OutputRow, row_of}

-- the row of a window: the names of its first and its last period, and how many periods it has
abbrev pub window_row : List ℕ → List ℕ → ℕ → OutputRow
window_row first last periods = row_of kind.Window (Name first ∷ Name last ∷ Number (pos periods) ∷ [])

-- what a name of the window stands for: a node or a stream of the plant in a period
abbrev pub place_row : WindowPlace → OutputRow
place_row place = row_of kind.Place (Name place.code ∷ Name place.period ∷ Name place.name ∷ [])

-- The row of a window, and then what each of its names stands for.
abbrev pub window_rows : List ℕ → List ℕ → ℕ → List WindowPlace → List OutputRow
window_rows first last periods places = window_row first last periods ∷ map place_row places
