-- Statement. Rows made of lists.
use Rattle.std.specs.Prelude.{ℕ, ◌+◌, List, [], ◌∷◌}
use Rattle.pb_report.specs.Row.{OutputRow}

-- one row for each pair of items of two lists, from place i on
abbrev pub rows_with : {A B : Type 0} → (ℕ → A → B → OutputRow) → ℕ → List A → List B → List OutputRow
rows_with row i (x ∷ xs) (y ∷ ys) = row i x y ∷ rows_with row (i + 1) xs ys
rows_with row i xs ys = []
