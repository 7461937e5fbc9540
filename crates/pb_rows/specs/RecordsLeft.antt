-- Statement. Records that are taken one at a time.
use Rattle.std.specs.Prelude.{◌≡◌, ◌+◌, ◌∷◌, [], ℕ, List, Bool, true, false, Option, Some, None}

-- how many records were taken, and those that are left, in order
pub record RecordsLeft : Type 0 where
  pub taken : ℕ
  pub left : List (List (List ℕ))

-- the first record that was left is taken; none is taken exactly when none was left, and then nothing changes
abbrev pub TakesNext : RecordsLeft → RecordsLeft → Option (List (List ℕ)) → Type 0
TakesNext old new None = (old.left ≡ []) × (new ≡ old)
TakesNext old new (Some row) = (old.left ≡ row ∷ new.left) × (new.taken ≡ old.taken + 1)

-- the same with a row that takes the record's fields; the row has no fields if no record was left
abbrev pub FillsNext : RecordsLeft → RecordsLeft → List (List ℕ) → Bool → Type 0
FillsNext old new row true = TakesNext old new (Some row)
FillsNext old new row false = TakesNext old new None × (row ≡ [])
