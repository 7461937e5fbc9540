-- Statement. Records that write rows, as in a file.
use Rattle.std.specs.Prelude.{◌≡◌, ℕ, true, List, [], ◌∷◌, ◌++◌, Option, Some, None, Ok}
use Rattle.pb_rows.specs.Records.{without_trailing_empty}
use Rattle.pb_site.specs.declared.declared.Version.{Version}
use Rattle.pb_kinds.specs.declared.rows.Effect.{Effect}
use Rattle.pb_kinds.specs.declared.rows.Request.TheVariants.{Store}
use Rattle.pb_kinds.specs.Requests.{request_in}
use Rattle.pb_kinds.specs.Versions.{may_do}

-- a record asks to store this, in each session whose version allows it, and it doesn't end with an empty field
pub record WritesRow (fields : List (List ℕ)) (effect : Effect) : Type 0 where
  pub asks : (version : Option Version) → may_do version effect ≡ true → request_in version fields ≡ Ok (Store effect)
  pub filled : without_trailing_empty fields ≡ fields

-- each record writes its row, and there are no other records
abbrev pub WriteRows : List (List (List ℕ)) → List Effect → Type 0
WriteRows [] [] = Unit {0}
WriteRows (fields ∷ records) (effect ∷ effects) = WritesRow fields effect × WriteRows records effects
WriteRows records effects = ⊥

-- one more record is appended, which writes this row
abbrev pub AddsRow : List (List (List ℕ)) → List (List (List ℕ)) → Effect → Type 0
AddsRow old new effect = (fields : List (List ℕ)) × WritesRow fields effect × (new ≡ old ++ fields ∷ [])

-- the same, if there is a row
abbrev pub AddsSome : List (List (List ℕ)) → List (List (List ℕ)) → Option Effect → Type 0
AddsSome old new (Some effect) = AddsRow old new effect
AddsSome old new None = new ≡ old
