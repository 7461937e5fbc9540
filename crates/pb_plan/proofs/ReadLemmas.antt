-- Fields that are read as names.
use Rattle.std.proofs.Common.{◌≡◌, ℕ, List, true, false, refl}
use Rattle.std.specs.Prelude.{Option, Some, None, IsSome, MatchOption}
use Rattle.pb_rows.specs.Name.{is_name}

-- a field that is a name is read as one
pub is_read : (o : Option (List ℕ)) (field : List ℕ) → is_name field ≡ true → MatchOption o (is_name field ≡ false) (λ name. (is_name field ≡ true) × (name ≡ field)) → IsSome o
is_read (Some name) field good read = refl
is_read None field good read = cc (good, read)
