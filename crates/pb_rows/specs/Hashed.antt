-- Inside. Equal names are hashed alike.
use Rattle.std.specs.Prelude.{◌≡◌, ◌∷◌, [], IsTrue, ℕ, List}
use Rattle.std.specs.Cmp.Lexicographic.{bytes_decides}
use Rattle.std.proofs.Common.{ap}
use Rattle.pb_rows.specs.Name.{same_name}

-- equal names are hashed alike
pub same_name_writes : (a b : List ℕ) → IsTrue (same_name a b) → a ∷ [] ≡ b ∷ []
same_name_writes a b same = ap (λ name. name ∷ []) ((bytes_decides a b).0 same)
