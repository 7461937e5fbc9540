-- Statement. What a field says.
use Rattle.std.specs.Prelude.{ℕ, ℤ, List}

-- nothing, the word at a place among those of the column, a name, a reason, a whole number, a day or a list
pub data Value : Type 0 where
  Missing : Value
  Word : ℕ → Value
  Name : List ℕ → Value
  Reason : List ℕ → Value
  Number : ℤ → Value
  Date : ℤ → Value
  Items : List ℕ → Value
