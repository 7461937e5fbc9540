-- Statement. What a column takes.
use Rattle.std.specs.Prelude.{ℕ, ℤ, pos, neg_ℤ, List}

-- one of these words, a name, a reason, a whole number from the first to the second, a date, or a list of any bytes; a column
-- of one word identifies the kind of its row
pub data Holds : Type 0 where
  Word : List (List ℕ) → Holds
  Name : Holds
  Reason : Holds
  Number : ℤ → ℤ → Holds
  Date : Holds
  Items : Holds

-- a whole number up to this one: from 0, from 1, or from its negative
abbrev pub from_zero : ℕ → Holds
from_zero most = Number (pos 0) (pos most)

abbrev pub from_one : ℕ → Holds
from_one most = Number (pos 1) (pos most)

abbrev pub either_way : ℕ → Holds
either_way most = Number (neg_ℤ (pos most)) (pos most)
