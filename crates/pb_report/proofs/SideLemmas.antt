-- Sides of cuts that `==` finds to be the same.
use Rattle.std.specs.Bool.{Decides, beq}
use Rattle.std.specs.Cmp.{booleans_Decides}
use Rattle.std.specs.Cmp.Lexicographic.{pointwise}
use Rattle.std.proofs.Common.{◌≡◌, Bool, List}
use Rattle.std.proofs.lemmas.Slice.Eq.{slice_eq-Decides}

-- they are the same
pub same_sides : (a b : List Bool) (r : Bool) → r ≡ pointwise beq a b → Decides r (a ≡ b)
same_sides = slice_eq-Decides booleans_Decides
