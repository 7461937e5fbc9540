-- What holds of each item of a list, by place and by cases on the list.
use Rattle.std.proofs.Common.{List, All}
use Rattle.std.specs.List.{AllByRecursion}
use Rattle.pb_fixed.proofs.Lists.{AllByRecursion-from_all, All-from_recursion}

pub each_by_recursion : {X : Type 0} (P : X → Type 0) (xs : List X) → All P xs → AllByRecursion P xs
each_by_recursion P xs all = AllByRecursion-from_all P xs all

pub each_by_place : {X : Type 0} (P : X → Type 0) (xs : List X) → AllByRecursion P xs → All P xs
each_by_place P xs all = All-from_recursion P xs all
