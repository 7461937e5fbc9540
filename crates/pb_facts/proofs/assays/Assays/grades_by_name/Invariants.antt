use Rattle.std.specs.Prelude.{IfSome, take}
use Rattle.std.specs.HashMap.{get}
use Rattle.std.proofs.Common.{◌≡◌, ℕ, List}
use Rattle.pb_facts.specs.Grade.{IsGrade}
use Rattle.pb_rows.specs.Name.{same_name}
use Rattle.pb_facts.specs.Assays.{grade_among}
use Rattle.pb_facts.proofs.assays.Assays.grades_by_name.Given as goal

-- the map has the grades from the assays so far
abbrev pub invariant-loop-i : goal.invariant-loop-i
invariant-loop-i l = record {
  value : (stream : List ℕ) → get same_name l.grades stream ≡ grade_among (take l.i l.self) l.component l.period stream;
  limits : (stream : List ℕ) → IfSome (get same_name l.grades stream) IsGrade;
}
