use Rattle.std.specs.Prelude.{All, IfSome, map, take}
use Rattle.std.proofs.Common.{◌≡◌}
use Rattle.pb_facts.specs.Grade.{IsGrade}
use Rattle.pb_facts.specs.Assays.{grade_among}
use Rattle.pb_facts.proofs.assays.Assays.grades.Given as goal

-- the grades of the streams so far
abbrev pub invariant-loop-i : goal.invariant-loop-i
invariant-loop-i l = record {
  value : l.grades.items ≡ map (grade_among l.self l.component l.period) (take l.i l.streams);
  limits : All (λ grade. IfSome grade IsGrade) l.grades.items;
}
