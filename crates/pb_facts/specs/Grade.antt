-- Statement. Grades of a component, as assays give them.
use Rattle.std.specs.Prelude.{pos, ◌≤ℤ◌}
use Rattle.pb_limits.specs.Limits.{most_grade, most_grade_variance}
use Rattle.pb_facts.specs.declared.grade.Grade.{Grade}

-- a grade within its limits
pub record IsGrade (grade : Grade) : Type 0 where
  pub least : pos 0 ≤ℤ grade.ppm
  pub most : grade.ppm ≤ℤ pos most_grade
  pub exact : pos 0 ≤ℤ grade.variance
  pub widest : grade.variance ≤ℤ pos most_grade_variance
