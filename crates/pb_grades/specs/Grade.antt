-- Statement. What a flow carries of a component by its grade.
use Rattle.std.specs.Prelude.{ℕ, ◌^◌, ℤ, pos, ◌+ℤ◌, ◌-ℤ◌, ◌*ℤ◌, ◌≤ℤ◌, int_lt, nat_lt, unsigned_abs, Bool, ◌||◌}
use Rattle.pb_limits.specs.Limits.{most_value, most_variance}
use Rattle.pb_fixed.specs.Quotients.{IsFloor, IsCeiling, floor_div, ceil_div}
use Rattle.pb_graph.specs.declared.records.Meas.{Meas}
use Rattle.pb_facts.specs.declared.grade.Grade.{Grade}

-- The grams of a component in a flow: the flow times its grade, rounded down (metal content; Wills and Finch, "Mineral Processing
-- Technology", on metallurgical accounting).
abbrev pub carried_grams : ℤ → Grade → ℤ
carried_grams flow grade = floor_div (flow *ℤ grade.ppm) (pos (10 ^ 6))

-- The variance of these grams: that of the grade times the square of the flow, rounded up, plus one squared gram for the rounding of the
-- grams, so that no variance is 0. The flow counts as exact.
abbrev pub carried_variance : ℤ → Grade → ℤ
carried_variance flow grade = ceil_div ((flow *ℤ flow) *ℤ grade.variance) (pos (10 ^ 12)) +ℤ pos 1

-- what a flow carries of a component by its grade, as a measurement
abbrev pub carried : ℤ → Grade → Meas
carried flow grade = record { value = carried_grams flow grade; variance = carried_variance flow grade }

-- the flow is above the limit of a value, or the variance above the limit of a variance
abbrev pub carries_too_much : ℤ → Grade → Bool
carries_too_much flow grade = nat_lt most_value (unsigned_abs flow) || int_lt (pos most_variance) (carried_variance flow grade)

-- The same by meaning: the greatest whole number of grams that is no more than the flow's part by its grade, and a variance that is one
-- more than the least whole number of squared grams that is no less than what the grade's variance makes.
pub record IsCarried (flow : ℤ) (grade : Grade) (meas : Meas) : Type 0 where
  pub grams : IsFloor (flow *ℤ grade.ppm) (pos (10 ^ 6)) meas.value
  pub variance : IsCeiling ((flow *ℤ flow) *ℤ grade.variance) (pos (10 ^ 12)) (meas.variance -ℤ pos 1)

-- the square of a number
abbrev pub squared : ℤ → ℤ
squared a = a *ℤ a

-- by how much the carried grams are off if the true grade is this many parts per million, in millionths of a gram
abbrev pub grams_error : ℤ → ℤ → Grade → ℤ
grams_error flow ppm grade = (flow *ℤ ppm) -ℤ (pos (10 ^ 6) *ℤ carried_grams flow grade)
