-- What a flow carries fits 128 bits, and is within the limits of a measurement.
use Rattle.std.specs.Prelude.{nat_lt, int_lt}
use Rattle.std.proofs.Common.{◌≡◌, ◌≤◌, ℕ, ◌*◌, ◌^◌, ℤ, pos, neg_ℤ, ◌+ℤ◌, ◌-ℤ◌, ◌*ℤ◌, ◌≤ℤ◌, ◌<ℤ◌, unsigned_abs, FitsSigned, false, arith, subst}
use Rattle.std.proofs.Math.Nat.{mul-le-mul_left, mul-le-mul_right}
use Rattle.std.proofs.lemmas.Bool.{or_parts, ltb-false}
use Rattle.std.proofs.lemmas.Int.{unsigned_abs-mul, fits_signed_from_abs, fits_signed_mul, ints}
use mir.Syntax.{w128}
use Rattle.pb_limits.specs.Limits.{most_value, most_variance}
use Rattle.pb_fixed.proofs.Order.{mul_nonneg, square_pos}
use Rattle.pb_fixed.specs.Quotients.{IsCeiling, floor_div, ceil_div}
use Rattle.pb_fixed.proofs.QuotientLaws.{floor_is, floor_from, floor_to, ceiling_is, ceiling_from}
use Rattle.pb_graph.specs.ProcessGraph.{IsMeasurement}
use Rattle.pb_facts.specs.declared.grade.Grade.{Grade}
use Rattle.pb_grades.specs.Grade.{IsCarried, carried, carried_variance, carries_too_much}
use Rattle.pb_facts.specs.Grade.{IsGrade}

nat_product : (a b m n : ℕ) → a ≤ m → b ≤ n → a * b ≤ m * n
nat_product a b m n p q = let x = mul-le-mul_right b p in let y = mul-le-mul_left m q in omega (arith, x, y)

pub ppm_most : (grade : Grade) → IsGrade grade → unsigned_abs grade.ppm ≤ 10 ^ 6
ppm_most grade is = omega (arith, ints, is.least, is.most)

pub variance_most : (grade : Grade) → IsGrade grade → unsigned_abs grade.variance ≤ 10 ^ 8
variance_most grade is = omega (arith, ints, is.exact, is.widest)

pub scaled_most : (flow : ℤ) (grade : Grade) → unsigned_abs flow ≤ most_value → IsGrade grade → unsigned_abs (flow *ℤ grade.ppm) ≤ 10 ^ 21
scaled_most flow grade small is =
    let e = unsigned_abs-mul flow grade.ppm in
    let le = nat_product (unsigned_abs flow) (unsigned_abs grade.ppm) (10 ^ 15) (10 ^ 6) small (ppm_most grade is) in
    omega (arith, e, le)

pub scaled_fits : (flow : ℤ) (grade : Grade) → unsigned_abs flow ≤ most_value → IsGrade grade → FitsSigned w128 (flow *ℤ grade.ppm)
scaled_fits flow grade small is = fits_signed_mul w128 flow grade.ppm (10 ^ 15) (10 ^ 6) small (ppm_most grade is) (omega arith)

-- a square times the variance of a grade
pub weighted_most : (square : ℤ) (grade : Grade) → unsigned_abs square ≤ 10 ^ 30 → IsGrade grade → unsigned_abs (square *ℤ grade.variance) ≤ 10 ^ 38
weighted_most square grade small is =
    let e = unsigned_abs-mul square grade.variance in
    let le = nat_product (unsigned_abs square) (unsigned_abs grade.variance) (10 ^ 30) (10 ^ 8) small (variance_most grade is) in
    omega (arith, e, le)

pub weighted_fits : (square : ℤ) (grade : Grade) → unsigned_abs square ≤ 10 ^ 30 → IsGrade grade → FitsSigned w128 (square *ℤ grade.variance)
weighted_fits square grade small is = fits_signed_mul w128 square grade.variance (10 ^ 30) (10 ^ 8) small (variance_most grade is) (omega arith)

-- the floor of a flow's part of a million is no greater than the flow may be
pub grams_within : (scaled : ℤ) → unsigned_abs scaled ≤ 10 ^ 21 → unsigned_abs (floor_div scaled (pos (10 ^ 6))) ≤ most_value
grams_within scaled most =
    let low = floor_from (neg_ℤ (pos (10 ^ 15))) scaled (pos (10 ^ 6)) (omega (arith, ints)) (omega (arith, ints, most)) in
    let high = floor_to (pos (10 ^ 15)) scaled (pos (10 ^ 6)) (omega (arith, ints)) (omega (arith, ints, most)) in
    omega (arith, ints, low, high)

-- a ceiling of what isn't negative isn't negative
pub variance_least : (weighted : ℤ) → pos 0 ≤ℤ weighted → pos 1 ≤ℤ (ceil_div weighted (pos (10 ^ 12)) +ℤ pos 1)
variance_least weighted least =
    let low = ceiling_from (pos 0) weighted (pos (10 ^ 12)) (omega (arith, ints)) (omega (arith, ints, least)) in
    omega (arith, ints, low)

-- what is carried and not too much is a measurement
pub carried_within : (flow : ℤ) (grade : Grade) → carries_too_much flow grade ≡ false → IsGrade grade → IsMeasurement (carried flow grade)
carried_within flow grade not_over is =
    let parts = or_parts (nat_lt most_value (unsigned_abs flow)) (int_lt (pos most_variance) (carried_variance flow grade)) not_over in
    let small : unsigned_abs flow ≤ most_value = omega (arith, ltb-false most_value (unsigned_abs flow) parts.0) in
    record {
      value = grams_within (flow *ℤ grade.ppm) (scaled_most flow grade small is);
      least = variance_least ((flow *ℤ flow) *ℤ grade.variance) (mul_nonneg (flow *ℤ flow) grade.variance (square_pos flow) is.exact);
      greatest = omega (arith, ints, parts.1);
    }

-- ---- by meaning

one_less : (a : ℤ) → a ≡ (a +ℤ pos 1) -ℤ pos 1
one_less a = omega (arith, ints)

pub carried_is : (flow : ℤ) (grade : Grade) → IsCarried flow grade (carried flow grade)
carried_is flow grade =
    let weighted = (flow *ℤ flow) *ℤ grade.variance in
    let million : pos 0 <ℤ pos (10 ^ 6) = omega (arith, ints) in
    let squared : pos 0 <ℤ pos (10 ^ 12) = omega (arith, ints) in
    record {
      grams = floor_is (flow *ℤ grade.ppm) (pos (10 ^ 6)) million;
      variance = subst (λ (q : ℤ). IsCeiling weighted (pos (10 ^ 12)) q) (one_less (ceil_div weighted (pos (10 ^ 12)))) (ceiling_is weighted (pos (10 ^ 12)) squared);
    }

-- one more than what a square by a variance may be fits too
pub one_more_fits : (variance : ℤ) → unsigned_abs variance ≤ 10 ^ 38 → FitsSigned w128 (variance +ℤ pos 1)
one_more_fits variance small = fits_signed_from_abs w128 (variance +ℤ pos 1) (omega (arith, ints, small))
