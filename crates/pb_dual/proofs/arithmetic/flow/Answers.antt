use Rattle.std.proofs.Common.{◌≡◌, FitsSigned, ◌+ℤ◌, ◌*ℤ◌, ap, arith}
use mir.Syntax.{w128}
use Rattle.std.proofs.lemmas.Int.{ints}
use Rattle.std.proofs.Math.Facts.{to_z-of_z}
use Rattle.pb_dual.specs.DualValue.{scale}
use Rattle.pb_dual.proofs.arithmetic.flow.Goals as goal

pub returns-clause-value : goal.returns-clause-value
returns-clause-value c =
    let fits_value : FitsSigned w128 c.args.value = c.ranges.value in
    let fits_variance : FitsSigned w128 c.args.variance = c.ranges.variance in
    let fits_rise : FitsSigned w128 c.args.rise = c.ranges.rise in
    let fits_scaled : FitsSigned w128 c.scaled.result = record { sfits = c.scaled.type_inv } in
    let scaled : c.scaled.result ≡ scale *ℤ c.args.value = simp to_z-of_z at c.scaled.ensures.value in
    let fits_product : FitsSigned w128 (c.args.variance *ℤ c.args.rise) = omega (arith, ints, c.requires.in_box) in
    let fits_sum : FitsSigned w128 (c.scaled.result +ℤ (c.args.variance *ℤ c.args.rise)) = omega (arith, ints, scaled, c.requires.value, c.requires.in_box) in
    simp to_z-of_z (ap (λ x. x +ℤ (c.args.variance *ℤ c.args.rise)) scaled)

pub returns-clause-within : goal.returns-clause-within
returns-clause-within c =
    let fits_value : FitsSigned w128 c.args.value = c.ranges.value in
    let fits_variance : FitsSigned w128 c.args.variance = c.ranges.variance in
    let fits_rise : FitsSigned w128 c.args.rise = c.ranges.rise in
    let fits_scaled : FitsSigned w128 c.scaled.result = record { sfits = c.scaled.type_inv } in
    let scaled : c.scaled.result ≡ scale *ℤ c.args.value = simp to_z-of_z at c.scaled.ensures.value in
    let fits_product : FitsSigned w128 (c.args.variance *ℤ c.args.rise) = omega (arith, ints, c.requires.in_box) in
    let fits_sum : FitsSigned w128 (c.scaled.result +ℤ (c.args.variance *ℤ c.args.rise)) = omega (arith, ints, scaled, c.requires.value, c.requires.in_box) in
    simp to_z-of_z (omega (arith, ints, scaled, c.requires.value, c.requires.in_box))
