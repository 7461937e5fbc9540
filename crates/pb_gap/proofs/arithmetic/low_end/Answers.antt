use Rattle.std.proofs.Common.{◌≡◌, ◌∙◌, ◌^◌, ℤ, pos, ◌-ℤ◌, ◌*ℤ◌, FitsSigned, ap, arith}
use mir.Syntax.{w128}
use Rattle.std.specs.Int.{int_max}
use Rattle.std.proofs.lemmas.Int.{int_max_is, ints}
use Rattle.std.proofs.Math.Facts.{to_z-of_z}
use Rattle.pb_fixed.specs.Quotients.{floor_div}
use Rattle.pb_gap.proofs.arithmetic.low_end.Goals as goal

swapped : (x : ℤ) → int_max x (pos 0) ≡ int_max (pos 0) x
swapped x = omega (arith, ints, int_max_is x (pos 0), int_max_is (pos 0) x)

pub returns-clause-value : goal.returns-clause-value
returns-clause-value c =
    let fits_squares : FitsSigned w128 c.args.squares = c.ranges.squares in
    let fits_size : FitsSigned w128 c.args.size_square = c.ranges.size_square in
    let fits_difference : FitsSigned w128 (c.args.squares -ℤ c.args.size_square) = omega (arith, ints, c.requires.squares_from, c.requires.squares_to, c.requires.size_from, c.requires.size_to) in
    let fits_thousandths : FitsSigned w128 c.thousandths.result = record { sfits = c.thousandths.type_inv } in
    let fits_floor : FitsSigned w128 c.div_floor.result = record { sfits = c.div_floor.type_inv } in
    let fits : FitsSigned w128 c.max.result = record { sfits = c.max.type_inv } in
    let thousandths : c.thousandths.result ≡ pos 1000 *ℤ (c.args.squares -ℤ c.args.size_square) = simp to_z-of_z at c.thousandths.ensures.value in
    let floor : c.div_floor.result ≡ floor_div c.thousandths.result (pos (2 ^ 40)) = simp to_z-of_z at c.div_floor.ensures.value in
    let max : c.max.result ≡ int_max c.div_floor.result (pos 0) = simp to_z-of_z at c.max.ensures.value in
    simp to_z-of_z (max ∙ swapped c.div_floor.result ∙ ap (int_max (pos 0)) (floor ∙ ap (λ (n : ℤ). floor_div n (pos (2 ^ 40))) thousandths))
