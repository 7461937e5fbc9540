use Rattle.std.proofs.Common.{◌≡◌, ◌≤◌, ℤ, ◌+ℤ◌, ◌-ℤ◌, FitsSigned, unsigned_abs, ap₂, arith}
use mir.Syntax.{w128}
use Rattle.std.proofs.lemmas.Int.{ints}
use Rattle.std.proofs.Math.Facts.{to_z-of_z}
use Rattle.pb_fixed.specs.Quotients.{floor_div, ceil_div}
use Rattle.pb_dual.specs.DualValue.{scale}
use Rattle.pb_gap.proofs.sums.outward.Goals as goal

pub returns-clause-value : goal.returns-clause-value
returns-clause-value c =
    let fits_sum : FitsSigned w128 c.args.sum = c.ranges.sum in
    let fits_half : FitsSigned w128 c.args.half = c.ranges.half in
    let fits_floor : FitsSigned w128 c.div_floor.result = record { sfits = c.div_floor.type_inv } in
    let fits_ceil : FitsSigned w128 c.div_ceil.result = record { sfits = c.div_ceil.type_inv } in
    let floor : c.div_floor.result ≡ floor_div c.args.sum scale = simp to_z-of_z at c.div_floor.ensures.value in
    let ceil : c.div_ceil.result ≡ ceil_div c.args.sum scale = simp to_z-of_z at c.div_ceil.ensures.value in
    let floor_size : unsigned_abs c.div_floor.result ≤ unsigned_abs c.args.sum = simp to_z-of_z at c.div_floor.ensures.size in
    let ceil_size : unsigned_abs c.div_ceil.result ≤ unsigned_abs c.args.sum = simp to_z-of_z at c.div_ceil.ensures.size in
    let fits_lo : FitsSigned w128 (c.div_floor.result -ℤ c.args.half) = omega (arith, ints, floor_size, c.requires.sum, c.requires.half_from, c.requires.half_to) in
    let fits_hi : FitsSigned w128 (c.div_ceil.result +ℤ c.args.half) = omega (arith, ints, ceil_size, c.requires.sum, c.requires.half_from, c.requires.half_to) in
    simp to_z-of_z (ap₂ (λ (lo hi : ℤ). record { lo = lo -ℤ c.args.half; hi = hi +ℤ c.args.half }) floor ceil)
