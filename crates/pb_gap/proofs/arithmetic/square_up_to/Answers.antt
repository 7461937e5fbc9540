use Rattle.std.proofs.Common.{◌≡◌, ℤ, pos, ◌+ℤ◌, ◌*ℤ◌, ◌≤ℤ◌, FitsSigned, arith}
use mir.Syntax.{w128}
use Rattle.std.specs.Int.{int_min}
use Rattle.std.proofs.lemmas.Int.{int_min_is, ints}
use Rattle.std.proofs.Math.Facts.{to_z-of_z}
use Rattle.pb_fixed.proofs.Order.{mul_mono, mul_mono_left}
use Rattle.pb_gap.proofs.arithmetic.square_up_to.Goals as goal

pub returns-clause-below : goal.returns-clause-below
returns-clause-below c =
    let d : ℤ = c.args.deviation in
    let l : ℤ = c.args.limit in
    let m : ℤ = c.min.result in
    let fits_d : FitsSigned w128 d = c.ranges.deviation in
    let fits_limit : FitsSigned w128 l = c.ranges.limit in
    let fits_l : FitsSigned w128 (l +ℤ pos 1) = omega (arith, ints, c.requires.from, c.requires.to) in
    let fits_m : FitsSigned w128 m = record { sfits = c.min.type_inv } in
    let fits : FitsSigned w128 c.square.result = record { sfits = c.square.type_inv } in
    let is : m ≡ int_min d (l +ℤ pos 1) = simp to_z-of_z at c.min.ensures.value in
    let square : c.square.result ≡ m *ℤ m = simp to_z-of_z at c.square.ensures.value in
    let by_min = int_min_is d (l +ℤ pos 1) in
    let le : m ≤ℤ d = omega (arith, ints, is, by_min) in
    let nonneg : pos 0 ≤ℤ m = omega (arith, ints, is, by_min, c.requires.deviation, c.requires.from) in
    let first = mul_mono m d m le nonneg in
    let second = mul_mono_left m d d le c.requires.deviation in
    simp to_z-of_z (omega (arith, ints, square, first, second))
