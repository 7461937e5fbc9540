use Rattle.std.proofs.Common.{◌≡◌, ◌≤◌, FitsSigned, ◌-ℤ◌, unsigned_abs, ap, arith}
use mir.Syntax.{w128}
use Rattle.std.proofs.lemmas.Int.{ints}
use Rattle.std.proofs.Math.Facts.{to_z-of_z}
use Rattle.pb_fixed.specs.Quotients.{nearest_div}
use Rattle.pb_dual.proofs.arithmetic.peak.Goals as goal

pub returns-clause-value : goal.returns-clause-value
returns-clause-value c =
    let q = c.div_nearest.result in
    let fits_price : FitsSigned w128 c.args.price = c.ranges.price in
    let fits_net : FitsSigned w128 c.args.net = c.ranges.net in
    let fits_variance : FitsSigned w128 c.args.variance = c.ranges.variance in
    let is : q ≡ nearest_div c.args.net c.args.variance = simp to_z-of_z at c.div_nearest.ensures.value in
    let size : unsigned_abs q ≤ unsigned_abs c.args.net = simp to_z-of_z at c.div_nearest.ensures.size in
    let fits_q : FitsSigned w128 q = omega (arith, ints, size, c.requires.net) in
    let fits : FitsSigned w128 (c.args.price -ℤ q) = omega (arith, ints, size, c.requires.net, c.requires.price) in
    simp to_z-of_z (ap (λ x. c.args.price -ℤ x) is)

pub returns-clause-within : goal.returns-clause-within
returns-clause-within c =
    let q = c.div_nearest.result in
    let fits_price : FitsSigned w128 c.args.price = c.ranges.price in
    let fits_net : FitsSigned w128 c.args.net = c.ranges.net in
    let fits_variance : FitsSigned w128 c.args.variance = c.ranges.variance in
    let size : unsigned_abs q ≤ unsigned_abs c.args.net = simp to_z-of_z at c.div_nearest.ensures.size in
    let fits_q : FitsSigned w128 q = omega (arith, ints, size, c.requires.net) in
    let fits : FitsSigned w128 (c.args.price -ℤ q) = omega (arith, ints, size, c.requires.net, c.requires.price) in
    simp to_z-of_z (omega (arith, ints, size, c.requires.net, c.requires.price))
