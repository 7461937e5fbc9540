use Rattle.std.proofs.Common.{FitsSigned, ◌-ℤ◌, arith}
use mir.Syntax.{w128}
use Rattle.std.proofs.lemmas.Int.{ints}
use Rattle.std.proofs.Math.Facts.{to_z-of_z}
use Rattle.pb_dual.proofs.arithmetic.rise.Goals as goal

pub returns : goal.returns
returns c =
    let fits_to : FitsSigned w128 c.args.to = c.ranges.to in
    let fits_from : FitsSigned w128 c.args.from = c.ranges.from in
    let fits : FitsSigned w128 (c.args.to -ℤ c.args.from) = omega (arith, ints, c.requires.to, c.requires.from) in
    simp to_z-of_z
