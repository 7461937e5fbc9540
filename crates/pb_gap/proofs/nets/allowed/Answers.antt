use Rattle.std.proofs.Common.{pos, ◌*ℤ◌, FitsSigned, refl, arith}
use mir.Syntax.{w128}
use Rattle.std.proofs.lemmas.Int.{ints}
use Rattle.std.proofs.Math.Facts.{to_z-of_z}
use Rattle.pb_gap.proofs.NetLemmas.{allowed_from, allowed_to}
use Rattle.pb_gap.proofs.nets.allowed.Goals as goal

pub returns : goal.returns
returns c =
    let most = c.args.most in
    let root = c.args.root in
    let from = allowed_from most root c.requires.most_from c.requires.root in
    let to = allowed_to most root c.requires.most_to c.requires.root in
    let fits_most : FitsSigned w128 most = c.ranges.most in
    let fits_root : FitsSigned w128 root = c.ranges.root in
    let fits_product : FitsSigned w128 (most *ℤ root) = omega (arith, ints, from, to) in
    let fits : FitsSigned w128 ((most *ℤ root) *ℤ pos 65536) = omega (arith, ints, from, to) in
    simp to_z-of_z (record { value = refl; from = omega (arith, ints, from); to = omega (arith, ints, to) })
