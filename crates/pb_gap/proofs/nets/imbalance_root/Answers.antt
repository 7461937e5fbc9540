use Rattle.std.proofs.Common.{◌≡◌, ◌^◌, ℤ, pos, ◌+ℤ◌, ◌<ℤ◌, FitsSigned, ap, arith}
use mir.Syntax.{w128}
use Rattle.std.proofs.lemmas.Int.{ints}
use Rattle.std.proofs.Math.Facts.{to_z-of_z}
use Rattle.pb_fixed.specs.Roots.{IsScaledRoot, scaled_root_of}
use Rattle.pb_gap.specs.Iterate.{IsSmallRoot}
use Rattle.pb_gap.proofs.NetLemmas.{few_variances, small_root}
use Rattle.pb_gap.proofs.nets.imbalance_root.Goals as goal

pub returns : goal.returns
returns c =
    let v = c.args.variance in
    let r : ℤ = c.scaled_root.result in
    let fits_v : FitsSigned w128 v = c.ranges.variance in
    let fits_r : FitsSigned w128 r = record { sfits = c.scaled_root.type_inv } in
    let value : r ≡ scaled_root_of v = simp to_z-of_z at c.scaled_root.ensures.value in
    let root : IsScaledRoot v r = simp to_z-of_z at c.scaled_root.ensures.root in
    let width : v <ℤ pos (2 ^ 86) → r <ℤ pos (2 ^ 63) = simp to_z-of_z at c.scaled_root.ensures.width in
    let small : IsSmallRoot (r +ℤ pos 1) = small_root r root.nonneg (width (few_variances v c.requires.greatest)) in
    let fits : FitsSigned w128 (r +ℤ pos 1) = omega (arith, ints, small.from, small.to) in
    simp to_z-of_z (record { value = ap (λ (x : ℤ). x +ℤ pos 1) value; small = small })
