use Rattle.std.proofs.Common.{FitsSigned, arith}
use mir.Syntax.{w128}
use Rattle.std.proofs.lemmas.Int.{ints}
use Rattle.std.proofs.Math.Facts.{to_z-of_z}
use Rattle.pb_gap.proofs.Widths.{above_is, ceiling_nonneg, rooted}
use Rattle.pb_gap.proofs.adjustments.above.Goals as goal

pub div_ceil-requires : goal.div_ceil-requires
div_ceil-requires c =
    let fits_root : FitsSigned w128 c.args.root = c.ranges.root in
    let root = rooted c.args.stream.now.meas _ c.args.root c.requires.limits c.requires.root c.in-Some.is in
    simp to_z-of_z (omega (arith, ints, root.width.from))

pub returns-in-Some-clause-value : goal.returns-in-Some-clause-value
returns-in-Some-clause-value c =
    let fits_root : FitsSigned w128 c.args.root = c.ranges.root in
    let fits_flow : FitsSigned w128 c.args.flow = c.ranges.flow in
    let root = rooted c.args.stream.now.meas _ c.args.root c.requires.limits c.requires.root c.in-Some.is in
    let fits_value : FitsSigned w128 c.in-Some.m.value = omega (arith, ints, root.limits.value) in
    let fits_adjustment : FitsSigned w128 c.adjustment.result = omega (arith, ints, c.adjustment.ensures.nonneg, c.adjustment.ensures.within) in
    let fits : FitsSigned w128 c.div_ceil.result = record { sfits = c.div_ceil.type_inv } in
    let adjustment = simp to_z-of_z at c.adjustment.ensures.value in
    let value = simp to_z-of_z at c.div_ceil.ensures.value in
    simp to_z-of_z (above_is c.args.stream.now.meas _ c.args.flow c.args.root c.adjustment.result c.div_ceil.result c.in-Some.is adjustment root.is value)

pub returns-in-Some-clause-nonneg : goal.returns-in-Some-clause-nonneg
returns-in-Some-clause-nonneg c =
    let fits_root : FitsSigned w128 c.args.root = c.ranges.root in
    let root = rooted c.args.stream.now.meas _ c.args.root c.requires.limits c.requires.root c.in-Some.is in
    let fits_adjustment : FitsSigned w128 c.adjustment.result = omega (arith, ints, c.adjustment.ensures.nonneg, c.adjustment.ensures.within) in
    let fits : FitsSigned w128 c.div_ceil.result = record { sfits = c.div_ceil.type_inv } in
    let value = simp to_z-of_z at c.div_ceil.ensures.value in
    simp to_z-of_z (rw value (ceiling_nonneg c.adjustment.result c.args.root c.adjustment.ensures.nonneg (omega (arith, ints, root.width.from))))
