use Rattle.std.proofs.Common.{pos, ◌+ℤ◌, FitsSigned, arith}
use mir.Syntax.{w128}
use Rattle.std.proofs.lemmas.Int.{ints}
use Rattle.std.proofs.Math.Facts.{to_z-of_z}
use Rattle.pb_gap.proofs.Widths.{below_is, floor_nonneg, rooted}
use Rattle.pb_gap.proofs.adjustments.below.Goals as goal

pub overflow_add-root : goal.overflow_add-root
overflow_add-root c =
    let fits_root : FitsSigned w128 c.args.root = c.ranges.root in
    let root = rooted c.args.stream.now.meas _ c.args.root c.requires.limits c.requires.root c.in-Some.is in
    simp to_z-of_z (omega (arith, ints, root.width.from, root.width.to))

pub div_floor-requires : goal.div_floor-requires
div_floor-requires c =
    let fits_root : FitsSigned w128 c.args.root = c.ranges.root in
    let root = rooted c.args.stream.now.meas _ c.args.root c.requires.limits c.requires.root c.in-Some.is in
    let fits_more : FitsSigned w128 (c.args.root +ℤ pos 1) = omega (arith, ints, root.width.from, root.width.to) in
    simp to_z-of_z (omega (arith, ints, root.width.from))

pub returns-in-Some-clause-value : goal.returns-in-Some-clause-value
returns-in-Some-clause-value c =
    let fits_root : FitsSigned w128 c.args.root = c.ranges.root in
    let fits_flow : FitsSigned w128 c.args.flow = c.ranges.flow in
    let root = rooted c.args.stream.now.meas _ c.args.root c.requires.limits c.requires.root c.in-Some.is in
    let fits_more : FitsSigned w128 (c.args.root +ℤ pos 1) = omega (arith, ints, root.width.from, root.width.to) in
    let fits_value : FitsSigned w128 c.in-Some.m.value = omega (arith, ints, root.limits.value) in
    let fits_adjustment : FitsSigned w128 c.adjustment.result = omega (arith, ints, c.adjustment.ensures.nonneg, c.adjustment.ensures.within) in
    let fits : FitsSigned w128 c.div_floor.result = record { sfits = c.div_floor.type_inv } in
    let adjustment = simp to_z-of_z at c.adjustment.ensures.value in
    let value = simp to_z-of_z at c.div_floor.ensures.value in
    simp to_z-of_z (below_is c.args.stream.now.meas _ c.args.flow c.args.root c.adjustment.result c.div_floor.result c.in-Some.is adjustment root.is value)

pub returns-in-Some-clause-nonneg : goal.returns-in-Some-clause-nonneg
returns-in-Some-clause-nonneg c =
    let fits_root : FitsSigned w128 c.args.root = c.ranges.root in
    let root = rooted c.args.stream.now.meas _ c.args.root c.requires.limits c.requires.root c.in-Some.is in
    let fits_more : FitsSigned w128 (c.args.root +ℤ pos 1) = omega (arith, ints, root.width.from, root.width.to) in
    let fits_adjustment : FitsSigned w128 c.adjustment.result = omega (arith, ints, c.adjustment.ensures.nonneg, c.adjustment.ensures.within) in
    let fits : FitsSigned w128 c.div_floor.result = record { sfits = c.div_floor.type_inv } in
    let value = simp to_z-of_z at c.div_floor.ensures.value in
    simp to_z-of_z (rw value (floor_nonneg c.adjustment.result (c.args.root +ℤ pos 1) c.adjustment.ensures.nonneg (omega (arith, ints, root.width.from))))
