use Rattle.std.proofs.Common.{◌∙◌, ℤ, pos, ◌^◌, ◌-ℤ◌, ◌*ℤ◌, ◌<ℤ◌, FitsSigned, unsigned_abs, ap, sym, subst, arith}
use mir.Syntax.{w128}
use Rattle.std.proofs.lemmas.Int.{ints}
use Rattle.std.proofs.Math.Facts.{to_z-of_z}
use Rattle.pb_fixed.specs.Quotients.{ceil_div}
use Rattle.pb_fixed.specs.Blocks.{IsBlockItem}
use Rattle.pb_dual.specs.DualValue.{scale}
use Rattle.pb_gap.proofs.Widths.{deviation_narrow, deviation_width}
use Rattle.pb_gap.proofs.arithmetic.deviation.Goals as goal

pub returns-clause-value : goal.returns-clause-value
returns-clause-value c =
    let fits_flow : FitsSigned w128 c.args.flow = c.ranges.flow in
    let fits_dual : FitsSigned w128 c.args.dual_flow = c.ranges.dual_flow in
    let fits_root : FitsSigned w128 c.args.root = c.ranges.root in
    let fits_divisor : FitsSigned w128 (c.args.root *ℤ pos 65536) = omega (arith, ints, c.requires.root_from, c.requires.root_to) in
    let fits_n : FitsSigned w128 c.distance.result = omega (arith, ints, c.distance.ensures.nonneg, c.distance.ensures.within) in
    let fits : FitsSigned w128 c.div_ceil.result = record { sfits = c.div_ceil.type_inv } in
    let value = simp to_z-of_z at c.div_ceil.ensures.value in
    let distance = simp to_z-of_z at c.distance.ensures.value in
    simp to_z-of_z (value ∙ ap (λ (x : ℤ). ceil_div x (c.args.root *ℤ pos 65536)) distance)

pub returns-clause-within : goal.returns-clause-within
returns-clause-within c =
    let fits_flow : FitsSigned w128 c.args.flow = c.ranges.flow in
    let fits_dual : FitsSigned w128 c.args.dual_flow = c.ranges.dual_flow in
    let distance = simp to_z-of_z at c.distance.ensures.value in
    let within : pos (unsigned_abs ((c.args.flow *ℤ scale) -ℤ c.args.dual_flow)) <ℤ pos (2 ^ 125) = subst (λ (x : ℤ). x <ℤ pos (2 ^ 125)) distance c.distance.ensures.within in
    subst IsBlockItem (sym (returns-clause-value c))
    (deviation_width (pos (unsigned_abs ((c.args.flow *ℤ scale) -ℤ c.args.dual_flow))) c.args.root (omega (arith, ints)) within c.requires.root_from)

pub returns-clause-width : goal.returns-clause-width
returns-clause-width c =
    subst (λ (x : ℤ). x <ℤ pos (2 ^ 89)) (sym (returns-clause-value c)) (deviation_narrow c.args.flow c.args.dual_flow c.args.root c.requires.flow c.requires.dual_flow c.requires.root_from)
