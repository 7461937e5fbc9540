use Rattle.std.proofs.Common.{◌≡◌, ◌∙◌, ◌≤◌, ◌^◌, ℤ, pos, ◌+ℤ◌, ◌-ℤ◌, FitsSigned, unsigned_abs, ap, ap₂, sym, subst, arith}
use mir.Syntax.{w128}
use Rattle.std.proofs.lemmas.Int.{ints}
use Rattle.std.proofs.Math.Facts.{to_z-of_z}
use Rattle.pb_fixed.specs.Quotients.{floor_div, ceil_div}
use Rattle.pb_study.specs.declared.results.Bounds.{Bounds}
use Rattle.pb_dual.specs.DualValue.{scale}
use Rattle.pb_gap.proofs.LeastRangeLemmas.{middle_within}
use Rattle.pb_gap.proofs.least.about_middle.Goals as goal

pub overflow_sub-result : goal.overflow_sub-result
overflow_sub-result c =
    let fits_dual : FitsSigned w128 c.args.dual_flows = c.ranges.dual_flows in
    let fits_flows : FitsSigned w128 c.args.flows = c.ranges.flows in
    let fits_half : FitsSigned w128 c.args.half = c.ranges.half in
    let fits_width : FitsSigned w128 c.div_ceil-width.result = record { sfits = c.div_ceil-width.type_inv } in
    let fits_floor : FitsSigned w128 c.div_floor.result = record { sfits = c.div_floor.type_inv } in
    let fits_low : FitsSigned w128 c.div_floor-2.result = record { sfits = c.div_floor-2.type_inv } in
    let width_size : unsigned_abs c.div_ceil-width.result ≤ unsigned_abs c.args.half = simp to_z-of_z at c.div_ceil-width.ensures.size in
    let floor_size : unsigned_abs c.div_floor.result ≤ unsigned_abs c.args.dual_flows = simp to_z-of_z at c.div_floor.ensures.size in
    let fits_sum : FitsSigned w128 (c.args.flows +ℤ c.div_floor.result) = omega (arith, ints, floor_size, c.requires.flows, c.requires.dual_flows) in
    let low_size : unsigned_abs c.div_floor-2.result ≤ unsigned_abs (c.args.flows +ℤ c.div_floor.result) = simp to_z-of_z at c.div_floor-2.ensures.size in
    let fits : FitsSigned w128 (c.div_floor-2.result -ℤ c.div_ceil-width.result) =
    omega (arith, ints, floor_size, low_size, width_size, c.requires.flows, c.requires.dual_flows, c.requires.half_from, c.requires.half_to) in
    simp to_z-of_z fits

pub returns-clause-value : goal.returns-clause-value
returns-clause-value c =
    let fits_dual : FitsSigned w128 c.args.dual_flows = c.ranges.dual_flows in
    let fits_flows : FitsSigned w128 c.args.flows = c.ranges.flows in
    let fits_half : FitsSigned w128 c.args.half = c.ranges.half in
    let fits_width : FitsSigned w128 c.div_ceil-width.result = record { sfits = c.div_ceil-width.type_inv } in
    let fits_floor : FitsSigned w128 c.div_floor.result = record { sfits = c.div_floor.type_inv } in
    let fits_ceil : FitsSigned w128 c.div_ceil.result = record { sfits = c.div_ceil.type_inv } in
    let fits_low : FitsSigned w128 c.div_floor-2.result = record { sfits = c.div_floor-2.type_inv } in
    let fits_high : FitsSigned w128 c.div_ceil-2.result = record { sfits = c.div_ceil-2.type_inv } in
    let width_size : unsigned_abs c.div_ceil-width.result ≤ unsigned_abs c.args.half = simp to_z-of_z at c.div_ceil-width.ensures.size in
    let floor_size : unsigned_abs c.div_floor.result ≤ unsigned_abs c.args.dual_flows = simp to_z-of_z at c.div_floor.ensures.size in
    let ceil_size : unsigned_abs c.div_ceil.result ≤ unsigned_abs c.args.dual_flows = simp to_z-of_z at c.div_ceil.ensures.size in
    let fits_down : FitsSigned w128 (c.args.flows +ℤ c.div_floor.result) = omega (arith, ints, floor_size, c.requires.flows, c.requires.dual_flows) in
    let fits_up : FitsSigned w128 (c.args.flows +ℤ c.div_ceil.result) = omega (arith, ints, ceil_size, c.requires.flows, c.requires.dual_flows) in
    let low_size : unsigned_abs c.div_floor-2.result ≤ unsigned_abs (c.args.flows +ℤ c.div_floor.result) = simp to_z-of_z at c.div_floor-2.ensures.size in
    let high_size : unsigned_abs c.div_ceil-2.result ≤ unsigned_abs (c.args.flows +ℤ c.div_ceil.result) = simp to_z-of_z at c.div_ceil-2.ensures.size in
    let fits_lo : FitsSigned w128 (c.div_floor-2.result -ℤ c.div_ceil-width.result) =
    omega (arith, ints, floor_size, low_size, width_size, c.requires.flows, c.requires.dual_flows, c.requires.half_from, c.requires.half_to) in
    let fits_hi : FitsSigned w128 (c.div_ceil-2.result +ℤ c.div_ceil-width.result) =
    omega (arith, ints, ceil_size, high_size, width_size, c.requires.flows, c.requires.dual_flows, c.requires.half_from, c.requires.half_to) in
    let width : c.div_ceil-width.result ≡ ceil_div c.args.half (pos 2) = simp to_z-of_z at c.div_ceil-width.ensures.value in
    let floor : c.div_floor.result ≡ floor_div c.args.dual_flows scale = simp to_z-of_z at c.div_floor.ensures.value in
    let ceil : c.div_ceil.result ≡ ceil_div c.args.dual_flows scale = simp to_z-of_z at c.div_ceil.ensures.value in
    let low : c.div_floor-2.result ≡ floor_div (c.args.flows +ℤ c.div_floor.result) (pos 2) = simp to_z-of_z at c.div_floor-2.ensures.value in
    let high : c.div_ceil-2.result ≡ ceil_div (c.args.flows +ℤ c.div_ceil.result) (pos 2) = simp to_z-of_z at c.div_ceil-2.ensures.value in
    let lo = ap₂ (λ (x w : ℤ). x -ℤ w) (low ∙ ap (λ (z : ℤ). floor_div (c.args.flows +ℤ z) (pos 2)) floor) width in
    let hi = ap₂ (λ (x w : ℤ). x +ℤ w) (high ∙ ap (λ (z : ℤ). ceil_div (c.args.flows +ℤ z) (pos 2)) ceil) width in
    simp to_z-of_z (ap₂ (λ (lo hi : ℤ). record { lo = lo; hi = hi }) lo hi)

pub returns-clause-lo : goal.returns-clause-lo
returns-clause-lo c =
    subst (λ (b : Bounds). unsigned_abs b.lo ≤ 2 ^ 126) (sym (returns-clause-value c))
    (middle_within c.args.flows c.args.dual_flows c.args.half c.requires.flows c.requires.dual_flows c.requires.half_from c.requires.half_to).lo

pub returns-clause-hi : goal.returns-clause-hi
returns-clause-hi c =
    subst (λ (b : Bounds). unsigned_abs b.hi ≤ 2 ^ 126) (sym (returns-clause-value c))
    (middle_within c.args.flows c.args.dual_flows c.args.half c.requires.flows c.requires.dual_flows c.requires.half_from c.requires.half_to).hi
