use Rattle.std.proofs.Common.{◌≡◌, ◌∙◌, ◌<◌, ◌≤◌, ℤ, pos, ◌+ℤ◌, ◌*ℤ◌, FitsSigned, to_z, length, get_or, ap, ap₂, sym, arith}
use mir.Syntax.{w128}
use Rattle.std.specs.Int.{int_min}
use Rattle.std.proofs.lemmas.Int.{ints}
use Rattle.std.proofs.lemmas.List.{take_all}
use Rattle.std.proofs.Math.Facts.{to_z-of_z}
use Rattle.pb_limits.specs.Limits.{most_streams}
use Rattle.pb_fixed.specs.Sums.{item}
use Rattle.pb_fixed.proofs.Sums.{sum_over-take_more}
use Rattle.pb_graph.specs.ProcessGraph.{some_stream}
use Rattle.pb_gap.specs.Statistic.{adjustment_below, adjustments_by, capped_squares, adjustment_cap}
use Rattle.pb_gap.proofs.Columns.{adjustment_item, length-adjustments}
use Rattle.pb_gap.proofs.adjustments.capped_squares.Goals as goal

-- the square of one more adjustment joins the total
pub loop-j-preserved : goal.loop-j-preserved
loop-j-preserved c =
    let ss = c.args.streams.now in
    let ps = c.args.flows.now in
    let bs = adjustments_by adjustment_below ss ps in
    let j = c.loop-j.j in
    let inv = c.loop-j.invariant in
    let there : j < length ss = c.loop-j-test.true in
    let few : length ss ≤ most_streams = c.requires.few in
    let within : j < length bs = omega (arith, there, length-adjustments adjustment_below ss ps c.requires.each) in
    let small = c.requires.small j (pos 0) (omega (arith, there, c.requires.each)) in
    let fits_flow : FitsSigned w128 (item ps j) = omega (arith, ints, small) in
    let fits_below : FitsSigned w128 c.below.result = record { sfits = c.below.type_inv } in
    let fits_capped : FitsSigned w128 c.capped.result = record { sfits = c.capped.type_inv } in
    let part : ℤ = c.square-total.result in
    let fits_part : FitsSigned w128 part = record { sfits = c.square-total.type_inv } in
    let total = to_z w128 c.loop-j.total-bits in
    let below : c.below.result ≡ adjustment_below (get_or ss j some_stream).meas (item ps j) = simp to_z-of_z at c.below.ensures.value in
    let own : c.below.result ≡ item bs j = below ∙ sym (adjustment_item adjustment_below ss ps j some_stream c.requires.each there) in
    let capped : c.capped.result ≡ int_min c.below.result adjustment_cap = simp to_z-of_z at c.capped.ensures.value in
    let square : part ≡ c.capped.result *ℤ c.capped.result = simp to_z-of_z at c.square-total.ensures.value in
    let is = capped ∙ ap (λ (b : ℤ). int_min b adjustment_cap) own in
    let value = square ∙ ap₂ (λ (x y : ℤ). x *ℤ y) is is in
    let next = sum_over-take_more (λ b. int_min b adjustment_cap *ℤ int_min b adjustment_cap) bs j (pos 0) within in
    let fits_sum : FitsSigned w128 (total +ℤ part) = omega (arith, ints, inv.nonneg, inv.small, c.square-total.ensures.nonneg, c.square-total.ensures.within, there, few) in
    simp to_z-of_z (record {
      so_far = ap₂ (λ (x y : ℤ). x +ℤ y) inv.so_far value ∙ sym next;
      nonneg = omega (arith, ints, inv.nonneg, c.square-total.ensures.nonneg);
      small = omega (arith, ints, inv.small, c.square-total.ensures.within);
    })

pub returns-clause-value : goal.returns-clause-value
returns-clause-value c =
    let bs = adjustments_by adjustment_below c.args.streams.now c.args.flows.now in
    c.loop-j.invariant.so_far ∙ ap capped_squares (take_all c.loop-j.j bs (omega (arith, c.loop-j-test.false, length-adjustments adjustment_below c.args.streams.now c.args.flows.now c.requires.each)))
