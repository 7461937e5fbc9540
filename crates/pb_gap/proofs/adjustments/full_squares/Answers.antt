use Rattle.std.proofs.Common.{◌≡◌, ◌∙◌, ◌<◌, ◌≤◌, Bool, ℤ, pos, ◌+ℤ◌, ◌*ℤ◌, FitsSigned, to_z, length, get_or, Some, ap, ap₂, sym, arith, refl}
use mir.Syntax.{w128}
use Rattle.std.specs.Prelude.{int_lt, ◌||◌}
use Rattle.std.specs.List.{list_any}
use Rattle.std.proofs.lemmas.Int.{ints}
use Rattle.std.proofs.lemmas.List.{take_all}
use Rattle.std.proofs.lemmas.List.Folds.{list_any_at, list_any_more}
use Rattle.std.proofs.Math.Facts.{to_z-of_z}
use Rattle.pb_limits.specs.Limits.{most_streams}
use Rattle.pb_fixed.specs.Sums.{item}
use Rattle.pb_fixed.proofs.Sums.{sum_over-take_more}
use Rattle.pb_graph.specs.ProcessGraph.{some_stream}
use Rattle.pb_gap.specs.Statistic.{adjustment_above, adjustments_by, full_squares, adjustment_cap}
use Rattle.pb_gap.proofs.Widths.{int_lt_no, int_lt_yes}
use Rattle.pb_gap.proofs.Columns.{adjustment_item, length-adjustments}
use Rattle.pb_gap.proofs.adjustments.full_squares.Goals as goal

-- an adjustment above the cap leaves no sum
pub returns-then-adjustment-gt-ADJUSTMENT_CAP-clause-value : goal.returns-then-adjustment-gt-ADJUSTMENT_CAP-clause-value
returns-then-adjustment-gt-ADJUSTMENT_CAP-clause-value c =
    let ss = c.args.streams.now in
    let ps = c.args.flows.now in
    let bs = adjustments_by adjustment_above ss ps in
    let j = c.loop-j.j in
    let there : j < length ss = c.loop-j-test.true in
    let within : j < length bs = omega (arith, there, length-adjustments adjustment_above ss ps c.requires.each) in
    let small = c.requires.small j (pos 0) (omega (arith, there, c.requires.each)) in
    let fits_flow : FitsSigned w128 (item ps j) = omega (arith, ints, small) in
    let fits_above : FitsSigned w128 c.above-adjustment.result = record { sfits = c.above-adjustment.type_inv } in
    let above : c.above-adjustment.result ≡ adjustment_above (get_or ss j some_stream).meas (item ps j) = simp to_z-of_z at c.above-adjustment.ensures.value in
    let own : c.above-adjustment.result ≡ item bs j = above ∙ sym (adjustment_item adjustment_above ss ps j some_stream c.requires.each there) in
    let more = simp to_z-of_z at c.if-adjustment-gt-ADJUSTMENT_CAP.true in
    let passes = int_lt_yes adjustment_cap (item bs j) (omega (arith, ints, more, own)) in
    let any = list_any_at (λ b. int_lt adjustment_cap b) bs j (pos 0) within passes in
    rw any refl

-- the square of one more adjustment joins the total
pub loop-j-preserved : goal.loop-j-preserved
loop-j-preserved c =
    let ss = c.args.streams.now in
    let ps = c.args.flows.now in
    let bs = adjustments_by adjustment_above ss ps in
    let j = c.loop-j.j in
    let inv = c.loop-j.invariant in
    let there : j < length ss = c.loop-j-test.true in
    let few : length ss ≤ most_streams = c.requires.few in
    let within : j < length bs = omega (arith, there, length-adjustments adjustment_above ss ps c.requires.each) in
    let small = c.requires.small j (pos 0) (omega (arith, there, c.requires.each)) in
    let fits_flow : FitsSigned w128 (item ps j) = omega (arith, ints, small) in
    let fits_above : FitsSigned w128 c.above-adjustment.result = record { sfits = c.above-adjustment.type_inv } in
    let part : ℤ = c.square-total.result in
    let fits_part : FitsSigned w128 part = record { sfits = c.square-total.type_inv } in
    let total = to_z w128 c.loop-j.total-bits in
    let above : c.above-adjustment.result ≡ adjustment_above (get_or ss j some_stream).meas (item ps j) = simp to_z-of_z at c.above-adjustment.ensures.value in
    let own : c.above-adjustment.result ≡ item bs j = above ∙ sym (adjustment_item adjustment_above ss ps j some_stream c.requires.each there) in
    let square : part ≡ c.above-adjustment.result *ℤ c.above-adjustment.result = simp to_z-of_z at c.square-total.ensures.value in
    let value = square ∙ ap₂ (λ (x y : ℤ). x *ℤ y) own own in
    let next = sum_over-take_more (λ (b : ℤ). b *ℤ b) bs j (pos 0) within in
    let fits_sum : FitsSigned w128 (total +ℤ part) = omega (arith, ints, inv.nonneg, inv.small, c.square-total.ensures.nonneg, c.square-total.ensures.within, there, few) in
    let not_more = simp to_z-of_z at c.if-adjustment-gt-ADJUSTMENT_CAP.false in
    let fails = int_lt_no adjustment_cap (item bs j) (omega (arith, ints, not_more, own)) in
    let none = list_any_more (λ b. int_lt adjustment_cap b) bs j (pos 0) within ∙ ap₂ (λ (x y : Bool). x || y) inv.none fails in
    simp to_z-of_z (record {
      so_far = ap₂ (λ (x y : ℤ). x +ℤ y) inv.so_far value ∙ sym next;
      none = none;
      nonneg = omega (arith, ints, inv.nonneg, c.square-total.ensures.nonneg);
      small = omega (arith, ints, inv.small, c.square-total.ensures.within);
    })

pub returns-clause-value : goal.returns-clause-value
returns-clause-value c =
    let bs = adjustments_by adjustment_above c.args.streams.now c.args.flows.now in
    let all = take_all c.loop-j.j bs (omega (arith, c.loop-j-test.false, length-adjustments adjustment_above c.args.streams.now c.args.flows.now c.requires.each)) in
    let none = sym (ap (list_any (λ b. int_lt adjustment_cap b)) all) ∙ c.loop-j.invariant.none in
    rw none (ap Some (c.loop-j.invariant.so_far ∙ ap full_squares all))
