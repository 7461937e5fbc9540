use Rattle.std.proofs.Common.{◌∙◌, ◌+◌, ◌*◌, ◌<◌, ◌≤◌, ℤ, pos, ◌+ℤ◌, false, FitsSigned, to_z, length, unsigned_abs, ap₂, sym, arith}
use mir.Syntax.{w128}
use Rattle.std.proofs.lemmas.Int.{ints}
use Rattle.std.proofs.Math.Facts.{to_z-of_z}
use Rattle.pb_limits.specs.Limits.{most_streams}
use Rattle.pb_fixed.proofs.Sums.{sum_over-take_more}
use Rattle.pb_dual.specs.declared.border.BorderStream.{BorderStream}
use Rattle.pb_dual.specs.DualValue.{most_dual_flow}
use Rattle.pb_dual.specs.Border.{inflow_of}
use Rattle.pb_dual.proofs.best.net_flow.Goals as goal

abbrev some_border_stream : BorderStream
some_border_stream = record { stream = 0; other = 0; enters = false; value = pos 0; variance = pos 0; room = pos 0 }

-- one more stream joins the total
pub loop-stream-preserved : goal.loop-stream-preserved
loop-stream-preserved c =
    let border = c.args.border.now in
    let i = c.loop-stream.stream-index in
    let inv = c.loop-stream.invariant in
    let here : i < length border = c.loop-stream-test.true in
    let few : length border ≤ most_streams = c.requires.few in
    let total = to_z w128 c.loop-stream.total-bits in
    let part : ℤ = c.inflow-total.result in
    let fits_part : FitsSigned w128 part = omega (arith, ints, c.inflow-total.ensures.within) in
    let small : unsigned_abs (total +ℤ part) ≤ (i + 1) * most_dual_flow = omega (arith, ints, inv.small, c.inflow-total.ensures.within) in
    let fits_sum : FitsSigned w128 (total +ℤ part) = omega (arith, ints, small, here, few) in
    let next = sum_over-take_more (inflow_of c.args.flows.now) border i some_border_stream here in
    simp to_z-of_z (record { so_far = ap₂ (λ (x y : ℤ). x +ℤ y) inv.so_far c.inflow-total.ensures.value ∙ sym next; small = small })
