use Rattle.std.proofs.Common.{◌≡◌, ◌∙◌, ◌<◌, ◌≤◌, ℤ, pos, ◌-ℤ◌, List, FitsSigned, length, get_or, unsigned_abs, ap, sym, subst, arith, rules}
use mir.Syntax.{w128}
use Rattle.std.proofs.lemmas.Int.{ints}
use Rattle.std.proofs.lemmas.List.{length-map}
use Rattle.std.proofs.Math.Facts.{to_z-of_z}
use Rattle.pb_fixed.specs.Sums.{item}
use Rattle.pb_graph.specs.declared.records.Stream.{Stream}
use Rattle.pb_graph.specs.ProcessGraph.{IsStream, some_stream}
use Rattle.pb_dual.specs.DualValue.{dual_flow, dual_flows_of, flow_at, most_dual_flow}
use Rattle.pb_gap.proofs.Columns.{all_put, map_item, put_fact, put_value, whole}
use Rattle.pb_gap.proofs.dual_flows.write_dual_flows.Goals as goal

pub loop-j-preserved : goal.loop-j-preserved
loop-j-preserved c =
    let ss = c.args.graph.now.streams in
    let prices = c.args.prices.now in
    let here = c.streams-stream-items.result.now in
    let same : here ≡ ss = c.streams-stream-items.ensures.value in
    let limits = c.streams-stream-items.ensures.limits in
    let j = c.loop-j.j in
    let x = c.dual_flow.result in
    let inv = c.loop-j.invariant in
    let there : j < length ss = omega (arith, c.loop-j-test.true, ap (λ (ss : List Stream). length ss) same) in
    let lt : j < length c.loop-j.out = omega (arith, there, inv.room) in
    let stream = get_or here j some_stream in
    let ends : IsStream c.args.graph.now.nodes stream = subst (λ (ss : List Stream). IsStream c.args.graph.now.nodes (get_or ss j some_stream)) (sym same) (limits.joins j some_stream there) in
    let small_from = c.requires.small stream.from (pos 0) (omega (arith, ends.from, c.requires.each)) in
    let small_to = c.requires.small stream.to (pos 0) (omega (arith, ends.to, c.requires.each)) in
    let fits_from : FitsSigned w128 (item prices stream.from) = omega (arith, ints, small_from) in
    let fits_to : FitsSigned w128 (item prices stream.to) = omega (arith, ints, small_to) in
    let fits : FitsSigned w128 x = omega (arith, ints, c.dual_flow.ensures.within) in
    let flow : x ≡ flow_at stream.meas (item prices stream.to -ℤ item prices stream.from) = simp to_z-of_z at c.dual_flow.ensures.value in
    let is : x ≡ item (dual_flows_of (item prices) ss) j =
    flow ∙ ap (λ (ss : List Stream). dual_flow (item prices) (get_or ss j some_stream)) same ∙ sym (map_item (dual_flow (item prices)) ss j some_stream there) in
    simp to_z-of_z (record {
      room = search rules;
      value = put_value c.loop-j.out (dual_flows_of (item prices) ss) j x lt is inv.value;
      within = put_fact (λ (v : ℤ). unsigned_abs v ≤ most_dual_flow) c.loop-j.out j x lt c.dual_flow.ensures.within inv.within;
    })

pub returns-clause-value : goal.returns-clause-value
returns-clause-value c =
    let ss = c.args.graph.now.streams in
    let prices = c.args.prices.now in
    let inv = c.loop-j.invariant in
    let size = ap (λ (ss : List Stream). length ss) c.streams-stream-items.ensures.value in
    whole c.loop-j.out (dual_flows_of (item prices) ss) (length ss) c.loop-j.j inv.room (length-map ss (dual_flow (item prices))) (omega (arith, c.loop-j-test.false, size)) inv.value

pub returns-clause-within : goal.returns-clause-within
returns-clause-within c =
    let inv = c.loop-j.invariant in
    let size = ap (λ (ss : List Stream). length ss) c.streams-stream-items.ensures.value in
    all_put (λ (v : ℤ). unsigned_abs v ≤ most_dual_flow) c.loop-j.out (λ k lt. inv.within k (omega (arith, c.loop-j-test.false, lt, inv.room, size)))
