use Rattle.std.proofs.Common.{◌≡◌, ◌∙◌, ◌<◌, pos, FitsSigned, length, sym, arith, rules}
use mir.Syntax.{w128}
use Rattle.std.proofs.lemmas.Int.{ints}
use Rattle.std.proofs.lemmas.List.{length-map}
use Rattle.std.proofs.Math.Facts.{to_z-of_z}
use Rattle.pb_fixed.specs.Sums.{item}
use Rattle.pb_graph.specs.ProcessGraph.{some_stream}
use Rattle.pb_dual.specs.DualValue.{dual_flow, dual_flows_of}
use Rattle.pb_dual.proofs.FlowLemmas.{map_item, put_value, whole}
use Rattle.pb_dual.proofs.dual.write_measured.Goals as goal

pub loop-j-preserved : goal.loop-j-preserved
loop-j-preserved c =
    let ss = c.args.streams.now in
    let j = c.loop-j.j in
    let x = c.dual_flow.result in
    let inv = c.loop-j.invariant in
    let there : j < length ss = c.loop-j-test.true in
    let lt : j < length c.loop-j.out = omega (arith, there, inv.room) in
    let fits : FitsSigned w128 x = omega (arith, ints, c.dual_flow.ensures.within) in
    let is : x ≡ item (dual_flows_of (λ n. pos 0) ss) j = c.dual_flow.ensures.value ∙ sym (map_item (dual_flow (λ n. pos 0)) ss j some_stream there) in
    simp to_z-of_z (record {
      room = search rules;
      value = put_value c.loop-j.out (dual_flows_of (λ n. pos 0) ss) j x lt is inv.value;
    })

pub returns : goal.returns
returns c =
    let ss = c.args.streams.now in
    let inv = c.loop-j.invariant in
    whole c.loop-j.out (dual_flows_of (λ n. pos 0) ss) (length ss) c.loop-j.j inv.room (length-map ss (dual_flow (λ n. pos 0))) (omega (arith, c.loop-j-test.false)) inv.value
