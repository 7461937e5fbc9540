use Rattle.std.proofs.Common.{◌≡◌, ◌∙◌, ◌<◌, ℕ, ℤ, pos, FitsSigned, length, sym, arith, rules}
use mir.Syntax.{w128}
use Rattle.std.proofs.lemmas.Int.{ints}
use Rattle.std.proofs.Math.Facts.{to_z-of_z}
use Rattle.pb_fixed.specs.Sums.{item}
use Rattle.pb_fixed.specs.Blocks.{IsBlockItem}
use Rattle.pb_graph.specs.ProcessGraph.{some_stream}
use Rattle.pb_dual.specs.DualValue.{dual_flows_of}
use Rattle.pb_gap.specs.Gap.{deviations_of}
use Rattle.pb_gap.proofs.Columns.{all_put, deviation_item, dual_item, length-deviations, put_fact, put_value, whole}
use Rattle.pb_gap.proofs.deviations.write_deviations.Goals as goal

pub loop-j-preserved : goal.loop-j-preserved
loop-j-preserved c =
    let ss = c.args.streams.now in
    let ps = c.args.flows.now in
    let j = c.loop-j.j in
    let x = c.stream_deviation.result in
    let inv = c.loop-j.invariant in
    let there : j < length ss = c.loop-j-test.true in
    let lt : j < length c.loop-j.out = omega (arith, there, inv.room) in
    let fits : FitsSigned w128 x = omega (arith, ints, c.stream_deviation.ensures.within) in
    let small = c.requires.measured.small j (pos 0) (omega (arith, there, c.requires.measured.each)) in
    let fits_flow : FitsSigned w128 (item ps j) = omega (arith, ints, small) in
    let dual_small = c.requires.duals.small j (pos 0) (omega (arith, there, c.requires.duals.each)) in
    let fits_dual : FitsSigned w128 (item c.args.dual_flows.now j) = omega (arith, ints, dual_small) in
    let value = simp to_z-of_z at c.stream_deviation.ensures.value in
    let is : (price : ℕ → ℤ) → c.args.dual_flows.now ≡ dual_flows_of price ss → x ≡ item (deviations_of price ss ps) j =
    λ price of_price. value price (dual_item price ss c.args.dual_flows.now j some_stream of_price there)
    ∙ sym (deviation_item price ss ps j some_stream c.requires.measured.each there) in
    simp to_z-of_z (record {
      room = search rules;
      value = λ price of_price. put_value c.loop-j.out (deviations_of price ss ps) j x lt (is price of_price) (inv.value price of_price);
      within = put_fact IsBlockItem c.loop-j.out j x lt c.stream_deviation.ensures.within inv.within;
    })

pub returns-clause-value : goal.returns-clause-value
returns-clause-value c price of_price =
    let ss = c.args.streams.now in
    let inv = c.loop-j.invariant in
    whole c.loop-j.out (deviations_of price ss c.args.flows.now) (length ss) c.loop-j.j inv.room (length-deviations price ss c.args.flows.now c.requires.measured.each) (omega (arith, c.loop-j-test.false)) (inv.value price of_price)

pub returns-clause-within : goal.returns-clause-within
returns-clause-within c =
    let inv = c.loop-j.invariant in
    all_put IsBlockItem c.loop-j.out (λ k lt. inv.within k (omega (arith, c.loop-j-test.false, lt, inv.room)))
