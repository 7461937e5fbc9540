use Rattle.std.proofs.Common.{◌≡◌, ◌∙◌, ◌<◌, ◌≤◌, ℤ, pos, FitsSigned, length, unsigned_abs, sym, arith, rules}
use mir.Syntax.{w128}
use Rattle.std.proofs.lemmas.Int.{ints}
use Rattle.std.proofs.lemmas.List.{length-map}
use Rattle.std.proofs.Math.Facts.{to_z-of_z}
use Rattle.pb_forest.specs.Flows.{most_given_flow}
use Rattle.pb_fixed.specs.Sums.{item}
use Rattle.pb_fixed.specs.Quotients.{nearest_div}
use Rattle.pb_dual.specs.DualValue.{scale}
use Rattle.pb_gap.specs.State.{nearest_grams}
use Rattle.pb_gap.proofs.Columns.{all_put, map_item, put_fact, put_value, whole}
use Rattle.pb_gap.proofs.flows.write_nearest.Goals as goal

pub loop-j-preserved : goal.loop-j-preserved
loop-j-preserved c =
    let us = c.args.dual_flows.now in
    let j = c.loop-j.j in
    let x = c.nearest_gram.result in
    let inv = c.loop-j.invariant in
    let there : j < length us = c.loop-j-test.true in
    let lt : j < length c.loop-j.out = omega (arith, there, inv.room) in
    let small = c.requires.within j (pos 0) there in
    let fits : FitsSigned w128 x = omega (arith, ints, c.nearest_gram.ensures.within) in
    let fits_flow : FitsSigned w128 (item us j) = omega (arith, ints, small) in
    let gram : x ≡ nearest_div (item us j) scale = simp to_z-of_z at c.nearest_gram.ensures.value in
    let is : x ≡ item (nearest_grams us) j = gram ∙ sym (map_item (λ (u : ℤ). nearest_div u scale) us j (pos 0) there) in
    simp to_z-of_z (record {
      room = search rules;
      value = put_value c.loop-j.out (nearest_grams us) j x lt is inv.value;
      within = put_fact (λ (v : ℤ). unsigned_abs v ≤ most_given_flow) c.loop-j.out j x lt c.nearest_gram.ensures.within inv.within;
    })

pub returns-clause-value : goal.returns-clause-value
returns-clause-value c =
    let us = c.args.dual_flows.now in
    let inv = c.loop-j.invariant in
    whole c.loop-j.out (nearest_grams us) (length us) c.loop-j.j inv.room (length-map us (λ (u : ℤ). nearest_div u scale)) (omega (arith, c.loop-j-test.false)) inv.value

pub returns-clause-within : goal.returns-clause-within
returns-clause-within c =
    let inv = c.loop-j.invariant in
    all_put (λ (v : ℤ). unsigned_abs v ≤ most_given_flow) c.loop-j.out (λ k lt. inv.within k (omega (arith, c.loop-j-test.false, lt, inv.room)))
