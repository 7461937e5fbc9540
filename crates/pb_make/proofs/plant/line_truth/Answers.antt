use Rattle.std.proofs.Common.{◌<◌, ◌≤◌, ℤ, ◌+ℤ◌, FitsSigned, to_z, length, arith}
use mir.Syntax.{w128}
use Rattle.std.proofs.lemmas.Int.{ints}
use Rattle.std.proofs.Math.Facts.{to_z-of_z}
use Rattle.pb_limits.specs.Limits.{most_made_streams}
use Rattle.pb_make.proofs.PlantLemmas.{truth_more}
use Rattle.pb_make.proofs.plant.line_truth.Goals as goal

-- what one more side stream adds joins the flow
pub loop-side-preserved : goal.loop-side-preserved
loop-side-preserved c =
    let sides = c.args.sides.now in
    let k = c.loop-side.side-index in
    let inv = c.loop-side.invariant in
    let here : k < length sides = c.loop-side-test.true in
    let few : length sides ≤ most_made_streams = c.requires.few in
    let part : ℤ = c.change_of-truth.result in
    let truth = to_z w128 c.loop-side.truth-bits in
    let fits_part : FitsSigned w128 part = record { sfits = c.change_of-truth.type_inv } in
    let fits_sum : FitsSigned w128 (truth +ℤ part) = omega (arith, ints, inv.least, inv.most, c.change_of-truth.ensures.within, here, few) in
    let next = truth_more c.args.i sides k truth part here inv.so_far c.change_of-truth.ensures.value in
    simp to_z-of_z (record {
      so_far = next;
      least = omega (arith, ints, inv.least, c.change_of-truth.ensures.within);
      most = omega (arith, ints, inv.most, c.change_of-truth.ensures.within);
    })

pub overflow_add-truth : goal.overflow_add-truth
overflow_add-truth c =
    let inv = c.loop-side.invariant in
    let here : c.loop-side.side-index < length c.args.sides.now = c.loop-side-test.true in
    let few : length c.args.sides.now ≤ most_made_streams = c.requires.few in
    let part : ℤ = c.change_of-truth.result in
    let fits_part : FitsSigned w128 part = record { sfits = c.change_of-truth.type_inv } in
    simp to_z-of_z (omega (arith, ints, inv.least, inv.most, c.change_of-truth.ensures.within, here, few))
