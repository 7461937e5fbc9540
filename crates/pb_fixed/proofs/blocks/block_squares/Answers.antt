use Rattle.std.proofs.Common.{◌∙◌, ◌^◌, ℤ, pos, ◌<◌, ◌+ℤ◌, ◌*ℤ◌, ◌≤ℤ◌, FitsSigned, to_z, get_or, length, ap₂, sym, rules, arith}
use mir.Syntax.{w128}
use Rattle.std.proofs.lemmas.Int.{ints, to_z-of_z}
use Rattle.pb_fixed.proofs.Order.{square_mono, square_pos}
use Rattle.pb_fixed.proofs.Sums.{sum_over-take_more}
use Rattle.pb_fixed.specs.Blocks.{blocks_of}
use Rattle.pb_fixed.proofs.blocks.block_squares.Goals as goal

pub loop-item-preserved : goal.loop-item-preserved
loop-item-preserved c =
    let items = c.args.items.now in
    let i = c.loop-item.item-index in
    let b = c.blocks-count.result in
    let sum = to_z w128 c.loop-item.sum-bits in
    let here : i < length items = c.loop-item-test.true in
    let fits_item : FitsSigned w128 (get_or items i (pos 0)) = search rules in
    let fits_blocks : FitsSigned w128 b = record { sfits = c.blocks-count.type_inv } in
    let blocks = simp to_z-of_z at c.blocks-count.ensures.value in
    let nonneg : pos 0 ≤ℤ (b *ℤ b) = square_pos b in
    let width : (b *ℤ b) ≤ℤ pos (2 ^ 114) = square_mono b (pos (2 ^ 57)) c.blocks-count.ensures.nonneg c.blocks-count.ensures.width in
    let few = c.requires.few in
    let fits_square : FitsSigned w128 (b *ℤ b) = omega (arith, ints, nonneg, width) in
    let fits_sum : FitsSigned w128 (sum +ℤ (b *ℤ b)) = omega (arith, ints, c.loop-item.invariant.nonneg, c.loop-item.invariant.small, nonneg, width, here, few) in
    let next = sum_over-take_more (λ a. blocks_of c.args.h a *ℤ blocks_of c.args.h a) items i (pos 0) here in
    simp to_z-of_z (record {
      so_far = ap₂ (λ (x y : ℤ). x +ℤ y) c.loop-item.invariant.so_far (ap₂ (λ (x y : ℤ). x *ℤ y) blocks blocks) ∙ sym next;
      nonneg = omega (arith, ints, c.loop-item.invariant.nonneg, nonneg);
      small = omega (arith, ints, c.loop-item.invariant.small, width);
    })
