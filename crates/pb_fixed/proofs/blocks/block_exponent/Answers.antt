use Rattle.std.proofs.Common.{pos, ◌<◌, get_or, length, rules, arith}
use Rattle.std.proofs.lemmas.Int.{ints, to_z-of_z}
use mir.Syntax.{w128}
use Rattle.std.specs.Prelude.{FitsSigned}
use Rattle.std.proofs.lemmas.List.{get_or_default}
use Rattle.pb_fixed.specs.Blocks.{IsBlockExponent}
use Rattle.pb_fixed.proofs.BlockLaws.{block_exponent_only, fit_more}
use Rattle.pb_fixed.proofs.blocks.block_exponent.Goals as goal

pub loop-item-preserved : goal.loop-item-preserved
loop-item-preserved c =
    let items = c.args.items.now in
    let i = c.loop-item.item-index in
    let here : i < length items = c.loop-item-test.true in
    let each = c.requires.each i (pos 0) here in
    let fits_item : FitsSigned w128 (get_or items i (pos 0)) = omega (arith, ints, each.0, each.1) in
    let item = simp to_z-of_z at c.exponent.ensures in
    record {
      fit = fit_more items i c.loop-item.most c.max-most.result c.exponent.result c.max-most.ensures c.loop-item.invariant.fit
          (λ d. rw (get_or_default items i d (pos 0) here) item.fits);
      least = λ k fit. let own = item.least k (fit i (pos 0) here) in let before = c.loop-item.invariant.least k fit in omega (arith, own, before, c.max-most.ensures);
    }

pub returns-clause-value : goal.returns-clause-value
returns-clause-value c =
    let exponent : IsBlockExponent c.args.items.now c.loop-item.most = search rules in
    block_exponent_only c.args.items.now c.loop-item.most exponent

pub returns-clause-width : goal.returns-clause-width
returns-clause-width c = c.loop-item.invariant.least 32 (λ j d lt. (c.requires.each j d lt).1)
