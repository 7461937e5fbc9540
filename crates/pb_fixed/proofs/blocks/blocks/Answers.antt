use Rattle.std.proofs.Common.{◌≡◌, ℤ, pos, ◌^◌, ◌≤ℤ◌, rules, subst, sym, to_z, of_z}
use mir.Syntax.{w128}
use Rattle.pb_fixed.specs.Blocks.{blocks_of}
use Rattle.pb_fixed.proofs.BlockLaws.{blocks_width}
use Rattle.pb_fixed.proofs.blocks.blocks.Goals as goal

pub returns-clause-width : goal.returns-clause-width
returns-clause-width c =
    let value : to_z w128 (of_z w128 c.div_ceil.result) ≡ blocks_of c.args.h c.args.item = search rules in
    subst (λ (x : ℤ). x ≤ℤ pos (2 ^ 57)) (sym value) (blocks_width c.args.h c.args.item c.requires.fits)
