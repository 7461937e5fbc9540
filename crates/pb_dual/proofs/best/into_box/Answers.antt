use Rattle.std.proofs.Common.{◌+ℤ◌, ◌≤ℤ◌, pos, FitsSigned, unsigned_abs, sym}
use mir.Syntax.{w128}
use Rattle.std.proofs.Math.Facts.{to_z-of_z}
use Rattle.pb_dual.proofs.BoxLemmas.{held_in_box, prices_within}
use Rattle.pb_dual.proofs.best.into_box.Goals as goal

pub returns-then-is_within : goal.returns-then-is_within
returns-then-is_within c =
    let fits_price : FitsSigned w128 c.args.price = c.ranges.price in
    let fits_room : FitsSigned w128 c.args.room = c.ranges.room in
    let fits_greatest : FitsSigned w128 c.args.greatest = c.ranges.greatest in
    let told = c.is_within.ensures.0 c.if-is_within.true in
    let h : (pos (unsigned_abs c.args.price) +ℤ c.args.greatest) ≤ℤ c.args.room = simp to_z-of_z at told in
    simp to_z-of_z (sym (held_in_box c.args.prices.now c.args.group c.args.border.now c.args.price c.args.room c.args.greatest c.requires.border c.requires.room c.requires.greatest h))

pub lowest-lowest-requires-clause-small : goal.lowest-lowest-requires-clause-small
lowest-lowest-requires-clause-small c = prices_within c.args.greatest c.args.prices.now c.requires.greatest

pub highest-requires-clause-small : goal.highest-requires-clause-small
highest-requires-clause-small c = prices_within c.args.greatest c.args.prices.now c.requires.greatest
