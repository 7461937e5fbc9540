use Rattle.std.proofs.Common.{neg_ℤ, pos, FitsSigned, get_or, arith}
use mir.Syntax.{w128}
use Rattle.std.proofs.lemmas.Int.{ints}
use Rattle.std.proofs.Math.Facts.{to_z-of_z}
use Rattle.pb_dual.proofs.best.inflow.Goals as goal

pub returns-else-stream-clause-within : goal.returns-else-stream-clause-within
returns-else-stream-clause-within c =
    let small = c.requires.small c.args.stream.now.stream (pos 0) c.requires.there in
    let flow = get_or c.args.flows.now c.args.stream.now.stream (pos 0) in
    let fits_flow : FitsSigned w128 flow = omega (arith, ints, small) in
    let fits : FitsSigned w128 (neg_ℤ flow) = omega (arith, ints, small) in
    simp to_z-of_z (omega (arith, ints, small))
