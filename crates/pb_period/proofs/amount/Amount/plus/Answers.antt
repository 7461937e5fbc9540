use Rattle.std.proofs.Common.{FitsSigned, refl, arith, ◌+ℤ◌}
use mir.Syntax.{w128}
use Rattle.std.proofs.lemmas.Int.{ints, to_z-of_z}
use Rattle.pb_period.proofs.amount.Amount.plus.Goals as goal

pub returns : goal.returns
returns c =
    let small = c.requires.small in
    let other = c.requires.other in
    let grams : FitsSigned w128 c.args.self.grams = omega (arith, ints, small.grams) in
    let more_grams : FitsSigned w128 c.args.other.grams = omega (arith, ints, other.grams) in
    let all_grams : FitsSigned w128 (c.args.self.grams +ℤ c.args.other.grams) = omega (arith, ints, small.grams, other.grams) in
    let variance : FitsSigned w128 c.args.self.variance = omega (arith, ints, small.from, small.to) in
    let more_variance : FitsSigned w128 c.args.other.variance = omega (arith, ints, other.from, other.to) in
    let all_variance : FitsSigned w128 (c.args.self.variance +ℤ c.args.other.variance) = omega (arith, ints, small.from, small.to, other.from, other.to) in
    simp to_z-of_z refl
