use Rattle.std.proofs.Common.{FitsSigned, refl, arith, ◌+ℤ◌, ◌-ℤ◌}
use mir.Syntax.{w128}
use Rattle.std.proofs.lemmas.Int.{ints, to_z-of_z}
use Rattle.pb_period.proofs.measured.difference.Goals as goal

pub returns-clause-value : goal.returns-clause-value
returns-clause-value c =
    let closing = c.requires.closing in
    let opening = c.requires.opening in
    let grams : FitsSigned w128 c.args.closing.grams = omega (arith, ints, closing.grams) in
    let less_grams : FitsSigned w128 c.args.opening.grams = omega (arith, ints, opening.grams) in
    let all_grams : FitsSigned w128 (c.args.closing.grams -ℤ c.args.opening.grams) = omega (arith, ints, closing.grams, opening.grams) in
    let variance : FitsSigned w128 c.args.closing.variance = omega (arith, ints, closing.from, closing.to) in
    let more_variance : FitsSigned w128 c.args.opening.variance = omega (arith, ints, opening.from, opening.to) in
    let all_variance : FitsSigned w128 (c.args.opening.variance +ℤ c.args.closing.variance) = omega (arith, ints, opening.from, opening.to, closing.from, closing.to) in
    simp to_z-of_z refl
