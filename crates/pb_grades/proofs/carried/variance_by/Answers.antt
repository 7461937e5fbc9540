use Rattle.std.proofs.Common.{rules, ◌*ℤ◌, FitsSigned, arith}
use Rattle.std.proofs.lemmas.Int.{fits_signed_from_abs, ints, to_z-of_z}
use mir.Syntax.{w128}
use Rattle.pb_fixed.proofs.Order.{mul_nonneg, square_pos}
use Rattle.pb_grades.proofs.CarriedLemmas.{one_more_fits, variance_least}
use Rattle.pb_grades.proofs.carried.variance_by.Goals as goal

pub returns-clause-value : goal.returns-clause-value
returns-clause-value c =
    let weighted : FitsSigned w128 c.weighted.result = fits_signed_from_abs w128 c.weighted.result (omega (arith, ints, c.weighted.ensures.within)) in
    let size = simp to_z-of_z at c.div_ceil.ensures.size in
    let fits = one_more_fits c.div_ceil.result (omega (arith, size, c.weighted.ensures.within)) in
    search (rules, fits)

pub returns-clause-least : goal.returns-clause-least
returns-clause-least c =
    let flow = c.args.flow in
    let grade = c.args.grade in
    rw (returns-clause-value c) (variance_least ((flow *ℤ flow) *ℤ grade.variance) (mul_nonneg (flow *ℤ flow) grade.variance (square_pos flow) c.requires.grade.exact))
