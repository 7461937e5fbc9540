use Rattle.std.proofs.Common.{ℤ, pos, ◌+ℤ◌, ◌*ℤ◌, unsigned_abs, ◌≤◌, ◌∙◌, subst, sym, FitsSigned, arith}
use mir.Syntax.{w128}
use Rattle.std.proofs.lemmas.Int.{ints, to_z-of_z}
use Rattle.pb_fixed.specs.Quotients.{IsNearest}
use Rattle.pb_fixed.proofs.QuotientLaws.{nearest_is, nearest_size}
use Rattle.pb_fixed.proofs.quotients.div_nearest.Goals as goal

pub returns-clause-value : goal.returns-clause-value
returns-clause-value c =
    let fits_n : FitsSigned w128 c.args.n = c.ranges.n in
    let fits_d : FitsSigned w128 c.args.d = c.ranges.d in
    let fits_double : FitsSigned w128 (pos 2 *ℤ c.args.n) = omega (arith, ints, c.requires.dividend) in
    let fits_sum : FitsSigned w128 ((pos 2 *ℤ c.args.n) +ℤ c.args.d) = omega (arith, ints, c.requires.dividend, c.requires.positive, c.requires.divisor) in
    let fits_divisor : FitsSigned w128 (pos 2 *ℤ c.args.d) = omega (arith, ints, c.requires.positive, c.requires.divisor) in
    let value = simp to_z-of_z at c.div_euclid.ensures in
    to_z-of_z w128 c.div_euclid.result (record { sfits = c.div_euclid.type_inv }) ∙ value

pub returns-clause-nearest : goal.returns-clause-nearest
returns-clause-nearest c = subst (λ (q : ℤ). IsNearest c.args.n c.args.d q) (sym (returns-clause-value c)) (nearest_is c.args.n c.args.d c.requires.positive)

pub returns-clause-size : goal.returns-clause-size
returns-clause-size c = subst (λ (q : ℤ). unsigned_abs q ≤ unsigned_abs c.args.n) (sym (returns-clause-value c)) (nearest_size c.args.n c.args.d c.requires.positive)
