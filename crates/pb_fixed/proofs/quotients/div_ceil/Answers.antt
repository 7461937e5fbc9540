use Rattle.std.proofs.Common.{ℤ, pos, ◌+ℤ◌, unsigned_abs, ◌≤◌, ◌∙◌, ap, subst, sym, to_z, of_z, FitsSigned, arith, rules}
use mir.Syntax.{w128}
use Rattle.std.proofs.lemmas.Int.{ints, to_z-of_z}
use Rattle.pb_fixed.specs.Quotients.{IsCeiling}
use Rattle.pb_fixed.proofs.QuotientLaws.{ceiling_exact, ceiling_is, ceiling_more, ceiling_size}
use Rattle.pb_fixed.proofs.quotients.div_ceil.Goals as goal

pub returns-then-rem_euclid-eq0-clause-value : goal.returns-then-rem_euclid-eq0-clause-value
returns-then-rem_euclid-eq0-clause-value c =
    let fits_n : FitsSigned w128 c.args.n = c.ranges.n in
    let fits_d : FitsSigned w128 c.args.d = c.ranges.d in
    let floor = simp to_z-of_z at c.div_euclid-floor.ensures in
    let remainder = simp to_z-of_z at c.rem_euclid.ensures.value in
    to_z-of_z w128 c.div_euclid-floor.result (record { sfits = c.div_euclid-floor.type_inv })
    ∙ floor ∙ ceiling_exact c.args.n c.args.d c.rem_euclid.result c.requires remainder (omega (arith, ints, c.if-rem_euclid-eq0.true, c.rem_euclid.ensures.lower_bound))

pub returns-then-rem_euclid-eq0-clause-ceiling : goal.returns-then-rem_euclid-eq0-clause-ceiling
returns-then-rem_euclid-eq0-clause-ceiling c = subst (λ (q : ℤ). IsCeiling c.args.n c.args.d q) (sym (returns-then-rem_euclid-eq0-clause-value c)) (ceiling_is c.args.n c.args.d c.requires)

pub returns-else-rem_euclid-eq0-clause-value : goal.returns-else-rem_euclid-eq0-clause-value
returns-else-rem_euclid-eq0-clause-value c =
    let fits_n : FitsSigned w128 c.args.n = c.ranges.n in
    let fits_d : FitsSigned w128 c.args.d = c.ranges.d in
    let floor = simp to_z-of_z at c.div_euclid-floor.ensures in
    let remainder = simp to_z-of_z at c.rem_euclid.ensures.value in
    let fits_more : FitsSigned w128 (to_z w128 (of_z w128 c.div_euclid-floor.result) +ℤ pos 1) = search rules in
    to_z-of_z w128 (to_z w128 (of_z w128 c.div_euclid-floor.result) +ℤ pos 1) fits_more
    ∙ ap (λ (q : ℤ). q +ℤ pos 1) (to_z-of_z w128 c.div_euclid-floor.result (record { sfits = c.div_euclid-floor.type_inv }) ∙ floor)
    ∙ ceiling_more c.args.n c.args.d c.rem_euclid.result c.requires remainder (omega (arith, ints, c.if-rem_euclid-eq0.false, c.rem_euclid.ensures.lower_bound))

pub returns-else-rem_euclid-eq0-clause-ceiling : goal.returns-else-rem_euclid-eq0-clause-ceiling
returns-else-rem_euclid-eq0-clause-ceiling c = subst (λ (q : ℤ). IsCeiling c.args.n c.args.d q) (sym (returns-else-rem_euclid-eq0-clause-value c)) (ceiling_is c.args.n c.args.d c.requires)

pub returns-else-rem_euclid-eq0-clause-size : goal.returns-else-rem_euclid-eq0-clause-size
returns-else-rem_euclid-eq0-clause-size c = subst (λ (q : ℤ). unsigned_abs q ≤ unsigned_abs c.args.n) (sym (returns-else-rem_euclid-eq0-clause-value c)) (ceiling_size c.args.n c.args.d c.requires)
