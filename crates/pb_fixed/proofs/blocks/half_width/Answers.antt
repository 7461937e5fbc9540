use Rattle.std.proofs.Common.{◌≡◌, ◌∙◌, ℤ, pos, ◌-◌, ◌*◌, ◌%◌, ◌^◌, ◌*ℤ◌, ◌≤ℤ◌, ◌<ℤ◌, FitsSigned, to_z, of_z, subst, sym, rules, arith}
use mir.Syntax.{w128}
use Rattle.std.proofs.lemmas.Int.{fits_signed_mul, ints, to_z-of_z}
use Rattle.pb_fixed.specs.Quotients.{IsCeiling}
use Rattle.pb_fixed.proofs.BlockLaws.{half_width_narrow, half_width_nonneg, half_width_only, half_width_width, pow_mono}
use Rattle.pb_fixed.proofs.QuotientLaws.{ceiling_is}
use Rattle.pb_fixed.proofs.blocks.half_width.Goals as goal

pub returns-clause-value : goal.returns-clause-value
returns-clause-value c =
    let root = c.args.root in
    let g : to_z w128 (of_z w128 c.from.result) ≡ pos c.args.g = search rules in
    let fits_root : FitsSigned w128 root = c.ranges.root in
    let fits_product : FitsSigned w128 (root *ℤ pos c.args.g) = fits_signed_mul w128 root (pos c.args.g) (2 ^ 63) (2 ^ 63) (omega (arith, ints, c.requires.root_from, c.requires.root_to)) c.requires.most_g (omega arith) in
    let small = pow_mono (40 - c.args.h) 40 (omega arith) in
    let divisor : to_z w128 ((1 * 2 ^ (40 - c.args.h)) % 2 ^ 128) ≡ pos (2 ^ (40 - c.args.h)) = omega (arith, ints, small) in
    let product : to_z w128 (of_z w128 (to_z w128 (of_z w128 root) *ℤ to_z w128 (of_z w128 c.from.result))) ≡ root *ℤ pos c.args.g = rw g (simp to_z-of_z) in
    let ceiling = subst (λ (n : ℤ). IsCeiling n (pos (2 ^ (40 - c.args.h))) c.div_ceil.result) product
    (subst (λ (d : ℤ). IsCeiling (to_z w128 (of_z w128 (to_z w128 (of_z w128 root) *ℤ to_z w128 (of_z w128 c.from.result)))) d c.div_ceil.result) divisor c.div_ceil.ensures.ceiling) in
    to_z-of_z w128 c.div_ceil.result (record { sfits = c.div_ceil.type_inv }) ∙ half_width_only root c.args.g c.args.h c.div_ceil.result (omega arith) ceiling

pub returns-clause-ceiling : goal.returns-clause-ceiling
returns-clause-ceiling c =
    subst (λ (q : ℤ). IsCeiling (c.args.root *ℤ pos (c.args.g * 2 ^ c.args.h)) (pos (2 ^ 40)) q) (sym (returns-clause-value c))
    (ceiling_is (c.args.root *ℤ pos (c.args.g * 2 ^ c.args.h)) (pos (2 ^ 40)) (omega (arith, ints)))

pub returns-clause-nonneg : goal.returns-clause-nonneg
returns-clause-nonneg c = subst (λ (q : ℤ). pos 0 ≤ℤ q) (sym (returns-clause-value c)) (half_width_nonneg c.args.root c.args.g c.args.h c.requires.root_from)

pub returns-clause-width : goal.returns-clause-width
returns-clause-width c =
    subst (λ (q : ℤ). q ≤ℤ pos (2 ^ 118)) (sym (returns-clause-value c))
    (half_width_width c.args.root c.args.g c.args.h c.requires.root_from c.requires.root_to c.requires.most_g c.requires.most_h)

pub returns-clause-narrow : goal.returns-clause-narrow
returns-clause-narrow c less =
    subst (λ (q : ℤ). q <ℤ pos (2 ^ 118)) (sym (returns-clause-value c))
    (half_width_narrow c.args.root c.args.g c.args.h c.requires.root_from c.requires.root_to less c.requires.most_h)
