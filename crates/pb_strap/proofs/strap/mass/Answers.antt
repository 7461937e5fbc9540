use Rattle.std.proofs.Common.{◌≡◌, ◌∙◌, ℤ, pos, ◌^◌, ◌*ℤ◌, ◌≤ℤ◌, FitsSigned, subst, ap₂, sym, to_z, of_z, arith}
use mir.Syntax.{w64, w128}
use Rattle.std.proofs.lemmas.Int.{fits_signed_mul, ints, to_z-of_z}
use Rattle.pb_limits.specs.Limits.{most_density, most_volume}
use Rattle.pb_limits.specs.Ranges.{IsDensity, IsVolume}
use Rattle.pb_strap.specs.Table.{most_content}
use Rattle.pb_fixed.specs.Quotients.{floor_div}
use Rattle.pb_strap.proofs.TableLemmas.{mass_from, mass_to}
use Rattle.pb_strap.proofs.strap.mass.Goals as goal

-- a number that went to bits and back
abbrev back : ℤ → ℤ
back z = to_z w128 (of_z w128 z)

quotient : (ml density m d n : ℤ) → IsVolume ml → IsDensity density → m ≡ to_z w64 (of_z w64 ml) → d ≡ to_z w64 (of_z w64 density)
    → n ≡ floor_div (back (back m *ℤ back d)) (pos (10 ^ 6)) → n ≡ floor_div (ml *ℤ density) (pos (10 ^ 6))
quotient ml density m d n volume dense m_is d_is is =
    let m_same : m ≡ ml = omega (arith, ints, m_is, volume.0, volume.1) in
    let d_same : d ≡ density = omega (arith, ints, d_is, dense.0, dense.1) in
    let fits_m : FitsSigned w128 m = omega (arith, ints, m_same, volume.0, volume.1) in
    let fits_d : FitsSigned w128 d = omega (arith, ints, d_same, dense.0, dense.1) in
    let product : FitsSigned w128 (m *ℤ d) = fits_signed_mul w128 m d most_volume most_density (omega (arith, ints, m_same, volume.0, volume.1)) (omega (arith, ints, d_same, dense.0, dense.1)) (omega arith) in
    let value = simp to_z-of_z at is in
    value ∙ ap₂ (λ (x y : ℤ). floor_div (x *ℤ y) (pos (10 ^ 6))) m_same d_same

pub overflow_cast-result : goal.overflow_cast-result
overflow_cast-result c =
    let value = quotient c.args.ml c.args.density c.from.result c.from-2.result c.div_floor.result c.requires.volume c.requires.density c.from.ensures c.from-2.ensures c.div_floor.ensures.value in
    let low = mass_from c.args.ml c.args.density c.requires.volume.0 (omega (arith, ints, c.requires.density.0)) in
    let high = mass_to c.args.ml c.args.density c.requires.volume.1 c.requires.density.1 (omega (arith, ints, c.requires.density.0)) in
    omega (arith, ints, value, low, high)

pub returns-clause-value : goal.returns-clause-value
returns-clause-value c =
    let value = quotient c.args.ml c.args.density c.from.result c.from-2.result c.div_floor.result c.requires.volume c.requires.density c.from.ensures c.from-2.ensures c.div_floor.ensures.value in
    let low = mass_from c.args.ml c.args.density c.requires.volume.0 (omega (arith, ints, c.requires.density.0)) in
    let high = mass_to c.args.ml c.args.density c.requires.volume.1 c.requires.density.1 (omega (arith, ints, c.requires.density.0)) in
    omega (arith, ints, value, low, high)

pub returns-clause-from : goal.returns-clause-from
returns-clause-from c = subst (λ (g : ℤ). pos 0 ≤ℤ g) (sym (returns-clause-value c)) (mass_from c.args.ml c.args.density c.requires.volume.0 (omega (arith, ints, c.requires.density.0)))

pub returns-clause-within : goal.returns-clause-within
returns-clause-within c =
    subst (λ (g : ℤ). g ≤ℤ pos most_content) (sym (returns-clause-value c))
    (mass_to c.args.ml c.args.density c.requires.volume.1 c.requires.density.1 (omega (arith, ints, c.requires.density.0)))
