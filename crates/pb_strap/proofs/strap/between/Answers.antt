use Rattle.std.specs.Int.{int_div_euclid}
use Rattle.std.proofs.Common.{◌≡◌, ℤ, ◌-ℤ◌, ◌*ℤ◌, ◌<ℤ◌, FitsSigned, to_z, of_z, arith}
use mir.Syntax.{w64}
use Rattle.std.proofs.lemmas.Int.{ints, to_z-of_z}
use Rattle.pb_fixed.specs.Quotients.{floor_div}
use Rattle.pb_strap.specs.declared.strap.Point.{Point}
use Rattle.pb_strap.specs.Kept.{IsPoint}
use Rattle.pb_strap.proofs.TableLemmas.{line_from, line_to, rise_fits}
use Rattle.pb_strap.proofs.strap.between.Goals as goal

-- a number that went to bits and back
abbrev back : ℤ → ℤ
back z = to_z w64 (of_z w64 z)

quotient : (p q : Point) (mm n : ℤ) → IsPoint p → IsPoint q → p.mm <ℤ mm → mm <ℤ q.mm
    → n ≡ int_div_euclid (back (back (back q.ml -ℤ back p.ml) *ℤ back (back mm -ℤ back p.mm))) (back (back q.mm -ℤ back p.mm))
    → n ≡ floor_div ((q.ml -ℤ p.ml) *ℤ (mm -ℤ p.mm)) (q.mm -ℤ p.mm)
quotient p q mm n hp hq from to is =
    let p_ml : FitsSigned w64 p.ml = omega (arith, ints, hp.volume.0, hp.volume.1) in
    let q_ml : FitsSigned w64 q.ml = omega (arith, ints, hq.volume.0, hq.volume.1) in
    let p_mm : FitsSigned w64 p.mm = omega (arith, ints, hp.level.0, hp.level.1) in
    let q_mm : FitsSigned w64 q.mm = omega (arith, ints, hq.level.0, hq.level.1) in
    let at_mm : FitsSigned w64 mm = omega (arith, ints, hp.level.0, hq.level.1, from, to) in
    let rise : FitsSigned w64 (q.ml -ℤ p.ml) = omega (arith, ints, hp.volume.0, hp.volume.1, hq.volume.0, hq.volume.1) in
    let run : FitsSigned w64 (mm -ℤ p.mm) = omega (arith, ints, hp.level.0, hq.level.1, from, to) in
    let whole : FitsSigned w64 (q.mm -ℤ p.mm) = omega (arith, ints, hp.level.0, hp.level.1, hq.level.0, hq.level.1) in
    let product : FitsSigned w64 ((q.ml -ℤ p.ml) *ℤ (mm -ℤ p.mm)) = rise_fits (q.ml -ℤ p.ml) (mm -ℤ p.mm)
    (omega (arith, ints, hp.volume.0, hp.volume.1, hq.volume.0, hq.volume.1)) (omega (arith, ints, hp.level.0, hq.level.1, from, to)) in
    simp to_z-of_z at is

pub overflow_mul-rise : goal.overflow_mul-rise
overflow_mul-rise c =
    let p = c.requires.lower in
    let q = c.requires.upper in
    rise_fits (back (back c.args.upper.ml -ℤ back c.args.lower.ml)) (back (back c.args.mm -ℤ back c.args.lower.mm))
    (omega (arith, ints, p.volume.0, p.volume.1, q.volume.0, q.volume.1))
    (omega (arith, ints, p.level.0, p.level.1, q.level.0, q.level.1, c.requires.from, c.requires.to))

pub overflow_add-result : goal.overflow_add-result
overflow_add-result c =
    let p = c.requires.lower in
    let q = c.requires.upper in
    let value = quotient c.args.lower c.args.upper c.args.mm c.div_euclid.result p q c.requires.from c.requires.to c.div_euclid.ensures in
    let less : c.args.lower.mm <ℤ c.args.upper.mm = omega (arith, ints, c.requires.from, c.requires.to) in
    let low = line_from c.args.lower c.args.upper c.args.mm less c.requires.rise (omega (arith, ints, c.requires.from)) in
    let high = line_to c.args.lower c.args.upper c.args.mm less c.requires.rise (omega (arith, ints, c.requires.to)) in
    omega (arith, ints, value, low, high, p.volume.0, p.volume.1, q.volume.0, q.volume.1)

pub returns : goal.returns
returns c =
    let p = c.requires.lower in
    let q = c.requires.upper in
    let value = quotient c.args.lower c.args.upper c.args.mm c.div_euclid.result p q c.requires.from c.requires.to c.div_euclid.ensures in
    let less : c.args.lower.mm <ℤ c.args.upper.mm = omega (arith, ints, c.requires.from, c.requires.to) in
    let low = line_from c.args.lower c.args.upper c.args.mm less c.requires.rise (omega (arith, ints, c.requires.from)) in
    let high = line_to c.args.lower c.args.upper c.args.mm less c.requires.rise (omega (arith, ints, c.requires.to)) in
    omega (arith, ints, value, low, high, p.volume.0, p.volume.1, q.volume.0, q.volume.1)

pub div_euclid-requires-clause-no_overflow : goal.div_euclid-requires-clause-no_overflow
div_euclid-requires-clause-no_overflow c minus_one least =
    absurd (omega (arith, ints, minus_one, c.requires.lower.level.0, c.requires.lower.level.1, c.requires.upper.level.0, c.requires.upper.level.1, c.requires.from, c.requires.to))
