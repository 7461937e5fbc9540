use Rattle.std.specs.Prelude.{get_or, length}
use Rattle.std.proofs.Common.{◌≡◌, ◌∙◌, ◌≢◌, ℕ, suc, ◌-◌, ◌<◌, pos, ◌≤ℤ◌, FitsSigned, Some, ap, subst, sym, to_z, of_z, arith}
use mir.Syntax.{w64}
use Rattle.std.proofs.lemmas.Int.{ints, to_z-of_z}
use Rattle.pb_strap.specs.declared.strap.Point.{Point}
use Rattle.pb_strap.specs.Table.{volume_between, volume_of}
use Rattle.pb_strap.proofs.TableLemmas.{none_before, none_past, some_at, some_between, volumes_rise}
use Rattle.pb_strap.proofs.strap.volume_at.Goals as goal

abbrev origin : Point
origin = record { mm = pos 0; ml = pos 0 }

pub returns-then-place-points : goal.returns-then-place-points
returns-then-place-points c =
    sym (none_past c.args.points.now c.args.mm c.requires.rising
    (λ k d lt. let below = c.count_below-place.ensures.below k d (omega (arith, lt, c.if-place-points.true)) in omega (arith, ints, below)))

pub returns-then-above-mm : goal.returns-then-above-mm
returns-then-above-mm c =
    let points = c.args.points.now in
    let place = c.count_below-place.result in
    let within : place < length points = omega (arith, c.count_below-place.ensures.bound, c.if-place-points.false) in
    let p = c.requires.each place origin within in
    let same : (get_or points place origin).mm ≡ c.args.mm = omega (arith, ints, c.if-above-mm.true, p.level.0, p.level.1) in
    let exact : to_z w64 (of_z w64 (get_or points place origin).ml) ≡ (get_or points place origin).ml = omega (arith, ints, p.volume.0, p.volume.1) in
    ap Some exact ∙ sym (some_at points place origin c.args.mm c.requires.rising within same)

pub returns-then-place-eq0 : goal.returns-then-place-eq0
returns-then-place-eq0 c =
    let points = c.args.points.now in
    let place = c.count_below-place.result in
    let within : 0 < length points = omega (arith, c.count_below-place.ensures.bound, c.if-place-points.false, c.if-place-eq0.true) in
    let p = c.requires.each 0 origin within in
    let from = c.count_below-place.ensures.rest 0 origin (omega (arith, c.if-place-eq0.true)) within in
    let other : of_z w64 (get_or points 0 origin).mm ≢ of_z w64 c.args.mm = subst (λ (k : ℕ). of_z w64 (get_or points k origin).mm ≢ of_z w64 c.args.mm) c.if-place-eq0.true c.if-above-mm.false in
    sym (none_before points origin c.args.mm within (omega (arith, ints, from, other, p.level.0, p.level.1)))

pub between-requires-clause-rise : goal.between-requires-clause-rise
between-requires-clause-rise c =
    let points = c.args.points.now in
    let place = c.count_below-place.result in
    let next : suc (place - 1) ≡ place = omega (arith, c.if-place-eq0.false) in
    let within : suc (place - 1) < length points = omega (arith, next, c.count_below-place.ensures.bound, c.if-place-points.false) in
    subst (λ (k : ℕ). (get_or points (place - 1) origin).ml ≤ℤ (get_or points k origin).ml) next (volumes_rise points (place - 1) origin c.requires.rising within)

pub between-requires-clause-from : goal.between-requires-clause-from
between-requires-clause-from c = c.count_below-place.ensures.below (c.count_below-place.result - 1) origin (omega (arith, c.if-place-eq0.false))

pub between-requires-clause-to : goal.between-requires-clause-to
between-requires-clause-to c =
    let points = c.args.points.now in
    let place = c.count_below-place.result in
    let within : place < length points = omega (arith, c.count_below-place.ensures.bound, c.if-place-points.false) in
    let p = c.requires.each place origin within in
    let from = c.count_below-place.ensures.rest place origin (omega arith) within in
    omega (arith, ints, from, c.if-above-mm.false, p.level.0, p.level.1)

pub returns : goal.returns
returns c =
    let points = c.args.points.now in
    let place = c.count_below-place.result in
    let lower = get_or points (place - 1) origin in
    let upper = get_or points place origin in
    let next : suc (place - 1) ≡ place = omega (arith, c.if-place-eq0.false) in
    let within : suc (place - 1) < length points = omega (arith, next, c.count_below-place.ensures.bound, c.if-place-points.false) in
    let fits_mm : FitsSigned w64 c.args.mm = c.ranges.mm in
    let below = c.count_below-place.ensures.below (place - 1) origin (omega (arith, c.if-place-eq0.false)) in
    let rest = c.count_below-place.ensures.rest place origin (omega arith) (omega (arith, next, within)) in
    let value : volume_of points c.args.mm ≡ Some (volume_between lower upper c.args.mm) = subst (λ (k : ℕ). volume_of points c.args.mm ≡ Some (volume_between lower (get_or points k origin) c.args.mm)) next
    (some_between points (place - 1) origin c.args.mm c.requires.rising within (omega (arith, ints, below))
    (subst (λ (k : ℕ). c.args.mm ≤ℤ (get_or points k origin).mm) (sym next) (omega (arith, ints, rest)))) in
    let same = simp to_z-of_z at c.between.ensures in
    ap Some (to_z-of_z w64 c.between.result (record { sfits = c.between.type_inv }) ∙ same) ∙ sym value
