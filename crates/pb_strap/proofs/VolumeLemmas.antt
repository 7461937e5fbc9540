-- The volumes of a table as it grows, and as the level rises.
use Rattle.std.specs.Prelude.{◌++◌, true, int_le, int_lt, is_some}
use Rattle.std.specs.Option.{option_map_or}
use Rattle.std.proofs.Common.{◌≡◌, ◌∙◌, ℕ, suc, ◌-◌, ℤ, ◌-ℤ◌, ◌*ℤ◌, ◌≤ℤ◌, ◌<ℤ◌, List, [], ◌∷◌, length, slice_get, Some, unwrap_or, refl, sym, ap, subst, arith}
use Rattle.std.proofs.lemmas.Bool.{and_parts}
use Rattle.std.proofs.lemmas.Int.{by_lt_z, ints}
use Rattle.pb_fixed.proofs.Order.{mul_mono_left}
use Rattle.pb_fixed.proofs.QuotientLaws.{floor_mono}
use Rattle.pb_strap.specs.declared.strap.Point.{Point}
use Rattle.pb_strap.specs.Table.{HigherLevelLaw, LongerTableLaw, TableGrowsLaw, is_above, rises, volume_between, volume_of}
use Rattle.pb_strap.proofs.TableLemmas.{at_lower, first_at, last-above, last-at, line_to, le_false, lt_false, lt_true, walk-below, walk-here, walk-on}

the_same : (a b : ℤ) → Some a ≡ Some b → a ≡ b
the_same a b e = ap (λ o. unwrap_or o a) e

-- a table of one point has the point's volume, and none at another level
one_point : (p : Point) (mm v : ℤ) → volume_of (p ∷ []) mm ≡ Some v → (mm ≡ p.mm) × (v ≡ p.ml)
one_point p mm v at = by_lt_z mm p.mm
    (λ below. absurd (cc (sym at ∙ walk-below p [] mm below)))
    (λ from. by_lt_z p.mm mm
    (λ above. absurd (cc (rw (lt_true p.mm mm above, lt_false mm p.mm from) at at)))
    (λ to. (omega (arith, ints, from, to), the_same v p.ml (sym at ∙ rw (lt_false p.mm mm to, lt_false mm p.mm from) refl))))

-- a level above the first two points
walk-past : (p q : Point) (rest : List Point) (mm : ℤ) → p.mm ≤ℤ mm → q.mm <ℤ mm → volume_of (p ∷ q ∷ rest) mm ≡ volume_of (q ∷ rest) mm
walk-past p q rest mm from above = rw (lt_false mm p.mm from) (rw (le_false mm q.mm above) refl)

-- what may follow a table may follow its rest
rises-rest : (p q : Point) (rest : List Point) (mm ml : ℤ) → rises (p ∷ q ∷ rest) mm ml ≡ true → rises (q ∷ rest) mm ml ≡ true
rises-rest p q rest mm ml above =
    let last : length (p ∷ q ∷ rest) - 1 ≡ suc (length (q ∷ rest) - 1) = omega arith in
    subst (λ (k : ℕ). option_map_or (is_above mm ml) (slice_get (p ∷ q ∷ rest) k) true ≡ true) last above

-- one more point keeps a volume
pub table_grows : TableGrowsLaw
table_grows [] mm ml level volume above at = cc at
table_grows (p ∷ []) mm ml level volume above at =
    let q : Point = record { mm = mm; ml = ml } in
    let here = one_point p level volume at in
    let less : p.mm <ℤ mm = (let both = and_parts (int_lt p.mm mm) (int_le p.ml ml) above in omega (arith, ints, both.0)) in
    ap (volume_of (p ∷ q ∷ [])) here.0 ∙ walk-here p q [] p.mm (omega (arith, ints)) (omega (arith, ints, less)) ∙ ap Some (at_lower p q less ∙ sym here.1)
table_grows (p ∷ q ∷ rest) mm ml level volume above at =
    let more : List Point = record { mm = mm; ml = ml } ∷ [] in
    by_lt_z level p.mm
    (λ below. absurd (cc (sym at ∙ walk-below p (q ∷ rest) level below)))
    (λ from. by_lt_z q.mm level
    (λ past. walk-past p q (rest ++ more) level from past
    ∙ table_grows (q ∷ rest) mm ml level volume (rises-rest p q rest mm ml above) (sym (walk-past p q rest level from past) ∙ at))
    (λ to. walk-here p q (rest ++ more) level from to ∙ sym (walk-here p q rest level from to) ∙ at))

-- what the first points give, the whole table gives
pub volumes_kept : LongerTableLaw
volumes_kept [] more mm rising some = cc some
volumes_kept (p ∷ []) more mm rising some = by_lt_z mm p.mm
    (λ below. walk-below p more mm below ∙ sym (walk-below p [] mm below))
    (λ from. by_lt_z p.mm mm
    (λ above. absurd (cc (some, last-above p mm above)))
    (λ to.
    let same : mm ≡ p.mm = omega (arith, ints, from, to) in
    ap (volume_of (p ∷ more)) same ∙ first_at p more rising ∙ sym (ap (volume_of (p ∷ [])) same ∙ last-at p)))
volumes_kept (p ∷ q ∷ rest) more mm rising some = by_lt_z mm p.mm
    (λ below. walk-below p (q ∷ rest ++ more) mm below ∙ sym (walk-below p (q ∷ rest) mm below))
    (λ from. by_lt_z q.mm mm
    (λ above.
    let here = walk-on p q rest mm rising.0 above in
    walk-on p q (rest ++ more) mm rising.0 above ∙ volumes_kept (q ∷ rest) more mm rising.2 (ap is_some (sym here) ∙ some) ∙ sym here)
    (λ to. walk-here p q (rest ++ more) mm from to ∙ sym (walk-here p q rest mm from to)))

-- on the line between two points a higher level holds no less
line_rises : (p q : Point) (low high : ℤ) → p.mm <ℤ q.mm → p.ml ≤ℤ q.ml → low ≤ℤ high → volume_between p q low ≤ℤ volume_between p q high
line_rises p q low high apart rise le =
    let more = mul_mono_left (low -ℤ p.mm) (high -ℤ p.mm) (q.ml -ℤ p.ml) (omega (arith, ints, le)) (omega (arith, ints, rise)) in
    let floors = floor_mono ((q.ml -ℤ p.ml) *ℤ (low -ℤ p.mm)) ((q.ml -ℤ p.ml) *ℤ (high -ℤ p.mm)) (q.mm -ℤ p.mm) (omega (arith, ints, apart)) more in
    omega (arith, ints, floors)

-- a higher level holds no less
pub higher_holds_no_less : HigherLevelLaw
higher_holds_no_less [] low high less more rising le at_low at_high = cc at_low
higher_holds_no_less (p ∷ []) low high less more rising le at_low at_high =
    let one = one_point p low less at_low in
    let other = one_point p high more at_high in
    omega (arith, ints, one.1, other.1)
higher_holds_no_less (p ∷ q ∷ rest) low high less more rising le at_low at_high = by_lt_z low p.mm
    (λ below. absurd (cc (sym at_low ∙ walk-below p (q ∷ rest) low below)))
    (λ from. by_lt_z q.mm high
    (λ above.
    let beyond : volume_of (q ∷ rest) high ≡ Some more = sym (walk-on p q rest high rising.0 above) ∙ at_high in
    by_lt_z q.mm low
    (λ past. higher_holds_no_less (q ∷ rest) low high less more rising.2 le (sym (walk-on p q rest low rising.0 past) ∙ at_low) beyond)
    (λ to.
    let on_line : less ≡ volume_between p q low = the_same less (volume_between p q low) (sym at_low ∙ walk-here p q rest low from to) in
    let up_to = line_to p q low rising.0 rising.1 to in
    let later = higher_holds_no_less (q ∷ rest) q.mm high q.ml more rising.2 (omega (arith, ints, above)) (first_at q rest rising.2) beyond in
    omega (arith, ints, on_line, up_to, later)))
    (λ to.
    let on_line : less ≡ volume_between p q low = the_same less (volume_between p q low) (sym at_low ∙ walk-here p q rest low from (omega (arith, ints, le, to))) in
    let higher : more ≡ volume_between p q high = the_same more (volume_between p q high) (sym at_high ∙ walk-here p q rest high (omega (arith, ints, from, le)) to) in
    let rise = line_rises p q low high rising.0 rising.1 le in
    omega (arith, ints, on_line, higher, rise)))
