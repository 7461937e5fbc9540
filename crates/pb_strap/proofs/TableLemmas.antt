-- The volume at a level, by the place of its neighbours.
use Rattle.std.specs.Prelude.{is_some, IfSome, FitsSigned, ⊤, ◌++◌, get_or, true, false, ◌||◌, int_lt, int_le, slice_get, IsSomeAnd, MatchOption}
use Rattle.std.specs.List.{AllByRecursion}
use Rattle.std.specs.List.Sorted.{IsPartitionedBy}
use Rattle.pb_fixed.proofs.Lists.{AllByRecursion-from_all}
use Rattle.std.proofs.Common.{◌≡◌, ◌∙◌, ℕ, zero, suc, ◌+◌, ◌-◌, ◌<◌, ◌≤◌, ◌^◌, ℤ, pos, ◌+ℤ◌, ◌-ℤ◌, ◌*ℤ◌, ◌≤ℤ◌, ◌<ℤ◌, unsigned_abs, List, [], ◌∷◌, length, Option, Some, None, refl, sym, ap, subst, inl, inr, arith}
use mir.Syntax.{w64}
use Rattle.std.proofs.lemmas.Bool.{and_parts, cases_Bool}
use Rattle.std.proofs.lemmas.Option.{slice_get-get_or}
use Rattle.std.proofs.lemmas.List.Elements.{All-push}
use Rattle.std.proofs.Common.{length-append}
use Rattle.std.specs.Option.{option_map_or}
use Rattle.std.proofs.lemmas.Int.{by_lt_z, fits_signed_mul, ints}
use Rattle.pb_fixed.proofs.Order.{mul_mono_both, mul_mono_left, mul_nonneg}
use Rattle.pb_fixed.proofs.Ring.{var, lit, plus, times, minus, ring}
use Rattle.pb_fixed.specs.Quotients.{IsFloor, floor_div}
use Rattle.pb_fixed.proofs.QuotientLaws.{floor_from, floor_is, floor_multiple, floor_shift, floor_to}
use Rattle.pb_strap.specs.declared.strap.Point.{Point}
use Rattle.pb_limits.specs.Limits.{most_density, most_level, most_points, most_volume}
use Rattle.pb_limits.specs.Ranges.{IsVolume}
use Rattle.pb_strap.specs.Table.{IsExactAtPoints, IsLinear, IsOnLine, IsOutside, IsRising, is_above, most_content, rises, volume_between, volume_of}
use Rattle.pb_strap.specs.Kept.{IsPoint, IsTable}

pub lt_true : (a b : ℤ) → a <ℤ b → int_lt a b ≡ true
lt_true a b h = grind (arith, ints)

pub lt_false : (a b : ℤ) → b ≤ℤ a → int_lt a b ≡ false
lt_false a b h = grind (arith, ints)

le_true : (a b : ℤ) → a ≤ℤ b → int_le a b ≡ true
le_true a b h = grind (arith, ints)

pub le_false : (a b : ℤ) → b <ℤ a → int_le a b ≡ false
le_false a b h = grind (arith, ints)

some_same : (p q : Point) → Some p ≡ Some q → p ≡ q
some_same p q e = cc e

-- ---- the line through two points
pub at_lower : (p q : Point) → p.mm <ℤ q.mm → volume_between p q p.mm ≡ p.ml
at_lower p q less =
    let d = q.mm -ℤ p.mm in
    let d_pos : pos 0 <ℤ d = omega (arith, ints, less) in
    let none : (q.ml -ℤ p.ml) *ℤ (p.mm -ℤ p.mm) ≡ pos 0 *ℤ d =
    ring (q.ml ∷ p.ml ∷ p.mm ∷ q.mm ∷ []) (times (plus (var 0) (minus (var 1))) (plus (var 2) (minus (var 2)))) (times (lit (pos 0)) (plus (var 3) (minus (var 2)))) refl in
    let e = ap (λ (x : ℤ). floor_div x d) none ∙ floor_multiple (pos 0) d d_pos in
    omega (arith, ints, e)

at_upper : (p q : Point) → p.mm <ℤ q.mm → volume_between p q q.mm ≡ q.ml
at_upper p q less =
    let d = q.mm -ℤ p.mm in
    let e = floor_multiple (q.ml -ℤ p.ml) d (omega (arith, ints, less)) in
    omega (arith, ints, e)

pub on_line : (p q : Point) (mm : ℤ) → p.mm <ℤ q.mm → IsOnLine p q mm (volume_between p q mm)
on_line p q mm less =
    let d = q.mm -ℤ p.mm in
    let d_pos : pos 0 <ℤ d = omega (arith, ints, less) in
    let rise = (q.ml -ℤ p.ml) *ℤ (mm -ℤ p.mm) in
    let mean = (p.ml *ℤ (q.mm -ℤ mm)) +ℤ (q.ml *ℤ (mm -ℤ p.mm)) in
    let vs : List ℤ = p.mm ∷ p.ml ∷ q.mm ∷ q.ml ∷ mm ∷ [] in
    let split : rise +ℤ (p.ml *ℤ d) ≡ mean =
    ring vs (plus (times (plus (var 3) (minus (var 1))) (plus (var 4) (minus (var 0)))) (times (var 1) (plus (var 2) (minus (var 0)))))
    (plus (times (var 1) (plus (var 2) (minus (var 4)))) (times (var 3) (plus (var 4) (minus (var 0))))) refl in
    let shift = floor_shift p.ml rise d d_pos in
    let same : volume_between p q mm ≡ floor_div mean d = (let swap : volume_between p q mm ≡ floor_div rise d +ℤ p.ml = omega (arith, ints) in swap) ∙ sym shift ∙ ap (λ (x : ℤ). floor_div x d) split in
    subst (λ (v : ℤ). IsFloor mean d v) (sym same) (floor_is mean d d_pos)

-- ---- levels in order
pub rising-rest : (p : Point) (rest : List Point) → IsRising (p ∷ rest) → IsRising rest
rising-rest p [] h = tt
rising-rest p (q ∷ rest) h = h.2

pub rising-first : (p : Point) (rest : List Point) (i : ℕ) (q : Point) → IsRising (p ∷ rest) → slice_get rest i ≡ Some q → p.mm <ℤ q.mm
rising-first p [] i q h e = cc e
rising-first p (r ∷ rest) zero q h e = let less = h.0 in subst (λ (x : Point). p.mm <ℤ x.mm) (some_same r q e) less
rising-first p (r ∷ rest) (suc i) q h e =
    let first = h.0 in
    let later = rising-first r rest i q h.2 e in
    omega (arith, ints, first, later)

pub from_first : (p : Point) (rest : List Point) (i : ℕ) (q : Point) → IsRising (p ∷ rest) → slice_get (p ∷ rest) i ≡ Some q → p.mm ≤ℤ q.mm
from_first p rest zero q h e = subst (λ (x : Point). p.mm ≤ℤ x.mm) (some_same p q e) (omega (arith, ints))
from_first p rest (suc i) q h e = let less = rising-first p rest i q h e in omega (arith, ints, less)

neighbours_rise : (points : List Point) (i : ℕ) (p q : Point) → IsRising points → slice_get points i ≡ Some p → slice_get points (suc i) ≡ Some q → p.mm <ℤ q.mm
neighbours_rise [] i p q h e f = cc e
neighbours_rise (r ∷ rest) zero p q h e f = subst (λ (x : Point). x.mm <ℤ q.mm) (some_same r p e) (rising-first r rest 0 q h f)
neighbours_rise (r ∷ rest) (suc i) p q h e f = neighbours_rise rest i p q (rising-rest r rest h) e f

-- ---- one step of the walk
pub walk-below : (p : Point) (rest : List Point) (mm : ℤ) → mm <ℤ p.mm → volume_of (p ∷ rest) mm ≡ None
walk-below p [] mm h = rw (lt_true mm p.mm h) refl
walk-below p (q ∷ rest) mm h = rw (lt_true mm p.mm h) refl

pub walk-here : (p q : Point) (rest : List Point) (mm : ℤ) → p.mm ≤ℤ mm → mm ≤ℤ q.mm → volume_of (p ∷ q ∷ rest) mm ≡ Some (volume_between p q mm)
walk-here p q rest mm from to = rw (lt_false mm p.mm from) (rw (le_true mm q.mm to) refl)

pub walk-on : (p q : Point) (rest : List Point) (mm : ℤ) → p.mm <ℤ q.mm → q.mm <ℤ mm → volume_of (p ∷ q ∷ rest) mm ≡ volume_of (q ∷ rest) mm
walk-on p q rest mm less above = rw (lt_false mm p.mm (omega (arith, ints, less, above))) (rw (le_false mm q.mm above) refl)

pub last-at : (p : Point) → volume_of (p ∷ []) p.mm ≡ Some p.ml
last-at p = rw (lt_false p.mm p.mm (omega (arith, ints))) refl

pub last-above : (p : Point) (mm : ℤ) → p.mm <ℤ mm → volume_of (p ∷ []) mm ≡ None
last-above p mm h = rw (lt_false mm p.mm (omega (arith, ints, h))) (rw (lt_true p.mm mm h) refl)

-- ---- at the first point, at any point, between neighbours
pub first_at : (p : Point) (rest : List Point) → IsRising (p ∷ rest) → volume_of (p ∷ rest) p.mm ≡ Some p.ml
first_at p [] h = last-at p
first_at p (q ∷ rest) h =
    let less = h.0 in
    walk-here p q rest p.mm (omega (arith, ints)) (omega (arith, ints, less)) ∙ ap Some (at_lower p q less)

-- at the first point of the rest the line through the point before it gives the same
second_at : (p q : Point) (rest : List Point) → IsRising (p ∷ q ∷ rest) → volume_of (p ∷ q ∷ rest) q.mm ≡ Some q.ml
second_at p q rest h =
    let less = h.0 in
    walk-here p q rest q.mm (omega (arith, ints, less)) (omega (arith, ints)) ∙ ap Some (at_upper p q less)

-- from the first point of the rest on, the point before it plays no part
skip : (p q : Point) (rest : List Point) (mm : ℤ) → IsRising (p ∷ q ∷ rest) → q.mm ≤ℤ mm → volume_of (p ∷ q ∷ rest) mm ≡ volume_of (q ∷ rest) mm
skip p q rest mm h from = by_lt_z q.mm mm
    (λ above. walk-on p q rest mm h.0 above)
    (λ to.
    let same : mm ≡ q.mm = omega (arith, ints, from, to) in
    ap (volume_of (p ∷ q ∷ rest)) same ∙ second_at p q rest h ∙ sym (first_at q rest h.2) ∙ ap (volume_of (q ∷ rest)) (sym same))

pub volume_of-at_point : (points : List Point) (i : ℕ) (p : Point) → IsRising points → slice_get points i ≡ Some p → volume_of points p.mm ≡ Some p.ml
volume_of-at_point [] i p h e = cc e
volume_of-at_point (r ∷ rest) zero p h e = subst (λ (x : Point). volume_of (r ∷ rest) x.mm ≡ Some x.ml) (some_same r p e) (first_at r rest h)
volume_of-at_point (r ∷ []) (suc i) p h e = cc e
volume_of-at_point (r ∷ q ∷ rest) (suc i) p h e =
    skip r q rest p.mm h (from_first q rest i p h.2 e) ∙ volume_of-at_point (q ∷ rest) i p h.2 e

pub volume_of-neighbours : (points : List Point) (i : ℕ) (p q : Point) (mm : ℤ) → IsRising points → slice_get points i ≡ Some p → slice_get points (suc i) ≡ Some q
    → p.mm ≤ℤ mm → mm ≤ℤ q.mm → volume_of points mm ≡ Some (volume_between p q mm)
volume_of-neighbours [] i p q mm h e f from to = cc e
volume_of-neighbours (r ∷ []) zero p q mm h e f from to = cc f
volume_of-neighbours (r ∷ s ∷ rest) zero p q mm h e f from to =
    let first = some_same r p e in
    let second = some_same s q f in
    subst (λ (x : Point). volume_of (r ∷ s ∷ rest) mm ≡ Some (volume_between x q mm)) first
    (subst (λ (x : Point). volume_of (r ∷ s ∷ rest) mm ≡ Some (volume_between r x mm)) second
    (walk-here r s rest mm (subst (λ (x : Point). x.mm ≤ℤ mm) (sym first) from) (subst (λ (x : Point). mm ≤ℤ x.mm) (sym second) to)))
volume_of-neighbours (r ∷ []) (suc i) p q mm h e f from to = cc e
volume_of-neighbours (r ∷ s ∷ rest) (suc i) p q mm h e f from to =
    let start = from_first s rest i p h.2 e in
    skip r s rest mm h (omega (arith, ints, start, from)) ∙ volume_of-neighbours (s ∷ rest) i p q mm h.2 e f from to

-- ---- outside the table
pub volume_of-below : (points : List Point) (p : Point) (mm : ℤ) → slice_get points 0 ≡ Some p → mm <ℤ p.mm → volume_of points mm ≡ None
volume_of-below [] p mm e h = refl
volume_of-below (r ∷ rest) p mm e h = walk-below r rest mm (subst (λ (x : Point). mm <ℤ x.mm) (sym (some_same r p e)) h)

pub volume_of-above : (points : List Point) (j : ℕ) (p : Point) (mm : ℤ) → IsRising points → length points ≤ j + 1 → slice_get points j ≡ Some p → p.mm <ℤ mm
    → volume_of points mm ≡ None
volume_of-above [] j p mm h last e less = refl
volume_of-above (r ∷ []) zero p mm h last e less = last-above r mm (subst (λ (x : Point). x.mm <ℤ mm) (sym (some_same r p e)) less)
volume_of-above (r ∷ []) (suc j) p mm h last e less = cc e
volume_of-above (r ∷ q ∷ rest) zero p mm h last e less = absurd (omega (arith, last))
volume_of-above (r ∷ q ∷ rest) (suc j) p mm h last e less =
    let start = from_first q rest j p h.2 e in
    walk-on r q rest mm h.0 (omega (arith, ints, start, less)) ∙ volume_of-above (q ∷ rest) j p mm h.2 (omega (arith, last)) e less

-- ---- inside the table
is_some-from : {A : Type 0} (o : Option A) (x : A) → o ≡ Some x → is_some o ≡ true
is_some-from o x e = ap is_some e

pub volume_of-inside : (points : List Point) (j : ℕ) (p q : Point) (mm : ℤ) → IsRising points → slice_get points 0 ≡ Some p → slice_get points j ≡ Some q → p.mm ≤ℤ mm → mm ≤ℤ q.mm
    → is_some (volume_of points mm) ≡ true
volume_of-inside [] j p q mm h e f from to = cc e
volume_of-inside (r ∷ []) zero p q mm h e f from to =
    let low = subst (λ (x : Point). x.mm ≤ℤ mm) (sym (some_same r p e)) from in
    let high = subst (λ (x : Point). mm ≤ℤ x.mm) (sym (some_same r q f)) to in
    let same : mm ≡ r.mm = omega (arith, ints, low, high) in
    is_some-from _ r.ml (ap (volume_of (r ∷ [])) same ∙ last-at r)
volume_of-inside (r ∷ []) (suc j) p q mm h e f from to = cc f
volume_of-inside (r ∷ s ∷ rest) zero p q mm h e f from to =
    let low = subst (λ (x : Point). x.mm ≤ℤ mm) (sym (some_same r p e)) from in
    let high = subst (λ (x : Point). mm ≤ℤ x.mm) (sym (some_same r q f)) to in
    let less = h.0 in
    is_some-from _ (volume_between r s mm) (walk-here r s rest mm low (omega (arith, ints, high, less)))
volume_of-inside (r ∷ s ∷ rest) (suc j) p q mm h e f from to =
    let low = subst (λ (x : Point). x.mm ≤ℤ mm) (sym (some_same r p e)) from in
    by_lt_z s.mm mm
    (λ above. ap is_some (walk-on r s rest mm h.0 above) ∙ volume_of-inside (s ∷ rest) j s q mm h.2 refl f (omega (arith, ints, above)) to)
    (λ upto. is_some-from _ (volume_between r s mm) (walk-here r s rest mm low upto))

-- ---- what the volume at a level means
pub is_linear : (points : List Point) (mm : ℤ) → IsRising points → IsLinear points mm (volume_of points mm)
is_linear points mm h p q near from to =
    let next : near.0 + 1 ≡ suc near.0 = omega arith in
    let second = subst (λ (k : ℕ). slice_get points k ≡ Some q) next near.2 in
    let less = neighbours_rise points near.0 p q h near.1 second in
    subst (λ (o : Option ℤ). IsSomeAnd o (IsOnLine p q mm)) (sym (volume_of-neighbours points near.0 p q mm h near.1 second from to)) (on_line p q mm less)

pub is_exact_at_points : (points : List Point) (mm : ℤ) → IsRising points → IsExactAtPoints points mm (volume_of points mm)
is_exact_at_points points mm h p there same =
    ap (volume_of points) (sym same) ∙ volume_of-at_point points there.0 p h (slice_get-get_or points there.0 p there.1 ∙ ap Some there.2)

outside_below : (points : List Point) (mm : ℤ) → MatchOption (slice_get points 0) ⊤ (λ p. mm <ℤ p.mm) → volume_of points mm ≡ None
outside_below [] mm below = refl
outside_below (r ∷ rest) mm below = walk-below r rest mm below

outside_above : (points : List Point) (mm : ℤ) → IsRising points → MatchOption (slice_get points (length points - 1)) ⊤ (λ q. q.mm <ℤ mm) → volume_of points mm ≡ None
outside_above [] mm h above = refl
outside_above (r ∷ rest) mm h above =
    let last = length (r ∷ rest) - 1 in
    let within : last < length (r ∷ rest) = omega arith in
    let e = slice_get-get_or (r ∷ rest) last r within in
    volume_of-above (r ∷ rest) last (get_or (r ∷ rest) last r) mm h (omega arith) e (subst (λ (o : Option Point). MatchOption o ⊤ (λ q. q.mm <ℤ mm)) e above)

pub outside-none : (points : List Point) (mm : ℤ) → IsRising points → IsOutside points mm → is_some (volume_of points mm) ≡ false
outside-none points mm h (inl below) = ap is_some (outside_below points mm below)
outside-none points mm h (inr above) = ap is_some (outside_above points mm h above)

pub none-outside : (points : List Point) (mm : ℤ) → IsRising points → is_some (volume_of points mm) ≡ false → IsOutside points mm
none-outside [] mm h none = inl tt
none-outside (r ∷ rest) mm h none =
    let last = length (r ∷ rest) - 1 in
    let within : last < length (r ∷ rest) = omega arith in
    let q = get_or (r ∷ rest) last r in
    let e : slice_get (r ∷ rest) last ≡ Some q = slice_get-get_or (r ∷ rest) last r within in
    by_lt_z mm r.mm
    (λ below. inl below)
    (λ from. by_lt_z q.mm mm
    (λ above. inr (subst (λ (o : Option Point). MatchOption o ⊤ (λ x. x.mm <ℤ mm)) (sym e) above))
    (λ to. let some = volume_of-inside (r ∷ rest) last r q mm h refl e from to in absurd (cc (some, none))))

-- ---- one more point
rising-push : (points : List Point) (p : Point) → IsRising points → rises points p.mm p.ml ≡ true → IsRising (points ++ p ∷ [])
rising-push [] p h above = tt
rising-push (r ∷ []) p h above =
    let both = and_parts (int_lt r.mm p.mm) (int_le r.ml p.ml) above in
    (omega (arith, ints, both.0), omega (arith, ints, both.1), tt)
rising-push (r ∷ q ∷ rest) p h above =
    let last : length (r ∷ q ∷ rest) - 1 ≡ suc (length (q ∷ rest) - 1) = omega arith in
    let same = subst (λ (k : ℕ). option_map_or (is_above p.mm p.ml) (slice_get (r ∷ q ∷ rest) k) true ≡ true) last above in
    (h.0, h.1, rising-push (q ∷ rest) p h.2 same)

pub table-push : (points : List Point) (p : Point) → IsTable points → IsPoint p → length points < most_points → rises points p.mm p.ml ≡ true → IsTable (points ++ p ∷ [])
table-push points p t fits few above = record {
  few = let e = length-append points (p ∷ []) in omega (arith, e, few);
  each = All-push IsPoint points p t.each fits;
  rising = rising-push points p t.rising above;
}

-- ---- the volumes of a table are in range
pub line_from : (p q : Point) (mm : ℤ) → p.mm <ℤ q.mm → p.ml ≤ℤ q.ml → p.mm ≤ℤ mm → p.ml ≤ℤ volume_between p q mm
line_from p q mm less rise from =
    let n = (q.ml -ℤ p.ml) *ℤ (mm -ℤ p.mm) in
    let n_pos = mul_nonneg (q.ml -ℤ p.ml) (mm -ℤ p.mm) (omega (arith, ints, rise)) (omega (arith, ints, from)) in
    let h = floor_from (pos 0) n (q.mm -ℤ p.mm) (omega (arith, ints, less)) (omega (arith, ints, n_pos)) in
    omega (arith, ints, h)

pub line_to : (p q : Point) (mm : ℤ) → p.mm <ℤ q.mm → p.ml ≤ℤ q.ml → mm ≤ℤ q.mm → volume_between p q mm ≤ℤ q.ml
line_to p q mm less rise to =
    let d = q.mm -ℤ p.mm in
    let n = (q.ml -ℤ p.ml) *ℤ (mm -ℤ p.mm) in
    let n_le = mul_mono_left (mm -ℤ p.mm) d (q.ml -ℤ p.ml) (omega (arith, ints, to)) (omega (arith, ints, rise)) in
    let h = floor_to (q.ml -ℤ p.ml) n d (omega (arith, ints, less)) n_le in
    omega (arith, ints, h)

pub rise_fits : (a b : ℤ) → unsigned_abs a ≤ most_volume → unsigned_abs b ≤ most_level → FitsSigned w64 (a *ℤ b)
rise_fits a b h k = fits_signed_mul w64 a b most_volume most_level h k (omega arith)

-- ---- where the volume is looked up
pub levels_rise : (points : List Point) (i j : ℕ) (d : Point) → IsRising points → i ≤ j → j < length points → (get_or points i d).mm ≤ℤ (get_or points j d).mm
levels_rise [] i j d h le lt = absurd (omega (arith, lt))
levels_rise (p ∷ rest) zero j d h le lt = from_first p rest j (get_or (p ∷ rest) j d) h (slice_get-get_or (p ∷ rest) j d lt)
levels_rise (p ∷ rest) (suc i) zero d h le lt = absurd (omega (arith, le))
levels_rise (p ∷ rest) (suc i) (suc j) d h le lt = levels_rise rest i j d (rising-rest p rest h) (omega (arith, le)) (omega (arith, lt))

pub volumes_rise : (points : List Point) (i : ℕ) (d : Point) → IsRising points → suc i < length points → (get_or points i d).ml ≤ℤ (get_or points (suc i) d).ml
volumes_rise [] i d h lt = absurd (omega (arith, lt))
volumes_rise (p ∷ []) i d h lt = absurd (omega (arith, lt))
volumes_rise (p ∷ q ∷ rest) zero d h lt = h.1
volumes_rise (p ∷ q ∷ rest) (suc i) d h lt = volumes_rise (q ∷ rest) i d h.2 (omega (arith, lt))

-- the points below a level come first
pub is_partitioned : (points : List Point) (mm : ℤ) → IsRising points → IsPartitionedBy (λ p. int_lt p.mm mm) points
is_partitioned points mm h i j d le lt below =
    let rise = levels_rise points i j d h le lt in
    lt_true (get_or points i d).mm mm (omega (arith, ints, rise, below))

pub none_past : (points : List Point) (mm : ℤ) → IsRising points → ((k : ℕ) (d : Point) → k < length points → (get_or points k d).mm <ℤ mm) → volume_of points mm ≡ None
none_past [] mm h below = refl
none_past (r ∷ rest) mm h below =
    let last = length (r ∷ rest) - 1 in
    let within : last < length (r ∷ rest) = omega arith in
    volume_of-above (r ∷ rest) last (get_or (r ∷ rest) last r) mm h (omega arith) (slice_get-get_or (r ∷ rest) last r within) (below last r within)

pub some_at : (points : List Point) (i : ℕ) (d : Point) (mm : ℤ) → IsRising points → i < length points → (get_or points i d).mm ≡ mm → volume_of points mm ≡ Some (get_or points i d).ml
some_at points i d mm h lt same = ap (volume_of points) (sym same) ∙ volume_of-at_point points i (get_or points i d) h (slice_get-get_or points i d lt)

pub none_before : (points : List Point) (d : Point) (mm : ℤ) → 0 < length points → mm <ℤ (get_or points 0 d).mm → volume_of points mm ≡ None
none_before points d mm lt less = volume_of-below points (get_or points 0 d) mm (slice_get-get_or points 0 d lt) less

pub some_between : (points : List Point) (i : ℕ) (d : Point) (mm : ℤ) → IsRising points → suc i < length points → (get_or points i d).mm ≤ℤ mm → mm ≤ℤ (get_or points (suc i) d).mm
    → volume_of points mm ≡ Some (volume_between (get_or points i d) (get_or points (suc i) d) mm)
some_between points i d mm h lt from to =
    volume_of-neighbours points i (get_or points i d) (get_or points (suc i) d) mm h (slice_get-get_or points i d (omega (arith, lt))) (slice_get-get_or points (suc i) d lt) from to

-- ---- the volumes of a table are volumes
volume_of-width_from : (points : List Point) (mm : ℤ) → IsRising points → AllByRecursion IsPoint points → IfSome (volume_of points mm) IsVolume
volume_of-width_from [] mm h each = tt
volume_of-width_from (p ∷ []) mm h each = elim (cases_Bool (int_lt mm p.mm || int_lt p.mm mm)) [
  | inl out ↦ rw out tt
  | inr at ↦ rw at (each.0.volume.0, each.0.volume.1)
]
volume_of-width_from (p ∷ q ∷ rest) mm h each = by_lt_z mm p.mm
    (λ below. subst (λ (o : Option ℤ). IfSome o IsVolume) (sym (walk-below p (q ∷ rest) mm below)) tt)
    (λ from. by_lt_z q.mm mm
    (λ above. subst (λ (o : Option ℤ). IfSome o IsVolume) (sym (walk-on p q rest mm h.0 above)) (volume_of-width_from (q ∷ rest) mm h.2 each.1))
    (λ to.
    let low = line_from p q mm h.0 h.1 from in
    let high = line_to p q mm h.0 h.1 to in
    let least = each.0.volume.0 in
    let most = each.1.0.volume.1 in
    let within : IsVolume (volume_between p q mm) = (omega (arith, ints, low, least), omega (arith, ints, high, most)) in
    subst (λ (o : Option ℤ). IfSome o IsVolume) (sym (walk-here p q rest mm from to)) within))

pub volume_of-width : (points : List Point) (mm : ℤ) → IsTable points → IfSome (volume_of points mm) IsVolume
volume_of-width points mm t = volume_of-width_from points mm t.rising (AllByRecursion-from_all IsPoint points t.each)

-- ---- volume times density, in millionths
pub mass_from : (ml density : ℤ) → pos 0 ≤ℤ ml → pos 0 ≤ℤ density → pos 0 ≤ℤ floor_div (ml *ℤ density) (pos (10 ^ 6))
mass_from ml density ml_pos density_pos =
    floor_from (pos 0) (ml *ℤ density) (pos (10 ^ 6)) (omega (arith, ints)) (mul_nonneg ml density ml_pos density_pos)

pub mass_to : (ml density : ℤ) → ml ≤ℤ pos most_volume → density ≤ℤ pos most_density → pos 0 ≤ℤ density → floor_div (ml *ℤ density) (pos (10 ^ 6)) ≤ℤ pos most_content
mass_to ml density ml_le density_le density_pos =
    floor_to (pos most_content) (ml *ℤ density) (pos (10 ^ 6)) (omega (arith, ints)) (mul_mono_both ml (pos most_volume) density (pos most_density) ml_le density_le density_pos (omega (arith, ints)))
