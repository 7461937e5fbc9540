-- Periods no two of which share a day: the last one that begins by a day, and one more.
use Rattle.std.specs.Prelude.{◌&&◌, ◌||◌, ◌-ℤ◌, ◌+ℤ◌, int_le, if◌then◌else◌, find, map, position, nat_lt, set, slice_get, All, IsSome, ◌⊎◌}
use Rattle.std.specs.List.{list_any, position_or_len}
use Rattle.std.specs.Cmp.{int_cmp_is}
use Rattle.std.specs.Cmp.Lexicographic.{bytes_decides}
use Rattle.std.specs.Int.{int_max, int_min}
use Rattle.std.specs.Ordering.{int_cmp, int_eq, is_gt, is_lt}
use Rattle.std.specs.declared.cmp.Ordering.TheVariants.{Less, Equal, Greater}
use Rattle.std.specs.declared.ops.Bound.TheVariants.{Included, Unbounded}
use Rattle.std.specs.BTreeMap.Range.{IsRangeOf}
use Rattle.std.specs.BTreeMap.{BTreeMap, get}
use Rattle.std.proofs.Common.{◌≡◌, ◌∙◌, ◌<◌, ◌≤ℤ◌, ◌<ℤ◌, ℕ, ℤ, pos, List, [], ◌∷◌, ◌++◌, length, get_or, Bool, true, false, Option, Some, None, FitsSigned, nat_eq, of_z, to_z, refl, sym, ap, arith, inl, inr, length-append}
use Rattle.std.proofs.lemmas.Bool.{and_parts, cases_Bool, cases_lt, eq-eqb, ltb-false, ltb-true, ne_eqb, or_parts}
use Rattle.std.proofs.lemmas.Bool.Decides.{Decides-int_eq}
use Rattle.std.proofs.lemmas.Int.{by_lt_z, int_max_is, int_min_is, ints, to_z-of_z}
use mir.Syntax.{w32}
use Rattle.std.proofs.lemmas.List.{ext_get_or, get_or-map, get_or-set_other, get_or-set_same, get_or_default, length-map, length-set, map-append}
use Rattle.std.proofs.lemmas.List.Elements.{All-push}
use Rattle.std.proofs.lemmas.List.Folds.{find_at, list_any-append, list_any_at, list_any_none}
use Rattle.std.proofs.lemmas.Option.{slice_get_past}
use Rattle.std.proofs.lemmas.List.Sums.{fails_before_first, passes_at_first}
use Rattle.std.proofs.lemmas.List.Quantifiers.{all_pairs_push}
use Rattle.std.proofs.Math.ListN.{get_or-append}
use Rattle.std.proofs.Math.Seq.{get_or-append_seam}
use Rattle.pb_limits.specs.Limits.{most_periods}
use Rattle.pb_periods.specs.declared.period.Period.{Period}
use Rattle.pb_periods.specs.Apart.{AreApart, IsApartFrom, is_named, shares_a_day}
use Rattle.pb_periods.specs.Kept.{AreBegun, ArePeriods, FindsLast, HasBegin, IsLastBy, SameBegins}
use Rattle.pb_periods.specs.Ranges.{IsPeriod}
use Rattle.pb_periods.specs.Closing.{closed, closed_if_named, is_closed_named}
use Rattle.pb_periods.specs.Touching.{dip_touches, dip_touches_closed, dip_touches_closed_on, is_boundary_of, is_closed_in_service, some_closed}
use Rattle.pb_site.specs.Service.{is_in_service_within}
use Rattle.pb_site.specs.declared.declared.Service.{Service}
use Rattle.pb_rows.specs.Name.{same_name}
use Rattle.pb_periods.proofs.NameLemmas.{same_flip}

-- each item fails a test that no item passes
pub fails_at : {X : Type 0} (p : X → Bool) (xs : List X) (k : ℕ) (d : X) → list_any p xs ≡ false → k < length xs → p (get_or xs k d) ≡ false
fails_at p xs k d none lt = elim (cases_Bool (p (get_or xs k d))) [
  | inl passes ↦ cc (sym none ∙ list_any_at p xs k d lt passes)
  | inr fails ↦ fails
]

is_le : (a b : ℤ) → a ≤ℤ b → int_le a b ≡ true
is_le a b le = elim (cases_Bool (int_le a b)) [
  | inl is ↦ is
  | inr not_le ↦ absurd (omega (arith, ints, not_le, le))
]

-- days that overlap
share_days : (first last : ℤ) (period : Period) → first ≤ℤ period.last → period.first ≤ℤ last → shares_a_day first last period ≡ true
share_days first last period begins ends = rw (is_le first period.last begins, is_le period.first last ends) refl

-- a period with a day between others
overlap : (first last : ℤ) (period : Period) → shares_a_day first last period ≡ true → (first ≤ℤ period.last) × (period.first ≤ℤ last)
overlap first last period shares =
    let parts = and_parts (int_le first period.last) (int_le period.first last) shares in
    (omega (arith, ints, parts.0), omega (arith, ints, parts.1))

-- two periods that share no day come one after the other
one_after : (earlier later : Period) → IsApartFrom earlier later → earlier.last <ℤ later.first ⊎ later.last <ℤ earlier.first
one_after earlier later apart = elim (cases_Bool (int_le later.first earlier.last)) [
  | inl begins ↦ elim (cases_Bool (int_le earlier.first later.last)) [
    | inl ends ↦ cc (sym (rw (begins, ends) at apart.days))
    | inr after ↦ inr (omega (arith, ints, after))
  ]
  | inr after ↦ inl (omega (arith, ints, after))
]

-- ---- the last one that begins by a day

not_greater : (a b : ℤ) → is_gt (int_cmp a b) ≡ false → a ≤ℤ b
not_greater a b is = by_lt_z b a
    (λ less. absurd (cc (is, ap is_gt (int_cmp_is a b Greater less))))
    (λ le. le)

up_to : (a b : ℤ) → a ≤ℤ b → is_gt (int_cmp a b) ≡ false
up_to a b le = by_lt_z a b
    (λ less. sym (ap is_gt (int_cmp_is a b Less less)))
    (λ from. sym (ap is_gt (int_cmp_is a b Equal (omega (arith, ints, le, from)))))

not_less : (a b : ℤ) → is_lt (int_cmp a b) ≡ false → b ≤ℤ a
not_less a b is = by_lt_z a b
    (λ less. absurd (cc (is, ap is_lt (int_cmp_is a b Less less))))
    (λ le. le)

-- the last of the days up to one, in the part of a map that has them
pub last_of : (begins : BTreeMap ℤ ℕ) (day key : ℤ) (place : ℕ) (part before : List (ℤ × ℕ)) → IsRangeOf int_cmp Unbounded (Included day) begins part
    → part ≡ before ++ (key, place) ∷ [] → IsLastBy begins day key place
last_of begins day key place part before range split =
    let here = range.3 (key, place) before split in record {
      early = not_greater key day here.0.1;
      here = here.1;
      last = λ other le there. not_less key other (range.4 (key, place) before split other (tt, up_to other day le) there);
    }

-- no day up to one
pub none_of : (begins : BTreeMap ℤ ℕ) (day : ℤ) (part : List (ℤ × ℕ)) → IsRangeOf int_cmp Unbounded (Included day) begins part → part ≡ [] → FindsLast begins day None
none_of begins day part range none = λ other le. range.5 none other (tt, up_to other day le)

-- if no chosen period begins by a day, none has a day up to it
pub none_begun : (chosen : Period → Bool) (periods : List Period) (begins : BTreeMap ℤ ℕ) (first last : ℤ) → AreBegun chosen periods begins
    → FindsLast begins last None → false ≡ list_any (λ (p : Period). chosen p && shares_a_day first last p) periods
none_begun chosen periods begins first last right none = sym (list_any_none (λ (p : Period). chosen p && shares_a_day first last p) periods each)
  where
    each : (k : ℕ) (d : Period) → k < length periods → (chosen (get_or periods k d) && shares_a_day first last (get_or periods k d)) ≡ false
    each k d lt = elim (cases_Bool (chosen (get_or periods k d) && shares_a_day first last (get_or periods k d))) [
      | inl both ↦
          let parts = and_parts (chosen (get_or periods k d)) (shares_a_day first last (get_or periods k d)) both in
          let ends = (overlap first last (get_or periods k d) parts.1).1 in
          cc (sym (none (get_or periods k d).first ends) ∙ right.there k d lt parts.0)
      | inr apart ↦ apart
    ]

-- a chosen period that begins by a day is the last one found, or ends before that begins
earlier : (chosen : Period → Bool) (periods : List Period) (begins : BTreeMap ℤ ℕ) (last key : ℤ) (place k : ℕ) (period d : Period) → All IsPeriod periods → AreApart periods
    → AreBegun chosen periods begins → IsLastBy begins last key place → place < length periods → get_or periods place d ≡ period → period.first ≡ key → k < length periods
    → chosen (get_or periods k d) ≡ true → (get_or periods k d).first ≤ℤ last → (k ≡ place) ⊎ ((get_or periods k d).last <ℤ period.first)
earlier chosen periods begins last key place k period d days apart right found within here begins_on lt is starts =
    let other = get_or periods k d in
    let there = right.there k d lt is in
    let up_to : other.first ≤ℤ key = found.last other.first starts (rw there refl) in
    let rises : period.first ≤ℤ period.last = rw here at (days place d within).rises in
    elim (cases_lt k place) [
      | inl before ↦
          let two = rw here at (apart k place d before within) in
          elim (one_after other period two) [
            | inl first_ends ↦ inr first_ends
            | inr last_ends ↦ absurd (omega (arith, ints, last_ends, up_to, begins_on, rises))
          ]
      | inr from ↦ elim (cases_lt place k) [
        | inl behind ↦
            let two = rw here at (apart place k d behind lt) in
            elim (one_after period other two) [
              | inl first_ends ↦ absurd (omega (arith, ints, first_ends, up_to, begins_on, rises))
              | inr last_ends ↦ inr last_ends
            ]
        | inr to ↦ inl (omega (arith, from, to))
      ]
    ]

pub last_begun : (chosen : Period → Bool) (periods : List Period) (begins : BTreeMap ℤ ℕ) (first last : ℤ) (place : ℕ) (period : Period) → All IsPeriod periods → AreApart periods
    → AreBegun chosen periods begins → FindsLast begins last (Some place) → get_or periods place period ≡ period
    → int_le first period.last ≡ list_any (λ (p : Period). chosen p && shares_a_day first last p) periods
last_begun chosen periods begins first last place period days apart right (key, found) here =
    let at = right.back key place period found.here in
    let begins_on : period.first ≡ key = rw here at at.1 in
    let is : chosen period ≡ true = rw here at at.2 in
    let starts : period.first ≤ℤ last = omega (arith, ints, begins_on, found.early) in
    elim (cases_Bool (int_le first period.last)) [
      | inl reaches ↦
          let shares = share_days first last period (omega (arith, ints, reaches)) starts in
          reaches ∙ sym (list_any_at (λ (p : Period). chosen p && shares_a_day first last p) periods place period at.0 (rw (here, is) shares))
      | inr ends ↦ ends ∙ sym (list_any_none (λ (p : Period). chosen p && shares_a_day first last p) periods (each at.0 begins_on (omega (arith, ints, ends))))
    ]
  where
    each : place < length periods → period.first ≡ key → period.last <ℤ first → (k : ℕ) (d : Period) → k < length periods
        → (chosen (get_or periods k d) && shares_a_day first last (get_or periods k d)) ≡ false
    each within begins_on ends k d lt = elim (cases_Bool (chosen (get_or periods k d) && shares_a_day first last (get_or periods k d))) [
      | inl both ↦
          let other = get_or periods k d in
          let parts = and_parts (chosen other) (shares_a_day first last other) both in
          let shared = overlap first last other parts.1 in
          let rises : period.first ≤ℤ period.last = rw here at (days place period within).rises in
          elim (earlier chosen periods begins last key place k period d days apart right found within (get_or_default periods place d period within ∙ here) begins_on lt parts.0 shared.1) [
            | inl same ↦
                let other_is : other ≡ period = ap (λ (n : ℕ). get_or periods n d) same ∙ get_or_default periods place d period within ∙ here in
                let late : first ≤ℤ period.last = rw other_is at shared.0 in
                absurd (omega (arith, ints, late, ends))
            | inr before ↦ absurd (omega (arith, ints, before, shared.0, ends, rises))
          ]
      | inr apart ↦ apart
    ]

-- ---- dips

-- days of 32 bits are compared by their bits
pub same_as : (a b : ℤ) → FitsSigned w32 a → FitsSigned w32 b → nat_eq (of_z w32 a) (of_z w32 b) ≡ int_eq a b
same_as a b one other = elim (cases_Bool (int_eq a b)) [
  | inl is ↦
      let same : of_z w32 a ≡ of_z w32 b = ap (of_z w32) ((Decides-int_eq a b).0 is) in
      eq-eqb (of_z w32 a) (of_z w32 b) same ∙ sym is
  | inr differs ↦
      ne_eqb (of_z w32 a) (of_z w32 b) (λ same.
      let is : a ≡ b = sym (to_z-of_z w32 a one) ∙ ap (to_z w32) same ∙ to_z-of_z w32 b other in
      absurd (cc (sym differs ∙ (Decides-int_eq a b).1 is))) ∙ sym differs
]

pub differ_as : (a b : ℤ) → (of_z w32 a ≡ of_z w32 b → ⊥) → int_eq a b ≡ false
differ_as a b apart = elim (cases_Bool (int_eq a b)) [
  | inl is ↦ absurd (apart (ap (of_z w32) ((Decides-int_eq a b).0 is)))
  | inr differs ↦ differs
]

either_true : (a b : Bool) → (a || b) ≡ true → (a ≡ true) ⊎ (b ≡ true)
either_true true b is = inl refl
either_true false b is = inr is

-- a period that a dip touches includes the day of the dip or the next day
dip_day : (service : Option Service) (day : ℤ) (period : Period) → period.first ≤ℤ period.last → dip_touches service day period ≡ true
    → (shares_a_day day day period ≡ true) ⊎ (shares_a_day (day +ℤ pos 1) (day +ℤ pos 1) period ≡ true)
dip_day None day period rises is = elim (either_true (int_eq day period.last) (int_eq day (period.first -ℤ pos 1)) is) [
  | inl ends ↦
      let e = (Decides-int_eq day period.last).0 ends in
      inl (share_days day day period (omega (arith, ints, e)) (omega (arith, ints, e, rises)))
  | inr opens ↦
      let e = (Decides-int_eq day (period.first -ℤ pos 1)).0 opens in
      inr (share_days (day +ℤ pos 1) (day +ℤ pos 1) period (omega (arith, ints, e, rises)) (omega (arith, ints, e)))
]
dip_day (Some service) day period rises is =
    let both = and_parts (is_in_service_within (Some service) period.first period.last) (is_boundary_of (Some service) day period) is in
    let parts = and_parts (int_le service.since period.last) (int_le period.first service.until) both.0 in
    let least = int_min_is period.last service.until in
    let most = int_max_is period.first service.since in
    elim (either_true (int_eq day (int_min period.last service.until)) (int_eq day (int_max period.first service.since -ℤ pos 1)) both.1) [
      | inl ends ↦
          let e = (Decides-int_eq day (int_min period.last service.until)).0 ends in
          inl (share_days day day period (omega (arith, ints, e, least)) (omega (arith, ints, e, least, rises, parts.1)))
      | inr opens ↦
          let e = (Decides-int_eq day (int_max period.first service.since -ℤ pos 1)).0 opens in
          inr (share_days (day +ℤ pos 1) (day +ℤ pos 1) period (omega (arith, ints, e, most, rises, parts.0)) (omega (arith, ints, e, most)))
    ]

-- a dip touches a closed period if it touches one that includes its day or one that includes the next day
pub touches_by_days : (periods : List Period) (service : Option Service) (day : ℤ) (a b : Bool) → All IsPeriod periods
    → (a ≡ true → list_any (dip_touches_closed service day) periods ≡ true) → (list_any (dip_touches_closed_on service day day) periods ≡ true → a ≡ true)
    → (b ≡ true → list_any (dip_touches_closed service day) periods ≡ true) → (list_any (dip_touches_closed_on service day (day +ℤ pos 1)) periods ≡ true → b ≡ true)
    → (a || b) ≡ list_any (dip_touches_closed service day) periods
touches_by_days periods service day true b days only each more_only more_each = sym (only refl)
touches_by_days periods service day false true days only each more_only more_each = sym (more_only refl)
touches_by_days periods service day false false days only each more_only more_each = sym (list_any_none (dip_touches_closed service day) periods none)
  where
    none : (k : ℕ) (d : Period) → k < length periods → dip_touches_closed service day (get_or periods k d) ≡ false
    none k d lt = elim (cases_Bool (dip_touches_closed service day (get_or periods k d))) [
      | inr fails ↦ fails
      | inl is ↦
          let period = get_or periods k d in
          let parts = and_parts period.closed (dip_touches service day period) is in
          elim (dip_day service day period (days k d lt).rises parts.1) [
            | inl on ↦ cc (each (list_any_at (dip_touches_closed_on service day day) periods k d lt (rw (is, on) refl)))
            | inr on ↦ cc (more_each (list_any_at (dip_touches_closed_on service day (day +ℤ pos 1)) periods k d lt (rw (is, on) refl)))
          ]
    ]

-- the last closed period that begins by a day is a closed period, and the only one that can include that day
pub touched_last : (periods : List Period) (closes : BTreeMap ℤ ℕ) (service : Option Service) (day by : ℤ) (place : ℕ) (period : Period) → All IsPeriod periods → AreApart periods
    → AreBegun (λ (p : Period). p.closed) periods closes → FindsLast closes by (Some place) → get_or periods place period ≡ period → dip_touches service day period ≡ true
    → list_any (dip_touches_closed service day) periods ≡ true
touched_last periods closes service day by place period days apart right (key, found) here touched =
    let at = right.back key place period found.here in
    let is : period.closed ≡ true = rw here at at.2 in
    list_any_at (dip_touches_closed service day) periods place period at.0 (rw (here, is, touched) refl)

pub touched_each : (periods : List Period) (closes : BTreeMap ℤ ℕ) (service : Option Service) (day by : ℤ) (place : ℕ) (period : Period) → All IsPeriod periods → AreApart periods
    → AreBegun (λ (p : Period). p.closed) periods closes → FindsLast closes by (Some place) → get_or periods place period ≡ period
    → list_any (dip_touches_closed_on service day by) periods ≡ true → dip_touches service day period ≡ true
touched_each periods closes service day by place period days apart right (key, found) here some = elim (cases_Bool (dip_touches service day period)) [
  | inl is ↦ is
  | inr fails ↦
      let at = right.back key place period found.here in
      let begins_on : period.first ≡ key = rw here at at.1 in
      cc (sym some ∙ list_any_none (dip_touches_closed_on service day by) periods (none at.0 begins_on fails))
]
  where
    none : place < length periods → period.first ≡ key → dip_touches service day period ≡ false → (k : ℕ) (d : Period) → k < length periods
        → dip_touches_closed_on service day by (get_or periods k d) ≡ false
    none within begins_on fails k d lt = elim (cases_Bool (dip_touches_closed_on service day by (get_or periods k d))) [
      | inr it ↦ it
      | inl is ↦
          let other = get_or periods k d in
          let parts = and_parts (dip_touches_closed service day other) (shares_a_day by by other) is in
          let closed_parts = and_parts other.closed (dip_touches service day other) parts.0 in
          let shared = overlap by by other parts.1 in
          let rises : period.first ≤ℤ period.last = rw here at (days place period within).rises in
          elim (earlier (λ (p : Period). p.closed) periods closes by key place k period d days apart right found within (get_or_default periods place d period within ∙ here) begins_on lt closed_parts.0 shared.1) [
            | inl same ↦
                let other_is : other ≡ period = ap (λ (n : ℕ). get_or periods n d) same ∙ get_or_default periods place d period within ∙ here in
                cc (sym fails ∙ sym (ap (dip_touches service day) other_is) ∙ closed_parts.1)
            | inr before ↦ absurd (omega (arith, ints, before, shared.0, begins_on, found.early))
          ]
    ]

-- if no closed period begins by a day, no closed period includes it
pub none_touched_on : (periods : List Period) (closes : BTreeMap ℤ ℕ) (service : Option Service) (day by : ℤ) → AreBegun (λ (p : Period). p.closed) periods closes → FindsLast closes by None
    → list_any (dip_touches_closed_on service day by) periods ≡ false
none_touched_on periods closes service day by right none = list_any_none (dip_touches_closed_on service day by) periods each
  where
    each : (k : ℕ) (d : Period) → k < length periods → dip_touches_closed_on service day by (get_or periods k d) ≡ false
    each k d lt = elim (cases_Bool (dip_touches_closed_on service day by (get_or periods k d))) [
      | inr it ↦ it
      | inl is ↦
          let other = get_or periods k d in
          let parts = and_parts (dip_touches_closed service day other) (shares_a_day by by other) is in
          let closed_parts = and_parts other.closed (dip_touches service day other) parts.0 in
          let ends = (overlap by by other parts.1).1 in
          cc (sym (none other.first ends) ∙ right.there k d lt closed_parts.0)
    ]

-- something that is in service on every day is in service in a closed period iff some period is closed
pub all_served : (periods : List Period) → list_any (is_closed_in_service None) periods ≡ some_closed periods
all_served [] = refl
all_served (period ∷ periods) = rw (all_served periods) (by period.closed)
  where
    by : (b : Bool) → ((b && true) || some_closed periods) ≡ (b || some_closed periods)
    by true = refl
    by false = refl

-- the place that is found, and its period
pub place_found : (chosen : Period → Bool) (periods : List Period) (begins : BTreeMap ℤ ℕ) (last : ℤ) (place : ℕ) → AreBegun chosen periods begins
    → FindsLast begins last (Some place) → place < length periods
place_found chosen periods begins last place right (key, found) =
    let d : Period = record { name = []; first = pos 0; last = pos 0; closed = false } in
    (right.back key place d found.here).0

pub period_found : (chosen : Period → Bool) (periods : List Period) (begins : BTreeMap ℤ ℕ) (last : ℤ) (place : ℕ) (period : Period) → All IsPeriod periods
    → AreBegun chosen periods begins → FindsLast begins last (Some place) → get_or periods place period ≡ period → IsPeriod period
period_found chosen periods begins last place period days right (key, found) here =
    rw here at (days place period (right.back key place period found.here).0)

-- the first place at which a test passes
pub position_at_first : {X : Type 0} (p : X → Bool) (xs : List X) (i : ℕ) (d : X) → Some i ≡ position p xs → (i < length xs) × (p (get_or xs i d) ≡ true)
position_at_first p xs i d is = by (nat_lt (position_or_len p xs) (length xs)) refl is
  where
    by : (b : Bool) → nat_lt (position_or_len p xs) (length xs) ≡ b → Some i ≡ (if b then Some (position_or_len p xs) else None) → (i < length xs) × (p (get_or xs i d) ≡ true)
    by true lt same =
        let at : i ≡ position_or_len p xs = cc same in
        let within : position_or_len p xs < length xs = ltb-true (position_or_len p xs) (length xs) lt in
        (omega (arith, at, within), rw at (passes_at_first p xs d within))
    by false lt same = cc same

-- the item at the first place at which a test passes
pub find_at_first : {X : Type 0} (p : X → Bool) (xs : List X) (i : ℕ) (x : X) → Some i ≡ position p xs → slice_get xs i ≡ Some x → find p xs ≡ Some x
find_at_first p xs i x is at = by (nat_lt (position_or_len p xs) (length xs)) refl is
  where
    by : (b : Bool) → nat_lt (position_or_len p xs) (length xs) ≡ b → Some i ≡ (if b then Some (position_or_len p xs) else None) → find p xs ≡ Some x
    by true lt same = let place : i ≡ position_or_len p xs = cc same in find_at p xs ∙ ap (slice_get xs) (sym place) ∙ at
    by false ge same = cc same

pub find_nothing : {X : Type 0} (p : X → Bool) (xs : List X) → None ≡ position p xs → find p xs ≡ None
find_nothing p xs is = by (nat_lt (position_or_len p xs) (length xs)) refl is
  where
    by : (b : Bool) → nat_lt (position_or_len p xs) (length xs) ≡ b → None ≡ (if b then Some (position_or_len p xs) else None) → find p xs ≡ None
    by true lt same = cc same
    by false ge same = find_at p xs ∙ slice_get_past xs (position_or_len p xs) (ltb-false (position_or_len p xs) (length xs) ge)

-- no place at which a test passes
pub none_at_first : {X : Type 0} (p : X → Bool) (xs : List X) → None ≡ position p xs → list_any p xs ≡ false
none_at_first p xs is = by (nat_lt (position_or_len p xs) (length xs)) refl is
  where
    by : (b : Bool) → nat_lt (position_or_len p xs) (length xs) ≡ b → None ≡ (if b then Some (position_or_len p xs) else None) → list_any p xs ≡ false
    by true lt same = cc same
    by false ge same = list_any_none p xs (λ k d lt. fails_before_first p xs k d (omega (arith, lt, ltb-false (position_or_len p xs) (length xs) ge)))

-- some place, if some item passes
pub some_place : {X : Type 0} (p : X → Bool) (xs : List X) → list_any p xs ≡ true → IsSome (position p xs)
some_place p xs some = by (position p xs) refl
  where
    by : (o : Option ℕ) → position p xs ≡ o → IsSome (position p xs)
    by (Some i) is = rw is refl
    by None is = cc (sym (none_at_first p xs (sym is)) ∙ some)

-- ---- one more period

-- the same days with their places
pub same_begun : (chosen : Period → Bool) (periods : List Period) (begins new : BTreeMap ℤ ℕ) → AreBegun chosen periods begins → SameBegins begins new → AreBegun chosen periods new
same_begun chosen periods begins new right same = record {
  there = λ k d lt is. same (get_or periods k d).first ∙ right.there k d lt is;
  back = λ day place d is. right.back day place d (sym (same day) ∙ is);
}

pub same_periods : (periods : List Period) (names : List (List ℕ)) (begins closes new : BTreeMap ℤ ℕ) (sealed : Bool) → ArePeriods periods names begins closes sealed → SameBegins begins new
    → ArePeriods periods names new closes sealed
same_periods periods names begins closes new sealed right same = record {
  named = right.named;
  all = same_begun (λ (p : Period). true) periods begins new right.all same;
  closed = right.closed;
  sealing = right.sealing;
  days = right.days;
  apart = right.apart;
  few = right.few;
}

pub same_closings : (periods : List Period) (names : List (List ℕ)) (begins closes new : BTreeMap ℤ ℕ) (sealed : Bool) → ArePeriods periods names begins closes sealed → SameBegins closes new
    → ArePeriods periods names begins new sealed
same_closings periods names begins closes new sealed right same = record {
  named = right.named;
  all = right.all;
  closed = same_begun (λ (p : Period). p.closed) periods closes new right.closed same;
  sealing = right.sealing;
  days = right.days;
  apart = right.apart;
  few = right.few;
}

-- a period that shares no day with another begins on another day
begins_apart : (period other : Period) → IsPeriod period → IsPeriod other → shares_a_day period.first period.last other ≡ false → int_eq period.first other.first ≡ false
begins_apart period other days own apart = elim (cases_Bool (int_eq period.first other.first)) [
  | inl same ↦
      let is : period.first ≡ other.first = (Decides-int_eq period.first other.first).0 same in
      cc (sym apart ∙ share_days period.first period.last other (omega (arith, ints, is, own.rises)) (omega (arith, ints, is, days.rises)))
  | inr differs ↦ differs
]

-- the days on which all periods begin, with one more
more_begun : (periods : List Period) (begins new : BTreeMap ℤ ℕ) (period : Period) → All IsPeriod periods → AreBegun (λ (p : Period). true) periods begins → IsPeriod period
    → list_any (shares_a_day period.first period.last) periods ≡ false → HasBegin begins new period.first (length periods) → AreBegun (λ (p : Period). true) (periods ++ period ∷ []) new
more_begun periods begins new period all right days apart begun = record { there = there; back = back }
  where
    here : (d : Period) → get_or (periods ++ period ∷ []) (length periods) d ≡ period
    here d = get_or-append_seam periods period [] d

    there : (k : ℕ) (d : Period) → k < length (periods ++ period ∷ []) → true ≡ true → get int_cmp new (get_or (periods ++ period ∷ []) k d).first ≡ Some k
    there k d lt is = elim (cases_lt k (length periods)) [
      | inl old ↦
          let other = get_or periods k d in
          let differs = begins_apart period other days (all k d old) (fails_at (shares_a_day period.first period.last) periods k d apart old) in
          rw (get_or-append periods (period ∷ []) d k old) (begun other.first ∙ rw differs (right.there k d old refl))
      | inr past ↦
          let last : k ≡ length periods = omega (arith, length-append periods (period ∷ []), lt, past) in
          let same : int_eq period.first period.first ≡ true = (Decides-int_eq period.first period.first).1 refl in
          rw (last, here d) (begun period.first ∙ rw same refl)
    ]

    back : (day : ℤ) (place : ℕ) (d : Period) → get int_cmp new day ≡ Some place
        → (place < length (periods ++ period ∷ [])) × ((get_or (periods ++ period ∷ []) place d).first ≡ day) × (true ≡ true)
    back day place d is = elim (cases_Bool (int_eq period.first day)) [
      | inl same ↦
          let at : Some (length periods) ≡ Some place = sym (begun day ∙ rw same refl) ∙ is in
          let place_is : length periods ≡ place = cc at in
          (omega (arith, length-append periods (period ∷ []), place_is), rw (← place_is, here d) ((Decides-int_eq period.first day).0 same), refl)
      | inr differs ↦
          let old : get int_cmp begins day ≡ Some place = sym (begun day ∙ rw differs refl) ∙ is in
          let found = right.back day place d old in
          (omega (arith, length-append periods (period ∷ []), found.0), rw (get_or-append periods (period ∷ []) d place found.0) found.1, refl)
    ]

-- the days on which closed periods begin, with one more that is open
still_closed : (periods : List Period) (closes : BTreeMap ℤ ℕ) (period : Period) → AreBegun (λ (p : Period). p.closed) periods closes → period.closed ≡ false
    → AreBegun (λ (p : Period). p.closed) (periods ++ period ∷ []) closes
still_closed periods closes period right opened = record { there = there; back = back }
  where
    there : (k : ℕ) (d : Period) → k < length (periods ++ period ∷ []) → (get_or (periods ++ period ∷ []) k d).closed ≡ true
        → get int_cmp closes (get_or (periods ++ period ∷ []) k d).first ≡ Some k
    there k d lt is = elim (cases_lt k (length periods)) [
      | inl old ↦
          let same = get_or-append periods (period ∷ []) d k old in
          rw same (right.there k d old (rw same at is))
      | inr past ↦
          let last : k ≡ length periods = omega (arith, length-append periods (period ∷ []), lt, past) in
          let own : (get_or (periods ++ period ∷ []) (length periods) d).closed ≡ true = rw last at is in
          cc (sym opened ∙ sym (ap (λ (p : Period). p.closed) (get_or-append_seam periods period [] d)) ∙ own)
    ]

    back : (day : ℤ) (place : ℕ) (d : Period) → get int_cmp closes day ≡ Some place
        → (place < length (periods ++ period ∷ [])) × ((get_or (periods ++ period ∷ []) place d).first ≡ day) × ((get_or (periods ++ period ∷ []) place d).closed ≡ true)
    back day place d is =
        let found = right.back day place d is in
        let same = get_or-append periods (period ∷ []) d place found.0 in
        (omega (arith, length-append periods (period ∷ []), found.0), rw same found.1, rw same found.2)

pub periods_more : (periods : List Period) (names : List (List ℕ)) (begins new closes : BTreeMap ℤ ℕ) (sealed : Bool) (period : Period) → ArePeriods periods names begins closes sealed → IsPeriod period
    → period.closed ≡ false → list_any (is_named period.name) periods ≡ false → list_any (shares_a_day period.first period.last) periods ≡ false → length periods < most_periods
    → HasBegin begins new period.first (length periods) → ArePeriods (periods ++ period ∷ []) (names ++ period.name ∷ []) new closes sealed
periods_more periods names begins new closes sealed period right days opened name apart room begun = record {
  named = ap (λ (ns : List (List ℕ)). ns ++ period.name ∷ []) right.named ∙ sym (map-append (λ (p : Period). p.name) periods (period ∷ []));
  all = more_begun periods begins new period right.days right.all days apart begun;
  closed = still_closed periods closes period right.closed opened;
  sealing = right.sealing ∙ same_sealing (some_closed periods) ∙ sym (list_any-append (λ (p : Period). p.closed) periods (period ∷ []));
  days = All-push IsPeriod periods period right.days days;
  apart = all_pairs_push IsApartFrom periods period right.apart
      (λ k d lt. record { names = fails_at (is_named period.name) periods k d name lt; days = fails_at (shares_a_day period.first period.last) periods k d apart lt });
  few = omega (arith, length-append periods (period ∷ []), room);
}
  where
    same_sealing : (b : Bool) → b ≡ (b || (period.closed || false))
    same_sealing true = refl
    same_sealing false = rw opened refl

-- ---- one period closed

closed_name : (name : List ℕ) (period : Period) → (closed_if_named name period).name ≡ period.name
closed_name name period = elim (cases_Bool (is_named name period)) [ inl is ↦ rw is refl | inr other ↦ rw other refl ]

closed_first : (name : List ℕ) (period : Period) → (closed_if_named name period).first ≡ period.first
closed_first name period = elim (cases_Bool (is_named name period)) [ inl is ↦ rw is refl | inr other ↦ rw other refl ]

closed_last : (name : List ℕ) (period : Period) → (closed_if_named name period).last ≡ period.last
closed_last name period = elim (cases_Bool (is_named name period)) [ inl is ↦ rw is refl | inr other ↦ rw other refl ]

-- a period of the list with one of a name closed
closed_at : (name : List ℕ) (periods : List Period) (k : ℕ) (d : Period) → k < length periods → get_or (map (closed_if_named name) periods) k d ≡ closed_if_named name (get_or periods k d)
closed_at name periods k d lt = get_or-map (closed_if_named name) periods k d d lt

pub closed_days : (name : List ℕ) (periods : List Period) → All IsPeriod periods → All IsPeriod (map (closed_if_named name) periods)
closed_days name periods days = λ k d lt.
    let within : k < length periods = omega (arith, lt, length-map periods (closed_if_named name)) in
    let own = days k d within in
    let period = get_or periods k d in
    rw (closed_at name periods k d within) (elim (cases_Bool (is_named name period)) [
      | inl is ↦ rw is (record { begins = own.begins; ends = own.ends; rises = own.rises; few = own.few })
      | inr other ↦ rw other own
    ])

pub closed_apart : (name : List ℕ) (periods : List Period) → AreApart periods → AreApart (map (closed_if_named name) periods)
closed_apart name periods apart = λ i j d before lt.
    let within : j < length periods = omega (arith, lt, length-map periods (closed_if_named name)) in
    let a = get_or periods i d in
    let b = get_or periods j d in
    let own = apart i j d before within in
    rw (closed_at name periods i d (omega (arith, before, within)), closed_at name periods j d within) (elim (cases_Bool (is_named name a)) [
      | inl first ↦ elim (cases_Bool (is_named name b)) [
        | inl second ↦ rw (first, second) (record { names = own.names; days = own.days })
        | inr second ↦ rw (first, second) (record { names = own.names; days = own.days })
      ]
      | inr first ↦ elim (cases_Bool (is_named name b)) [
        | inl second ↦ rw (first, second) (record { names = own.names; days = own.days })
        | inr second ↦ rw (first, second) own
      ]
    ])

-- the names of periods, after one of these is closed
closed_names : (name : List ℕ) (periods : List Period) → map (λ (p : Period). p.name) (map (closed_if_named name) periods) ≡ map (λ (p : Period). p.name) periods
closed_names name [] = refl
closed_names name (period ∷ periods) = rw (closed_name name period, closed_names name periods) refl

-- no other period has the name of the one at a place
pub only_named : (name : List ℕ) (periods : List Period) (i k : ℕ) (d : Period) → AreApart periods → i < length periods → is_named name (get_or periods i d) ≡ true → k < length periods
    → is_named name (get_or periods k d) ≡ true → k ≡ i
only_named name periods i k d apart within is lt also =
    let a = get_or periods i d in
    let b = get_or periods k d in
    let first : name ≡ a.name = (bytes_decides name a.name).0 is in
    let second : name ≡ b.name = (bytes_decides name b.name).0 also in
    let same : same_name a.name b.name ≡ true = (bytes_decides a.name b.name).1 (sym first ∙ second) in
    elim (cases_lt i k) [
      | inl before ↦ cc (sym (apart i k d before lt).names ∙ same_flip b.name a.name ∙ same)
      | inr from ↦ elim (cases_lt k i) [
        | inl behind ↦ cc (sym (apart k i d behind within).names ∙ same)
        | inr to ↦ omega (arith, from, to)
      ]
    ]

-- closing the one at a place closes the one of its name
pub closed_set : (name : List ℕ) (periods : List Period) (i : ℕ) (d : Period) → AreApart periods → i < length periods → is_named name (get_or periods i d) ≡ true
    → set periods i (closed (get_or periods i d)) ≡ map (closed_if_named name) periods
closed_set name periods i d apart within is =
    ext_get_or d (set periods i (closed (get_or periods i d))) (map (closed_if_named name) periods)
    (length-set periods i (closed (get_or periods i d)) ∙ sym (length-map periods (closed_if_named name)))
    (λ k lt.
    let here : k < length periods = omega (arith, lt, length-set periods i (closed (get_or periods i d))) in
    rw (closed_at name periods k d here) (at k here))
  where
    at : (k : ℕ) → k < length periods → get_or (set periods i (closed (get_or periods i d))) k d ≡ closed_if_named name (get_or periods k d)
    at k lt = elim (cases_Bool (is_named name (get_or periods k d))) [
      | inl also ↦
          let same = only_named name periods i k d apart within is lt also in
          rw (same, is) (get_or-set_same periods i (closed (get_or periods i d)) d within)
      | inr other ↦ rw other (get_or-set_other periods i k (closed (get_or periods i d)) d (λ same. let now : is_named name (get_or periods k d) ≡ true = rw same is in cc (sym other ∙ now)))
    ]

-- if no period has the name, none is closed
pub none_closed : (name : List ℕ) (periods : List Period) → list_any (is_named name) periods ≡ false → map (closed_if_named name) periods ≡ periods
none_closed name [] none = refl
none_closed name (period ∷ periods) none =
    let parts = or_parts (is_named name period) (list_any (is_named name) periods) none in
    rw (parts.0, none_closed name periods parts.1) refl

-- the days on which periods begin, after one of these is closed
closed_begun : (name : List ℕ) (periods : List Period) (begins : BTreeMap ℤ ℕ) → AreBegun (λ (p : Period). true) periods begins
    → AreBegun (λ (p : Period). true) (map (closed_if_named name) periods) begins
closed_begun name periods begins right = record {
  there = λ k d lt is.
      let within : k < length periods = omega (arith, lt, length-map periods (closed_if_named name)) in
      rw (closed_at name periods k d within, closed_first name (get_or periods k d)) (right.there k d within refl);
  back = λ day place d is.
      let found = right.back day place d is in
      (omega (arith, found.0, length-map periods (closed_if_named name)), rw (closed_at name periods place d found.0, closed_first name (get_or periods place d)) found.1, refl);
}

-- one more of them is closed
more_closed : (name : List ℕ) (periods : List Period) (closes new : BTreeMap ℤ ℕ) (i : ℕ) (d₀ : Period) → All IsPeriod periods → AreApart periods
    → AreBegun (λ (p : Period). p.closed) periods closes → i < length periods → is_named name (get_or periods i d₀) ≡ true → HasBegin closes new (get_or periods i d₀).first i
    → AreBegun (λ (p : Period). p.closed) (map (closed_if_named name) periods) new
more_closed name periods closes new i d₀ days apart right within is begun = record { there = there; back = back }
  where
    first_at : (d : Period) → get_or periods i d₀ ≡ get_or periods i d
    first_at d = get_or_default periods i d₀ d within

    named_at : (d : Period) → is_named name (get_or periods i d) ≡ true
    named_at d = rw (first_at d) at is

    closes_at : (d : Period) (day : ℤ) → get int_cmp new day ≡ (if int_eq (get_or periods i d).first day then Some i else get int_cmp closes day)
    closes_at d day = rw (first_at d) at (begun day)

    -- another period begins on another day
    differs : (k : ℕ) (d : Period) → k < length periods → (k ≡ i → ⊥) → int_eq (get_or periods i d).first (get_or periods k d).first ≡ false
    differs k d lt other =
        let a = get_or periods i d in
        let b = get_or periods k d in
        elim (cases_lt i k) [
          | inl before ↦ elim (cases_Bool (int_eq a.first b.first)) [
            | inl same ↦ cc (sym (begins_apart b a (days k d lt) (days i d within) (apart i k d before lt).days) ∙ (Decides-int_eq b.first a.first).1 (sym ((Decides-int_eq a.first b.first).0 same)))
            | inr not_same ↦ not_same
          ]
          | inr from ↦ elim (cases_lt k i) [
            | inl behind ↦ begins_apart a b (days i d within) (days k d lt) (apart k i d behind within).days
            | inr to ↦ absurd (other (omega (arith, from, to)))
          ]
        ]

    there : (k : ℕ) (d : Period) → k < length (map (closed_if_named name) periods) → (get_or (map (closed_if_named name) periods) k d).closed ≡ true
        → get int_cmp new (get_or (map (closed_if_named name) periods) k d).first ≡ Some k
    there k d lt closed_is =
        let here : k < length periods = omega (arith, lt, length-map periods (closed_if_named name)) in
        let image = closed_at name periods k d here in
        rw (image, closed_first name (get_or periods k d)) (at k d here (rw image at closed_is))
      where
        at : (k : ℕ) (d : Period) → k < length periods → (closed_if_named name (get_or periods k d)).closed ≡ true → get int_cmp new (get_or periods k d).first ≡ Some k
        at k d here closed_is = elim (cases_Bool (is_named name (get_or periods k d))) [
          | inl also ↦
              let same = only_named name periods i k d apart within (named_at d) here also in
              let equal : int_eq (get_or periods i d).first (get_or periods i d).first ≡ true = (Decides-int_eq (get_or periods i d).first (get_or periods i d).first).1 refl in
              rw same (closes_at d (get_or periods i d).first ∙ rw equal refl)
          | inr other ↦
              let old : (get_or periods k d).closed ≡ true = rw other at closed_is in
              let apart_from = differs k d here (λ same. let now : is_named name (get_or periods k d) ≡ true = rw same (named_at d) in cc (sym other ∙ now)) in
              closes_at d (get_or periods k d).first ∙ rw apart_from (right.there k d here old)
        ]

    back : (day : ℤ) (place : ℕ) (d : Period) → get int_cmp new day ≡ Some place
        → (place < length (map (closed_if_named name) periods)) × ((get_or (map (closed_if_named name) periods) place d).first ≡ day)
        × ((get_or (map (closed_if_named name) periods) place d).closed ≡ true)
    back day place d at = elim (cases_Bool (int_eq (get_or periods i d).first day)) [
      | inl same ↦
          let found : Some i ≡ Some place = sym (closes_at d day ∙ rw same refl) ∙ at in
          let place_is : i ≡ place = cc found in (
            omega (arith, length-map periods (closed_if_named name), place_is, within),
            rw (← place_is, closed_at name periods i d within, closed_first name (get_or periods i d)) ((Decides-int_eq (get_or periods i d).first day).0 same),
            rw (← place_is, closed_at name periods i d within, named_at d) refl,
          )
      | inr other ↦
          let old : get int_cmp closes day ≡ Some place = sym (closes_at d day ∙ rw other refl) ∙ at in
          let found = right.back day place d old in (
            omega (arith, length-map periods (closed_if_named name), found.0),
            rw (closed_at name periods place d found.0, closed_first name (get_or periods place d)) found.1,
            rw (closed_at name periods place d found.0) (stays (get_or periods place d) found.2),
          )
    ]
      where
        stays : (p : Period) → p.closed ≡ true → (closed_if_named name p).closed ≡ true
        stays p is_closed = elim (cases_Bool (is_named name p)) [ inl also ↦ rw also refl | inr other ↦ rw other is_closed ]

pub periods_closed : (name : List ℕ) (periods : List Period) (names : List (List ℕ)) (begins closes new : BTreeMap ℤ ℕ) (sealed : Bool) (i : ℕ) (d : Period)
    → ArePeriods periods names begins closes sealed → i < length periods → is_named name (get_or periods i d) ≡ true → HasBegin closes new (get_or periods i d).first i
    → ArePeriods (map (closed_if_named name) periods) names begins new true
periods_closed name periods names begins closes new sealed i d right within is begun = record {
  named = right.named ∙ sym (closed_names name periods);
  all = closed_begun name periods begins right.all;
  closed = more_closed name periods closes new i d right.days right.apart right.closed within is begun;
  sealing = sym (list_any_at (λ (p : Period). p.closed) (map (closed_if_named name) periods) i d (omega (arith, within, length-map periods (closed_if_named name)))
      (rw (closed_at name periods i d within, is) refl));
  days = closed_days name periods right.days;
  apart = closed_apart name periods right.apart;
  few = omega (arith, right.few, length-map periods (closed_if_named name));
}

-- whether the period of a name is closed, by the first of that name
pub closed_by_name : (name : List ℕ) (periods : List Period) (i : ℕ) (d : Period) → AreApart periods → Some i ≡ position (is_named name) periods
    → (get_or periods i d).closed ≡ list_any (is_closed_named name) periods
closed_by_name name periods i d apart is =
    let found = position_at_first (is_named name) periods i d is in
    elim (cases_Bool (get_or periods i d).closed) [
      | inl closed_is ↦ closed_is ∙ sym (list_any_at (is_closed_named name) periods i d found.0 (rw (closed_is, found.1) refl))
      | inr opened ↦ opened ∙ sym (list_any_none (is_closed_named name) periods (λ k e lt. elim (cases_Bool (is_closed_named name (get_or periods k e))) [
        | inl both ↦
            let parts = and_parts (get_or periods k e).closed (is_named name (get_or periods k e)) both in
            let named_at : is_named name (get_or periods i e) ≡ true = rw (get_or_default periods i d e found.0) at found.1 in
            let same = only_named name periods i k e apart found.0 named_at lt parts.1 in
            let own : (get_or periods i e).closed ≡ true = rw same at parts.0 in
            cc (sym opened ∙ ap (λ (p : Period). p.closed) (get_or_default periods i d e found.0) ∙ own)
        | inr apart_from ↦ apart_from
      ]))
    ]

pub none_closed_by_name : (name : List ℕ) (periods : List Period) → list_any (is_named name) periods ≡ false → list_any (is_closed_named name) periods ≡ false
none_closed_by_name name periods none = list_any_none (is_closed_named name) periods (λ k e lt. by (get_or periods k e).closed (is_named name (get_or periods k e)) (fails_at (is_named name) periods k e none lt))
  where
    by : (a b : Bool) → b ≡ false → (a && b) ≡ false
    by true b is = is
    by false b is = refl
