-- The periods that follow one another without a gap, found by going from the last day of each to the one that begins on the next
-- day.
use Rattle.std.specs.Prelude.{◌&&◌, ◌||◌, Contains, filter_map, find, int_le, map, nat_lt, not, position, slice_get}
use Rattle.std.specs.Int.{int_gap}
use Rattle.std.specs.List.{cons_option, list_any, position_or_len}
use Rattle.std.specs.BTreeMap.{BTreeMap, get}
use Rattle.std.specs.Ordering.{int_cmp, int_eq}
use Rattle.std.proofs.Common.{◌≡◌, ◌≢◌, ◌∙◌, ℕ, zero, suc, ◌+◌, ◌<◌, ◌≤◌, ℤ, pos, negsuc, ◌≤ℤ◌, ◌<ℤ◌, ◌+ℤ◌, ◌-ℤ◌, Bool, true, false, true≢false, List, [], ◌∷◌, ◌++◌, length, get_or, All, Option, Some, None, refl, sym, ap, subst, arith, append_assoc, append-nil, inl, inr}
use Rattle.std.proofs.lemmas.Bool.{and_parts, cases_Bool, cases_eq, cases_lt, ltb-false, ltb-true}
use Rattle.std.proofs.lemmas.Bool.Decides.{Decides-int_eq}
use Rattle.std.proofs.lemmas.Int.{ints}
use Rattle.std.proofs.lemmas.List.{get_or_default, map-append}
use Rattle.std.proofs.lemmas.List.Folds.{find_at, list_any_at, list_any_none}
use Rattle.std.proofs.lemmas.List.Sums.{fails_before_first, position_or_len_is}
use Rattle.std.proofs.lemmas.List.Quantifiers.{position-Some}
use Rattle.std.proofs.lemmas.Option.{cond_some, get_or_from_slice_get}
use Rattle.pb_periods.specs.declared.period.Period.{Period}
use Rattle.pb_periods.specs.Apart.{AreApart, shares_a_day}
use Rattle.pb_periods.specs.Kept.{AreBegun}
use Rattle.pb_periods.specs.Windows.{ArePlacesOf, begins_on, days_between, days_in_row, has_gap, periods_between}
use Rattle.pb_periods.specs.Ranges.{IsPeriod}

-- ---- days up to one that isn't counted

gap_is : (a b : ℤ) → a ≤ℤ b → pos (int_gap a b) ≡ b -ℤ a
gap_is (pos a) (pos b) le = omega (arith, ints, le)
gap_is (pos a) (negsuc b) le = absurd (omega (arith, ints, le))
gap_is (negsuc a) (pos b) le = omega (arith, ints, le)
gap_is (negsuc a) (negsuc b) le = omega (arith, ints, le)

gap_past : (a b : ℤ) → b ≤ℤ a → int_gap a b ≡ 0
gap_past (pos a) (pos b) le = omega (arith, ints, le)
gap_past (pos a) (negsuc b) le = omega (arith, ints, le)
gap_past (negsuc a) (pos b) le = absurd (omega (arith, ints, le))
gap_past (negsuc a) (negsuc b) le = omega (arith, ints, le)

gap_next : (a b : ℤ) → a <ℤ b → int_gap a b ≡ suc (int_gap (a +ℤ pos 1) b)
gap_next a b lt =
    let here = gap_is a b (omega (arith, ints, lt)) in
    let next = gap_is (a +ℤ pos 1) b (omega (arith, ints, lt)) in
    omega (arith, ints, here, next)

-- a later day has fewer days before the end
pub gap_smaller : (a b end : ℤ) → a <ℤ end → a <ℤ b → int_gap b end < int_gap a end
gap_smaller a b end lt later = elim (cases_Bool (int_le end b)) [
  | inl past ↦
      let none = gap_past b end (omega (arith, ints, past)) in
      let here = gap_next a end lt in
      omega (arith, none, here)
  | inr before ↦
      let here = gap_is a end (omega (arith, ints, lt)) in
      let next = gap_is b end (omega (arith, ints, before)) in
      omega (arith, ints, here, next, later)
]

abbrev days_until : ℤ → ℤ → List ℤ
days_until day end = days_in_row day (int_gap day end)

days_next : (day end : ℤ) → day <ℤ end → days_until day end ≡ day ∷ days_until (day +ℤ pos 1) end
days_next day end lt = ap (days_in_row day) (gap_next day end lt)

days_past : (day end : ℤ) → end ≤ℤ day → days_until day end ≡ []
days_past day end le = ap (days_in_row day) (gap_past day end le)

-- days for which a function gives nothing are passed over
skip_none : {X : Type 0} (f : ℤ → Option X) (k : ℕ) (day end : ℤ) → ((d : ℤ) → day ≤ℤ d → d <ℤ (day +ℤ pos k) → f d ≡ None)
    → filter_map f (days_until day end) ≡ filter_map f (days_until (day +ℤ pos k) end)
skip_none f zero day end none = let same : day +ℤ pos 0 ≡ day = omega (arith, ints) in ap (λ (d : ℤ). filter_map f (days_until d end)) (sym same)
skip_none {X = X} f (suc k) day end none = elim (cases_Bool (int_le end day)) [
  | inl past ↦ ap (filter_map f) (days_past day end (omega (arith, ints, past)) ∙ sym (days_past (day +ℤ pos (suc k)) end (omega (arith, ints, past))))
  | inr before ↦
      let lt : day <ℤ end = omega (arith, ints, before) in
      let here : f day ≡ None = none day (omega (arith, ints)) (omega (arith, ints)) in
      let later : (day +ℤ pos 1) +ℤ pos k ≡ day +ℤ pos (suc k) = omega (arith, ints) in
      ap (filter_map f) (days_next day end lt) ∙ ap (λ (o : Option X). cons_option o (filter_map f (days_until (day +ℤ pos 1) end))) here
      ∙ skip_none f k (day +ℤ pos 1) end (λ d from to. none d (omega (arith, ints, from)) (omega (arith, ints, to)))
      ∙ ap (λ (d : ℤ). filter_map f (days_until d end)) later
]

-- days that fail a test are passed over
skip_fails : (p : ℤ → Bool) (k : ℕ) (day end : ℤ) → ((d : ℤ) → day ≤ℤ d → d <ℤ (day +ℤ pos k) → p d ≡ false)
    → list_any p (days_until day end) ≡ list_any p (days_until (day +ℤ pos k) end)
skip_fails p zero day end none = let same : day +ℤ pos 0 ≡ day = omega (arith, ints) in ap (λ (d : ℤ). list_any p (days_until d end)) (sym same)
skip_fails p (suc k) day end none = elim (cases_Bool (int_le end day)) [
  | inl past ↦ ap (list_any p) (days_past day end (omega (arith, ints, past)) ∙ sym (days_past (day +ℤ pos (suc k)) end (omega (arith, ints, past))))
  | inr before ↦
      let lt : day <ℤ end = omega (arith, ints, before) in
      let here : p day ≡ false = none day (omega (arith, ints)) (omega (arith, ints)) in
      let later : (day +ℤ pos 1) +ℤ pos k ≡ day +ℤ pos (suc k) = omega (arith, ints) in
      ap (list_any p) (days_next day end lt) ∙ ap (λ (b : Bool). b || list_any p (days_until (day +ℤ pos 1) end)) here
      ∙ skip_fails p k (day +ℤ pos 1) end (λ d from to. none d (omega (arith, ints, from)) (omega (arith, ints, to)))
      ∙ ap (λ (d : ℤ). list_any p (days_until d end)) later
]

-- ---- periods that share no day

yes_le : (a b : ℤ) → a ≤ℤ b → int_le a b ≡ true
yes_le a b le = elim (cases_Bool (int_le a b)) [ inl is ↦ is | inr other ↦ absurd (omega (arith, ints, other, le)) ]

-- a period has a day
has : (day : ℤ) (period : Period) → period.first ≤ℤ day → day ≤ℤ period.last → shares_a_day day day period ≡ true
has day period from to = rw (yes_le day period.last to, yes_le period.first day from) refl

-- a day is in one period only
one_of_two : (periods : List Period) (i j : ℕ) (d : Period) (day : ℤ) → AreApart periods → i < j → j < length periods
    → (get_or periods i d).first ≤ℤ day → day ≤ℤ (get_or periods i d).last → (get_or periods j d).first ≤ℤ day → day ≤ℤ (get_or periods j d).last → ⊥
one_of_two periods i j d day apart lt within a b c e =
    let p : Period = get_or periods i d in
    let q : Period = get_or periods j d in
    let shares : shares_a_day q.first q.last p ≡ true = rw (yes_le q.first p.last (omega (arith, ints, c, b)), yes_le p.first q.last (omega (arith, ints, a, e))) refl in
    true≢false (sym shares ∙ (apart i j d lt within).days)

same_place : (periods : List Period) (i j : ℕ) (d : Period) (day : ℤ) → AreApart periods → i < length periods → j < length periods
    → (get_or periods i d).first ≤ℤ day → day ≤ℤ (get_or periods i d).last → (get_or periods j d).first ≤ℤ day → day ≤ℤ (get_or periods j d).last → i ≡ j
same_place periods i j d day apart i_in j_in a b c e = elim (cases_lt i j) [
  | inl lt ↦ absurd (one_of_two periods i j d day apart lt j_in a b c e)
  | inr ge ↦ elim (cases_eq i j) [
    | inl same ↦ same
    | inr other ↦ absurd (one_of_two periods j i d day apart (omega (arith, ge, other)) i_in c e a b)
  ]
]

find_none : (p : Period → Bool) (xs : List Period) → list_any p xs ≡ false → find p xs ≡ None
find_none p [] none = refl
find_none p (x ∷ xs) none = elim (cases_Bool (p x)) [
  | inl here ↦ cc (rw here at none)
  | inr other ↦ rw other (find_none p xs (rw other at none))
]

-- no period begins on a later day of a period
none_begins : (periods : List Period) (i : ℕ) (d : Period) (day : ℤ) → AreApart periods → All IsPeriod periods
    → i < length periods → (get_or periods i d).first <ℤ day → day ≤ℤ (get_or periods i d).last → list_any (begins_on day) periods ≡ false
none_begins periods i d day apart rise within from to = list_any_none (begins_on day) periods each
  where
    each : (k : ℕ) (e : Period) → k < length periods → begins_on day (get_or periods k e) ≡ false
    each k e lt = elim (cases_Bool (begins_on day (get_or periods k e))) [
      | inr other ↦ other
      | inl begins ↦
          let is : day ≡ (get_or periods k e).first = (Decides-int_eq day (get_or periods k e).first).0 begins in
          let default : get_or periods k e ≡ get_or periods k d = get_or_default periods k e d lt in
          let first_is : day ≡ (get_or periods k d).first = is ∙ ap (λ (p : Period). p.first) default in
          let up = (rise k d lt).rises in
          let same = same_place periods i k d day apart within lt (omega (arith, ints, from)) to (omega (arith, ints, first_is)) (omega (arith, ints, first_is, up)) in
          let own : day ≡ (get_or periods i d).first = first_is ∙ ap (λ (n : ℕ). (get_or periods n d).first) (sym same) in
          absurd (omega (arith, ints, own, from))
    ]

-- a day after a period on which no period begins is in no period
none_has : (periods : List Period) (i : ℕ) (d : Period) → AreApart periods → All IsPeriod periods → i < length periods
    → list_any (begins_on ((get_or periods i d).last +ℤ pos 1)) periods ≡ false
    → list_any (shares_a_day ((get_or periods i d).last +ℤ pos 1) ((get_or periods i d).last +ℤ pos 1)) periods ≡ false
none_has periods i d apart rise within none = list_any_none (shares_a_day ((get_or periods i d).last +ℤ pos 1) ((get_or periods i d).last +ℤ pos 1)) periods each
  where
    each : (k : ℕ) (e : Period) → k < length periods
        → shares_a_day ((get_or periods i d).last +ℤ pos 1) ((get_or periods i d).last +ℤ pos 1) (get_or periods k e) ≡ false
    each k e lt =
        let day : ℤ = (get_or periods i d).last +ℤ pos 1 in
        let before_day : day ≡ (get_or periods i d).last +ℤ pos 1 = refl in
        elim (cases_Bool (shares_a_day day day (get_or periods k e))) [
          | inr other ↦ other
          | inl has ↦
              let default : get_or periods k e ≡ get_or periods k d = get_or_default periods k e d lt in
              let there : shares_a_day day day (get_or periods k d) ≡ true = subst (λ (p : Period). shares_a_day day day p ≡ true) default has in
              let parts = and_parts (int_le day (get_or periods k d).last) (int_le (get_or periods k d).first day) there in
              elim (cases_Bool (int_eq day (get_or periods k d).first)) [
                | inl begins ↦ absurd (true≢false (sym (list_any_at (begins_on day) periods k d lt begins) ∙ none))
                | inr later ↦
                    let other : day ≢ (get_or periods k d).first = λ is. absurd (true≢false (sym ((Decides-int_eq day (get_or periods k d).first).1 is) ∙ later)) in
                    let before : (get_or periods k d).first ≤ℤ (get_or periods i d).last = omega (arith, ints, parts.1, other) in
                    let up = (rise i d within).rises in
                    let same = same_place periods i k d (get_or periods i d).last apart within lt up (omega (arith, ints)) before (omega (arith, ints, parts.0)) in
                    let own : (get_or periods i d).last ≡ (get_or periods k d).last = ap (λ (n : ℕ). (get_or periods n d).last) same in
                    absurd (omega (arith, ints, own, parts.0))
              ]
        ]

-- ---- from period to period

no_place : (p : Period → Bool) (xs : List Period) → position p xs ≡ None → list_any p xs ≡ false
no_place p xs is = list_any_none p xs (λ k d lt. fails_before_first p xs k d (omega (arith, lt, past)))
  where
    past : length xs ≤ position_or_len p xs
    past = elim (cases_Bool (nat_lt (position_or_len p xs) (length xs))) [
      | inl passes ↦ cc (rw passes at is)
      | inr fails ↦ omega (arith, ltb-false (position_or_len p xs) (length xs) fails)
    ]

-- the period that begins on a day
abbrev begun : List Period → ℤ → Option Period
begun periods day = find (begins_on day) periods

-- a day is in none of these periods
abbrev is_in_none : List Period → ℤ → Bool
is_in_none periods day = not (list_any (shares_a_day day day) periods)

-- The way from one period to another, up to a day: these are the places of the periods so far, and a period begins on the day, or
-- the day is in no period.
pub record IsOnWay (periods : List Period) (first last : Period) (day : ℤ) (places : List ℕ) : Type 0 where
  pub made : map (slice_get periods) places ++ map Some (filter_map (begun periods) (days_between day last.first))
      ≡ map Some (periods_between periods first last)
  pub left : list_any (is_in_none periods) (days_between day last.last) ≡ has_gap periods first last
  pub next : list_any (begins_on day) periods ≡ false → list_any (shares_a_day day day) periods ≡ false

-- it begins on the first day of the first period
pub begin : (periods : List Period) (first last : Period) → Contains periods first → IsOnWay periods first last first.first []
unfolding has_gap periods_between
begin periods first last (k, lt, is) = record {
  made = refl;
  left = refl;
  next = λ none. cc (sym none ∙ list_any_at (begins_on first.first) periods k first lt (rw is begins));
}
  where
    begins : begins_on first.first first ≡ true
    begins = (Decides-int_eq first.first first.first).1 refl

-- after the last day of the second period it is complete
pub arrived : (periods : List Period) (first last : Period) (day : ℤ) (places : List ℕ) → IsPeriod last
    → last.last <ℤ day → IsOnWay periods first last day places → ArePlacesOf periods first last places
arrived periods first last day places days past way = record {
  no_gap = sym way.left ∙ ap (list_any (is_in_none periods)) none;
  they_are = sym (append-nil (map (slice_get periods) places))
      ∙ ap (λ (days : List ℤ). map (slice_get periods) places ++ map Some (filter_map (begun periods) days)) (sym none_begin) ∙ way.made;
}
  where
    none : days_between day last.last ≡ []
    none = days_past day (last.last +ℤ pos 1) (omega (arith, ints, past))

    none_begin : days_between day last.first ≡ []
    none_begin = days_past day (last.first +ℤ pos 1) (omega (arith, ints, past, days.rises))

-- on a day on which no period begins there is a gap
pub stopped : (periods : List Period) (first last : Period) (day : ℤ) (places : List ℕ) → day ≤ℤ last.last
    → position (begins_on day) periods ≡ None → IsOnWay periods first last day places → has_gap periods first last ≡ true
stopped periods first last day places within none way =
    let alone = way.next (no_place (begins_on day) periods none) in
    sym way.left ∙ ap (list_any (is_in_none periods)) (days_next day (last.last +ℤ pos 1) (omega (arith, ints, within)))
    ∙ ap (λ (b : Bool). not b || list_any (is_in_none periods) (days_until (day +ℤ pos 1) (last.last +ℤ pos 1))) alone

-- the period at a place that begins on a day is the one found
found : (periods : List Period) (day : ℤ) (place : ℕ) (period : Period) → position (begins_on day) periods ≡ Some place → slice_get periods place ≡ Some period
    → begun periods day ≡ Some period
found periods day place period is there =
    let first = cond_some (nat_lt (position_or_len (begins_on day) periods) (length periods)) (position_or_len (begins_on day) periods) place is in
    find_at (begins_on day) periods ∙ ap (slice_get periods) first.1 ∙ there

-- one more period
pub went_on : (periods : List Period) (first last : Period) (day : ℤ) (places : List ℕ) (place : ℕ) (period : Period) → AreApart periods → All IsPeriod periods
    → Contains periods last → day ≤ℤ last.last → position (begins_on day) periods ≡ Some place → slice_get periods place ≡ Some period
    → IsOnWay periods first last day places → IsOnWay periods first last (period.last +ℤ pos 1) (places ++ place ∷ [])
went_on periods first last day places place period apart rise (i, last_in, last_is) within is there way = record {
  made = ap (λ (made : List (Option Period)). made ++ map Some (filter_map (begun periods) (days_until (period.last +ℤ pos 1) (last.first +ℤ pos 1)))) (map-append (slice_get periods) places (place ∷ []))
      ∙ append_assoc (map (slice_get periods) places) (slice_get periods place ∷ []) (map Some (filter_map (begun periods) (days_until (period.last +ℤ pos 1) (last.first +ℤ pos 1))))
      ∙ ap (λ (one : Option Period). map (slice_get periods) places ++ (one ∷ map Some (filter_map (begun periods) (days_until (period.last +ℤ pos 1) (last.first +ℤ pos 1))))) there
      ∙ ap (λ (rest : List Period). map (slice_get periods) places ++ map Some rest) (sym (passed early)) ∙ way.made;
  left = sym reached ∙ way.left;
  next = λ none. rw here at (none_has periods place period apart rise at.0 (rw here none));
}
  where
    at : (place < length periods) × (begins_on day (get_or periods place period) ≡ true) × ((k : ℕ) → k < place → begins_on day (get_or periods k period) ≡ false)
    at = position-Some (begins_on day) periods place period is

    here : get_or periods place period ≡ period
    here = get_or_from_slice_get periods place period period there

    begins : day ≡ period.first
    begins = (Decides-int_eq day period.first).0 (rw here at at.1)

    rises : period.first ≤ℤ period.last
    rises = (rw here at (rise place period at.0)).rises

    last_rises : last.first ≤ℤ last.last
    last_rises = (rw last_is at (rise i last last_in)).rises

    some_begins : list_any (begins_on day) periods ≡ true
    some_begins = list_any_at (begins_on day) periods place period at.0 at.1

    early : day <ℤ (last.first +ℤ pos 1)
    early = elim (cases_Bool (int_le day last.first)) [
      | inl le ↦ omega (arith, ints, le)
      | inr later ↦
          let after_first : (get_or periods i last).first <ℤ day = rw last_is (omega (arith, ints, later)) in
          let up_to : day ≤ℤ (get_or periods i last).last = rw last_is within in
          absurd (true≢false (sym some_begins ∙ none_begins periods i last day apart rise last_in after_first up_to))
    ]

    none_later : (d : ℤ) → (day +ℤ pos 1) ≤ℤ d → d <ℤ ((day +ℤ pos 1) +ℤ pos (int_gap day period.last)) → begun periods d ≡ None
    none_later d from to =
        let count = gap_is day period.last (omega (arith, ints, begins, rises)) in
        let after_first : (get_or periods place period).first <ℤ d = rw here (omega (arith, ints, from, begins)) in
        let up_to : d ≤ℤ (get_or periods place period).last = rw here (omega (arith, ints, to, count)) in
        find_none (begins_on d) periods (none_begins periods place period d apart rise at.0 after_first up_to)

    passed : {end : ℤ} → day <ℤ end → filter_map (begun periods) (days_until day end) ≡ period ∷ filter_map (begun periods) (days_until (period.last +ℤ pos 1) end)
    passed {end = end} lt =
        let count = gap_is day period.last (omega (arith, ints, begins, rises)) in
        let behind : (day +ℤ pos 1) +ℤ pos (int_gap day period.last) ≡ period.last +ℤ pos 1 = omega (arith, ints, count) in
        ap (filter_map (begun periods)) (days_next day end lt)
        ∙ ap (λ (one : Option Period). cons_option one (filter_map (begun periods) (days_until (day +ℤ pos 1) end))) (found periods day place period is there)
        ∙ ap (λ (rest : List Period). period ∷ rest) (skip_none (begun periods) (int_gap day period.last) (day +ℤ pos 1) end none_later
        ∙ ap (λ (d : ℤ). filter_map (begun periods) (days_until d end)) behind)

    taken : (d : ℤ) → day ≤ℤ d → d <ℤ (day +ℤ pos (suc (int_gap day period.last))) → is_in_none periods d ≡ false
    taken d from to =
        let count = gap_is day period.last (omega (arith, ints, begins, rises)) in
        let its = has d period (omega (arith, ints, from, begins)) (omega (arith, ints, to, count)) in
        ap not (list_any_at (shares_a_day d d) periods place period at.0 (rw here its))

    reached : list_any (is_in_none periods) (days_between day last.last) ≡ list_any (is_in_none periods) (days_between (period.last +ℤ pos 1) last.last)
    reached =
        let count = gap_is day period.last (omega (arith, ints, begins, rises)) in
        let behind : day +ℤ pos (suc (int_gap day period.last)) ≡ period.last +ℤ pos 1 = omega (arith, ints, count) in
        skip_fails (is_in_none periods) (suc (int_gap day period.last)) day (last.last +ℤ pos 1) taken
        ∙ ap (λ (d : ℤ). list_any (is_in_none periods) (days_until d (last.last +ℤ pos 1))) behind

-- the next day lies after the one on which the period begins
pub later : (periods : List Period) (day : ℤ) (place : ℕ) (period : Period) → IsPeriod period → position (begins_on day) periods ≡ Some place → slice_get periods place ≡ Some period
    → day <ℤ (period.last +ℤ pos 1)
later periods day place period days is there =
    let at = position-Some (begins_on day) periods place period is in
    let here = get_or_from_slice_get periods place period period there in
    let begins : day ≡ period.first = (Decides-int_eq day period.first).0 (rw here at at.1) in
    omega (arith, ints, begins, days.rises)

-- ---- the place of the first item that passes a test

position_is : (p : Period → Bool) (xs : List Period) (place : ℕ) → position_or_len p xs ≡ place → place < length xs → position p xs ≡ Some place
position_is p xs place is lt = elim (cases_Bool (nat_lt (position_or_len p xs) (length xs))) [
  | inl within ↦ rw within (ap Some is)
  | inr past ↦ absurd (omega (arith, ltb-false (position_or_len p xs) (length xs) past, is, lt))
]

position_none : (p : Period → Bool) (xs : List Period) → position_or_len p xs ≡ length xs → position p xs ≡ None
position_none p xs is = elim (cases_Bool (nat_lt (position_or_len p xs) (length xs))) [
  | inl within ↦ absurd (omega (arith, ltb-true (position_or_len p xs) (length xs) within, is))
  | inr past ↦ rw past refl
]

no_period : Period
no_period = record { name = []; first = pos 0; last = pos 0; closed = false }

-- ---- the period that begins on a day, as the map of first days has it

pub begun_place : (periods : List Period) (begins : BTreeMap ℤ ℕ) (day : ℤ) → AreBegun (λ (period : Period). true) periods begins → get int_cmp begins day ≡ position (begins_on day) periods
begun_place periods begins day right = by (get int_cmp begins day) refl
  where
    chosen : Period → Bool
    chosen period = true

    found_at : (place : ℕ) → place ≤ length periods → ((k : ℕ) (d : Period) → k < place → begins_on day (get_or periods k d) ≡ false)
        → (place < length periods → (d : Period) → begins_on day (get_or periods place d) ≡ true) → position_or_len (begins_on day) periods ≡ place
    found_at place le before at = position_or_len_is (begins_on day) periods place no_period le (λ k lt. before k no_period lt) (λ lt. at lt no_period)

    same : (k place : ℕ) (d : Period) → get int_cmp begins day ≡ Some place → k < length periods → begins_on day (get_or periods k d) ≡ true → k ≡ place
    same k place d is lt begins_here =
        let first : day ≡ (get_or periods k d).first = (Decides-int_eq day (get_or periods k d).first).0 begins_here in
        let there : get int_cmp begins day ≡ Some k = ap (get int_cmp begins) first ∙ right.there k d lt refl in
        cc (sym there ∙ is)

    by : (found : Option ℕ) → get int_cmp begins day ≡ found → get int_cmp begins day ≡ position (begins_on day) periods
    by (Some place) is =
        let at = right.back day place no_period is in
        let begins_here : begins_on day (get_or periods place no_period) ≡ true = (Decides-int_eq day (get_or periods place no_period).first).1 (sym at.1) in
        let place_is = found_at place (omega (arith, at.0))
        (λ k d lt. elim (cases_Bool (begins_on day (get_or periods k d))) [
          | inl begins_too ↦ absurd (omega (arith, lt, same k place d is (omega (arith, lt, at.0)) begins_too))
          | inr other ↦ other
        ])
        (λ lt d. rw (get_or_default periods place d no_period at.0) begins_here) in
        is ∙ sym (position_is (begins_on day) periods place place_is at.0)
    by None is =
        let none : (k : ℕ) (d : Period) → k < length periods → begins_on day (get_or periods k d) ≡ false = λ k d lt. elim (cases_Bool (begins_on day (get_or periods k d))) [
          | inl begins_here ↦
              let first : day ≡ (get_or periods k d).first = (Decides-int_eq day (get_or periods k d).first).0 begins_here in
              cc (sym is ∙ ap (get int_cmp begins) first ∙ right.there k d lt refl)
          | inr other ↦ other
        ] in
        is ∙ sym (position_none (begins_on day) periods (found_at (length periods) (omega arith) none (λ lt d. absurd (omega (arith, lt)))))
