-- The periods from one to another.
use Rattle.std.specs.Prelude.{◌&&◌, ◌||◌, AllPairs, Contains, filter_map, find, int_le, not, slice_get}
use Rattle.std.specs.Int.{int_gap}
use Rattle.std.specs.List.{cons_option, list_any}
use Rattle.std.specs.Ordering.{int_eq}
use Rattle.std.proofs.Common.{◌≡◌, ◌∙◌, ◌↔◌, ◌⊎◌, ℕ, zero, suc, ◌<◌, ◌≤◌, ℤ, pos, negsuc, ◌≤ℤ◌, ◌<ℤ◌, ◌+ℤ◌, ◌-ℤ◌, Bool, true, false, true≢false, List, [], ◌∷◌, length, get_or, All, Option, Some, None, refl, sym, ap, subst, arith, inl, inr}
use Rattle.std.proofs.lemmas.Bool.{and_parts, cases_Bool, cases_eq, cases_lt}
use Rattle.std.proofs.lemmas.Bool.Decides.{Decides-int_eq}
use Rattle.std.proofs.lemmas.Int.{by_lt_z, ints}
use Rattle.std.proofs.lemmas.Option.{get_or_from_slice_get, slice_get-get_or, slice_get_within}
use Rattle.pb_fixed.proofs.Lists.{all_each, some_same}
use Rattle.pb_periods.specs.declared.period.Period.{Period}
use Rattle.pb_periods.specs.Apart.{AreApart, shares_a_day}
use Rattle.pb_periods.specs.Ranges.{IsPeriod}
use Rattle.pb_periods.specs.Windows.{begins_on, days_between, days_in_row, has_gap, periods_between}
use Rattle.pb_book.specs.Laws.{AcceptedLaw}
use Rattle.pb_laws.specs.Between.{AreAllBetween, BeginsBetween, BetweenLaw, HasDay}

-- ---- places in a list
abbrev At : List Period → Period → Type 0
At xs p = (k : ℕ) × (slice_get xs k ≡ Some p)

contained : (xs : List Period) (p : Period) → At xs p → Contains xs p
contained xs p (k, at) = (k, slice_get_within xs k p at, get_or_from_slice_get xs k p p at)

at_contained : (xs : List Period) (p : Period) → Contains xs p → At xs p
at_contained xs p (k, within, is) = (k, slice_get-get_or xs k p within ∙ ap (λ (q : Period). Some q) is)

found_at : (q : Period → Bool) (xs : List Period) (p : Period) → find q xs ≡ Some p → At xs p × (q p ≡ true)
found_at q [] p is = cc is
found_at q (x ∷ xs) p is = elim (cases_Bool (q x)) [
  | inl here ↦
      let same : x ≡ p = some_same (rw here at is) in
      ((0, ap (λ (y : Period). Some y) same), subst (λ (y : Period). q y ≡ true) same here)
  | inr other ↦
      let rest = found_at q xs p (rw other at is) in
      ((suc rest.0.0, rest.0.1), rest.1)
]

any_at : (q : Period → Bool) (xs : List Period) → list_any q xs ≡ true → (p : Period) × At xs p × (q p ≡ true)
any_at q [] is = cc is
any_at q (x ∷ xs) is = elim (cases_Bool (q x)) [
  | inl here ↦ (x, (0, refl), here)
  | inr other ↦
      let (p, at, passes) = any_at q xs (rw other at is) in
      (p, (suc at.0, at.1), passes)
]

-- ---- periods that share no day
yes_le : (a b : ℤ) → a ≤ℤ b → int_le a b ≡ true
yes_le a b le = elim (cases_Bool (int_le a b)) [ inl is ↦ is | inr other ↦ absurd (omega (arith, ints, other, le)) ]

-- a day that two of the periods have shows that they are at the same place
earlier_shares : (periods : List Period) (i j : ℕ) (p q : Period) (day : ℤ) → AreApart periods → i < j → slice_get periods i ≡ Some p → slice_get periods j ≡ Some q
    → HasDay day p → HasDay day q → ⊥
earlier_shares periods i j p q day apart less at there one two =
    let first_is : get_or periods i p ≡ p = get_or_from_slice_get periods i p p at in
    let other_is : get_or periods j p ≡ q = get_or_from_slice_get periods j q p there in
    let shares : shares_a_day q.first q.last p ≡ true =
    rw (yes_le q.first p.last (omega (arith, ints, two.from, one.to)), yes_le p.first q.last (omega (arith, ints, one.from, two.to))) refl in
    let none = (apart i j p less (slice_get_within periods j q there)).days in
    true≢false (sym shares ∙ (rw (first_is, other_is) at none))

same_period : (periods : List Period) (p q : Period) (day : ℤ) → AreApart periods → At periods p → At periods q → HasDay day p → HasDay day q → p ≡ q
same_period periods p q day apart (i, at) (j, there) one two = elim (cases_lt i j) [
  | inl less ↦ absurd (earlier_shares periods i j p q day apart less at there one two)
  | inr ge ↦ elim (cases_eq i j) [
    | inl same ↦ some_same (sym at ∙ ap (slice_get periods) same ∙ there)
    | inr other ↦ absurd (earlier_shares periods j i q p day apart (omega (arith, ge, other)) there at two one)
  ]
]

-- ---- days in a row
gap_is : (a b : ℤ) → a ≤ℤ b → pos (int_gap a b) ≡ b -ℤ a
gap_is (pos a) (pos b) le = omega (arith, ints, le)
gap_is (pos a) (negsuc b) le = absurd (omega (arith, ints, le))
gap_is (negsuc a) (pos b) le = omega (arith, ints, le)
gap_is (negsuc a) (negsuc b) le = omega (arith, ints, le)

gap_past : (a b : ℤ) → b ≤ℤ a → int_gap a b ≡ 0
gap_past (pos a) (pos b) le = omega (arith, ints, le)
gap_past (pos a) (negsuc b) le = omega (arith, ints, le)
gap_past (negsuc a) (pos b) le = absurd (omega (arith, ints, le))
gap_past (negsuc a) (negsuc b) le = omega (arith, ints, le)

within_row : (first last day : ℤ) → first ≤ℤ day → day ≤ℤ last → day <ℤ (first +ℤ pos (int_gap first (last +ℤ pos 1)))
within_row first last day from to =
    let gap = gap_is first (last +ℤ pos 1) (omega (arith, ints, from, to)) in
    omega (arith, ints, gap, to)

in_row : (first last day : ℤ) → first ≤ℤ day → day <ℤ (first +ℤ pos (int_gap first (last +ℤ pos 1))) → day ≤ℤ last
in_row first last day from below = by_lt_z last first
    (λ (past : last <ℤ first).
    let none = gap_past first (last +ℤ pos 1) (omega (arith, ints, past)) in
    absurd (omega (arith, ints, from, below, none)))
    (λ (order : first ≤ℤ last).
    let gap = gap_is first (last +ℤ pos 1) (omega (arith, ints, order)) in
    omega (arith, ints, gap, below))

-- no day of them passes a test
none_pass : (test : ℤ → Bool) (first : ℤ) (n : ℕ) (day : ℤ) → list_any test (days_in_row first n) ≡ false → first ≤ℤ day → day <ℤ (first +ℤ pos n) → test day ≡ false
none_pass test first zero day none from below = absurd (omega (arith, ints, from, below))
none_pass test first (suc n) day none from below = elim (cases_Bool (test first)) [
  | inl here ↦ cc (rw here at none)
  | inr fails ↦ elim (cases_Bool (int_eq first day)) [
    | inl same ↦ subst (λ (d : ℤ). test d ≡ false) ((Decides-int_eq first day).0 same) fails
    | inr other ↦
        let apart : first ≡ day → ⊥ = λ is. true≢false (sym ((Decides-int_eq first day).1 is) ∙ other) in
        none_pass test (first +ℤ pos 1) n day (rw fails at none) (omega (arith, ints, from, apart)) (omega (arith, ints, below))
  ]
]

-- ---- the periods that begin on them
abbrev begun : List Period → ℤ → Option Period
begun periods day = find (begins_on day) periods

-- what the list of days gives
record Given (periods : List Period) (first : ℤ) (n : ℕ) (p : Period) : Type 0 where
  at : At periods p
  from : first ≤ℤ p.first
  below : p.first <ℤ (first +ℤ pos n)

later : (periods : List Period) (first : ℤ) (n : ℕ) (p : Period) → Given periods (first +ℤ pos 1) n p → Given periods first (suc n) p
later periods first n p given = record {
  at = given.at;
  from = omega (arith, ints, given.from);
  below = omega (arith, ints, given.below);
}

put_at : (o : Option Period) (xs : List Period) (k : ℕ) (p : Period) → slice_get (cons_option o xs) k ≡ Some p → ((o ≡ Some p) × (k ≡ 0)) ⊎ ((i : ℕ) × (slice_get xs i ≡ Some p) × (i ≤ k))
put_at None xs k p at = inr (k, at, omega arith)
put_at (Some x) xs zero p at = inl (at, refl)
put_at (Some x) xs (suc k) p at = inr (k, at, omega arith)

given_at : (periods : List Period) (first : ℤ) (n k : ℕ) (p : Period) → slice_get (filter_map (begun periods) (days_in_row first n)) k ≡ Some p → Given periods first n p
given_at periods first zero k p at = cc at
given_at periods first (suc n) k p at =
    elim (put_at (begun periods first) (filter_map (begun periods) (days_in_row (first +ℤ pos 1) n)) k p at) [
      | inl (here, none) ↦
          let (there, begins) = found_at (begins_on first) periods p here in
          let is : first ≡ p.first = (Decides-int_eq first p.first).0 begins in
          record { at = there; from = omega (arith, ints, is); below = omega (arith, ints, is) }
      | inr (i, rest, le) ↦ later periods first n p (given_at periods (first +ℤ pos 1) n i p rest)
    ]

-- each later one begins later
rising : (periods : List Period) (first : ℤ) (n i j : ℕ) (p q : Period) → i < j → slice_get (filter_map (begun periods) (days_in_row first n)) i ≡ Some p
    → slice_get (filter_map (begun periods) (days_in_row first n)) j ≡ Some q → p.first <ℤ q.first
rising periods first zero i j p q less at there = cc at
rising periods first (suc n) i j p q less at there = by (λ k l lt. rising periods (first +ℤ pos 1) n k l p q lt) (begun periods first) refl i j less at there
  where
    rest : List Period
    rest = filter_map (begun periods) (days_in_row (first +ℤ pos 1) n)

    by : ((k l : ℕ) → k < l → slice_get rest k ≡ Some p → slice_get rest l ≡ Some q → p.first <ℤ q.first)
        → (o : Option Period) → begun periods first ≡ o → (i j : ℕ) → i < j → slice_get (cons_option o rest) i ≡ Some p → slice_get (cons_option o rest) j ≡ Some q → p.first <ℤ q.first
    by more None is i j less at there = more i j less at there
    by more (Some x) is zero zero less at there = absurd (omega (arith, less))
    by more (Some x) is zero (suc j) less at there =
        let (place, begins) = found_at (begins_on first) periods p (is ∙ at) in
        let own : first ≡ p.first = (Decides-int_eq first p.first).0 begins in
        let given = given_at periods (first +ℤ pos 1) n j q there in
        omega (arith, ints, own, given.from)
    by more (Some x) is (suc i) zero less at there = absurd (omega (arith, less))
    by more (Some x) is (suc i) (suc j) less at there = more i j (omega (arith, less)) at there

-- a period of the list that begins on one of the days is given
begun_is : (periods : List Period) (p : Period) → AreApart periods → All IsPeriod periods → At periods p → begun periods p.first ≡ Some p
begun_is periods p apart rise (k, at) = by (begun periods p.first) refl
  where
    own : begins_on p.first p ≡ true
    own = (Decides-int_eq p.first p.first).1 refl

    passes : (xs : List Period) (i : ℕ) → slice_get xs i ≡ Some p → find (begins_on p.first) xs ≡ None → ⊥
    passes [] i there none = cc there
    passes (x ∷ xs) zero there none = cc (sym (rw (ap (begins_on p.first) (some_same there) ∙ own) at none))
    passes (x ∷ xs) (suc i) there none = elim (cases_Bool (begins_on p.first x)) [
      | inl here ↦ cc (sym (rw here at none))
      | inr other ↦ passes xs i there (rw other at none)
    ]

    by : (o : Option Period) → begun periods p.first ≡ o → begun periods p.first ≡ Some p
    by None is = absurd (passes periods k at is)
    by (Some x) is =
        let (place, begins) = found_at (begins_on p.first) periods x is in
        let first_is : p.first ≡ x.first = (Decides-int_eq p.first x.first).0 begins in
        let up = (all_each IsPeriod periods rise k p at).rises in
        let up_too = (all_each IsPeriod periods rise place.0 x place.1).rises in
        let same : x ≡ p = same_period periods x p p.first apart place (k, at) (record { from = omega (arith, ints, first_is); to = omega (arith, ints, first_is, up_too) }) (record { from = omega (arith, ints); to = up }) in
        is ∙ ap (λ (y : Period). Some y) same

at_given : (periods : List Period) (first : ℤ) (n : ℕ) (p : Period) → begun periods p.first ≡ Some p → first ≤ℤ p.first → p.first <ℤ (first +ℤ pos n)
    → At (filter_map (begun periods) (days_in_row first n)) p
at_given periods first zero p is from below = absurd (omega (arith, ints, from, below))
at_given periods first (suc n) p is from below = elim (cases_Bool (int_eq first p.first)) [
  | inl same ↦
      let here : begun periods first ≡ Some p = ap (begun periods) ((Decides-int_eq first p.first).0 same) ∙ is in
      (0, rw here refl)
  | inr other ↦
      let apart : first ≡ p.first → ⊥ = λ same. true≢false (sym ((Decides-int_eq first p.first).1 same) ∙ other) in
      let (k, at) = at_given periods (first +ℤ pos 1) n p is (omega (arith, ints, from, apart)) (omega (arith, ints, below)) in
      by (begun periods first) k at
]
  where
    by : (o : Option Period) (k : ℕ) → slice_get (filter_map (begun periods) (days_in_row (first +ℤ pos 1) n)) k ≡ Some p
        → At (cons_option o (filter_map (begun periods) (days_in_row (first +ℤ pos 1) n))) p
    by None k at = (k, at)
    by (Some x) k at = (suc k, at)

-- ---- the law
all_between : (periods : List Period) (first last : Period) → AreApart periods → All IsPeriod periods → Contains periods first → Contains periods last → AreAllBetween periods first last
unfolding has_gap periods_between
all_between periods first last apart rise has_first has_last = record {
  each = λ p. (
    λ has.
        let (k, at) = at_contained between p has in
        let given = given_at periods first.first count k p at in
        (contained periods p given.at, record { from = given.from; to = in_row first.first last.first p.first given.from given.below }),
    λ (has, begins). contained between p (among p (at_contained periods p has) begins.from begins.to),
  );
  order = λ i j d less within.
      let p : Period = get_or between i d in
      let q : Period = get_or between j d in
      let at : slice_get between i ≡ Some p = slice_get-get_or between i d (omega (arith, less, within)) in
      let there : slice_get between j ≡ Some q = slice_get-get_or between j d within in
      let up = rising periods first.first count i j p q less at there in
      ends p q (given_at periods first.first count i p at).at (given_at periods first.first count j q there).at up;
  covered = λ none day from to.
      let some : list_any (shares_a_day day day) periods ≡ true =
      not_false (list_any (shares_a_day day day) periods) (none_pass (λ (d : ℤ). not (list_any (shares_a_day d d) periods)) first.first (int_gap first.first (last.last +ℤ pos 1)) day none from (within_row first.first last.last day from to)) in
      let (r, at, shares) = any_at (shares_a_day day day) periods some in
      let parts = and_parts (int_le day r.last) (int_le r.first day) shares in
      let has : HasDay day r = record { from = omega (arith, ints, parts.1); to = omega (arith, ints, parts.0) } in
      (r, contained between r (among r at (after r at has from to) (before r at has from to)), has);
}
  where
    count : ℕ
    count = int_gap first.first (last.first +ℤ pos 1)

    between : List Period
    between = filter_map (begun periods) (days_in_row first.first count)

    among : (p : Period) → At periods p → first.first ≤ℤ p.first → p.first ≤ℤ last.first → At between p
    among p at from to = at_given periods first.first count p (begun_is periods p apart rise at) from (within_row first.first last.first p.first from to)

    rises : (p : Period) → At periods p → p.first ≤ℤ p.last
    rises p (k, at) = (all_each IsPeriod periods rise k p at).rises

    ends : (p q : Period) → At periods p → At periods q → p.first <ℤ q.first → p.last <ℤ q.first
    ends p q at there up = by_lt_z p.last q.first
        (λ (apart_now : p.last <ℤ q.first). apart_now)
        (λ (le : q.first ≤ℤ p.last).
        let same : p ≡ q = same_period periods p q q.first apart at there (record { from = omega (arith, ints, up); to = le }) (record { from = omega (arith, ints); to = rises q there }) in
        let own : p.first ≡ q.first = ap (λ (x : Period). x.first) same in
        absurd (omega (arith, ints, own, up)))

    not_false : (b : Bool) → not b ≡ false → b ≡ true
    not_false true is = refl
    not_false false is = cc is

    after : {day : ℤ} → (r : Period) → At periods r → HasDay day r → first.first ≤ℤ day → day ≤ℤ last.last → first.first ≤ℤ r.first
    after r at has from to = by_lt_z r.first first.first
        (λ (less : r.first <ℤ first.first).
        let own = at_contained periods first has_first in
        let same : r ≡ first = same_period periods r first first.first apart at own (record { from = omega (arith, ints, less); to = omega (arith, ints, from, has.to) })
        (record { from = omega (arith, ints); to = rises first own }) in
        let begins : r.first ≡ first.first = ap (λ (x : Period). x.first) same in
        absurd (omega (arith, ints, begins, less)))
        (λ (ge : first.first ≤ℤ r.first). ge)

    before : {day : ℤ} → (r : Period) → At periods r → HasDay day r → first.first ≤ℤ day → day ≤ℤ last.last → r.first ≤ℤ last.first
    before r at has from to = by_lt_z last.first r.first
        (λ (less : last.first <ℤ r.first).
        let own = at_contained periods last has_last in
        let same : r ≡ last = same_period periods r last r.first apart at own (record { from = omega (arith, ints); to = rises r at })
        (record { from = omega (arith, ints, less); to = omega (arith, ints, has.from, to) }) in
        let begins : r.first ≡ last.first = ap (λ (x : Period). x.first) same in
        absurd (omega (arith, ints, begins, less)))
        (λ (ge : r.first ≤ℤ last.first). ge)

pub between_periods : AcceptedLaw → BetweenLaw
between_periods accepted_law rows first last accepted has_first has_last =
    let consistent = accepted_law.consistent rows accepted in
    all_between _ first last consistent.apart consistent.days has_first has_last
