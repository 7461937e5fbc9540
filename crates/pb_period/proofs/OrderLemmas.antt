-- The order of the facts doesn't matter.
use Rattle.std.specs.Prelude.{◌&&◌, ◌||◌, AllPairs, Contains, filter, filter_map, find, get_or, not, option_and_then, option_map, sum_by}
use Rattle.std.specs.Cmp.Lexicographic.{bytes_decides}
use Rattle.std.specs.List.{AllByRecursion, cons_option}
use Rattle.std.specs.List.Sorted.{IsPermutation}
use Rattle.std.specs.Ordering.{int_eq}
use Rattle.std.proofs.Common.{◌≡◌, ◌∙◌, ◌<◌, ◌+ℤ◌, ◌-ℤ◌, ℕ, zero, suc, ℤ, pos, negsuc, cond, List, [], ◌∷◌, length, Bool, true, false, true≢false, Option, Some, None, refl, sym, ap, ap₂, subst, arith, inl, inr}
use Rattle.std.proofs.lemmas.Bool.{and_parts, cases_Bool}
use Rattle.std.proofs.lemmas.Bool.Decides.{Decides-int_eq}
use Rattle.std.proofs.lemmas.Int.{ints}
use Rattle.std.proofs.lemmas.List.Sorted.{Contains-permutation, IsPermutation-sym, sum_by-IsPermutation}
use Rattle.std.proofs.lemmas.List.Sums.{sum_by-cons}
use Rattle.pb_fixed.specs.Sums.{sum_over}
use Rattle.pb_rows.specs.Name.{same_name}
use Rattle.pb_site.specs.declared.declared.Arc.{Arc}
use Rattle.pb_site.specs.declared.declared.ArcKind.{ArcKind}
use Rattle.pb_site.specs.declared.declared.ArcKind.TheVariants.{Metered, Batch, Plain, Tank}
use Rattle.pb_site.specs.declared.declared.Declared.{Declared}
use Rattle.pb_site.specs.declared.declared.Service.{Service}
use Rattle.pb_site.specs.OnDays.{names_on}
use Rattle.pb_site.specs.Service.{day_of_opening, first_served, last_served}
use Rattle.pb_site.specs.Site.{AreDistinct, arc_names, points_of_tank, version_of}
use Rattle.pb_rows.specs.declared.name.Names.{Names}
use Rattle.pb_facts.specs.declared.fact.Fact.{Fact}
use Rattle.pb_facts.specs.declared.fact.Fact.TheVariants.{Reading, Transfer, Dip}
use Rattle.pb_facts.specs.declared.facts.KeptFact.{KeptFact}
use Rattle.pb_facts.specs.Fact.{id_of, is_dip_on, is_on_day_of, is_reading_on}
use Rattle.pb_facts.specs.Facts.{NoRepeats, has_id, is_repeat, live_fact, live_facts}
use Rattle.pb_kinds.specs.declared.rows.StoredRow.{StoredRow}
use Rattle.pb_book.specs.Rows.{declared_of, facts_of}
use Rattle.pb_book.specs.TakenOut.{touching_of}
use Rattle.pb_periods.specs.declared.period.Period.{Period}
use Rattle.pb_periods.specs.Touching.{touches_in}
use Rattle.pb_periods.specs.Windows.{days_between}
use Rattle.pb_period.specs.declared.amount.Amount.{Amount}
use Rattle.pb_period.specs.declared.days.Days.{Days}
use Rattle.pb_period.specs.Days.{days_of}
use Rattle.pb_period.specs.Facts.{content_of, read_amount, read_on, total_of, transferred}
use Rattle.pb_period.specs.Laws.{AgreeOn, LeavesGraph, touching_facts}
use Rattle.pb_period.specs.Measurement.{amount_of, change_of, measured, measurement}
use Rattle.pb_period.specs.PeriodGraph.{period_graph, period_names, within_limits}
use Rattle.pb_period.proofs.PlainLemmas.{graph_by, graph_is}
use Rattle.pb_period.proofs.UntouchedLemmas.{heads, pairs_tail, same_graph, same_total, touching}

-- ---- what is found, if no more than one item of a list passes
abbrev IsOnly : {A : Type 0} → (A → Bool) → List A → Type 0
IsOnly {A} p xs = (x y : A) → Contains xs x → Contains xs y → p x ≡ true → p y ≡ true → x ≡ y

found_in : {A : Type 0} (p : A → Bool) (xs : List A) (x : A) → find p xs ≡ Some x → Contains xs x × (p x ≡ true)
found_in p [] x is = cc is
found_in p (y ∷ xs) x is = elim (cases_Bool (p y)) [
  | inl here ↦
      let same : y ≡ x = the_same (rw here at is) in
      ((0, omega arith, same), subst (λ (z : _). p z ≡ true) same here)
  | inr later ↦
      let (at, passes) = found_in p xs x (rw later at is) in
      ((suc at.0, omega (arith, at.1), at.2), passes)
]
  where
    the_same : {A : Type 0} {y x : A} → Some y ≡ Some x → y ≡ x
    the_same e = cc e

the_none : {A : Type 0} {y : A} → Some y ≡ None → true ≡ false
the_none e = cc e

none_in : {A : Type 0} (p : A → Bool) (xs : List A) (x : A) → find p xs ≡ None → Contains xs x → p x ≡ false
none_in p [] x is (k, lt, at) = absurd (omega (arith, lt))
none_in p (y ∷ xs) x is (zero, lt, at) = elim (cases_Bool (p y)) [
  | inl here ↦ absurd (true≢false (the_none (rw here at is)))
  | inr later ↦ subst (λ (z : _). p z ≡ false) at later
]
none_in p (y ∷ xs) x is (suc k, lt, at) = elim (cases_Bool (p y)) [
  | inl here ↦ absurd (true≢false (the_none (rw here at is)))
  | inr later ↦ none_in p xs x (rw later at is) (k, omega (arith, lt), at)
]

find_permuted : {A : Type 0} (p : A → Bool) (xs ys : List A) → IsPermutation xs ys → IsOnly p xs → find p ys ≡ find p xs
find_permuted {A} p xs ys moved only = by (find p xs) (find p ys) refl refl
  where
    back : (y : A) → Contains ys y → Contains xs y
    back y at = Contains-permutation ys xs y (IsPermutation-sym xs ys moved) at

    by : (one other : Option A) → find p xs ≡ one → find p ys ≡ other → other ≡ one
    by None None is so = refl
    by None (Some y) is so =
        let (at, passes) = found_in p ys y so in
        absurd (true≢false (sym passes ∙ none_in p xs y is (back y at)))
    by (Some x) None is so =
        let (at, passes) = found_in p xs x is in
        absurd (true≢false (sym passes ∙ none_in p ys x so (Contains-permutation xs ys x moved at)))
    by (Some x) (Some y) is so =
        let (at, passes) = found_in p xs x is in
        let (there, passes_too) = found_in p ys y so in
        ap (λ (z : A). Some z) (only y x (back y there) at passes_too passes)

-- ---- sums
abbrev up : ℤ → ℕ
up (pos n) = n
up (negsuc n) = 0

abbrev down : ℤ → ℕ
down (pos n) = 0
down (negsuc n) = suc n

up_less_down : (z : ℤ) → z ≡ pos (up z) -ℤ pos (down z)
up_less_down (pos n) = omega (arith, ints)
up_less_down (negsuc n) = omega (arith, ints)

split_sum : {A : Type 0} (f : A → ℤ) (xs : List A) → sum_over f xs ≡ pos (sum_by (λ x. up (f x)) xs) -ℤ pos (sum_by (λ x. down (f x)) xs)
split_sum f [] = omega (arith, ints)
split_sum f (x ∷ xs) =
    let rest = split_sum f xs in
    let here = up_less_down (f x) in
    let ups = sum_by-cons (λ y. up (f y)) x xs in
    let downs = sum_by-cons (λ y. down (f y)) x xs in
    omega (arith, ints, rest, here, ups, downs)

sum_permuted : {A : Type 0} (f : A → ℤ) (xs ys : List A) → IsPermutation xs ys → sum_over f ys ≡ sum_over f xs
sum_permuted f xs ys moved =
    let ups = sum_by-IsPermutation (λ x. up (f x)) xs ys moved in
    let downs = sum_by-IsPermutation (λ x. down (f x)) xs ys moved in
    let one = split_sum f xs in
    let other = split_sum f ys in
    omega (arith, ints, ups, downs, one, other)

-- a number of an amount, or 0 if there is none
abbrev number_in : (Amount → ℤ) → Option Amount → ℤ
number_in number None = pos 0
number_in number (Some amount) = number amount

given_sum : {A : Type 0} (number : Amount → ℤ) (given : A → Option Amount) (xs : List A) → sum_over number (filter_map given xs) ≡ sum_over (λ x. number_in number (given x)) xs
given_sum number given [] = refl
given_sum number given (x ∷ xs) = put (given x) ∙ ap (λ (z : ℤ). number_in number (given x) +ℤ z) (given_sum number given xs)
  where
    put : (o : Option Amount) → sum_over number (cons_option o (filter_map given xs)) ≡ number_in number o +ℤ sum_over number (filter_map given xs)
    put None = omega (arith, ints)
    put (Some amount) = refl

total_permuted : {A : Type 0} (given : A → Option Amount) (xs ys : List A) → IsPermutation xs ys → total_of (filter_map given ys) ≡ total_of (filter_map given xs)
total_permuted given xs ys moved = λ i. record { grams = same (λ (a : Amount). a.grams) i; variance = same (λ (a : Amount). a.variance) i }
  where
    same : (number : Amount → ℤ) → sum_over number (filter_map given ys) ≡ sum_over number (filter_map given xs)
    same number = given_sum number given ys ∙ sum_permuted (λ x. number_in number (given x)) xs ys moved ∙ sym (given_sum number given xs)

-- ---- live facts repeat no reading and no dip
abbrev AreApart : List Fact → Type 0
AreApart [] = Unit {0}
AreApart (fact ∷ facts) = AllByRecursion (λ (later : Fact). is_on_day_of later fact ≡ false) facts × AreApart facts

-- what a kept fact doesn't repeat, a live one doesn't
live_apart : (fact : Fact) (kept : List KeptFact) → AllByRecursion (λ (k : KeptFact). is_on_day_of k.fact fact ≡ false) kept
    → AllByRecursion (λ (later : Fact). is_on_day_of later fact ≡ false) (live_facts kept)
live_apart fact [] apart = tt
live_apart fact (k ∷ kept) (here, rest) = elim (cases_Bool k.struck) [
  | inl gone ↦ rw gone (live_apart fact kept rest)
  | inr stands ↦ rw stands (here, live_apart fact kept rest)
]

apart_live : (kept : List KeptFact) → NoRepeats kept → AreApart (live_facts kept)
apart_live [] apart = tt
apart_live (k ∷ kept) apart = elim (cases_Bool k.struck) [
  | inl gone ↦ rw gone (apart_live kept (pairs_tail Apart k kept apart))
  | inr stands ↦ rw stands (live_apart k.fact kept (first stands), apart_live kept (pairs_tail Apart k kept apart))
]
  where
    Apart : KeptFact → KeptFact → Type 0
    Apart earlier later = is_repeat later.fact earlier ≡ false

    not_same : (a b c : Bool) → (a || (not b && c)) ≡ false → b ≡ false → c ≡ false
    not_same true b c is stands = cc is
    not_same false true c is stands = cc stands
    not_same false false c is stands = is

    first : k.struck ≡ false → AllByRecursion (λ (later : KeptFact). is_on_day_of later.fact k.fact ≡ false) kept
    first stands =
        heads Apart (λ (later : KeptFact). is_on_day_of later.fact k.fact ≡ false) k kept
        (λ later is. not_same (has_id (id_of later.fact) k) k.struck (is_on_day_of later.fact k.fact) is stands)
        (λ i d lt. apart 0 (suc i) d (omega arith) (omega (arith, lt)))

apart_filter : (q : Fact → Bool) (facts : List Fact) → AreApart facts → AreApart (filter q facts)
apart_filter q [] apart = tt
apart_filter q (fact ∷ facts) (here, rest) = elim (cases_Bool (q fact)) [
  | inl passes ↦ rw passes (those facts here, apart_filter q facts rest)
  | inr fails ↦ rw fails (apart_filter q facts rest)
]
  where
    those : (facts : List Fact) → AllByRecursion (λ (later : Fact). is_on_day_of later fact ≡ false) facts → AllByRecursion (λ (later : Fact). is_on_day_of later fact ≡ false) (filter q facts)
    those [] each = tt
    those (later ∷ facts) (one, others) = elim (cases_Bool (q later)) [
      | inl passes ↦ rw passes (one, those facts others)
      | inr fails ↦ rw fails (those facts others)
    ]

-- two facts that pass a test are of one day
abbrev IsOfOneDay : (Fact → Bool) → Type 0
IsOfOneDay p = (one other : Fact) → p one ≡ true → p other ≡ true → is_on_day_of other one ≡ true

away_from : (fact : Fact) (i : ℕ) (facts : List Fact) (z : Fact) → AllByRecursion (λ (later : Fact). is_on_day_of later fact ≡ false) facts → i < length facts → get_or facts i z ≡ z → is_on_day_of z fact ≡ false
away_from fact i [] z each lt at = absurd (omega (arith, lt))
away_from fact zero (f ∷ facts) z each lt at = subst (λ (g : Fact). is_on_day_of g fact ≡ false) at each.0
away_from fact (suc i) (f ∷ facts) z each lt at = away_from fact i facts z each.1 (omega (arith, lt)) at

only_apart : (p : Fact → Bool) → IsOfOneDay p → (facts : List Fact) → AreApart facts → IsOnly p facts
only_apart p of_one [] apart x y (k, lt, at) there passes passes_too = absurd (omega (arith, lt))
only_apart p of_one (fact ∷ facts) (here, rest) x y (zero, lt, at) (zero, within, is) passes passes_too = sym at ∙ is
only_apart p of_one (fact ∷ facts) (here, rest) x y (zero, lt, at) (suc l, within, is) passes passes_too =
    absurd (true≢false (sym (of_one fact y (subst (λ (z : Fact). p z ≡ true) (sym at) passes) passes_too) ∙ away_from fact l facts y here (omega (arith, within)) is))
only_apart p of_one (fact ∷ facts) (here, rest) x y (suc k, lt, at) (zero, within, is) passes passes_too =
    absurd (true≢false (sym (of_one fact x (subst (λ (z : Fact). p z ≡ true) (sym is) passes_too) passes) ∙ away_from fact k facts x here (omega (arith, lt)) at))
only_apart p of_one (fact ∷ facts) (here, rest) x y (suc k, lt, at) (suc l, within, is) passes passes_too =
    only_apart p of_one facts rest x y (k, omega (arith, lt), at) (l, omega (arith, within), is) passes passes_too

readings_of_one_day : (stream : List ℕ) (day : ℤ) → IsOfOneDay (is_reading_on stream day)
readings_of_one_day stream day (Transfer id own first last grams variance) other one two = cc one
readings_of_one_day stream day (Dip id tank d mm density variance) other one two = cc one
readings_of_one_day stream day (Reading id own d grams variance) (Transfer i n f l g v) one two = cc two
readings_of_one_day stream day (Reading id own d grams variance) (Dip i n e mm density v) one two = cc two
readings_of_one_day stream day (Reading id own d grams variance) (Reading i n e g v) one two =
    let a = and_parts (same_name own stream) (int_eq d day) one in
    let b = and_parts (same_name n stream) (int_eq e day) two in
    rw ((bytes_decides own n).1 ((bytes_decides own stream).0 a.0 ∙ sym ((bytes_decides n stream).0 b.0)), (Decides-int_eq d e).1 ((Decides-int_eq d day).0 a.1 ∙ sym ((Decides-int_eq e day).0 b.1))) refl

dips_of_one_day : (tank : List ℕ) (day : ℤ) → IsOfOneDay (is_dip_on tank day)
dips_of_one_day tank day (Transfer id own first last grams variance) other one two = cc one
dips_of_one_day tank day (Reading id own d grams variance) other one two = cc one
dips_of_one_day tank day (Dip id own d mm density variance) (Transfer i n f l g v) one two = cc two
dips_of_one_day tank day (Dip id own d mm density variance) (Reading i n e g v) one two = cc two
dips_of_one_day tank day (Dip id own d mm density variance) (Dip i n e m s v) one two =
    let a = and_parts (same_name own tank) (int_eq d day) one in
    let b = and_parts (same_name n tank) (int_eq e day) two in
    rw ((bytes_decides own n).1 ((bytes_decides own tank).0 a.0 ∙ sym ((bytes_decides n tank).0 b.0)), (Decides-int_eq d e).1 ((Decides-int_eq d day).0 a.1 ∙ sym ((Decides-int_eq e day).0 b.1))) refl

-- ---- what is measured
every : (P : ℤ → Type 0) (days : List ℤ) → ((day : ℤ) → P day) → AllByRecursion P days
every P [] each = tt
every P (day ∷ days) each = (each day, every P days each)

amount_permuted : (declared : List Declared) (facts other : List Fact) (days : Days) (service : Option Service) (kind : ArcKind) (name : List ℕ) → IsPermutation facts other → AreApart facts
    → amount_of declared other days service kind name ≡ amount_of declared facts days service kind name
amount_permuted declared facts other days service Metered name moved apart =
    same_total (read_on other name) (read_on facts name) (days_between (first_served service days.first) (last_served service days.last))
    (every (λ (day : ℤ). read_on other name day ≡ read_on facts name day) (days_between (first_served service days.first) (last_served service days.last))
    (λ day. ap (option_and_then read_amount) (find_permuted (is_reading_on name day) facts other moved (only_apart (is_reading_on name day) (readings_of_one_day name day) facts apart))))
amount_permuted declared facts other days service Batch name moved apart = ap (λ (total : Amount). Some total) (total_permuted (transferred days name) facts other moved)
amount_permuted declared facts other days service Plain name moved apart = refl
amount_permuted declared facts other days service Tank name moved apart =
    ap₂ (change_of (content_of (points_of_tank declared name))) (found (day_of_opening service days.first)) (found (last_served service days.last))
  where
    found : (day : ℤ) → find (is_dip_on name day) other ≡ find (is_dip_on name day) facts
    found day = find_permuted (is_dip_on name day) facts other moved (only_apart (is_dip_on name day) (dips_of_one_day name day) facts apart)

-- ---- graphs
pub agreeing : (rows other : List StoredRow) (period : Period) → AreDistinct (arc_names (declared_of rows)) → NoRepeats (facts_of rows) → AgreeOn rows other period → LeavesGraph rows other (days_of period)
agreeing rows other period distinct no_repeats agree = record {
  graph = ap within_limits whole;
  names = ap (λ (ds : List Declared). names_on (version_of ds) ds days.first days.last) agree.declared;
}
  where
    days : Days
    days = days_of period

    declared : List Declared
    declared = declared_of rows

    touch : Fact → Period → Bool
    touch = touches_in (version_of declared) declared

    apart : AreApart (touching_facts rows period)
    apart = apart_filter (λ (fact : Fact). touch fact period) (live_facts (facts_of rows)) (apart_live (facts_of rows) no_repeats)

    moved : IsPermutation (touching_facts rows period) (touching touch period (live_facts (facts_of other)))
    moved =
        subst (λ (ds : List Declared). IsPermutation (touching_facts rows period) (touching (touches_in (version_of ds) ds) period (live_facts (facts_of other)))) agree.declared agree.facts

    alike : graph_by (version_of declared) declared (live_facts (facts_of other)) days ≡ graph_by (version_of declared) declared (live_facts (facts_of rows)) days
    alike =
        same_graph (version_of declared) declared period (live_facts (facts_of rows)) (live_facts (facts_of other)) distinct
        (λ service arc. ap (option_map (measurement arc.base))
        (amount_permuted declared (touching_facts rows period) (touching touch period (live_facts (facts_of other))) days service arc.kind arc.name moved apart))

    whole : period_graph other days ≡ period_graph rows days
    whole =
        graph_is (version_of (declared_of other)) other days
        ∙ ap (λ (ds : List Declared). graph_by (version_of ds) ds (live_facts (facts_of other)) days) agree.declared
        ∙ alike
        ∙ sym (graph_is (version_of declared) rows days)
