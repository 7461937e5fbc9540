-- The plant and the periods of a window of accepted rows.
use Rattle.std.specs.Prelude.{Contains, filter_map, map, slice_get, All}
use Rattle.std.specs.Option.{option_map}
use Rattle.std.proofs.Common.{◌≡◌, ◌∙◌, ◌+◌, ◌<◌, ◌≤◌, ℕ, zero, suc, pos, true, false, List, [], ◌∷◌, ◌++◌, length, take, get_or, Option, Some, None, Ok, refl, sym, ap, subst, arith, inl, inr}
use Rattle.std.proofs.lemmas.Bool.{cases_Bool}
use Rattle.std.proofs.lemmas.List.{length-map, take_all}
use Rattle.std.proofs.lemmas.List.Elements.{All-map}
use Rattle.std.proofs.lemmas.Option.{get_or_from_slice_get, slice_get-get_or, slice_get_within}
use Rattle.std.proofs.Math.Seq.{take-suc}
use Rattle.pb_limits.specs.Limits.{most_periods_of_window}
use Rattle.pb_plan.specs.declared.plant.Span.{Span}
use Rattle.pb_plan.specs.declared.window.Window.{Window}
use Rattle.pb_plan.specs.Laws.{WindowFormLaw, WindowNamesLaw, WindowPlacesLaw}
use Rattle.pb_plan.specs.Places.{IsNamedBy}
use Rattle.pb_plan.specs.Plant.{IsPlant, IsSpan}
use Rattle.pb_plan.specs.Window.{is_too_great, unless_too_great, window_of}
use Rattle.pb_site.specs.declared.declared.Arc.{Arc}
use Rattle.pb_site.specs.declared.declared.Declared.{Declared}
use Rattle.pb_site.specs.Laws.{IsDeclaredPlant, PlantLaw}
use Rattle.pb_site.specs.Site.{arcs_of, names_of, version_of}
use Rattle.pb_kinds.specs.declared.rows.Effect.{Effect}
use Rattle.pb_kinds.specs.declared.rows.Effect.TheVariants.{Declares, Opens, Books, Edits, Closes, Assays}
use Rattle.pb_periods.specs.declared.period.Period.{Period}
use Rattle.pb_kinds.specs.declared.rows.StoredRow.{StoredRow}
use Rattle.pb_book.specs.Accepted.{AreAccepted, IsAcceptable}
use Rattle.pb_book.specs.Assays.{assays_of}
use Rattle.pb_book.specs.Kept.{AreOf}
use Rattle.pb_book.specs.Rows.{declared_of, facts_of, periods_of}
use Rattle.pb_book.specs.Windows.{ArePlacesBetween, BookWindowsLaw, HavePlaceNames, IsWindowAsked, IsWindowBetween, cause_between, plant_of, window_between}
use Rattle.pb_periods.specs.Windows.{fault_between, has_gap, names_of_periods, periods_between, span_of_period, window_arc, window_over, window_plant}
use Rattle.pb_periods.specs.declared.windows.BetweenFault.{BetweenFault}
use Rattle.pb_periods.proofs.WindowPlantLemmas.{IsFineWindow, as_many, between_all, choice, fine_window, periods_at, plant_is, within_of}
use Rattle.pb_book.proofs.ConsistentLemmas.{consistent}
use Rattle.pb_book.proofs.FactLemmas.{no_site_fault_of}
use Rattle.pb_book.proofs.KeptLemmas.{declared_more, declared_same}

-- ---- accepted rows declare a plant

same_plant : (rows : List StoredRow) (stored : StoredRow) → declared_of (stored ∷ []) ≡ [] → IsDeclaredPlant (declared_of rows) → IsDeclaredPlant (declared_of (rows ++ stored ∷ []))
same_plant rows stored none right = subst IsDeclaredPlant (sym (declared_same rows stored none)) right

one_more : PlantLaw → (rows : List StoredRow) (at : ℕ) (effect : Effect) → IsDeclaredPlant (declared_of rows) → IsAcceptable rows effect
    → IsDeclaredPlant (declared_of (rows ++ record { at = at; effect = effect } ∷ []))
one_more law rows at (Declares declared) right accepted =
    let stored : StoredRow = record { at = at; effect = Declares declared } in
    let parts : AreOf rows (declared_of rows) (facts_of rows) (periods_of rows) (assays_of rows) = record { site = refl; facts = refl; spans = refl; assayed = refl } in
    let none = no_site_fault_of rows (declared_of rows) (facts_of rows) (periods_of rows) (assays_of rows) declared parts accepted in
    subst IsDeclaredPlant (sym (declared_more rows stored)) (law.1 (declared_of rows) declared right accepted.in_range none)
one_more law rows at (Opens name first last) right accepted = same_plant rows (record { at = at; effect = Opens name first last }) refl right
one_more law rows at (Books fact late) right accepted = same_plant rows (record { at = at; effect = Books fact late }) refl right
one_more law rows at (Edits id how reason) right accepted = same_plant rows (record { at = at; effect = Edits id how reason }) refl right
one_more law rows at (Closes name) right accepted = same_plant rows (record { at = at; effect = Closes name }) refl right
one_more law rows at (Assays assay) right accepted = same_plant rows (record { at = at; effect = Assays assay }) refl right

some_row : StoredRow
some_row = record { at = 0; effect = Opens [] (pos 0) (pos 0) }

plant_up_to : PlantLaw → (rows : List StoredRow) → AreAccepted rows → (n : ℕ) → n ≤ length rows → IsDeclaredPlant (declared_of (take n rows))
plant_up_to law rows accepted zero le = law.0
plant_up_to law rows accepted (suc n) le =
    let within : n < length rows = omega (arith, le) in
    let stored = get_or rows n some_row in
    let before = plant_up_to law rows accepted n (omega (arith, le)) in
    let next = accepted n stored (slice_get-get_or rows n some_row within) in
    subst (λ (rs : List StoredRow). IsDeclaredPlant (declared_of rs)) (sym (take-suc rows n some_row within)) (one_more law (take n rows) stored.at stored.effect before next)

site_plant : PlantLaw → (rows : List StoredRow) → AreAccepted rows → IsDeclaredPlant (declared_of rows)
site_plant law rows accepted =
    subst (λ (rs : List StoredRow). IsDeclaredPlant (declared_of rs)) (take_all (length rows) rows (omega arith)) (plant_up_to law rows accepted (length rows) (omega arith))

-- ---- a window that there is no cause to refuse

-- it has no fault
no_fault : (found : Option BetweenFault) → option_map cause_between found ≡ None → found ≡ None
no_fault None none = refl
no_fault (Some one) none = cc none

fits_ok : (window : Window) → is_too_great window ≡ false → unless_too_great window ≡ Ok window
fits_ok window fits = rw fits refl

pub book_windows : PlantLaw → WindowFormLaw → WindowNamesLaw → WindowPlacesLaw → BookWindowsLaw
unfolding window_between window_plant
book_windows law form_law names_law places_law rows first last accepted none = record {
  plant = plant;
  spans = All-map IsSpan span_of_period periods (between_all (λ (period : Period). IsSpan (span_of_period period)) (periods_of rows) first last days);
  few = fine.few;
  made = made;
  form = form_law (plant_of rows) spans (window_between rows first last) plant made;
  names = names_law (plant_of rows) spans (window_between rows first last) plant few_spans made;
  there = places_law (plant_of rows) spans (window_between rows first last) (names_of (declared_of rows)) (names_of_periods periods) made each_node each_arc each_period;
}
  where
    periods : List Period
    periods = periods_between (periods_of rows) first last

    spans : List Span
    spans = map span_of_period periods

    fine : IsFineWindow (declared_of rows) (periods_of rows) first last
    fine = fine_window (declared_of rows) (periods_of rows) first last (no_fault (fault_between (declared_of rows) (periods_of rows) first last) none)

    plant : IsPlant (plant_of rows)
    plant = plant_is (declared_of rows) (site_plant law rows accepted)

    days : All (λ (period : Period). IsSpan (span_of_period period)) (periods_of rows)
    days i d lt = ((consistent rows accepted).days i d lt).begins

    few_spans : length spans ≤ most_periods_of_window
    few_spans = omega (arith, fine.few, length-map periods span_of_period)

    made : window_of (plant_of rows) spans ≡ Ok (window_between rows first last)
    made = fits_ok (window_over (declared_of rows) periods) fine.fits

    each_node : length (names_of (declared_of rows)).nodes ≡ 1 + (plant_of rows).nodes
    each_node = omega arith

    each_arc : length (names_of (declared_of rows)).streams ≡ length (plant_of rows).arcs
    each_arc = length-map (arcs_of (declared_of rows)) (λ (arc : Arc). arc.name) ∙ sym (length-map (arcs_of (declared_of rows)) (window_arc (version_of (declared_of rows))))

    each_period : length (names_of_periods periods) ≡ length spans
    each_period = length-map periods (λ (period : Period). period.name) ∙ sym (length-map periods span_of_period)

-- ---- what a book says about a window

same_period : (periods : List Period) (place : ℕ) (one other : Period) → slice_get periods place ≡ Some one → slice_get periods place ≡ Some other → one ≡ other
same_period periods place one other is also = cc (sym is ∙ also)

-- a period at a place is one of the list
pub contains_at : (periods : List Period) (place : ℕ) (period : Period) → slice_get periods place ≡ Some period → Contains periods period
contains_at periods place period is = (place, slice_get_within periods place period is, get_or_from_slice_get periods place period period is)

-- these are the places between two periods
pub between_ends : (rows : List StoredRow) (first last : ℕ) (one other : Period) (places : List ℕ) → slice_get (periods_of rows) first ≡ Some one → slice_get (periods_of rows) last ≡ Some other
    → map (slice_get (periods_of rows)) places ≡ map Some (periods_between (periods_of rows) one other) → ArePlacesBetween rows first last places
between_ends rows first last one other places begins ends are = λ a b a_is b_is.
    let one_is = same_period (periods_of rows) first one a begins a_is in
    let other_is = same_period (periods_of rows) last other b ends b_is in
    rw (← one_is, ← other_is) are

-- there are no more periods than a window may have
pub few_between : (rows : List StoredRow) (first last : ℕ) (asked : IsWindowAsked rows first last) (places : List ℕ)
    → map (slice_get (periods_of rows)) places ≡ map Some (periods_between (periods_of rows) asked.one asked.other) → length places ≤ most_periods_of_window
few_between rows first last asked places are =
    let within = within_of (periods_of rows) places (periods_between (periods_of rows) asked.one asked.other) are in
    let these = periods_at (periods_of rows) places (periods_between (periods_of rows) asked.one asked.other) are in
    let few = (fine_window (declared_of rows) (periods_of rows) asked.one asked.other (no_fault (fault_between (declared_of rows) (periods_of rows) asked.one asked.other) asked.no_cause)).few in
    omega (arith, as_many (periods_of rows) places within, ap length these, few)

-- there is no gap between them
pub asked_no_gap : (rows : List StoredRow) (first last : ℕ) (asked : IsWindowAsked rows first last) → has_gap (periods_of rows) asked.one asked.other ≡ false
asked_no_gap rows first last asked = (fine_window (declared_of rows) (periods_of rows) asked.one asked.other (no_fault (fault_between (declared_of rows) (periods_of rows) asked.one asked.other) asked.no_cause)).no_gap

-- a window over these places is the one between the two periods, and has their names
pub asked_window_is : (rows : List StoredRow) (first last : ℕ) (asked : IsWindowAsked rows first last) (places : List ℕ) (window : Window) → ArePlacesBetween rows first last places
    → Ok window ≡ unless_too_great (window_over (declared_of rows) (filter_map (slice_get (periods_of rows)) places)) → IsWindowBetween rows first last window
unfolding window_between
asked_window_is rows first last asked places window are made = λ one other first_is last_is.
    let these = periods_at (periods_of rows) places (periods_between (periods_of rows) one other) (are one other first_is last_is) in
    let whole : Ok window ≡ unless_too_great (window_over (declared_of rows) (periods_between (periods_of rows) one other)) =
    made ∙ ap (λ (periods : List Period). unless_too_great (window_over (declared_of rows) periods)) these in
    ok_is (window_over (declared_of rows) (periods_between (periods_of rows) one other)) window whole
  where
    ok_is : (shape made : Window) → Ok made ≡ unless_too_great shape → made ≡ shape
    ok_is shape made is = elim (cases_Bool (is_too_great shape)) [
      | inl great ↦ absurd (let fault : Ok made ≡ choice shape true = is ∙ ap (choice shape) great in cc fault)
      | inr fits ↦ let same : Ok made ≡ choice shape false = is ∙ ap (choice shape) fits in cc same
    ]

pub asked_names : (rows : List StoredRow) (first last : ℕ) (places : List ℕ) (window : Window) → ArePlacesBetween rows first last places
    → IsNamedBy (window_plant (declared_of rows)) (map span_of_period (filter_map (slice_get (periods_of rows)) places)) window → HavePlaceNames rows first last window
unfolding window_plant
asked_names rows first last places window are named = λ one other first_is last_is.
    let periods : List Period = periods_between (periods_of rows) one other in
    let these : filter_map (slice_get (periods_of rows)) places ≡ periods = periods_at (periods_of rows) places periods (are one other first_is last_is) in
    let arcs = length-map (arcs_of (declared_of rows)) (λ (arc : Arc). arc.name) ∙ sym (length-map (arcs_of (declared_of rows)) (window_arc (version_of (declared_of rows)))) in
    named (names_of (declared_of rows)) (names_of_periods periods) (omega arith) arcs
    (length-map periods (λ (period : Period). period.name) ∙ ap length (sym these) ∙ sym (length-map (filter_map (slice_get (periods_of rows)) places) span_of_period))

-- ---- the same by the parts that a book keeps

pub ends_kept : (rows : List StoredRow) (periods : List Period) (first last : ℕ) (one other : Period) (places : List ℕ) → periods ≡ periods_of rows → slice_get periods first ≡ Some one
    → slice_get periods last ≡ Some other → map (slice_get periods) places ≡ map Some (periods_between periods one other) → ArePlacesBetween rows first last places
ends_kept rows periods first last one other places is begins ends are = between_ends rows first last one other places (rw is at begins) (rw is at ends) (rw is at are)

pub no_gap_kept : (rows : List StoredRow) (periods : List Period) (first last : ℕ) (one other : Period) → IsWindowAsked rows first last → periods ≡ periods_of rows
    → slice_get periods first ≡ Some one → slice_get periods last ≡ Some other → has_gap periods one other ≡ true → ⊥
no_gap_kept rows periods first last one other asked is begins ends gap =
    let one_is = same_period (periods_of rows) first one asked.one (rw is at begins) asked.first_is in
    let other_is = same_period (periods_of rows) last other asked.other (rw is at ends) asked.last_is in
    let closed : has_gap periods one other ≡ false = rw (is, one_is, other_is) (asked_no_gap rows first last asked) in
    cc (sym gap ∙ closed)

pub made_kept : (rows : List StoredRow) (site : List Declared) (periods : List Period) (kept places : List ℕ) (window : Window) → site ≡ declared_of rows → periods ≡ periods_of rows → kept ≡ places
    → Ok window ≡ unless_too_great (window_over site (filter_map (slice_get periods) kept)) → Ok window ≡ unless_too_great (window_over (declared_of rows) (filter_map (slice_get (periods_of rows)) places))
made_kept rows site periods kept places window site_is is same made = rw (site_is, is, same) at made

pub named_kept : (rows : List StoredRow) (site : List Declared) (periods : List Period) (kept places : List ℕ) (window : Window) → site ≡ declared_of rows → periods ≡ periods_of rows → kept ≡ places
    → IsNamedBy (window_plant site) (map span_of_period (filter_map (slice_get periods) kept)) window
    → IsNamedBy (window_plant (declared_of rows)) (map span_of_period (filter_map (slice_get (periods_of rows)) places)) window
named_kept rows site periods kept places window site_is is same named = rw (site_is, is, same) at named
