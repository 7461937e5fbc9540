-- Windows after the plain rows: the periods are the same, but that none is closed.
use Rattle.std.proofs.Common.{◌≡◌, ◌∙◌, ◌-◌, ℕ, ℤ, Bool, List, [], ◌∷◌, length, map, Option, Some, None, slice_get, refl, ap, ap₂, inl, inr}
use Rattle.std.specs.Prelude.{◌||◌, filter_map, find, int_lt, nat_lt, not, option_and_then, option_map, if◌then◌else◌}
use Rattle.std.specs.List.{cons_option, list_any}
use Rattle.std.proofs.lemmas.Bool.{cases_Bool}
use Rattle.std.proofs.lemmas.List.{length-map}
use Rattle.std.proofs.lemmas.Option.{slice_get-map}
use Rattle.pb_site.specs.declared.declared.Declared.{Declared}
use Rattle.pb_site.specs.Site.{version_of}
use Rattle.pb_book.specs.declared.answer.Accepted.TheVariants.{Window}
use Rattle.pb_facts.specs.declared.fact.Fact.{Fact}
use Rattle.pb_graph.specs.declared.records.Meas.{Meas}
use Rattle.pb_limits.specs.Limits.{most_periods_of_window}
use Rattle.pb_plan.specs.Graph.{window_graph}
use Rattle.pb_plan.specs.Places.{window_places}
use Rattle.pb_plan.specs.Window.{is_too_great, window_shape}
use Rattle.pb_plan.specs.declared.plant.Span.{Span}
use Rattle.pb_plan.specs.declared.window.Source.{Source}
use Rattle.pb_plan.specs.declared.window.Source.TheVariants.{Content, Flow}
use Rattle.pb_plan.specs.declared.window.Window as shape
use Rattle.pb_plan.specs.declared.window.WindowStream.{WindowStream}
use Rattle.pb_site.specs.declared.declared.Arc.{Arc}
use Rattle.pb_site.specs.Site.{arcs_of, names_of, table_of_arc}
use Rattle.pb_periods.specs.declared.period.Period.{Period}
use Rattle.pb_book.specs.Answer.{Says, window_or_refused, unless_refused}
use Rattle.pb_periods.specs.Apart.{shares_a_day}
use Rattle.pb_periods.specs.Windows.{begins_on, days_between, fault_between, fault_over, has_gap, names_of_periods, periods_between, span_of_period, window_over, window_plant}
use Rattle.pb_periods.specs.declared.windows.BetweenFault.{BetweenFault}
use Rattle.pb_periods.specs.declared.windows.BetweenFault.TheVariants.{Order, Gap, TooLong, TooGreat}
use Rattle.pb_book.specs.Plain.{ArePlain, opened}
use Rattle.pb_book.specs.Windows.{cause_between, refusal_of_ends, window_between}
use Rattle.pb_kinds.specs.declared.rows.StoredRow.{StoredRow}
use Rattle.pb_book.specs.Rows.{declared_of, periods_of}
use Rattle.pb_period.specs.Days.{days_of}
use Rattle.pb_period.specs.Measurement.{measurement}
use Rattle.pb_period.specs.PeriodGraph.{measured_in, within_limits}
use Rattle.pb_period.specs.WindowGraph.{flow_measured, held_at, source_measured, stream_measured, window_assembly}
use Rattle.pb_report.specs.Window.{window_rows}
use Rattle.pb_window.specs.Between.{assembly_between}
use Rattle.pb_session.specs.Session.{window_head}

-- ---- windows of periods that were closed

any_map : {X Y : Type 0} (p : Y → Bool) (f : X → Y) (xs : List X) → list_any p (map f xs) ≡ list_any (λ x. p (f x)) xs
any_map p f [] = refl
any_map p f (x ∷ xs) = ap (λ (b : Bool). p (f x) || b) (any_map p f xs)

find_map : {X Y : Type 0} (p : Y → Bool) (f : X → Y) (xs : List X) → find p (map f xs) ≡ option_map f (find (λ x. p (f x)) xs)
find_map p f [] = refl
find_map p f (x ∷ xs) = elim (cases_Bool (p (f x))) [ inl here ↦ rw here refl | inr later ↦ rw later (find_map p f xs) ]

put_map : {Y Z : Type 0} (f : Y → Z) (o : Option Y) (rest : List Z) (others : List Y) → rest ≡ map f others → cons_option (option_map f o) rest ≡ map f (cons_option o others)
put_map f None rest others same = same
put_map f (Some y) rest others same = ap (λ (zs : List _). f y ∷ zs) same

given_map : {X Y Z : Type 0} (f : Y → Z) (given : X → Option Y) (xs : List X) → filter_map (λ x. option_map f (given x)) xs ≡ map f (filter_map given xs)
given_map f given [] = refl
given_map f given (x ∷ xs) = put_map f (given x) (filter_map (λ x. option_map f (given x)) xs) (filter_map given xs) (given_map f given xs)

spans_same : (periods : List Period) → map span_of_period (map opened periods) ≡ map span_of_period periods
spans_same [] = refl
spans_same (period ∷ periods) = ap (λ (spans : List Span). span_of_period period ∷ spans) (spans_same periods)

period_names_same : (periods : List Period) → names_of_periods (map opened periods) ≡ names_of_periods periods
period_names_same [] = refl
period_names_same (period ∷ periods) = ap (λ (names : List (List ℕ)). period.name ∷ names) (period_names_same periods)

gap_same : (periods : List Period) (first last : Period) → has_gap (map opened periods) (opened first) (opened last) ≡ has_gap periods first last
unfolding has_gap
gap_same periods first last =
    let within : (λ (day : ℤ). not (list_any (shares_a_day day day) (map opened periods))) ≡ (λ (day : ℤ). not (list_any (shares_a_day day day) periods)) =
    λ i day. not (any_map (shares_a_day day day) opened periods i) in
    ap (λ (p : ℤ → Bool). list_any p (days_between first.first last.last)) within

between_same : (periods : List Period) (first last : Period) → periods_between (map opened periods) (opened first) (opened last) ≡ map opened (periods_between periods first last)
unfolding periods_between
between_same periods first last =
    let found : (λ (day : ℤ). find (begins_on day) (map opened periods)) ≡ (λ (day : ℤ). option_map opened (find (begins_on day) periods)) =
    λ i day. find_map (begins_on day) opened periods i in
    ap (λ (given : ℤ → Option Period). filter_map given (days_between first.first last.first)) found
    ∙ given_map opened (λ day. find (begins_on day) periods) (days_between first.first last.first)

over_same : (declared : List Declared) (periods : List Period) → window_over declared (map opened periods) ≡ window_over declared periods
over_same declared periods = ap (window_shape (window_plant declared)) (spans_same periods)

fault_over_same : (declared : List Declared) (periods : List Period) → fault_over declared (map opened periods) ≡ fault_over declared periods
unfolding fault_over
fault_over_same declared periods =
    ap₂ (λ (count : ℕ) (window : shape.Window). if nat_lt most_periods_of_window count then Some TooLong else if is_too_great window then Some TooGreat else None)
    (length-map periods opened) (over_same declared periods)

fault_same : (declared : List Declared) (periods : List Period) (first last : Period)
    → fault_between declared (map opened periods) (opened first) (opened last) ≡ fault_between declared periods first last
unfolding fault_between
fault_same declared periods first last =
    ap₂ (λ (gap : Bool) (rest : Option BetweenFault). if int_lt last.first first.first then Some Order else if gap then Some Gap else rest)
    (gap_same periods first last) (ap (fault_over declared) (between_same periods first last) ∙ fault_over_same declared (periods_between periods first last))

pub same_window : (rows plain : List StoredRow) (first last : Option ℕ) → ArePlain rows plain → window_or_refused plain first last ≡ window_or_refused rows first last
same_window rows plain None last are = refl
same_window rows plain (Some first) None are = refl
same_window rows plain (Some first) (Some last) are =
    ap (unless_refused (Says (Window first last)))
    (ap₂ (refusal_of_ends plain) (found first) (found last) ∙ ends (slice_get (periods_of rows) first) (slice_get (periods_of rows) last))
  where
    found : (i : ℕ) → slice_get (periods_of plain) i ≡ option_map opened (slice_get (periods_of rows) i)
    found i = ap (λ (ps : List Period). slice_get ps i) are.periods ∙ slice_get-map opened (periods_of rows) i

    ends : (one other : Option Period) → refusal_of_ends plain (option_map opened one) (option_map opened other) ≡ refusal_of_ends rows one other
    ends None other = refl
    ends (Some one) None = refl
    ends (Some one) (Some other) =
        ap₂ (λ (ds : List Declared) (ps : List Period). option_map cause_between (fault_between ds ps (opened one) (opened other))) are.declared are.periods
        ∙ ap (option_map cause_between) (fault_same (declared_of rows) (periods_of rows) one other)

-- ---- a window after the plain rows

pub window_same : (rows plain : List StoredRow) (first last : Period) → ArePlain rows plain → window_between plain (opened first) (opened last) ≡ window_between rows first last
unfolding window_between
window_same rows plain first last are =
    ap₂ (λ (ds : List Declared) (ps : List Period). window_over ds (periods_between ps (opened first) (opened last))) are.declared are.periods
    ∙ ap (window_over (declared_of rows)) (between_same (periods_of rows) first last)
    ∙ over_same (declared_of rows) (periods_between (periods_of rows) first last)

covered_same : (rows plain : List StoredRow) (first last : Period) → ArePlain rows plain
    → periods_between (periods_of plain) (opened first) (opened last) ≡ map opened (periods_between (periods_of rows) first last)
covered_same rows plain first last are =
    ap (λ (ps : List Period). periods_between ps (opened first) (opened last)) are.periods ∙ between_same (periods_of rows) first last

pub head_same : (rows plain : List StoredRow) (first last : Period) → ArePlain rows plain → window_head plain (opened first) (opened last) ≡ window_head rows first last
head_same rows plain first last are =
    let periods = periods_between (periods_of rows) first last in
    let covered = covered_same rows plain first last are in
    let count = ap (λ (ps : List Period). length ps) covered ∙ length-map periods opened in
    let names = ap names_of_periods covered ∙ period_names_same periods in
    λ i. window_rows first.name last.name (count i) (window_places (names_of (are.declared i)) (names i) (window_same rows plain first last are i))

-- what the periods measured
source_same : (rows plain : List StoredRow) (periods : List Period) (number : ℕ) (source : Source) (arc : Arc) → ArePlain rows plain
    → source_measured plain (map opened periods) number source arc ≡ source_measured rows periods number source arc
source_same rows plain periods number (Content day) arc are =
    ap₂ (λ (ds : List Declared) (fs : List Fact). option_map (measurement arc.base) (option_and_then (held_at fs arc.name day) (table_of_arc ds arc))) are.declared are.same
source_same rows plain periods number Flow arc are =
    ap (option_and_then (flow_measured plain arc)) (slice_get-map opened periods (number - 1)) ∙ by (slice_get periods (number - 1))
  where
    by : (found : Option Period) → option_and_then (flow_measured plain arc) (option_map opened found) ≡ option_and_then (flow_measured rows arc) found
    by None = refl
    by (Some period) = ap₂ (λ (ds : List Declared) (fs : List Fact). measured_in (version_of ds) ds fs (days_of period) arc) are.declared are.same

stream_same : (rows plain : List StoredRow) (periods : List Period) (stream : WindowStream) → ArePlain rows plain
    → stream_measured plain (map opened periods) stream ≡ stream_measured rows periods stream
stream_same rows plain periods stream are =
    ap (λ (ds : List Declared). option_and_then (source_measured plain (map opened periods) stream.period stream.source) (slice_get (arcs_of ds) stream.arc)) are.declared
    ∙ ap (λ (given : Arc → Option Meas). option_and_then given (slice_get (arcs_of (declared_of rows)) stream.arc))
    (λ i arc. source_same rows plain periods stream.period stream.source arc are i)

pub assembly_same : (rows plain : List StoredRow) (first last : Period) → ArePlain rows plain → assembly_between plain (opened first) (opened last) ≡ assembly_between rows first last
assembly_same rows plain first last are =
    let periods = periods_between (periods_of rows) first last in
    ap₂ (window_assembly plain) (covered_same rows plain first last are) (window_same rows plain first last are)
    ∙ ap (λ (given : WindowStream → Option Meas). within_limits (window_graph (window_between rows first last) (map given (window_between rows first last).streams)))
    (λ i stream. stream_same rows plain periods stream are i)
