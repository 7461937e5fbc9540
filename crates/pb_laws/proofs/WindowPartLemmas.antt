-- A window has the parts of the plant that the graphs of its periods have.
use Rattle.std.proofs.Common.{◌≡◌, ◌∙◌, ◌+◌, ◌-◌, ℕ, ℤ, pos, ◌-ℤ◌, Bool, true, false, List, [], ◌∷◌, length, map, Option, Some, None, refl, sym, ap, ap₂, subst, inl, inr}
use Rattle.std.specs.Prelude.{◌&&◌, ◌||◌, ◌==◌, filter, find, option_and_then, option_map, if◌then◌else◌}
use Rattle.std.specs.List.{enumerate_from, list_any, range_with_len}
use Rattle.std.proofs.lemmas.Bool.{cases_Bool}
use Rattle.pb_fixed.proofs.Lists.{some_same}
use Rattle.pb_graph.specs.declared.records.Meas.{Meas}
use Rattle.pb_graph.specs.declared.records.Stream.{Stream}
use Rattle.pb_plan.specs.declared.plant.Plant.{Plant}
use Rattle.pb_plan.specs.declared.plant.PlantArc.{PlantArc}
use Rattle.pb_plan.specs.declared.plant.Span.{Span}
use Rattle.pb_plan.specs.Plant.{NumberedArc, arcs_in, closing_day, is_end, is_node_in, is_served, nodes_in, opening_day}
use Rattle.pb_site.specs.declared.declared.Arc.{Arc}
use Rattle.pb_site.specs.declared.declared.ArcKind.{ArcKind}
use Rattle.pb_site.specs.declared.declared.ArcKind.TheVariants.{Tank}
use Rattle.pb_site.specs.declared.declared.Declared.{Declared}
use Rattle.pb_site.specs.declared.declared.Service.{Service}
use Rattle.pb_site.specs.declared.declared.Version.{Version}
use Rattle.pb_site.specs.declared.declared.Version.TheVariants.{One, Two}
use Rattle.pb_site.specs.OnDays.{arcs_on, is_arc_in_service, is_end_of, nodes_on, places_of}
use Rattle.pb_site.specs.Row.{is_inventory}
use Rattle.pb_site.specs.Service.{day_of_opening, last_served}
use Rattle.pb_site.specs.Site.{arcs_of, node_names, points_of_tank, version_of}
use Rattle.pb_strap.specs.declared.strap.Point.{Point}
use Rattle.pb_facts.specs.declared.fact.Fact.{Fact}
use Rattle.pb_facts.specs.Fact.{is_dip_on}
use Rattle.pb_facts.specs.Facts.{live_facts}
use Rattle.pb_periods.specs.declared.period.Period.{Period}
use Rattle.pb_periods.specs.Windows.{arc_service, keeps_idle_nodes, span_of_period, window_arc, window_plant}
use Rattle.pb_kinds.specs.declared.rows.StoredRow.{StoredRow}
use Rattle.pb_book.specs.Rows.{declared_of, facts_of}
use Rattle.pb_period.specs.declared.amount.Amount.{Amount}
use Rattle.pb_period.specs.declared.days.Days.{Days}
use Rattle.pb_period.specs.Days.{days_of}
use Rattle.pb_period.specs.Facts.{content_of}
use Rattle.pb_period.specs.Measurement.{amount_of, change_of, measured, measurement}
use Rattle.pb_period.specs.PeriodGraph.{graph_in, measured_in, stream_among, stream_with}
use Rattle.pb_period.specs.WindowGraph.{content_measured, flow_measured, held_at}
use Rattle.pb_laws.specs.WindowParts.{ContentsLaw, WindowMeasuresLaw, WindowPartsLaw, service_used}

-- ---- lists
filter_all : {A : Type 0} (p : A → Bool) (xs : List A) → ((x : A) → p x ≡ true) → filter p xs ≡ xs
filter_all p [] all = refl
filter_all {A} p (x ∷ xs) all = rw (all x) (ap (λ (ys : List A). x ∷ ys) (filter_all p xs all))

filter_map_out : {A B : Type 0} (p : B → Bool) (f : A → B) (xs : List A) → filter p (map f xs) ≡ map f (filter (λ x. p (f x)) xs)
filter_map_out p f [] = refl
filter_map_out {A} {B} p f (x ∷ xs) = elim (cases_Bool (p (f x))) [
  | inl here ↦ rw here (ap (λ (ys : List B). f x ∷ ys) (filter_map_out p f xs))
  | inr later ↦ rw later (filter_map_out p f xs)
]

filter_numbered : {A : Type 0} (p : A → Bool) (n : ℕ) (xs : List A) → map (λ (one : ℕ × A). one.1) (filter (λ (one : ℕ × A). p one.1) (enumerate_from n xs)) ≡ filter p xs
filter_numbered p n [] = refl
filter_numbered {A} p n (x ∷ xs) = elim (cases_Bool (p x)) [
  | inl here ↦ rw here (ap (λ (ys : List A). x ∷ ys) (filter_numbered p (n + 1) xs))
  | inr later ↦ rw later (filter_numbered p (n + 1) xs)
]

any_filter : {A : Type 0} (p q : A → Bool) (xs : List A) → list_any (λ x. p x && q x) xs ≡ list_any q (filter p xs)
any_filter p q [] = refl
any_filter p q (x ∷ xs) = elim (cases_Bool (p x)) [
  | inl here ↦ rw here (ap (λ (b : Bool). q x || b) (any_filter p q xs))
  | inr later ↦ rw later (any_filter p q xs)
]

any_map_out : {A B : Type 0} (p : B → Bool) (f : A → B) (xs : List A) → list_any p (map f xs) ≡ list_any (λ x. p (f x)) xs
any_map_out p f [] = refl
any_map_out p f (x ∷ xs) = ap (λ (b : Bool). p (f x) || b) (any_map_out p f xs)

-- ---- arcs and days
served_same : (period : Period) (arc : Arc) → is_served (span_of_period period) (window_arc Two arc) ≡ is_arc_in_service period.first period.last arc
served_same period arc = by arc.service
  where
    by : (service : Option Service) → is_served (span_of_period period) (window_arc Two (let a : Arc = record arc { service = service } in a)) ≡ is_arc_in_service period.first period.last (let a : Arc = record arc { service = service } in a)
    by None = refl
    by (Some service) = refl

served_arcs : (version : Version) (declared : List Declared) (period : Period)
    → filter (is_served (span_of_period period)) (map (window_arc version) (arcs_of declared)) ≡ map (window_arc version) (arcs_on version declared period.first period.last)
served_arcs One declared period =
    filter_map_out (is_served (span_of_period period)) (window_arc One) (arcs_of declared)
    ∙ ap (map (window_arc One)) (filter_all (λ (arc : Arc). is_served (span_of_period period) (window_arc One arc)) (arcs_of declared) (λ arc. refl))
served_arcs Two declared period =
    filter_map_out (is_served (span_of_period period)) (window_arc Two) (arcs_of declared)
    ∙ ap (λ (p : Arc → Bool). map (window_arc Two) (filter p (arcs_of declared))) (λ i arc. served_same period arc i)

arcs_same : (declared : List Declared) (period : Period)
    → map (λ (one : NumberedArc). one.1) (arcs_in (window_plant declared).arcs (span_of_period period)) ≡ map (window_arc (version_of declared)) (arcs_on (version_of declared) declared period.first period.last)
unfolding window_plant
arcs_same declared period =
    filter_numbered (is_served (span_of_period period)) 0 (map (window_arc (version_of declared)) (arcs_of declared))
    ∙ served_arcs (version_of declared) declared period

opens_same : (version : Version) (service : Option Service) (period : Period) → opening_day (arc_service version service) (span_of_period period) ≡ day_of_opening (service_used version service) period.first
opens_same One None period = refl
opens_same One (Some service) period = refl
opens_same Two None period = refl
opens_same Two (Some service) period = refl

closes_same : (version : Version) (service : Option Service) (period : Period) → closing_day (arc_service version service) (span_of_period period) ≡ last_served (service_used version service) period.last
closes_same One None period = refl
closes_same One (Some service) period = refl
closes_same Two None period = refl
closes_same Two (Some service) period = refl

-- ---- nodes
end_same : (version : Version) (node : ℕ) (arcs : List Arc) → list_any (is_end node) (map (window_arc version) arcs) ≡ is_end_of arcs node
end_same version node arcs = any_map_out (is_end node) (window_arc version) arcs

node_same : (version : Version) (declared : List Declared) (period : Period) (node : ℕ)
    → list_any (λ (arc : PlantArc). is_served (span_of_period period) arc && is_end node arc) (map (window_arc version) (arcs_of declared)) ≡ is_end_of (arcs_on version declared period.first period.last) node
node_same version declared period node =
    any_filter (is_served (span_of_period period)) (is_end node) (map (window_arc version) (arcs_of declared))
    ∙ ap (list_any (is_end node)) (served_arcs version declared period)
    ∙ end_same version node (arcs_on version declared period.first period.last)

nodes_by : (version : Version) (declared : List Declared) (period : Period) → nodes_on version declared period.first period.last
    ≡ 0 ∷ filter (λ (node : ℕ). keeps_idle_nodes version || list_any (λ (arc : PlantArc). is_served (span_of_period period) arc && is_end node arc) (map (window_arc version) (arcs_of declared))) (places_of declared)
nodes_by One declared period =
    let idle : ℕ → Bool = λ node. keeps_idle_nodes One || list_any (λ (arc : PlantArc). is_served (span_of_period period) arc && is_end node arc) (map (window_arc One) (arcs_of declared)) in
    ap (λ (nodes : List ℕ). 0 ∷ nodes) (sym (filter_all idle (places_of declared) (λ node. refl)))
nodes_by Two declared period =
    ap (λ (p : ℕ → Bool). 0 ∷ filter p (places_of declared)) (λ i node. sym (node_same Two declared period node) i)

nodes_same : (declared : List Declared) (period : Period) → nodes_on (version_of declared) declared period.first period.last ≡ 0 ∷ nodes_in (window_plant declared) (span_of_period period)
unfolding window_plant
nodes_same declared period = nodes_by (version_of declared) declared period

pub window_parts : WindowPartsLaw
window_parts declared period = record {
  nodes = nodes_same declared period;
  arcs = arcs_same declared period;
  opens = λ service. opens_same (version_of declared) service period;
  closes = λ service. closes_same (version_of declared) service period;
}

-- ---- contents
used_same : (version : Version) (declared : List Declared) (facts : List Fact) (days : Days) (arc : Arc)
    → measured_in version declared facts days arc ≡ measured declared facts days (service_used version arc.service) arc
used_same One declared facts days arc = refl
used_same Two declared facts days arc = refl

difference : (base : ℤ) (content : Fact → Amount) (opening closing : Option Fact) (before after inventory : Meas) → option_map (measurement base) (option_map content opening) ≡ Some before
    → option_map (measurement base) (option_map content closing) ≡ Some after → option_map (measurement base) (change_of content opening closing) ≡ Some inventory
    → inventory.value ≡ after.value -ℤ before.value
difference base content None closing before after inventory from to change = cc from
difference base content (Some opening) None before after inventory from to change = cc to
difference base content (Some opening) (Some closing) before after inventory from to change =
    sym (ap (λ (m : Meas). m.value) (some_same change))
    ∙ ap₂ (λ (a b : ℤ). a -ℤ b) (ap (λ (m : Meas). m.value) (some_same to)) (ap (λ (m : Meas). m.value) (some_same from))

-- ---- what is measured

map_after : {A B C : Type 0} (f : A → B) (g : B → C) (xs : List A) → map g (map f xs) ≡ map (λ (x : A). g (f x)) xs
map_after f g [] = refl
map_after {C = C} f g (x ∷ xs) = ap (λ (ys : List C). g (f x) ∷ ys) (map_after f g xs)

-- the streams of the graph of some days have what these days measured of the arcs in service
measures_in : (version : Version) (rows : List StoredRow) (days : Days) → map (λ (stream : Stream). stream.meas) (graph_in version rows days).streams
    ≡ map (λ (arc : Arc). measured_in version (declared_of rows) (live_facts (facts_of rows)) days arc) (arcs_on version (declared_of rows) days.first days.last)
measures_in One rows days = map_after (stream_with (measured_in One (declared_of rows) (live_facts (facts_of rows)) days)) (λ (stream : Stream). stream.meas) (arcs_of (declared_of rows))
measures_in Two rows days =
    map_after (stream_among (nodes_on Two (declared_of rows) days.first days.last) (measured_in Two (declared_of rows) (live_facts (facts_of rows)) days)) (λ (stream : Stream). stream.meas)
    (arcs_on Two (declared_of rows) days.first days.last)

pub window_measures : WindowMeasuresLaw
window_measures rows period = measures_in (version_of (declared_of rows)) rows (days_of period)

pub contents : ContentsLaw
contents rows arc period before after inventory is_tank from to change =
    difference arc.base (content_of points) (found (day_of_opening service period.first)) (found (last_served service period.last)) before after inventory
    (sym (held (day_of_opening service period.first)) ∙ from) (sym (held (last_served service period.last)) ∙ to) (sym moved ∙ change)
  where
    declared : List Declared
    declared = declared_of rows

    facts : List Fact
    facts = live_facts (facts_of rows)

    service : Option Service
    service = service_used (version_of declared) arc.service

    points : List Point
    points = points_of_tank declared arc.name

    found : ℤ → Option Fact
    found day = find (is_dip_on arc.name day) facts

    held : (day : ℤ) → content_measured rows arc day ≡ option_map (measurement arc.base) (option_map (content_of points) (found day))
    held day = ap (λ (kind : ArcKind). option_map (measurement arc.base) (option_and_then (held_at facts arc.name day) (if is_inventory kind then Some points else None))) is_tank

    moved : flow_measured rows arc period ≡ option_map (measurement arc.base) (change_of (content_of points) (found (day_of_opening service period.first)) (found (last_served service period.last)))
    moved =
        used_same (version_of declared) declared facts (days_of period) arc
        ∙ ap (λ (kind : ArcKind). option_map (measurement arc.base) (amount_of declared facts (days_of period) service kind arc.name)) is_tank
