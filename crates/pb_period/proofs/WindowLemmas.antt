-- The periods of a window, and what is measured of its streams.
use Rattle.std.specs.Prelude.{◌-◌, filter_map, find, map, option_and_then, position, IfOk, IfSome, if◌then◌else◌}
use Rattle.std.specs.List.{cons_option}
use Rattle.std.specs.Option.{option_map}
use Rattle.std.proofs.Common.{◌≡◌, ◌∙◌, ◌+◌, ◌≤◌, ◌<◌, ℕ, zero, suc, ℤ, pos, ◌≤ℤ◌, List, [], ◌∷◌, length, slice_get, get_or, All, true, false, Option, Some, None, Result, Ok, Err, refl, sym, ap, ap₂, subst, arith, inl, inr}
use Rattle.std.proofs.lemmas.Bool.{cases_Bool}
use Rattle.std.proofs.lemmas.Int.{ints}
use Rattle.std.proofs.lemmas.List.{length-map}
use Rattle.std.proofs.lemmas.List.Elements.{All-cons, All-nil, All-weaker}
use Rattle.std.proofs.lemmas.Option.{get_or_from_slice_get, slice_get-get_or, slice_get_within}
use Rattle.pb_graph.specs.declared.records.Meas.{Meas}
use Rattle.pb_graph.specs.declared.records.Stream.{Stream}
use Rattle.pb_graph.specs.ProcessGraph.{IsProcessGraph, IsStream, IsWithinLimits, ProcessGraph}
use Rattle.pb_plan.specs.declared.window.Source.{Source}
use Rattle.pb_plan.specs.declared.window.Source.TheVariants.{Content, Flow}
use Rattle.pb_plan.specs.declared.window.Window.{Window}
use Rattle.pb_plan.specs.declared.window.WindowStream.{WindowStream}
use Rattle.pb_plan.specs.Graph.{IsFirstStreamOutside, graph_stream, graph_streams, window_graph}
use Rattle.pb_plan.specs.Window.{IsWindow, IsWindowStream}
use Rattle.pb_site.specs.declared.declared.Arc.{Arc}
use Rattle.pb_site.specs.declared.declared.ArcKind.{ArcKind}
use Rattle.pb_site.specs.declared.declared.ArcKind.TheVariants.{Metered, Batch, Plain, Tank}
use Rattle.pb_site.specs.declared.declared.Version.{Version}
use Rattle.pb_site.specs.declared.declared.Version.TheVariants.{One, Two}
use Rattle.pb_site.specs.Laws.{IsDeclaredPlant}
use Rattle.pb_site.specs.Row.{IsArcBase, is_inventory}
use Rattle.pb_site.specs.Site.{IsArc, arcs_of, node_names, points_of_tank, version_of}
use Rattle.pb_facts.specs.declared.fact.Fact.{Fact}
use Rattle.pb_facts.specs.declared.facts.KeptFact.{KeptFact}
use Rattle.pb_facts.specs.Fact.{IsFactInRange, is_dip_on}
use Rattle.pb_facts.specs.Facts.{live_facts}
use Rattle.pb_periods.specs.declared.period.Period.{Period}
use Rattle.pb_kinds.specs.declared.rows.StoredRow.{StoredRow}
use Rattle.pb_book.specs.Rows.{declared_of, facts_of, periods_of}
use Rattle.pb_periods.specs.Windows.{names_of_periods}
use Rattle.pb_period.specs.declared.amount.Amount.{Amount}
use Rattle.pb_period.specs.declared.graph.Assembly.TheVariants.{Over}
use Rattle.pb_period.specs.Days.{days_of}
use Rattle.pb_period.specs.Facts.{content_of}
use Rattle.pb_period.specs.Measurement.{measurement}
use Rattle.pb_period.specs.PeriodGraph.{is_over, unless_over, within_limits, measured_in}
use Rattle.pb_period.specs.WindowGraph.{flow_measured, held_at, periods_at, source_measured, stream_measured, window_assembly, window_measured}
use Rattle.pb_period.proofs.GraphLemmas.{not_over, position_at, within}
use Rattle.pb_period.proofs.VarianceLemmas.{HasLeast, IsFair, all_map, content_fair, find_has, live_have, measured_least, within_right}

head : {A : Type 0} (P : A → Type 0) (x : A) (xs : List A) → All P (x ∷ xs) → P x
head P x xs all = all 0 x (omega arith)

tail : {A : Type 0} (P : A → Type 0) (x : A) (xs : List A) → All P (x ∷ xs) → All P xs
tail P x xs all = λ k d lt. all (suc k) d (omega (arith, lt))

-- ---- the items at some places

missing : {A : Type 0} (xs : List A) (i : ℕ) → i < length xs → slice_get xs i ≡ None → ⊥
missing [] i lt none = omega (arith, lt)
missing (x ∷ xs) zero lt none = cc none
missing (x ∷ xs) (suc i) lt none = missing xs i (omega (arith, lt)) none

-- there are as many items as places
one_more_found : {A : Type 0} (xs : List A) (i : ℕ) (places : List ℕ) (o : Option A) → slice_get xs i ≡ o → i < length xs
    → length (filter_map (slice_get xs) places) ≡ length places → length (cons_option o (filter_map (slice_get xs) places)) ≡ length (i ∷ places)
one_more_found xs i places None none lt rest = absurd (missing xs i lt none)
one_more_found xs i places (Some x) at lt rest = omega (arith, rest)

pub as_many : {A : Type 0} (xs : List A) (places : List ℕ) → All (λ (i : ℕ). i < length xs) places → length (filter_map (slice_get xs) places) ≡ length places
as_many xs [] all = refl
as_many xs (i ∷ places) all =
    one_more_found xs i places (slice_get xs i) refl (head (λ (k : ℕ). k < length xs) i places all) (as_many xs places (tail (λ (k : ℕ). k < length xs) i places all))

-- the item at the place at a place
one_more_placed : {A : Type 0} (xs : List A) (i : ℕ) (places : List ℕ) (k : ℕ) (o : Option A) → slice_get xs i ≡ o → i < length xs → k < length (i ∷ places)
    → ((j : ℕ) → j < length places → slice_get (filter_map (slice_get xs) places) j ≡ slice_get xs (get_or places j 0))
    → slice_get (cons_option o (filter_map (slice_get xs) places)) k ≡ slice_get xs (get_or (i ∷ places) k 0)
one_more_placed xs i places k None none lt less rest = absurd (missing xs i lt none)
one_more_placed xs i places zero (Some x) at lt less rest = sym at
one_more_placed xs i places (suc k) (Some x) at lt less rest = rest k (omega (arith, less))

pub placed : {A : Type 0} (xs : List A) (places : List ℕ) (k : ℕ) → All (λ (i : ℕ). i < length xs) places → k < length places
    → slice_get (filter_map (slice_get xs) places) k ≡ slice_get xs (get_or places k 0)
placed xs [] k all lt = absurd (omega (arith, lt))
placed xs (i ∷ places) k all lt =
    one_more_placed xs i places k (slice_get xs i) refl (head (λ (n : ℕ). n < length xs) i places all) lt
    (λ j less. placed xs places j (tail (λ (n : ℕ). n < length xs) i places all) less)

-- as many names as places
pub as_many_names : (rows : List StoredRow) (places : List ℕ) → All (λ (i : ℕ). i < length (periods_of rows)) places
    → length (names_of_periods (periods_at rows places)) ≡ length places
as_many_names rows places all = length-map (periods_at rows places) (λ (period : Period). period.name) ∙ as_many (periods_of rows) places all

-- ---- what is measured of a stream

-- a flow is measured by the period at its place
pub flow_is : (rows : List StoredRow) (places : List ℕ) (stream : WindowStream) (arc : Arc) (found : Option Meas) → All (λ (i : ℕ). i < length (periods_of rows)) places
    → stream.period - 1 < length places → slice_get (arcs_of (declared_of rows)) stream.arc ≡ Some arc → stream.source ≡ Flow
    → found ≡ option_and_then (flow_measured rows arc) (slice_get (periods_of rows) (get_or places (stream.period - 1) 0))
    → found ≡ stream_measured rows (periods_at rows places) stream
flow_is rows places stream arc found all lt at flows is =
    let periods = periods_at rows places in
    is ∙ ap (option_and_then (flow_measured rows arc)) (sym (placed (periods_of rows) places (stream.period - 1) all lt))
    ∙ sym (ap₂ (λ (source : Source) (o : Option Arc). option_and_then (source_measured rows periods stream.period source) o) flows at)

-- a content is measured by the dip of its day
pub content_is : (rows : List StoredRow) (periods : List Period) (stream : WindowStream) (arc : Arc) (day : ℤ) (found : Option Meas)
    → slice_get (arcs_of (declared_of rows)) stream.arc ≡ Some arc → stream.source ≡ Content day → found ≡ source_measured rows periods stream.period (Content day) arc
    → found ≡ stream_measured rows periods stream
content_is rows periods stream arc day found at holds is =
    is ∙ sym (ap₂ (λ (source : Source) (o : Option Arc). option_and_then (source_measured rows periods stream.period source) o) holds at)

-- ---- variances of at least 1

-- the variance of what is measured is at least 1
abbrev pub IsLeast : Option Meas → Type 0
IsLeast found = IfSome found (λ meas. pos 1 ≤ℤ meas.variance)

flow_least : (rows : List StoredRow) (arc : Arc) (found : Option Period) → All IsFactInRange (live_facts (facts_of rows)) → IsArcBase arc.kind arc.base
    → IsLeast (option_and_then (flow_measured rows arc) found)
flow_least rows arc None facts base = tt
flow_least rows arc (Some period) facts base = by (version_of (declared_of rows))
  where
    by : (version : Version) → IsLeast (measured_in version (declared_of rows) (live_facts (facts_of rows)) (days_of period) arc)
    by One = measured_least (declared_of rows) (live_facts (facts_of rows)) (days_of period) None arc facts base
    by Two = measured_least (declared_of rows) (live_facts (facts_of rows)) (days_of period) arc.service arc facts base

content_least : (rows : List StoredRow) (arc : Arc) (day : ℤ) → All IsFactInRange (live_facts (facts_of rows)) → (kind : ArcKind) → IsArcBase kind arc.base
    → IsLeast (option_map (measurement arc.base) (option_and_then (held_at (live_facts (facts_of rows)) arc.name day) (if is_inventory kind then Some (points_of_tank (declared_of rows) arc.name) else None)))
content_least rows arc day facts Metered base = tt
content_least rows arc day facts Batch base = tt
content_least rows arc day facts Plain base = tt
content_least rows arc day facts Tank base = by (find (is_dip_on arc.name day) (live_facts (facts_of rows))) (find_has IsFactInRange (is_dip_on arc.name day) (live_facts (facts_of rows)) facts)
  where
    by : (o : Option Fact) → IfSome o IsFactInRange → IsLeast (option_map (measurement arc.base) (option_map (content_of (points_of_tank (declared_of rows) arc.name)) o))
    by None range = tt
    by (Some dip) range =
        let fair : IsFair (content_of (points_of_tank (declared_of rows) arc.name) dip) = content_fair (points_of_tank (declared_of rows) arc.name) dip range in
        omega (arith, ints, fair, base.0)

stream_least : (rows : List StoredRow) (periods : List Period) (stream : WindowStream) → All IsFactInRange (live_facts (facts_of rows))
    → All (IsArc (length (node_names (declared_of rows)))) (arcs_of (declared_of rows)) → IsLeast (stream_measured rows periods stream)
stream_least rows periods stream facts arcs = by (slice_get (arcs_of (declared_of rows)) stream.arc) refl
  where
    source : (source : Source) (arc : Arc) → IsArcBase arc.kind arc.base → IsLeast (source_measured rows periods stream.period source arc)
    source Flow arc base = flow_least rows arc (slice_get periods (stream.period - 1)) facts base
    source (Content day) arc base = content_least rows arc day facts arc.kind base

    by : (o : Option Arc) → slice_get (arcs_of (declared_of rows)) stream.arc ≡ o → IsLeast (option_and_then (source_measured rows periods stream.period stream.source) o)
    by None at = tt
    by (Some arc) at =
        let lt = slice_get_within (arcs_of (declared_of rows)) stream.arc arc at in
        let here : IsArc (length (node_names (declared_of rows))) arc =
        subst (IsArc (length (node_names (declared_of rows)))) (get_or_from_slice_get (arcs_of (declared_of rows)) stream.arc arc arc at) (arcs stream.arc arc lt) in
        source stream.source arc here.limits

-- ---- the graph

-- the streams of the graph, one by one
streams_are : (f : WindowStream → Option Meas) (streams : List WindowStream) → graph_streams streams (map f streams) ≡ map (λ (s : WindowStream). graph_stream s (f s)) streams
streams_are f [] = refl
streams_are f (s ∷ streams) = ap (λ (rest : List Stream). graph_stream s (f s) ∷ rest) (streams_are f streams)

pub streams_least : (streams : List WindowStream) (measured : List (Option Meas)) → All IsLeast measured → All HasLeast (graph_streams streams measured)
streams_least [] measured all = All-nil HasLeast
streams_least (s ∷ streams) [] all = All-nil HasLeast
streams_least (s ∷ streams) (found ∷ measured) all =
    All-cons HasLeast (graph_stream s found) (graph_streams streams measured) (head IsLeast found measured all)
    (streams_least streams measured (tail IsLeast found measured all))

-- no stream of a graph within the limits is over them
pub none_over_of : (graph : ProcessGraph) → IsProcessGraph graph → All (λ (s : Stream). is_over s ≡ false) graph.streams
none_over_of graph right = All-weaker IsWithinLimits (λ (s : Stream). is_over s ≡ false) not_over graph.streams right.limits

-- the first stream outside the limits is the first that is over them
pub outside_over : (graph : ProcessGraph) (j : ℕ) → All HasLeast graph.streams → IsFirstStreamOutside graph j → Err (Over j) ≡ within_limits graph
outside_over graph j least outside =
    let streams = graph.streams in
    let d = outside.stream in
    let lt = slice_get_within streams j d outside.there in
    let is : get_or streams j d ≡ d = get_or_from_slice_get streams j d d outside.there in
    let own : HasLeast d = subst HasLeast is (least j d lt) in
    let over : is_over d ≡ true = elim (cases_Bool (is_over d)) [ inl above ↦ above | inr below ↦ absurd (outside.outside (within d below own)) ] in
    let before : (k : ℕ) → k < j → is_over (get_or streams k d) ≡ false =
    λ k less. not_over (get_or streams k d) (outside.before k (get_or streams k d) less (slice_get-get_or streams k d (omega (arith, less, lt)))) in
    sym (ap (unless_over graph) (position_at is_over streams j d lt before (ap is_over is ∙ over)))

-- a graph has a stream for each of a window
pub as_many_streams : (f : WindowStream → Option Meas) (streams : List WindowStream) → length (graph_streams streams (map f streams)) ≡ length streams
as_many_streams f streams = ap length (streams_are f streams) ∙ length-map streams (λ (s : WindowStream). graph_stream s (f s))

-- a stream outside the limits is one of the graph's
pub outside_within : (graph : ProcessGraph) (j : ℕ) → IsFirstStreamOutside graph j → j < length graph.streams
outside_within graph j outside = slice_get_within graph.streams j outside.stream outside.there

-- the graph of a window is within the limits, if it has one
pub window_right : (rows : List StoredRow) (periods : List Period) (window : Window) → IsDeclaredPlant (declared_of rows) → All (λ (k : KeptFact). IsFactInRange k.fact) (facts_of rows)
    → IsWindow window → IfOk (window_assembly rows periods window) IsProcessGraph
window_right rows periods window plant ranges form =
    let n = 1 + length window.nodes in
    let f = stream_measured rows periods in
    let stream : WindowStream → Stream = λ s. graph_stream s (f s) in
    let same = streams_are f window.streams in
    let facts = live_have IsFactInRange (facts_of rows) ranges in
    let many = length-map window.streams stream in
    within_right (window_graph window (window_measured rows periods window))
    (λ limits. record {
      env = omega arith;
      few_nodes = form.few_nodes;
      few_streams = omega (arith, ap length same, many, form.few_streams);
      joins = subst (All (IsStream n)) (sym same)
          (all_map (IsWindowStream n) (IsStream n) stream window.streams (λ s right. record { from = right.from; to = right.to; apart = right.apart }) form.joins);
      limits = limits;
    })
    (subst (All HasLeast) (sym same) (all_map (IsWindowStream n) HasLeast stream window.streams (λ s right. stream_least rows periods s facts plant.joined) form.joins))
