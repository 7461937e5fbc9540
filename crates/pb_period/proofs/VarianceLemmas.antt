-- No variance is negative, so graphs are within their limits.
use Rattle.std.specs.Prelude.{int_le, IfSome, IfOk, ◌==◌, filter, find, filter_map, map, option_and_then, is_some, position, if◌then◌else◌}
use Rattle.std.specs.Int.{int_gap, int_max, int_min}
use Rattle.std.specs.List.{cons_option, list_all, list_any, position_or_len}
use Rattle.std.specs.Option.{option_map}
use Rattle.std.proofs.Common.{◌≡◌, ◌∙◌, ◌≤◌, ◌<◌, ◌*◌, ◌/◌, ℕ, suc, ℤ, pos, negsuc, ◌≤ℤ◌, ◌+ℤ◌, List, [], ◌∷◌, length, get_or, All, Bool, true, false, true≢false, Option, Some, None, refl, sym, arith, inl, inr}
use Rattle.std.proofs.lemmas.Bool.{cases_Bool, lt-ltb}
use Rattle.std.proofs.lemmas.Int.{int_max_is, int_min_is, ints}
use Rattle.std.proofs.lemmas.List.{length-map}
use Rattle.std.proofs.lemmas.List.Elements.{All-cons, All-nil}
use Rattle.std.proofs.lemmas.List.Folds.{list_any_at}
use Rattle.std.proofs.lemmas.Nat.{le-div}
use Rattle.std.proofs.Math.Nat.{div-mul-le_self, mul-le-mul_left}
use Rattle.pb_rows.specs.Name.{same_name}
use Rattle.pb_strap.specs.declared.strap.Point.{Point}
use Rattle.pb_graph.specs.declared.records.Meas.{Meas}
use Rattle.pb_graph.specs.declared.records.Stream.{Stream}
use Rattle.pb_graph.specs.ProcessGraph.{IsMeasurement, IsProcessGraph, IsStream, IsWithinLimits, ProcessGraph}
use Rattle.pb_site.specs.declared.declared.Arc.{Arc}
use Rattle.pb_site.specs.declared.declared.ArcKind.{ArcKind}
use Rattle.pb_site.specs.declared.declared.ArcKind.TheVariants.{Metered, Batch, Plain, Tank}
use Rattle.pb_site.specs.declared.declared.Declared.{Declared}
use Rattle.pb_site.specs.declared.declared.Service.{Service}
use Rattle.pb_site.specs.declared.declared.Version.{Version}
use Rattle.pb_site.specs.declared.declared.Version.TheVariants.{One, Two}
use Rattle.pb_site.specs.Laws.{IsDeclaredPlant, IsPartOnDays, JoinsPlaces}
use Rattle.pb_site.specs.OnDays.{arcs_on, is_arc_in_service, name_at_node, names_on, nodes_on}
use Rattle.pb_site.specs.Service.{day_of_opening, last_served, first_served}
use Rattle.pb_site.specs.Row.{IsArcBase, is_plain_kind}
use Rattle.pb_site.specs.Site.{IsArc, arcs_of, node_names, points_of_tank}
use Rattle.pb_facts.specs.declared.fact.Fact.{Fact}
use Rattle.pb_facts.specs.declared.fact.Fact.TheVariants.{Reading, Transfer, Dip}
use Rattle.pb_facts.specs.declared.facts.KeptFact.{KeptFact}
use Rattle.pb_facts.specs.Fact.{IsFactInRange, is_dip_on, is_reading_on}
use Rattle.pb_facts.specs.Facts.{live_facts}
use Rattle.pb_facts.specs.Share.{share_of}
use Rattle.pb_kinds.specs.declared.rows.StoredRow.{StoredRow}
use Rattle.pb_book.specs.Rows.{declared_of, facts_of}
use Rattle.pb_period.specs.declared.amount.Amount.{Amount}
use Rattle.pb_period.specs.declared.days.Days.{Days}
use Rattle.pb_period.specs.Days.{day_count}
use Rattle.pb_period.specs.Facts.{content_of, read_amount, read_on, share_on, total_of, transferred}
use Rattle.pb_period.specs.Laws.{AreGraphNames}
use Rattle.pb_period.specs.Measurement.{amount_of, change_of, measured, measurement, read_total}
use Rattle.pb_period.specs.PeriodGraph.{base_of, design_graph, graph_in, graph_with, is_over, served_graph, stream_among, stream_with, unless_over, within_limits, measured_in}
use Rattle.pb_period.proofs.DayLemmas.{gap_is}
use Rattle.pb_period.proofs.GraphLemmas.{within}
use Rattle.pb_periods.specs.Windows.{days_between}

-- ---- facts

head : {A : Type 0} (P : A → Type 0) (x : A) (xs : List A) → All P (x ∷ xs) → P x
head P x xs all = all 0 x (omega arith)

tail : {A : Type 0} (P : A → Type 0) (x : A) (xs : List A) → All P (x ∷ xs) → All P xs
tail P x xs all = λ k d lt. all (suc k) d (omega (arith, lt))

-- what all facts have, the live ones have
pub live_have : (P : Fact → Type 0) (kept : List KeptFact) → All (λ (k : KeptFact). P k.fact) kept → All P (live_facts kept)
live_have P [] all = All-nil P
live_have P (k ∷ kept) all =
    let rest = live_have P kept (tail (λ (k : KeptFact). P k.fact) k kept all) in
    elim (cases_Bool k.struck) [
      | inl struck ↦ rw struck rest
      | inr live ↦ rw live (All-cons P k.fact (live_facts kept) (head (λ (k : KeptFact). P k.fact) k kept all) rest)
    ]

-- what is found has what all have
pub find_has : {A : Type 0} (P : A → Type 0) (test : A → Bool) (xs : List A) → All P xs → IfSome (find test xs) P
find_has P test [] all = tt
find_has P test (x ∷ xs) all = elim (cases_Bool (test x)) [
  | inl here ↦ rw here (head P x xs all)
  | inr later ↦ rw later (find_has P test xs (tail P x xs all))
]

-- ---- amounts whose variance isn't negative

abbrev pub IsFair : Amount → Type 0
IsFair amount = pos 0 ≤ℤ amount.variance

total_fair : {A : Type 0} (f : A → Option Amount) (xs : List A) → ((x : A) → IfSome (f x) IsFair) → IsFair (total_of (filter_map f xs))
total_fair f [] each = omega (arith, ints)
total_fair f (x ∷ xs) each = by (f x) (each x) (total_fair f xs each)
  where
    by : (o : Option Amount) → IfSome o IsFair → IsFair (total_of (filter_map f xs)) → IsFair (total_of (cons_option o (filter_map f xs)))
    by None one rest = rest
    by (Some amount) one rest = omega (arith, ints, one, rest)

total_fair_all : (f : Fact → Option Amount) (facts : List Fact) → ((fact : Fact) → IsFactInRange fact → IfSome (f fact) IsFair) → All IsFactInRange facts → IsFair (total_of (filter_map f facts))
total_fair_all f [] each all = omega (arith, ints)
total_fair_all f (x ∷ xs) each all = by (f x) (each x (head IsFactInRange x xs all)) (total_fair_all f xs each (tail IsFactInRange x xs all))
  where
    by : (o : Option Amount) → IfSome o IsFair → IsFair (total_of (filter_map f xs)) → IsFair (total_of (cons_option o (filter_map f xs)))
    by None one rest = rest
    by (Some amount) one rest = omega (arith, ints, one, rest)

read_fair : (facts : List Fact) (stream : List ℕ) (day : ℤ) → All IsFactInRange facts → IfSome (read_on facts stream day) IsFair
read_fair facts stream day all = by (find (is_reading_on stream day) facts) (find_has IsFactInRange (is_reading_on stream day) facts all)
  where
    by : (o : Option Fact) → IfSome o IsFactInRange → IfSome (option_and_then read_amount o) IsFair
    by None range = tt
    by (Some (Reading id own d grams variance)) range = range.2.0
    by (Some (Transfer id own first last grams variance)) range = tt
    by (Some (Dip id tank d mm density variance)) range = tt

read_total_fair : (read : ℤ → Option Amount) (days : List ℤ) → ((day : ℤ) → IfSome (read day) IsFair) → IfSome (read_total read days) IsFair
read_total_fair read days each = by (list_all (λ day. is_some (read day)) days)
  where
    by : (b : Bool) → IfSome (if b then Some (total_of (filter_map read days)) else None) IsFair
    by true = total_fair read days each
    by false = tt

-- ---- shares

div_mono : (m k n : ℕ) → 0 < n → m ≤ k → m / n ≤ k / n
div_mono m k n some le = let below = div-mul-le_self m n in le-div (m / n) k n some (omega (arith, below, le))

share_fair : (total : ℤ) (n a b : ℕ) → pos 0 ≤ℤ total → 0 < n → a ≤ b → pos 0 ≤ℤ share_of total n a b
share_fair (negsuc t) n a b fair some le = absurd (omega (arith, ints, fair))
share_fair (pos t) n a b fair some le =
    let more = div_mono (t * a) (t * b) n some (mul-le-mul_left t le) in
    omega (arith, ints, more)

share_on_fair : (first last : ℤ) (amount : Amount) (from to : ℤ) → IsFair amount → first ≤ℤ from → to ≤ℤ last → IfSome (share_on first last amount from to) IsFair
share_on_fair first last amount from to fair begins ends = elim (cases_Bool (int_le from to)) [
  | inl some ↦
      let le : from ≤ℤ to = omega (arith, ints, some) in
      let days = gap_is first (last +ℤ pos 1) (omega (arith, ints, begins, ends, le)) in
      let before = gap_is first from begins in
      let until = gap_is first (to +ℤ pos 1) (omega (arith, ints, begins, le)) in
      rw some (share_fair amount.variance (day_count first last) (int_gap first from) (day_count first to) fair (omega (arith, ints, days, begins, ends, le)) (omega (arith, ints, before, until, le)))
  | inr none ↦ rw none tt
]

transferred_fair : (days : Days) (stream : List ℕ) (fact : Fact) → IsFactInRange fact → IfSome (transferred days stream fact) IsFair
transferred_fair days stream (Reading id own day grams variance) range = tt
transferred_fair days stream (Dip id tank day mm density variance) range = tt
transferred_fair days stream (Transfer id own first last grams variance) range = elim (cases_Bool (same_name own stream)) [
  | inl same ↦
      let greatest = int_max_is days.first first in
      let least = int_min_is days.last last in
      rw same (share_on_fair first last (record { grams = grams; variance = variance }) (int_max days.first first) (int_min days.last last) range.3.0
      (omega (arith, ints, greatest)) (omega (arith, ints, least)))
  | inr other ↦ rw other tt
]

pub content_fair : (points : List Point) (fact : Fact) → IsFactInRange fact → IsFair (content_of points fact)
content_fair points (Reading id own day grams variance) range = omega (arith, ints)
content_fair points (Transfer id own first last grams variance) range = omega (arith, ints)
content_fair points (Dip id tank day mm density variance) range = range.3.0

change_fair : (content : Fact → Amount) (opening closing : Option Fact) → ((fact : Fact) → IsFactInRange fact → IsFair (content fact)) → IfSome opening IsFactInRange → IfSome closing IsFactInRange
    → IfSome (change_of content opening closing) IsFair
change_fair content None closing each before after = tt
change_fair content (Some opening) None each before after = tt
change_fair content (Some opening) (Some closing) each before after = let one = each opening before in let other = each closing after in omega (arith, ints, one, other)

amount_fair : (declared : List Declared) (facts : List Fact) (days : Days) (service : Option Service) (kind : ArcKind) (name : List ℕ) → All IsFactInRange facts
    → IfSome (amount_of declared facts days service kind name) IsFair
amount_fair declared facts days service Metered name all = read_total_fair (read_on facts name) (days_between (first_served service days.first) (last_served service days.last)) (λ day. read_fair facts name day all)
amount_fair declared facts days service Batch name all = total_fair_all (transferred days name) facts (transferred_fair days name) all
amount_fair declared facts days service Plain name all = tt
amount_fair declared facts days service Tank name all =
    change_fair (content_of (points_of_tank declared name)) _ _ (content_fair (points_of_tank declared name))
    (find_has IsFactInRange (is_dip_on name (day_of_opening service days.first)) facts all) (find_has IsFactInRange (is_dip_on name (last_served service days.last)) facts all)

-- ---- streams

-- the variance of a stream that is measured is at least 1
abbrev pub HasLeast : Stream → Type 0
HasLeast s = IfSome s.meas (λ meas. pos 1 ≤ℤ meas.variance)

-- what is measured has a variance of at least 1
pub measured_least : (declared : List Declared) (facts : List Fact) (days : Days) (service : Option Service) (arc : Arc) → All IsFactInRange facts → IsArcBase arc.kind arc.base
    → IfSome (measured declared facts days service arc) (λ meas. pos 1 ≤ℤ meas.variance)
measured_least declared facts days service arc all limits = by arc.kind limits (amount_fair declared facts days service arc.kind arc.name all)
  where
    some : (o : Option Amount) → pos 1 ≤ℤ arc.base → IfSome o IsFair → IfSome (option_map (measurement arc.base) o) (λ meas. pos 1 ≤ℤ meas.variance)
    some None least fair = tt
    some (Some amount) least fair = omega (arith, ints, least, fair)

    by : (kind : ArcKind) → IsArcBase kind arc.base → IfSome (amount_of declared facts days service kind arc.name) IsFair
        → IfSome (option_map (measurement arc.base) (amount_of declared facts days service kind arc.name)) (λ meas. pos 1 ≤ℤ meas.variance)
    by Metered limits fair = some (amount_of declared facts days service Metered arc.name) limits.0 fair
    by Batch limits fair = some (amount_of declared facts days service Batch arc.name) limits.0 fair
    by Plain limits fair = tt
    by Tank limits fair = some (amount_of declared facts days service Tank arc.name) limits.0 fair

base_within : (kind : ArcKind) (base : ℤ) → IsArcBase kind base → IfSome (if is_plain_kind kind then None else Some (record { value = pos 0; variance = base })) IsMeasurement
base_within Metered base limits = record { value = omega arith; least = limits.0; greatest = omega (arith, ints, limits.1) }
base_within Batch base limits = record { value = omega arith; least = limits.0; greatest = omega (arith, ints, limits.1) }
base_within Plain base limits = tt
base_within Tank base limits = record { value = omega arith; least = limits.0; greatest = omega (arith, ints, limits.1) }

-- ---- graphs

pub all_map : {A B : Type 0} (P : A → Type 0) (Q : B → Type 0) (f : A → B) (xs : List A) → ((x : A) → P x → Q (f x)) → All P xs → All Q (map f xs)
all_map P Q f [] each all = All-nil Q
all_map P Q f (x ∷ xs) each all = All-cons Q (f x) (map f xs) (each x (head P x xs all)) (all_map P Q f xs each (tail P x xs all))

graph_of : (measure : Arc → Option Meas) (rows : List StoredRow) → IsDeclaredPlant (declared_of rows) → All IsWithinLimits (map (stream_with measure) (arcs_of (declared_of rows)))
    → IsProcessGraph (graph_with measure rows)
graph_of measure rows plant limits =
    let declared = declared_of rows in
    let nodes = length (node_names declared) in
    let many = length-map (arcs_of declared) (stream_with measure) in
    record {
      env = omega arith;
      few_nodes = plant.few_nodes;
      few_streams = omega (arith, many, plant.few_arcs);
      joins = all_map (IsArc nodes) (IsStream nodes) (stream_with measure) (arcs_of declared)
          (λ arc right. record { from = right.begins; to = right.ends; apart = right.apart }) plant.joined;
      limits = limits;
    }

pub design_right : (rows : List StoredRow) → IsDeclaredPlant (declared_of rows) → IsProcessGraph (design_graph rows)
design_right rows plant =
    graph_of base_of rows plant
    (all_map (IsArc (length (node_names (declared_of rows)))) IsWithinLimits (stream_with base_of) (arcs_of (declared_of rows))
    (λ arc right. base_within arc.kind arc.base right.limits) plant.joined)

any_place : {A : Type 0} (test : A → Bool) (xs : List A) → list_any test xs ≡ true → position_or_len test xs < length xs
any_place test [] some = absurd (true≢false (sym some))
any_place test (x ∷ xs) some = elim (cases_Bool (test x)) [
  | inl here ↦ rw here (omega arith)
  | inr later ↦ let rest = any_place test xs (rw later at some) in rw later (omega (arith, rest))
]

-- if no item has the first place, no item passes
none_passes : {A : Type 0} (test : A → Bool) (xs : List A) → position test xs ≡ None → All (λ (x : A). test x ≡ false) xs
none_passes test xs none k d lt = elim (cases_Bool (test (get_or xs k d))) [
  | inl passing ↦
      let there = any_place test xs (list_any_at test xs k d lt passing) in
      cc (rw (lt-ltb (position_or_len test xs) (length xs) there) at none)
  | inr failing ↦ failing
]

both_all : {A : Type 0} (P Q R : A → Type 0) (xs : List A) → ((x : A) → P x → Q x → R x) → All P xs → All Q xs → All R xs
both_all P Q R xs join ps qs k d lt = join (get_or xs k d) (ps k d lt) (qs k d lt)

-- what all items have, those that pass have
all_filter : {A : Type 0} (P : A → Type 0) (p : A → Bool) (xs : List A) → All P xs → All P (filter p xs)
all_filter P p [] all = All-nil P
all_filter P p (x ∷ xs) all =
    let rest = all_filter P p xs (tail P x xs all) in
    elim (cases_Bool (p x)) [
      | inl passes ↦ rw passes (All-cons P x (filter p xs) (head P x xs all) rest)
      | inr fails ↦ rw fails rest
    ]

few_pass : {A : Type 0} (p : A → Bool) (xs : List A) → length (filter p xs) ≤ length xs
few_pass p [] = omega arith
few_pass p (x ∷ xs) =
    let rest = few_pass p xs in
    elim (cases_Bool (p x)) [ inl passes ↦ rw passes (omega (arith, rest)) | inr fails ↦ rw fails (omega (arith, rest)) ]

-- the graph of the part in service
served_of : (declared : List Declared) (facts : List Fact) (days : Days) → IsDeclaredPlant declared → IsPartOnDays Two declared days.first days.last
    → All IsWithinLimits (served_graph declared facts days).streams → IsProcessGraph (served_graph declared facts days)
served_of declared facts days plant part limits =
    let nodes = nodes_on Two declared days.first days.last in
    let arcs = arcs_on Two declared days.first days.last in
    let stream = stream_among nodes (measured_in Two declared facts days) in
    let many = length-map arcs stream in
    let few = few_pass (is_arc_in_service days.first days.last) (arcs_of declared) in
    record {
      env = omega arith;
      few_nodes = omega (arith, part.few, plant.few_nodes);
      few_streams = omega (arith, many, few, plant.few_arcs);
      joins = all_map (JoinsPlaces nodes) (IsStream (length nodes)) stream arcs
          (λ arc joins. record { from = any_place (λ (n : ℕ). n == arc.from) nodes joins.begins; to = any_place (λ (n : ℕ). n == arc.to) nodes joins.ends; apart = joins.apart }) part.joined;
      limits = limits;
    }

-- a graph within the limits, if its variances are large enough
pub within_right : (graph : ProcessGraph) → (All IsWithinLimits graph.streams → IsProcessGraph graph) → All HasLeast graph.streams → IfOk (within_limits graph) IsProcessGraph
within_right graph right least = by (position is_over graph.streams) refl
  where
    by : (o : Option ℕ) → position is_over graph.streams ≡ o → IfOk (unless_over graph o) IsProcessGraph
    by (Some stream) at = tt
    by None none = right (both_all (λ (s : Stream). is_over s ≡ false) HasLeast IsWithinLimits graph.streams within (none_passes is_over graph.streams none) least)

pub graph_right : (version : Version) (rows : List StoredRow) (days : Days) → IsDeclaredPlant (declared_of rows) → IsPartOnDays version (declared_of rows) days.first days.last
    → All (λ (k : KeptFact). IsFactInRange k.fact) (facts_of rows) → IfOk (within_limits (graph_in version rows days)) IsProcessGraph
graph_right One rows days plant part ranges =
    let facts = live_facts (facts_of rows) in
    let declared = declared_of rows in
    let measure = measured declared facts days None in
    within_right (graph_in One rows days) (graph_of measure rows plant)
    (all_map (IsArc (length (node_names declared))) HasLeast (stream_with measure) (arcs_of declared)
    (λ arc right. measured_least declared facts days None arc (live_have IsFactInRange (facts_of rows) ranges) right.limits) plant.joined)
graph_right Two rows days plant part ranges =
    let facts = live_facts (facts_of rows) in
    let declared = declared_of rows in
    let nodes = length (node_names declared) in
    within_right (graph_in Two rows days) (served_of declared facts days plant part)
    (all_map (IsArc nodes) HasLeast (stream_among (nodes_on Two declared days.first days.last) (measured_in Two declared facts days)) (arcs_on Two declared days.first days.last)
    (λ arc right. measured_least declared facts days arc.service arc (live_have IsFactInRange (facts_of rows) ranges) right.limits)
    (all_filter (IsArc nodes) (is_arc_in_service days.first days.last) (arcs_of declared) plant.joined))

-- ---- names

pub names_right : (version : Version) (rows : List StoredRow) (days : Days) → IsPartOnDays version (declared_of rows) days.first days.last
    → AreGraphNames (names_on version (declared_of rows) days.first days.last) (graph_in version rows days)
names_right One rows days part =
    let declared = declared_of rows in
    record {
      each_node = refl;
      each_stream = length-map (arcs_of declared) (λ (arc : Arc). arc.name)
          ∙ sym (length-map (arcs_of declared) (stream_with (measured declared (live_facts (facts_of rows)) days None)));
      environment = refl;
      nodes = part.nodes;
      streams = part.streams;
    }
names_right Two rows days part =
    let declared = declared_of rows in
    let nodes = nodes_on Two declared days.first days.last in
    let arcs = arcs_on Two declared days.first days.last in
    record {
      each_node = length-map nodes (name_at_node declared);
      each_stream = length-map arcs (λ (arc : Arc). arc.name) ∙ sym (length-map arcs (stream_among nodes (measured_in Two declared (live_facts (facts_of rows)) days)));
      environment = refl;
      nodes = part.nodes;
      streams = part.streams;
    }
