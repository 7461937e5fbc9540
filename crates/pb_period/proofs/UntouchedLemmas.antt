-- Facts that don't touch a period say nothing about it.
use Rattle.std.specs.Prelude.{◌&&◌, filter, filter_map, find, int_le, is_some, option_and_then, option_map, if◌then◌else◌, slice_index_or, AllPairs}
use Rattle.std.specs.Cmp.Lexicographic.{bytes_decides}
use Rattle.std.specs.Int.{int_gap, int_max, int_min}
use Rattle.std.specs.List.{AllByRecursion, cons_option, list_all}
use Rattle.std.specs.Ordering.{int_eq}
use Rattle.std.proofs.Common.{◌≡◌, ◌∙◌, ◌<◌, ◌≤ℤ◌, ◌<ℤ◌, ◌+ℤ◌, ℕ, zero, suc, ℤ, pos, negsuc, cond, List, [], ◌∷◌, ◌++◌, length, map, Bool, true, false, true≢false, Option, Some, None, refl, sym, ap, ap₂, subst, arith, inl, inr}
use Rattle.std.proofs.lemmas.Bool.{and_parts, cases_Bool}
use Rattle.std.proofs.lemmas.Bool.Decides.{Decides-int_eq}
use Rattle.std.proofs.lemmas.Int.{int_max_is, int_min_is, ints}
use Rattle.std.proofs.lemmas.List.{append-nil}
use Rattle.std.proofs.lemmas.List.Elements.{filter-append, filter_map-append}
use Rattle.std.proofs.lemmas.List.Sums.{fold_push}
use Rattle.pb_rows.specs.Name.{same_name}
use Rattle.pb_graph.specs.declared.records.Meas.{Meas}
use Rattle.pb_graph.specs.declared.records.Stream.{Stream}
use Rattle.pb_graph.specs.ProcessGraph.{ProcessGraph}
use Rattle.pb_site.specs.declared.declared.Arc.{Arc}
use Rattle.pb_site.specs.declared.declared.ArcKind.{ArcKind}
use Rattle.pb_site.specs.declared.declared.ArcKind.TheVariants.{Metered, Batch, Plain, Tank}
use Rattle.pb_site.specs.declared.declared.Declared.{Declared}
use Rattle.pb_site.specs.declared.declared.Service.{Service}
use Rattle.pb_site.specs.declared.declared.Version.{Version}
use Rattle.pb_site.specs.declared.declared.Version.TheVariants.{One, Two}
use Rattle.pb_site.specs.OnDays.{arcs_on, is_arc_in_service, nodes_on, place_among}
use Rattle.pb_site.specs.Service.{day_of_opening, is_in_service_within, last_served, first_served}
use Rattle.pb_site.specs.Site.{AreDistinct, arc_names, arcs_of, node_names, points_of_tank, service_in, version_of}
use Rattle.pb_facts.specs.declared.fact.Change.{Change}
use Rattle.pb_facts.specs.declared.fact.Change.TheVariants.{Level}
use Rattle.pb_facts.specs.declared.fact.Fact.{Fact}
use Rattle.pb_facts.specs.declared.fact.Fact.TheVariants.{Reading, Transfer, Dip}
use Rattle.pb_facts.specs.declared.facts.KeptFact.{KeptFact}
use Rattle.pb_facts.specs.Changes.{amended, changed, struck}
use Rattle.pb_facts.specs.Fact.{id_of, is_dip_on, is_reading_on}
use Rattle.pb_facts.specs.Facts.{NoRepeats, has_id, is_live_with, is_repeat, live_fact, live_facts}
use Rattle.pb_kinds.specs.declared.rows.Effect.{Effect}
use Rattle.pb_kinds.specs.declared.rows.Edit.TheVariants as edits
use Rattle.pb_kinds.specs.declared.rows.Effect.TheVariants.{Declares, Opens, Books, Edits, Closes, Assays}
use Rattle.pb_periods.specs.declared.period.Period.{Period}
use Rattle.pb_periods.specs.Apart.{shares_a_day}
use Rattle.pb_book.specs.TakenOut.{takes_out, touches_by_id, touching_of}
use Rattle.pb_kinds.specs.declared.rows.StoredRow.{StoredRow}
use Rattle.pb_book.specs.Rows.{declaration_in, declared_of, facts_after, facts_of, live}
use Rattle.pb_periods.specs.Touching.{is_boundary_of, touches_in, touches_period}
use Rattle.pb_period.specs.declared.amount.Amount.{Amount}
use Rattle.pb_period.specs.declared.days.Days.{Days}
use Rattle.pb_period.specs.Days.{day_count, days_of}
use Rattle.pb_period.specs.Facts.{content_of, read_amount, read_on, share_on, total_of, transferred}
use Rattle.pb_period.specs.Laws.{LeavesDays}
use Rattle.pb_period.specs.Measurement.{amount_of, change_of, measured, measurement, read_total}
use Rattle.pb_period.specs.PeriodGraph.{period_graph, stream_among, stream_with, within_limits, measured_in}
use Rattle.pb_period.proofs.DayLemmas.{served_within}
use Rattle.pb_period.proofs.PlainLemmas.{graph_by, graph_is}
use Rattle.pb_periods.specs.Windows.{days_in_row, days_between}

-- ---- what is found, and what is given, among those that pass a wider test

find_among : {A : Type 0} (p q : A → Bool) (xs : List A) → ((x : A) → p x ≡ true → q x ≡ true) → find p (filter q xs) ≡ find p xs
find_among p q [] wider = refl
find_among p q (x ∷ xs) wider =
    let rest = find_among p q xs wider in
    elim (cases_Bool (q x)) [
      | inl passes ↦ rw passes (elim (cases_Bool (p x)) [
        | inl here ↦ rw here refl
        | inr later ↦ rw later rest
      ])
      | inr fails ↦ elim (cases_Bool (p x)) [
        | inl here ↦ absurd (true≢false (sym (wider x here) ∙ fails))
        | inr later ↦ rw (fails, later) rest
      ]
    ]

given_among : {A B : Type 0} (f : A → Option B) (q : A → Bool) (xs : List A) → ((x : A) → q x ≡ false → f x ≡ None) → filter_map f (filter q xs) ≡ filter_map f xs
given_among f q [] none = refl
given_among f q (x ∷ xs) none =
    let rest = given_among f q xs none in
    elim (cases_Bool (q x)) [
      | inl passes ↦ rw passes (ap (cons_option (f x)) rest)
      | inr fails ↦ rw (fails, none x fails) rest
    ]

-- ---- a meter on the days of a period

each_day : (P : ℤ → Type 0) (n : ℕ) (day : ℤ) → ((d : ℤ) → day ≤ℤ d → d <ℤ (day +ℤ pos n) → P d) → AllByRecursion P (days_in_row day n)
each_day P zero day each = tt
each_day P (suc n) day each =
    (each day (omega (arith, ints)) (omega (arith, ints)), each_day P n (day +ℤ pos 1) (λ d from to. each d (omega (arith, ints, from)) (omega (arith, ints, to))))

some_days : (a b d : ℤ) → a ≤ℤ d → d <ℤ (a +ℤ pos (int_gap a b)) → d <ℤ b
some_days (pos a) (pos b) d from to = omega (arith, ints, from, to)
some_days (pos a) (negsuc b) d from to = absurd (omega (arith, ints, from, to))
some_days (negsuc a) (pos b) d from to = omega (arith, ints, from, to)
some_days (negsuc a) (negsuc b) d from to = omega (arith, ints, from, to)

within_days : (P : ℤ → Type 0) (days : Days) → ((d : ℤ) → days.first ≤ℤ d → d ≤ℤ days.last → P d) → AllByRecursion P (days_between days.first days.last)
within_days P days each =
    each_day P (day_count days.first days.last) days.first
    (λ d from to. let before = some_days days.first (days.last +ℤ pos 1) d from to in each d from (omega (arith, ints, before)))

pub same_total : (read other : ℤ → Option Amount) (days : List ℤ) → AllByRecursion (λ day. read day ≡ other day) days → read_total read days ≡ read_total other days
same_total read other days same =
    ap₂ (λ (all : Bool) (amounts : List Amount). if all then Some (total_of amounts) else None) (all_read days same) (amounts_read days same)
  where
    all_read : (days : List ℤ) → AllByRecursion (λ day. read day ≡ other day) days → list_all (λ day. is_some (read day)) days ≡ list_all (λ day. is_some (other day)) days
    all_read [] same = refl
    all_read (day ∷ days) (here, rest) = ap₂ (λ (o : Option Amount) (b : Bool). is_some o && b) here (all_read days rest)

    amounts_read : (days : List ℤ) → AllByRecursion (λ day. read day ≡ other day) days → filter_map read days ≡ filter_map other days
    amounts_read [] same = refl
    amounts_read (day ∷ days) (here, rest) = ap₂ (λ (o : Option Amount) (xs : List Amount). cons_option o xs) here (amounts_read days rest)

-- ---- pairs of a list

pub pairs_tail : {A : Type 0} (R : A → A → Type 0) (x : A) (xs : List A) → AllPairs R (x ∷ xs) → AllPairs R xs
pairs_tail R x xs pairs i j d lt within = pairs (suc i) (suc j) d (omega (arith, lt)) (omega (arith, within))

-- what holds for each item after the first one
pub heads : {A : Type 0} (R : A → A → Type 0) (P : A → Type 0) (x : A) (xs : List A) → ((y : A) → R x y → P y) → ((k : ℕ) (d : A) → k < length xs → R x (slice_index_or xs k d)) → AllByRecursion P xs
heads R P x [] so each = tt
heads R P x (y ∷ xs) so each = (so y (each 0 y (omega arith)), heads R P x xs so (λ k d lt. each (suc k) d (omega (arith, lt))))

-- ---- what the facts that touch a period say about its days is what all facts say

yes_le : (a b : ℤ) → a ≤ℤ b → int_le a b ≡ true
yes_le a b le = elim (cases_Bool (int_le a b)) [ inl is ↦ is | inr not ↦ absurd (omega (arith, ints, not, le)) ]

no_le : (a b : ℤ) → b <ℤ a → int_le a b ≡ false
no_le a b lt = elim (cases_Bool (int_le a b)) [ inl is ↦ absurd (omega (arith, ints, is, lt)) | inr not ↦ not ]

reading_touches : (version : Version) (declared : List Declared) (period : Period) (stream : List ℕ) (day : ℤ) → period.first ≤ℤ day → day ≤ℤ period.last
    → (fact : Fact) → is_reading_on stream day fact ≡ true → touches_in version declared fact period ≡ true
reading_touches version declared period stream day from to (Reading id own d grams variance) is =
    let on = and_parts (same_name own stream) (int_eq d day) is in
    let same : d ≡ day = (Decides-int_eq d day).0 on.1 in
    subst (λ (e : ℤ). shares_a_day e e period ≡ true) (sym same) (rw (yes_le day period.last to, yes_le period.first day from) refl)
reading_touches version declared period stream day from to (Transfer id own first last grams variance) is = cc is
reading_touches version declared period stream day from to (Dip id tank d mm density variance) is = cc is

dip_touches : (version : Version) (declared : List Declared) (period : Period) (service : Option Service) (tank : List ℕ) (day : ℤ) → service_in version declared tank ≡ service
    → is_in_service_within service period.first period.last ≡ true → is_boundary_of service day period ≡ true
    → (fact : Fact) → is_dip_on tank day fact ≡ true → touches_in version declared fact period ≡ true
dip_touches version declared period service tank day own serves boundary (Reading id other d grams variance) is = cc is
dip_touches version declared period service tank day own serves boundary (Transfer id other first last grams variance) is = cc is
dip_touches version declared period service tank day own serves boundary (Dip id other d mm density variance) is =
    let on = and_parts (same_name other tank) (int_eq d day) is in
    let same : d ≡ day = (Decides-int_eq d day).0 on.1 in
    let named : other ≡ tank = (bytes_decides other tank).0 on.0 in
    let here : touches_period service (Dip id other day mm density variance) period ≡ true = rw serves boundary in
    let own_here : service_in version declared other ≡ service = ap (service_in version declared) named ∙ own in
    subst (λ (s : Option Service). touches_period s (Dip id other d mm density variance) period ≡ true) (sym own_here)
    (subst (λ (e : ℤ). touches_period service (Dip id other e mm density variance) period ≡ true) (sym same) here)

no_share : (period : Period) (first last : ℤ) (amount : Amount) → shares_a_day first last period ≡ false
    → share_on first last amount (int_max period.first first) (int_min period.last last) ≡ None
no_share period first last amount apart =
    let greatest = int_max_is period.first first in
    let least = int_min_is period.last last in
    let from = int_max period.first first in
    let to = int_min period.last last in
    let none : int_le from to ≡ false = elim (cases_Bool (int_le first period.last)) [
      | inl begins ↦ elim (cases_Bool (int_le period.first last)) [
        | inl ends ↦ absurd (true≢false (sym (ap₂ (λ (a b : Bool). a && b) begins ends) ∙ apart))
        | inr past ↦ no_le from to (omega (arith, ints, greatest, least, past))
      ]
      | inr past ↦ no_le from to (omega (arith, ints, greatest, least, past))
    ] in
    rw none refl

none_moved : (version : Version) (declared : List Declared) (period : Period) (stream : List ℕ) (fact : Fact) → touches_in version declared fact period ≡ false
    → transferred (days_of period) stream fact ≡ None
none_moved version declared period stream (Reading id own day grams variance) apart = refl
none_moved version declared period stream (Dip id tank day mm density variance) apart = refl
none_moved version declared period stream (Transfer id own first last grams variance) apart = elim (cases_Bool (same_name own stream)) [
  | inl same ↦ rw same (no_share period first last (record { grams = grams; variance = variance }) apart)
  | inr other ↦ rw other refl
]

same_int : (day : ℤ) → int_eq day day ≡ true
same_int day = (Decides-int_eq day day).1 refl

ends_with : (service : Option Service) (period : Period) → is_boundary_of service (last_served service period.last) period ≡ true
ends_with service period = rw (same_int (last_served service period.last)) refl

opens_before : (service : Option Service) (period : Period) → is_boundary_of service (day_of_opening service period.first) period ≡ true
opens_before service period = elim (cases_Bool (int_eq (day_of_opening service period.first) (last_served service period.last))) [
  | inl is ↦ rw is refl
  | inr other ↦ rw (other, same_int (day_of_opening service period.first)) refl
]

-- the facts that touch a period
abbrev pub touching : (Fact → Period → Bool) → Period → List Fact → List Fact
touching touch period facts = filter (λ (fact : Fact). touch fact period) facts

read_among : (version : Version) (declared : List Declared) (period : Period) (facts : List Fact) (stream : List ℕ) (day : ℤ) → period.first ≤ℤ day → day ≤ℤ period.last
    → read_on (touching (touches_in version declared) period facts) stream day ≡ read_on facts stream day
read_among version declared period facts stream day from to =
    ap (option_and_then read_amount)
    (find_among (is_reading_on stream day) (λ (fact : Fact). touches_in version declared fact period) facts (reading_touches version declared period stream day from to))

-- what all facts say about something that is in service in a period, the facts that touch the period say too
amount_among : (version : Version) (declared : List Declared) (period : Period) (facts : List Fact) (service : Option Service) (kind : ArcKind) (name : List ℕ)
    → service_in version declared name ≡ service → is_in_service_within service period.first period.last ≡ true
    → amount_of declared (touching (touches_in version declared) period facts) (days_of period) service kind name ≡ amount_of declared facts (days_of period) service kind name
amount_among version declared period facts service Metered name own serves =
    let among = touching (touches_in version declared) period facts in
    let served : Days = record { first = first_served service period.first; last = last_served service period.last } in
    let inside = served_within service period.first period.last in
    same_total (read_on among name) (read_on facts name) (days_between served.first served.last)
    (within_days (λ (day : ℤ). read_on among name day ≡ read_on facts name day) served
    (λ day from to. read_among version declared period facts name day (omega (arith, ints, inside.0, from)) (omega (arith, ints, inside.1, to))))
amount_among version declared period facts service Batch name own serves =
    ap (λ (amounts : List Amount). Some (total_of amounts))
    (given_among (transferred (days_of period) name) (λ (fact : Fact). touches_in version declared fact period) facts (none_moved version declared period name))
amount_among version declared period facts service Plain name own serves = refl
amount_among version declared period facts service Tank name own serves =
    let touch = λ (fact : Fact). touches_in version declared fact period in
    let opening = day_of_opening service period.first in
    let closing = last_served service period.last in
    ap₂ (change_of (content_of (points_of_tank declared name)))
    (find_among (is_dip_on name opening) touch facts (dip_touches version declared period service name opening own serves (opens_before service period)))
    (find_among (is_dip_on name closing) touch facts (dip_touches version declared period service name closing own serves (ends_with service period)))

measured_among : (version : Version) (declared : List Declared) (period : Period) (facts : List Fact) (service : Option Service) (arc : Arc)
    → service_in version declared arc.name ≡ service → is_in_service_within service period.first period.last ≡ true
    → measured declared (touching (touches_in version declared) period facts) (days_of period) service arc ≡ measured declared facts (days_of period) service arc
measured_among version declared period facts service arc own serves =
    ap (option_map (measurement arc.base)) (amount_among version declared period facts service arc.kind arc.name own serves)

-- ---- the days of service of an arc are those that its name gives

-- the days of service that the first arc of this name has
abbrev service_named : List Arc → List ℕ → Option Service
service_named arcs name = option_and_then (λ (arc : Arc). arc.service) (find (λ (arc : Arc). same_name name arc.name) arcs)

abbrev HasOwnService : List Arc → Arc → Type 0
HasOwnService arcs arc = service_named arcs arc.name ≡ arc.service

swapped : (a b : List ℕ) → same_name a b ≡ false → same_name b a ≡ false
swapped a b apart = elim (cases_Bool (same_name b a)) [
  | inl same ↦ absurd (true≢false (sym ((bytes_decides a b).1 (sym ((bytes_decides b a).0 same))) ∙ apart))
  | inr other ↦ other
]

-- an arc of another name in front
put_before : (a : Arc) (whole arcs : List Arc) → AllByRecursion (λ name. same_name a.name name ≡ false) (map (λ (arc : Arc). arc.name) arcs) → AllByRecursion (HasOwnService whole) arcs
    → AllByRecursion (HasOwnService (a ∷ whole)) arcs
put_before a whole [] apart own = tt
put_before a whole (x ∷ arcs) (apart, others) (own, rest) =
    let differs : same_name x.name a.name ≡ false = swapped a.name x.name apart in
    (rw differs own, put_before a whole arcs others rest)

own_services : (arcs : List Arc) → AreDistinct (map (λ (arc : Arc). arc.name) arcs) → AllByRecursion (HasOwnService arcs) arcs
own_services [] distinct = tt
own_services (a ∷ arcs) distinct =
    let names = map (λ (arc : Arc). arc.name) arcs in
    let same : same_name a.name a.name ≡ true = (bytes_decides a.name a.name).1 refl in
    let apart : AllByRecursion (λ name. same_name a.name name ≡ false) names =
    heads (λ (one other : List ℕ). same_name one other ≡ false) (λ (name : List ℕ). same_name a.name name ≡ false) a.name names (λ name differs. differs)
    (λ k d lt. distinct 0 (suc k) d (omega arith) (omega (arith, lt))) in
    (rw same refl, put_before a arcs arcs apart (own_services arcs (pairs_tail (λ (one other : List ℕ). same_name one other ≡ false) a.name names distinct)))

-- what is the same for each item that passes
map_kept : {A B : Type 0} (p : A → Bool) (f g : A → B) (xs : List A) → AllByRecursion (λ x. p x ≡ true → f x ≡ g x) xs → map f (filter p xs) ≡ map g (filter p xs)
map_kept p f g [] same = refl
map_kept p f g (x ∷ xs) (here, rest) = elim (cases_Bool (p x)) [
  | inl passes ↦ rw passes (ap₂ (λ (y : _) (ys : List _). y ∷ ys) (here passes) (map_kept p f g xs rest))
  | inr fails ↦ rw fails (map_kept p f g xs rest)
]

all_by : {A : Type 0} (P Q : A → Type 0) (xs : List A) → ((x : A) → P x → Q x) → AllByRecursion P xs → AllByRecursion Q xs
all_by P Q [] each all = tt
all_by P Q (x ∷ xs) each (here, rest) = (each x here, all_by P Q xs each rest)

-- the graph of a period by what the facts that touch it say of each arc
pub same_graph : (version : Version) (declared : List Declared) (period : Period) (facts other : List Fact) → AreDistinct (arc_names declared)
    → ((service : Option Service) (arc : Arc) → measured declared (touching (touches_in version declared) period other) (days_of period) service arc
    ≡ measured declared (touching (touches_in version declared) period facts) (days_of period) service arc)
    → graph_by version declared other (days_of period) ≡ graph_by version declared facts (days_of period)
same_graph One declared period facts other distinct same =
    let touch = touches_in One declared in
    let among : (fs : List Fact) → measured declared (touching touch period fs) (days_of period) None ≡ measured declared fs (days_of period) None =
    λ fs i arc. measured_among One declared period fs None arc refl refl i in
    let alike : measured declared (touching touch period other) (days_of period) None ≡ measured declared (touching touch period facts) (days_of period) None = λ i arc. same None arc i in
    ap (λ (measure : Arc → Option Meas). let g : ProcessGraph = record { nodes = length (node_names declared); streams = map (stream_with measure) (arcs_of declared) } in g)
    (sym (among other) ∙ alike ∙ among facts)
same_graph Two declared period facts other distinct same =
    let touch = touches_in Two declared in
    let days = days_of period in
    let nodes = nodes_on Two declared days.first days.last in
    let stream : List Fact → Arc → Stream = λ fs. stream_among nodes (measured_in Two declared fs days) in
    let with_meas : Arc → Option Meas → Stream = λ arc m. record { from = place_among nodes arc.from; to = place_among nodes arc.to; meas = m } in
    let each : (fs : List Fact) → AllByRecursion (λ (arc : Arc). is_arc_in_service days.first days.last arc ≡ true → stream (touching touch period fs) arc ≡ stream fs arc) (arcs_of declared) =
    λ fs. all_by (HasOwnService (arcs_of declared)) (λ (arc : Arc). is_arc_in_service days.first days.last arc ≡ true → stream (touching touch period fs) arc ≡ stream fs arc) (arcs_of declared)
    (λ arc own serves. ap (with_meas arc) (measured_among Two declared period fs arc.service arc own serves)) (own_services (arcs_of declared) distinct) in
    let among : (fs : List Fact) → map (stream (touching touch period fs)) (arcs_on Two declared days.first days.last) ≡ map (stream fs) (arcs_on Two declared days.first days.last) =
    λ fs. map_kept (is_arc_in_service days.first days.last) (stream (touching touch period fs)) (stream fs) (arcs_of declared) (each fs) in
    let alike : stream (touching touch period other) ≡ stream (touching touch period facts) = λ i arc. with_meas arc (same arc.service arc i) in
    ap (λ (streams : List Stream). let g : ProcessGraph = record { nodes = length nodes; streams = streams } in g)
    (sym (among other) ∙ ap (λ (f : Arc → Stream). map f (arcs_on Two declared days.first days.last)) alike ∙ among facts)

-- ---- the facts of one id

-- a fact of this id doesn't touch the period
abbrev IsAway : (Fact → Period → Bool) → Period → List ℕ → KeptFact → Type 0
IsAway touch period id kept = has_id id kept ≡ true → touch kept.fact period ≡ false

-- if the fact of an id doesn't touch the period, no fact of that id does, as there is only one
all_away : (touch : Fact → Period → Bool) (period : Period) (id : List ℕ) (kept : List KeptFact) → NoRepeats kept → touches_by_id touch kept id period ≡ false
    → AllByRecursion (IsAway touch period id) kept
all_away touch period id [] apart none = tt
all_away touch period id (k ∷ kept) apart none = elim (cases_Bool (has_id id k)) [
  | inl own ↦
      let here : touch k.fact period ≡ false = rw own at none in
      (λ is. here, heads Apart (IsAway touch period id) k kept (λ other r. λ is. absurd (true≢false (sym (repeated k other own is) ∙ r))) (λ i d lt. apart 0 (suc i) d (omega arith) (omega (arith, lt))))
  | inr other ↦
      (λ is. absurd (true≢false (sym is ∙ other)), all_away touch period id kept (pairs_tail Apart k kept apart) (rw other at none))
]
  where
    Apart : KeptFact → KeptFact → Type 0
    Apart earlier later = is_repeat later.fact earlier ≡ false

    repeated : (a b : KeptFact) → has_id id a ≡ true → has_id id b ≡ true → is_repeat b.fact a ≡ true
    repeated a b one two =
        let a_is : id_of a.fact ≡ id = (bytes_decides (id_of a.fact) id).0 one in
        let b_is : id_of b.fact ≡ id = (bytes_decides (id_of b.fact) id).0 two in
        let same : has_id (id_of b.fact) a ≡ true = (bytes_decides (id_of a.fact) (id_of b.fact)).1 (a_is ∙ sym b_is) in
        rw same refl

-- ---- one more row

-- the facts that pass, after an optional fact
abbrev put : (Fact → Period → Bool) → Period → Option Fact → List Fact → List Fact
put touch period None facts = facts
put touch period (Some fact) facts = cond (touch fact period) (fact ∷ facts) facts

put_is : (touch : Fact → Period → Bool) (period : Period) (o : Option Fact) (facts : List Fact) → touching touch period (cons_option o facts) ≡ put touch period o (touching touch period facts)
put_is touch period None facts = refl
put_is touch period (Some fact) facts = refl

touching_front : (touch : Fact → Period → Bool) (period : Period) (k : KeptFact) (kept : List KeptFact)
    → touching touch period (live_facts (k ∷ kept)) ≡ put touch period (live_fact k) (touching touch period (live_facts kept))
touching_front touch period k kept = put_is touch period (live_fact k) (live_facts kept)

-- a fact that doesn't touch the period might as well be missing
put_away : (touch : Fact → Period → Bool) (period : Period) (k : KeptFact) (facts : List Fact) → touch k.fact period ≡ false → put touch period (live_fact k) facts ≡ facts
put_away touch period k facts away = elim (cases_Bool k.struck) [ inl gone ↦ rw gone refl | inr stands ↦ rw (stands, away) refl ]

-- a fact keeps its id, its name and its days, whatever its values
same_id : (change : Change) (fact : Fact) → id_of (changed change fact) ≡ id_of fact
same_id (Change.Amount grams variance) (Reading id stream day old_grams old_variance) = refl
same_id (Change.Amount grams variance) (Transfer id stream first last old_grams old_variance) = refl
same_id (Change.Amount grams variance) (Dip id tank day mm density old_variance) = refl
same_id (Level mm density variance) (Reading id stream day grams old_variance) = refl
same_id (Level mm density variance) (Transfer id stream first last grams old_variance) = refl
same_id (Level mm density variance) (Dip id tank day old_mm old_density old_variance) = refl

-- whether a fact touches a period doesn't depend on its values
abbrev IsSteady : (Fact → Period → Bool) → Type 0
IsSteady touch = (change : Change) (fact : Fact) (period : Period) → touch (changed change fact) period ≡ touch fact period

same_touch : (version : Version) (declared : List Declared) → IsSteady (touches_in version declared)
same_touch version declared (Change.Amount grams variance) (Reading id stream day old_grams old_variance) period = refl
same_touch version declared (Change.Amount grams variance) (Transfer id stream first last old_grams old_variance) period = refl
same_touch version declared (Change.Amount grams variance) (Dip id tank day mm density old_variance) period = refl
same_touch version declared (Level mm density variance) (Reading id stream day grams old_variance) period = refl
same_touch version declared (Level mm density variance) (Transfer id stream first last grams old_variance) period = refl
same_touch version declared (Level mm density variance) (Dip id tank day old_mm old_density old_variance) period = refl

-- one kept fact, amended or struck
abbrev amended_one : List ℕ → Change → KeptFact → KeptFact
amended_one id change k = if is_live_with id k then (let a : KeptFact = record { fact = changed change k.fact; struck = false } in a) else k

abbrev struck_one : List ℕ → KeptFact → KeptFact
struck_one id k = if has_id id k then (let a : KeptFact = record { fact = k.fact; struck = true } in a) else k

amended_put : (touch : Fact → Period → Bool) → IsSteady touch → (period : Period) (id : List ℕ) (change : Change) (k : KeptFact) (facts : List Fact)
    → IsAway touch period id (amended_one id change k) → put touch period (live_fact (amended_one id change k)) facts ≡ put touch period (live_fact k) facts
amended_put touch steady period id change k facts away = elim (cases_Bool (is_live_with id k)) [
  | inl own ↦
      let id_is : has_id id k ≡ true = (and_parts _ _ own).1 in
      let away_now : has_id id (let a : KeptFact = record { fact = changed change k.fact; struck = false } in a) ≡ true → touch (changed change k.fact) period ≡ false = rw own at away in
      let gone : touch (changed change k.fact) period ≡ false = away_now (ap (λ (name : List ℕ). same_name name id) (same_id change k.fact) ∙ id_is) in
      rw (own, gone) (sym (put_away touch period k facts (sym (steady change k.fact period) ∙ gone)))
  | inr other ↦ rw other refl
]

amended_same : (touch : Fact → Period → Bool) → IsSteady touch → (period : Period) (id : List ℕ) (change : Change) (kept : List KeptFact)
    → AllByRecursion (IsAway touch period id) (amended id change kept) → touching touch period (live_facts (amended id change kept)) ≡ touching touch period (live_facts kept)
amended_same touch steady period id change [] away = refl
amended_same touch steady period id change (k ∷ kept) (here, away) =
    touching_front touch period (amended_one id change k) (amended id change kept)
    ∙ ap (put touch period (live_fact (amended_one id change k))) (amended_same touch steady period id change kept away)
    ∙ amended_put touch steady period id change k (touching touch period (live_facts kept)) here
    ∙ sym (touching_front touch period k kept)

struck_put : (touch : Fact → Period → Bool) (period : Period) (id : List ℕ) (k : KeptFact) (facts : List Fact) → IsAway touch period id (struck_one id k)
    → put touch period (live_fact (struck_one id k)) facts ≡ put touch period (live_fact k) facts
struck_put touch period id k facts away = elim (cases_Bool (has_id id k)) [
  | inl own ↦
      let away_now : has_id id k ≡ true → touch k.fact period ≡ false = rw own at away in
      rw own (sym (put_away touch period k facts (away_now own)))
  | inr other ↦ rw other refl
]

struck_same : (touch : Fact → Period → Bool) (period : Period) (id : List ℕ) (kept : List KeptFact) → AllByRecursion (IsAway touch period id) (struck id kept)
    → touching touch period (live_facts (struck id kept)) ≡ touching touch period (live_facts kept)
struck_same touch period id [] away = refl
struck_same touch period id (k ∷ kept) (here, away) =
    touching_front touch period (struck_one id k) (struck id kept)
    ∙ ap (put touch period (live_fact (struck_one id k))) (struck_same touch period id kept away)
    ∙ struck_put touch period id k (touching touch period (live_facts kept)) here
    ∙ sym (touching_front touch period k kept)

added_same : (touch : Fact → Period → Bool) (period : Period) (fact : Fact) (kept : List KeptFact) → touch fact period ≡ false
    → touching touch period (live_facts (kept ++ live fact ∷ [])) ≡ touching touch period (live_facts kept)
added_same touch period fact kept away =
    ap (touching touch period) (filter_map-append live_fact kept (live fact ∷ []))
    ∙ filter-append (λ (f : Fact). touch f period) (live_facts kept) (fact ∷ [])
    ∙ ap (λ (b : Bool). touching touch period (live_facts kept) ++ cond b (fact ∷ []) []) away
    ∙ append-nil (touching touch period (live_facts kept))

touching_same : (touch : Fact → Period → Bool) → IsSteady touch → (period : Period) (kept : List KeptFact) (effect : Effect) → NoRepeats (facts_after kept effect)
    → takes_out touch (facts_after kept effect) effect period ≡ false → touching touch period (live_facts (facts_after kept effect)) ≡ touching touch period (live_facts kept)
touching_same touch steady period kept (Declares declared) apart spared = cc spared
touching_same touch steady period kept (Opens name first last) apart spared = refl
touching_same touch steady period kept (Books fact late) apart spared = added_same touch period fact kept spared
touching_same touch steady period kept (Edits id (edits.Change change) reason) apart spared =
    amended_same touch steady period id change kept (all_away touch period id (amended id change kept) apart spared)
touching_same touch steady period kept (Edits id edits.Strike reason) apart spared = struck_same touch period id kept (all_away touch period id (struck id kept) apart spared)
touching_same touch steady period kept (Closes name) apart spared = refl
touching_same touch steady period kept (Assays assay) apart spared = refl

declared_same : (touch : Fact → Period → Bool) (period : Period) (kept : List KeptFact) (effect : Effect) → takes_out touch kept effect period ≡ false → declaration_in effect ≡ None
declared_same touch period kept (Declares declared) spared = cc spared
declared_same touch period kept (Opens name first last) spared = refl
declared_same touch period kept (Books fact late) spared = refl
declared_same touch period kept (Edits id how reason) spared = refl
declared_same touch period kept (Closes name) spared = refl
declared_same touch period kept (Assays assay) spared = refl

-- a row that doesn't touch a period changes neither what is declared nor its graph
pub leaves : (rows : List StoredRow) (stored : StoredRow) (period : Period) → AreDistinct (arc_names (declared_of (rows ++ stored ∷ []))) → NoRepeats (facts_of (rows ++ stored ∷ []))
    → takes_out (touching_of (rows ++ stored ∷ [])) (facts_of (rows ++ stored ∷ [])) stored.effect period ≡ false
    → LeavesDays rows (rows ++ stored ∷ []) (days_of period)
leaves rows stored period distinct apart spared =
    let new = rows ++ stored ∷ [] in
    let touch = touching_of new in
    let days = days_of period in
    let facts : facts_of new ≡ facts_after (facts_of rows) stored.effect = fold_push (λ (kept : List KeptFact) (s : StoredRow). facts_after kept s.effect) [] rows stored in
    let apart_now = subst NoRepeats facts apart in
    let spared_now = subst (λ (kept : List KeptFact). takes_out touch kept stored.effect period ≡ false) facts spared in
    let none : declared_of (stored ∷ []) ≡ [] = ap (λ (o : Option Declared). cons_option o []) (declared_same touch period (facts_after (facts_of rows) stored.effect) stored.effect spared_now) in
    let declared : declared_of new ≡ declared_of rows =
    filter_map-append (λ (s : StoredRow). declaration_in s.effect) rows (stored ∷ []) ∙ ap (λ (ds : List Declared). declared_of rows ++ ds) none ∙ append-nil (declared_of rows) in
    let same = touching_same touch (same_touch (version_of (declared_of new)) (declared_of new)) period (facts_of rows) stored.effect apart_now spared_now in
    let graph : graph_by (version_of (declared_of new)) (declared_of new) (live_facts (facts_after (facts_of rows) stored.effect)) days
    ≡ graph_by (version_of (declared_of new)) (declared_of new) (live_facts (facts_of rows)) days =
    same_graph (version_of (declared_of new)) (declared_of new) period (live_facts (facts_of rows)) (live_facts (facts_after (facts_of rows) stored.effect)) distinct
    (λ service arc. ap (λ (fs : List Fact). measured (declared_of new) fs days service arc) same) in
    let whole : period_graph new days ≡ period_graph rows days =
    graph_is (version_of (declared_of new)) new days
    ∙ ap (λ (kept : List KeptFact). graph_by (version_of (declared_of new)) (declared_of new) (live_facts kept) days) facts
    ∙ graph
    ∙ ap (λ (ds : List Declared). graph_by (version_of ds) ds (live_facts (facts_of rows)) days) declared
    ∙ sym (graph_is (version_of (declared_of rows)) rows days) in
    record { declared = declared; graph = ap within_limits whole }
