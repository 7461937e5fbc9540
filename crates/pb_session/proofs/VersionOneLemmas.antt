-- A session of version 1 writes what it wrote before version 2 existed.
use Rattle.std.proofs.Common.{◌≡◌, ◌∙◌, ◌+◌, ℕ, Bool, true, false, List, [], ◌∷◌, ◌++◌, length, map, Option, Some, None, Result, slice_get, refl, sym, ap, subst, append_assoc}
use Rattle.std.specs.Prelude.{◌-◌, ◌↔◌, filter, filter_map, option_map}
use Rattle.std.specs.List.{cons_option}
use Rattle.std.proofs.Math.Bool.{and-false}
use Rattle.std.proofs.Math.Path.{fun_ext}
use Rattle.std.proofs.lemmas.Bool.{or_parts}
use Rattle.std.proofs.lemmas.List.Elements.{filter_map-append}
use Rattle.pb_graph.specs.declared.records.Meas.{Meas}
use Rattle.pb_graph.specs.ProcessGraph.{ProcessGraph}
use Rattle.pb_rows.specs.declared.name.Names.{Names}
use Rattle.pb_facts.specs.declared.grade.Grade.{Grade}
use Rattle.pb_plan.specs.declared.plant.Plant.{Plant}
use Rattle.pb_site.specs.declared.declared.Arc.{Arc}
use Rattle.pb_site.specs.declared.declared.ArcKind.{ArcKind}
use Rattle.pb_site.specs.declared.declared.ArcKind.TheVariants.{Metered, Batch, Plain}
use Rattle.pb_site.specs.declared.declared.Declared.{Declared}
use Rattle.pb_site.specs.declared.declared.Declared.TheVariants.{Version2, Boundary, Tank, Stream}
use Rattle.pb_site.specs.declared.declared.Version.{Version}
use Rattle.pb_site.specs.declared.declared.Version.TheVariants.{One}
use Rattle.pb_site.specs.OnDays.{names_on}
use Rattle.pb_site.specs.Row.{arc_in}
use Rattle.pb_site.specs.Site.{arcs_of, boundary_names, names_of, node_names, version_of, service_in}
use Rattle.pb_facts.specs.declared.fact.Fact.{Fact}
use Rattle.pb_facts.specs.declared.fact.Fact.TheVariants.{Reading, Transfer, Dip}
use Rattle.pb_facts.specs.Facts.{live_facts}
use Rattle.pb_kinds.specs.declared.costs.NamedCost.{NamedCost}
use Rattle.pb_kinds.specs.declared.rows.Effect.{Effect}
use Rattle.pb_kinds.specs.declared.rows.Effect.TheVariants.{Declares}
use Rattle.pb_kinds.specs.Costs.{named_costs}
use Rattle.pb_kinds.specs.Versions.{may_declare, may_do}
use Rattle.pb_book.specs.declared.answer.Accepted.TheVariants as answered
use Rattle.pb_periods.specs.declared.period.Period.{Period}
use Rattle.pb_kinds.specs.declared.rows.StoredRow.{StoredRow}
use Rattle.pb_book.specs.Accepted.{AreAccepted}
use Rattle.pb_book.specs.Answer.{Answer, Refuses, Says, Stores, after_answer, answer_of}
use Rattle.pb_book.specs.Assays.{grade_of}
use Rattle.pb_book.specs.Edits.{edit_touches, edits_of, history_of}
use Rattle.pb_book.specs.Refusals.{is_out_of_service}
use Rattle.pb_book.specs.Rows.{declaration_in, declared_of, facts_of, periods_of, version_at}
use Rattle.pb_book.specs.TakenOut.{touching_of}
use Rattle.pb_periods.specs.Touching.{touches_in}
use Rattle.pb_book.specs.VersionOne.{VersionOneLaw, first_answer_of, says_version}
use Rattle.pb_periods.specs.Windows.{keeps_idle_nodes, window_arc, window_plant}
use Rattle.pb_period.specs.declared.days.Days.{Days}
use Rattle.pb_period.specs.declared.graph.Assembly.{Assembly}
use Rattle.pb_period.specs.Grades.{grades_of}
use Rattle.pb_period.specs.Days.{days_of}
use Rattle.pb_period.specs.Measurement.{amount_of, measured, measurement}
use Rattle.pb_period.specs.PeriodGraph.{assembly_of, graph_in, graph_with, period_names, within_limits, measured_in}
use Rattle.pb_period.specs.WindowGraph.{flow_measured}
use Rattle.pb_report.specs.Component.{component_row}
use Rattle.pb_report.specs.Form.{text_in}
use Rattle.pb_report.specs.History.{history_rows}
use Rattle.pb_report.specs.Row.{OutputRow}
use Rattle.pb_session.proofs.EditedLemmas.{seam}
use Rattle.pb_session.specs.Session.{AddsBy, Balances, BalancesIn, IsHistoryText, Reports, ReportsBy, SessionState, state_after}
use Rattle.pb_session.specs.VersionOne.{FirstAddsBy, FirstBalances, FirstPlantLaw, FirstRefusalLaw, FirstReports, FirstSessionTextLaw, FirstTells, FirstTextLaw, FirstWindowLaw, IsFirstText, accepts_version_2, first_amount, first_assembly, first_grades, first_graph, first_history, first_measured, first_state_after, first_touches, first_window_arc, first_window_plant}
use Rattle.pb_facts.specs.Fact.{named_by}

-- ---- the graph of a period

amount_one : (declared : List Declared) (facts : List Fact) (days : Days) (kind : ArcKind) (name : List ℕ)
    → amount_of declared facts days None kind name ≡ first_amount declared facts days kind name
amount_one declared facts days Metered name = refl
amount_one declared facts days Batch name = refl
amount_one declared facts days Plain name = refl
amount_one declared facts days ArcKind.Tank name = refl

measured_one : (rows : List StoredRow) (days : Days) (arc : Arc) → measured (declared_of rows) (live_facts (facts_of rows)) days None arc ≡ first_measured rows days arc
measured_one rows days arc = ap (option_map (measurement arc.base)) (amount_one (declared_of rows) (live_facts (facts_of rows)) days arc.kind arc.name)

graph_one : (rows : List StoredRow) (days : Days) → graph_in One rows days ≡ first_graph rows days
graph_one rows days = ap (λ (measure : Arc → Option Meas). graph_with measure rows) (fun_ext (measured_one rows days))

assembly_one : (rows : List StoredRow) (days : Days) → version_of (declared_of rows) ≡ One → assembly_of rows days ≡ first_assembly rows days
assembly_one rows days one = ap (λ (version : Version). within_limits (graph_in version rows days)) one ∙ ap within_limits (graph_one rows days)

names_one : (rows : List StoredRow) (days : Days) → version_of (declared_of rows) ≡ One → period_names rows days ≡ names_of (declared_of rows)
names_one rows days one = ap (λ (version : Version). names_on version (declared_of rows) days.first days.last) one

-- ---- what the version decides about refusals

touches_one : (declared : List Declared) (fact : Fact) (period : Period) → touches_in One declared fact period ≡ first_touches fact period
touches_one declared (Reading id stream day grams variance) period = refl
touches_one declared (Transfer id stream first last grams variance) period = refl
touches_one declared (Dip id tank day mm density variance) period = refl

served_one : (declared : List Declared) (fact : Fact) → is_out_of_service (service_in One declared (named_by fact)) fact ≡ false
served_one declared (Reading id stream day grams variance) = refl
served_one declared (Transfer id stream first last grams variance) = refl
served_one declared (Dip id tank day mm density variance) = refl

pub first_refusals : FirstRefusalLaw
first_refusals = record {
  sealed = λ periods declared. refl;
  touching = touches_one;
  served = served_one;
  assayed = λ declared stream name period. and-false _;
  most = refl;
}

-- ---- the history of a period

touching_one : (rows : List StoredRow) → version_of (declared_of rows) ≡ One → touching_of rows ≡ first_touches
touching_one rows one =
    let fixed : touching_of rows ≡ touches_in One (declared_of rows) = ap (λ (version : Version). touches_in version (declared_of rows)) one in
    fixed ∙ fun_ext (λ (fact : Fact). fun_ext (touches_one (declared_of rows) fact))

history_one : (rows : List StoredRow) (period : Period) → version_of (declared_of rows) ≡ One → history_of rows period ≡ first_history rows period
history_one rows period one =
    ap (λ (touching : Fact → Period → Bool). filter (λ (stored : StoredRow). edit_touches touching (facts_of rows) stored.effect period) (edits_of rows)) (touching_one rows one)

tells_one : (state : SessionState) (found : Option Period) (text : List ℕ) → version_of (declared_of state.rows) ≡ One → IsHistoryText state found text ↔ FirstTells state found text
tells_one state None text one = (λ is. is, λ is. is)
tells_one state (Some period) text one =
    let same = ap (λ (edits : List StoredRow). text_in state.form (history_rows period.name period.closed edits)) (history_one state.rows period one) in
    (λ is. is ∙ same, λ is. is ∙ sym same)

-- ---- the report of a period

reports_by_one : (state : SessionState) (before : List OutputRow) (period : Period) (assembly : Result ProcessGraph Assembly) (text : List ℕ) → version_of (declared_of state.rows) ≡ One
    → ReportsBy state before (period_names state.rows (days_of period)) period.name assembly text ↔ ReportsBy state before (names_of (declared_of state.rows)) period.name assembly text
reports_by_one state before period assembly text one =
    let names = names_one state.rows (days_of period) one in (
      λ is. subst (λ (ns : Names). ReportsBy state before ns period.name assembly text) names is,
      λ is. subst (λ (ns : Names). ReportsBy state before ns period.name assembly text) (sym names) is,
    )

reports_one : (state : SessionState) (found : Option Period) (text : List ℕ) → version_of (declared_of state.rows) ≡ One → Reports state found text ↔ FirstReports state found text
reports_one state None text one = (λ is. is, λ is. is)
reports_one state (Some period) text one =
    let same = assembly_one state.rows (days_of period) one in (
      λ is. (reports_by_one state [] period (first_assembly state.rows (days_of period)) text one).0
          (subst (λ (assembly : Result ProcessGraph Assembly). ReportsBy state [] (period_names state.rows (days_of period)) period.name assembly text) same is),
      λ is. subst (λ (assembly : Result ProcessGraph Assembly). ReportsBy state [] (period_names state.rows (days_of period)) period.name assembly text) (sym same)
          ((reports_by_one state [] period (first_assembly state.rows (days_of period)) text one).1 is),
    )

-- ---- the balance of a component

balances_in_one : (state : SessionState) (component : List ℕ) (period : Period) (assembly answer : Result ProcessGraph Assembly) → version_of (declared_of state.rows) ≡ One
    → BalancesIn state (grades_of state.rows component period) assembly answer ↔ BalancesIn state (first_grades state.rows component period) assembly answer
balances_in_one state component period assembly answer one =
    let grades = ap (λ (names : Names). map (grade_of state.rows component period.name) names.streams) (names_one state.rows (days_of period) one) in (
      λ is. subst (λ (gs : List (Option Grade)). BalancesIn state gs assembly answer) grades is,
      λ is. subst (λ (gs : List (Option Grade)). BalancesIn state gs assembly answer) (sym grades) is,
    )

balances_one : (state : SessionState) (component : List ℕ) (found : Option Period) (text : List ℕ) → version_of (declared_of state.rows) ≡ One
    → Balances state component found text ↔ FirstBalances state component found text
balances_one state component None text one = (λ is. is, λ is. is)
balances_one state component (Some period) text one =
    let same = assembly_one state.rows (days_of period) one in (
      λ (answer, of, by). (
        answer,
        (balances_in_one state component period (first_assembly state.rows (days_of period)) answer one).0
            (subst (λ (assembly : Result ProcessGraph Assembly). BalancesIn state (grades_of state.rows component period) assembly answer) same of),
        (reports_by_one state (component_row component period.name ∷ []) period answer text one).0 by,
      ),
      λ (answer, of, by). (
        answer,
        subst (λ (assembly : Result ProcessGraph Assembly). BalancesIn state (grades_of state.rows component period) assembly answer) (sym same)
            ((balances_in_one state component period (first_assembly state.rows (days_of period)) answer one).1 of),
        (reports_by_one state (component_row component period.name ∷ []) period answer text one).1 by,
      ),
    )

-- ---- a record

adds_one : (state : SessionState) (at : ℕ) (costs : List NamedCost) (answer : Answer) (text : List ℕ) → version_of (declared_of state.rows) ≡ One
    → AddsBy state at costs answer text ↔ FirstAddsBy state at costs answer text
adds_one state at costs (Says (answered.Report i)) text one = reports_one state (slice_get (periods_of state.rows) i) text one
adds_one state at costs (Says (answered.History i)) text one = tells_one state (slice_get (periods_of state.rows) i) text one
adds_one state at costs (Says (answered.Component component i)) text one = balances_one state component (slice_get (periods_of state.rows) i) text one
adds_one state at costs answer text one = (λ is. is, λ is. is)

pub first_text : VersionOneLaw → FirstTextLaw
first_text law state at fields text one unsaid =
    let same : answer_of state.rows fields ≡ first_answer_of state.rows fields = law state.rows fields one unsaid in
    let adds = adds_one state at (named_costs fields) (first_answer_of state.rows fields) text one in (
      λ is. adds.0 (subst (λ (answer : Answer). AddsBy state at (named_costs fields) answer text) same is),
      λ is. subst (λ (answer : Answer). AddsBy state at (named_costs fields) answer text) (sym same) (adds.1 is),
    )

-- ---- a session

-- what is declared is of version 1 whatever else is declared, and was so before
still_one : (row : Declared) (declared more : List Declared) → version_of (row ∷ declared) ≡ One → version_of (row ∷ (declared ++ more)) ≡ One
still_one Version2 declared more one = one
still_one row declared more one = refl

front_one : (declared more : List Declared) → version_of (declared ++ more) ≡ One → version_of declared ≡ One
front_one [] more one = refl
front_one (Version2 ∷ declared) more one = one
front_one (row ∷ declared) more one = refl

-- a session of version 1 stays one unless a row states version 2
declared_one : (effect : Effect) → says_version (Stores effect) ≡ false → version_of (cons_option (declaration_in effect) []) ≡ One
declared_one (Declares Version2) unsaid = cc unsaid
declared_one effect unsaid = refl

more_one : (declared : List Declared) (effect : Effect) → version_of declared ≡ One → says_version (Stores effect) ≡ false
    → version_of (declared ++ cons_option (declaration_in effect) []) ≡ One
more_one [] effect one unsaid = declared_one effect unsaid
more_one (row ∷ declared) effect one unsaid = still_one row declared (cons_option (declaration_in effect) []) one

after_one : (rows : List StoredRow) (at : ℕ) (answer : Answer) → version_of (declared_of rows) ≡ One → says_version answer ≡ false
    → version_of (declared_of (after_answer rows at answer)) ≡ One
after_one rows at (Refuses cause) one unsaid = one
after_one rows at (Says accepted) one unsaid = one
after_one rows at (Stores effect) one unsaid =
    let stored : StoredRow = record { at = at; effect = effect } in
    ap version_of (filter_map-append (λ (row : StoredRow). declaration_in row.effect) rows (stored ∷ [])) ∙ more_one (declared_of rows) effect one unsaid

pub first_session_text : VersionOneLaw → FirstSessionTextLaw
first_session_text law state at [] text one unsaid = (λ is. is, λ is. is)
first_session_text law state at (fields ∷ records) text one unsaid =
    let parts = or_parts (says_version (answer_of state.rows fields)) (accepts_version_2 (state_after state at fields) (at + 1) records) unsaid in
    let next = after_one state.rows at (answer_of state.rows fields) one parts.0 in
    let same : state_after state at fields ≡ first_state_after state at fields =
    ap (λ (answer : Answer). let s : SessionState = record { options = state.options; form = state.form; rows = after_answer state.rows at answer } in s) (law state.rows fields one parts.0) in (
      λ (first, rest, adds, texts, whole). (
        first,
        rest,
        (first_text law state at fields first one parts.0).0 adds,
        subst (λ (s : SessionState). IsFirstText s (at + 1) records rest) same ((first_session_text law (state_after state at fields) (at + 1) records rest next parts.1).0 texts),
        whole,
      ),
      λ (first, rest, adds, texts, whole). (
        first,
        rest,
        (first_text law state at fields first one parts.0).1 adds,
        (first_session_text law (state_after state at fields) (at + 1) records rest next parts.1).1 (subst (λ (s : SessionState). IsFirstText s (at + 1) records rest) (sym same) texts),
        whole,
      ),
    )

-- ---- the plant

-- each of these may be declared in version 1
abbrev AreFirst : List Declared → Type 0
AreFirst [] = Unit {0}
AreFirst (row ∷ declared) = (may_declare (Some One) row ≡ true) × AreFirst declared

first_may : (row : Declared) → version_of (row ∷ []) ≡ One → may_declare None row ≡ true → may_declare (Some One) row ≡ true
first_may Version2 one may = cc one
first_may row one may = may

-- a row that was accepted after others may be one of version 1, if the session is of that version
may_one : (done : List StoredRow) (effect : Effect) → version_of (declared_of done ++ cons_option (declaration_in effect) []) ≡ One → may_do (version_at done) effect ≡ true → may_do (Some One) effect ≡ true
may_one [] (Declares row) one may = first_may row one may
may_one [] effect one may = refl
may_one (stored ∷ done) effect one may =
    subst (λ (version : Version). may_do (Some version) effect ≡ true) (front_one (declared_of (stored ∷ done)) (cons_option (declaration_in effect) []) one) may

joined_first : (effect : Effect) (declared : List Declared) → may_do (Some One) effect ≡ true → AreFirst declared → AreFirst (cons_option (declaration_in effect) declared)
joined_first (Declares row) declared may rest = (may, rest)
joined_first effect declared may rest = rest

each_first : (done more : List StoredRow) → AreAccepted (done ++ more) → version_of (declared_of (done ++ more)) ≡ One → AreFirst (declared_of more)
each_first done [] accepted one = tt
each_first done (stored ∷ more) accepted one =
    let declares : StoredRow → Option Declared = λ (row : StoredRow). declaration_in row.effect in
    let next = done ++ stored ∷ [] in
    let moved : next ++ more ≡ done ++ stored ∷ more = append_assoc done (stored ∷ []) more in
    let whole : version_of (declared_of next ++ declared_of more) ≡ One =
    ap version_of (sym (filter_map-append declares next more)) ∙ ap (λ (rows : List StoredRow). version_of (declared_of rows)) moved ∙ one in
    let here : version_of (declared_of done ++ cons_option (declaration_in stored.effect) []) ≡ One =
    ap version_of (sym (filter_map-append declares done (stored ∷ []))) ∙ front_one (declared_of next) (declared_of more) whole in
    let may = may_one done stored.effect here (seam done more stored accepted).may in
    joined_first stored.effect (declared_of more) may
    (each_first next more (subst AreAccepted (sym moved) accepted) (ap (λ (rows : List StoredRow). version_of (declared_of rows)) moved ∙ one))

no_boundaries : (declared : List Declared) → AreFirst declared → boundary_names declared ≡ []
no_boundaries [] are = refl
no_boundaries (Boundary name ∷ declared) (may, rest) = cc may
no_boundaries (row ∷ declared) (may, rest) = no_boundaries declared rest

no_services : (boundaries nodes : List (List ℕ)) (declared : List Declared) → AreFirst declared
    → filter_map (λ (arc : Arc). arc.service) (filter_map (arc_in boundaries nodes) declared) ≡ []
no_services boundaries nodes [] are = refl
no_services boundaries nodes (Tank name base (Some service) ∷ declared) (may, rest) = cc may
no_services boundaries nodes (Stream name from to kind base (Some service) ∷ declared) (may, rest) = cc may
no_services boundaries nodes (row ∷ declared) (may, rest) = no_services boundaries nodes declared rest

pub first_plant : FirstPlantLaw
first_plant rows accepted one =
    let are = each_first [] rows accepted one in
    record {
      boundaries = no_boundaries (declared_of rows) are;
      services = no_services (boundary_names (declared_of rows)) (node_names (declared_of rows)) (declared_of rows) are;
    }

-- ---- windows

window_arc_one : (arc : Arc) → window_arc One arc ≡ first_window_arc arc
window_arc_one arc = refl

plant_one : (declared : List Declared) → version_of declared ≡ One → window_plant declared ≡ first_window_plant declared
unfolding window_plant
plant_one declared one =
    let plant : Version → Plant = λ (version : Version). record {
      nodes = length (node_names declared) - 1;
      arcs = map (window_arc version) (arcs_of declared);
      keeps_idle = keeps_idle_nodes version;
    } in
    ap plant one

flows_one : (rows : List StoredRow) (arc : Arc) (period : Period) → version_of (declared_of rows) ≡ One → flow_measured rows arc period ≡ first_measured rows (days_of period) arc
flows_one rows arc period one =
    ap (λ (version : Version). measured_in version (declared_of rows) (live_facts (facts_of rows)) (days_of period) arc) one ∙ measured_one rows (days_of period) arc

pub first_windows : FirstWindowLaw
first_windows rows one = record { plant = plant_one (declared_of rows) one; flows = λ arc period. flows_one rows arc period one }
