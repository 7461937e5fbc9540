-- Statement. What a session writes as long as no row states version 2: what it wrote before version 2 existed.
use Rattle.std.specs.Prelude.{◌≡◌, ◌↔◌, ℕ, ◌+◌, ◌-◌, pos, ◌-ℤ◌, Bool, true, false, ◌&&◌, ◌||◌, List, [], ◌∷◌, ◌++◌, filter, filter_map, find, length, map, slice_get, Option, Some, None, option_map, Result}
use Rattle.std.specs.Ordering.{int_eq}
use Rattle.pb_graph.specs.declared.records.Meas.{Meas}
use Rattle.pb_graph.specs.ProcessGraph.{ProcessGraph}
use Rattle.pb_plan.specs.declared.plant.Plant.{Plant}
use Rattle.pb_plan.specs.declared.plant.PlantArc.{PlantArc}
use Rattle.pb_site.specs.declared.declared.Arc.{Arc}
use Rattle.pb_site.specs.declared.declared.ArcKind.{ArcKind}
use Rattle.pb_site.specs.declared.declared.ArcKind.TheVariants.{Metered, Batch, Plain, Tank}
use Rattle.pb_site.specs.declared.declared.Declared.{Declared}
use Rattle.pb_site.specs.declared.declared.Version.TheVariants.{One}
use Rattle.pb_site.specs.Faults.{most_arcs}
use Rattle.pb_site.specs.Site.{arc_names, arcs_of, boundary_names, names_of, node_names, points_of_tank, service_in, version_of}
use Rattle.pb_facts.specs.declared.fact.Fact.{Fact}
use Rattle.pb_facts.specs.declared.grade.Grade.{Grade}
use Rattle.pb_facts.specs.declared.fact.Fact.TheVariants.{Reading, Transfer, Dip}
use Rattle.pb_facts.specs.Fact.{is_dip_on, named_by}
use Rattle.pb_facts.specs.Facts.{live_facts}
use Rattle.pb_kinds.specs.declared.costs.NamedCost.{NamedCost}
use Rattle.pb_kinds.specs.Costs.{named_costs}
use Rattle.pb_book.specs.declared.answer.Accepted.{Accepted}
use Rattle.pb_book.specs.declared.answer.Accepted.TheVariants as answered
use Rattle.pb_periods.specs.declared.period.Period.{Period}
use Rattle.pb_kinds.specs.declared.rows.StoredRow.{StoredRow}
use Rattle.pb_book.specs.Accepted.{AreAccepted}
use Rattle.pb_book.specs.Answer.{Answer, Refuses, Says, Stores, after_answer, answer_of, cause_code}
use Rattle.pb_periods.specs.Apart.{shares_a_day}
use Rattle.pb_book.specs.Assays.{grade_of}
use Rattle.pb_book.specs.Costs.{meter_costs}
use Rattle.pb_book.specs.Edits.{edit_touches, edits_of}
use Rattle.pb_book.specs.Refusals.{is_of_plant, is_out_of_service, is_sealed_by}
use Rattle.pb_periods.specs.Closing.{is_unserved_in}
use Rattle.pb_book.specs.Rows.{declared_of, facts_of, periods_of}
use Rattle.pb_periods.specs.Touching.{some_closed, touches_in}
use Rattle.pb_book.specs.VersionOne.{first_answer_of, says_version}
use Rattle.pb_periods.specs.Windows.{window_plant, days_between}
use Rattle.pb_period.specs.declared.amount.Amount.{Amount}
use Rattle.pb_period.specs.declared.days.Days.{Days}
use Rattle.pb_period.specs.declared.graph.Assembly.{Assembly}
use Rattle.pb_period.specs.Days.{days_of}
use Rattle.pb_period.specs.Facts.{content_of, read_on, total_of, transferred}
use Rattle.pb_period.specs.Measurement.{change_of, measurement, read_total}
use Rattle.pb_period.specs.PeriodGraph.{design_graph, graph_with, within_limits}
use Rattle.pb_period.specs.WindowGraph.{flow_measured}
use Rattle.pb_report.specs.Component.{component_row}
use Rattle.pb_report.specs.History.{history_rows}
use Rattle.pb_report.specs.Refusal.{refused_row}
use Rattle.pb_session.specs.Session.{Adds, BalancesIn, IsAdviceText, IsDesign, IsSessionText, IsTextOf, ReportsBy, SessionState, Windows, state_after}
use Rattle.pb_site.specs.Row.{is_inventory}

-- ---- the graph of a period

-- What live facts say about an arc on some days. For a metered stream: the total of its readings, if each day has one. For a batch
-- stream: what its transfers moved. For a plain stream: nothing. For a tank: its content at the end of the last day less that at
-- the end of the day before the first, if both days have a dip.
abbrev pub first_amount : List Declared → List Fact → Days → ArcKind → List ℕ → Option Amount
first_amount declared facts days Metered stream = read_total (read_on facts stream) (days_between days.first days.last)
first_amount declared facts days Batch stream = Some (total_of (filter_map (transferred days stream) facts))
first_amount declared facts days Plain stream = None
first_amount declared facts days Tank tank =
    change_of (content_of (points_of_tank declared tank)) (find (is_dip_on tank (days.first -ℤ pos 1)) facts)
    (find (is_dip_on tank days.last) facts)

-- what is measured of an arc on some days: the grams, and the sum of the base variance and that of the grams
abbrev pub first_measured : List StoredRow → Days → Arc → Option Meas
first_measured rows days arc =
    option_map (measurement arc.base) (first_amount (declared_of rows) (live_facts (facts_of rows)) days arc.kind arc.name)

-- The graph of some days is the whole plant: its nodes are the environment and all units and tanks; its streams are the declared
-- streams and the inventories of all tanks, in order of declaration.
abbrev pub first_graph : List StoredRow → Days → ProcessGraph
first_graph rows days = graph_with (first_measured rows days) rows

-- this graph, or its first stream over the limits
abbrev pub first_assembly : List StoredRow → Days → Result ProcessGraph Assembly
first_assembly rows days = within_limits (first_graph rows days)

-- ---- the history of a period

-- a reading touches the period that includes its day, a transfer each period that has a day in common with it, and a dip each
-- period for which its day is the last one or the one before the first
abbrev pub first_touches : Fact → Period → Bool
first_touches (Reading id stream day grams variance) period = shares_a_day day day period
first_touches (Transfer id stream first last grams variance) period = shares_a_day first last period
first_touches (Dip id tank day mm density variance) period =
    int_eq day period.last || int_eq day (period.first -ℤ pos 1)

-- the edits that touch a period, in the order of their records
abbrev pub first_history : List StoredRow → Period → List StoredRow
first_history rows period =
    filter (λ (stored : StoredRow). edit_touches first_touches (facts_of rows) stored.effect period) (edits_of rows)

-- ---- what a record adds

-- the text of the report of the period at a place, by the names of the plant
abbrev pub FirstReports : SessionState → Option Period → List ℕ → Type 0
FirstReports state (Some period) text =
    ReportsBy state [] (names_of (declared_of state.rows)) period.name (first_assembly state.rows (days_of period)) text
FirstReports state None text = ⊥

-- the text of the history of the period at a place
abbrev pub FirstTells : SessionState → Option Period → List ℕ → Type 0
FirstTells state (Some period) text =
    IsTextOf state (history_rows period.name period.closed (first_history state.rows period)) text
FirstTells state None text = ⊥

-- the grades of all streams of the plant over a period
abbrev pub first_grades : List StoredRow → List ℕ → Period → List (Option Grade)
first_grades rows component period = map (grade_of rows component period.name) (arc_names (declared_of rows))

-- the text of the balance of a component in the period at a place, by the names of the plant
abbrev pub FirstBalances : SessionState → List ℕ → Option Period → List ℕ → Type 0
FirstBalances state component (Some period) text =
    (answer : Result ProcessGraph Assembly)
    × BalancesIn state (first_grades state.rows component period) (first_assembly state.rows (days_of period)) answer
    × ReportsBy state (component_row component period.name ∷ []) (names_of (declared_of state.rows)) period.name answer text
FirstBalances state component None text = ⊥

-- the text that an accepted record adds; for a window, introduced after version 2, it is the same as in all sessions
abbrev pub FirstAddsAccepted : SessionState → List NamedCost → Accepted → List ℕ → Type 0
FirstAddsAccepted state costs answered.Blank text = text ≡ []
FirstAddsAccepted state costs answered.Stored text = text ≡ []
FirstAddsAccepted state costs answered.Design text = IsDesign state (names_of (declared_of state.rows)) (design_graph state.rows) text
FirstAddsAccepted state costs (answered.Report i) text = FirstReports state (slice_get (periods_of state.rows) i) text
FirstAddsAccepted state costs (answered.History i) text = FirstTells state (slice_get (periods_of state.rows) i) text
FirstAddsAccepted state costs (answered.Component component i) text =
    FirstBalances state component (slice_get (periods_of state.rows) i) text
FirstAddsAccepted state costs (answered.Window first last) text =
    Windows state (slice_get (periods_of state.rows) first) (slice_get (periods_of state.rows) last) text
FirstAddsAccepted state costs answered.Advise text =
    IsAdviceText state (names_of (declared_of state.rows)) (design_graph state.rows) (meter_costs (declared_of state.rows) costs) text

-- the text that an answer to the record with this number adds
abbrev pub FirstAddsBy : SessionState → ℕ → List NamedCost → Answer → List ℕ → Type 0
FirstAddsBy state at costs (Refuses cause) text = IsTextOf state (refused_row at (cause_code cause) ∷ []) text
FirstAddsBy state at costs (Stores row) text = text ≡ []
FirstAddsBy state at costs (Says accepted) text = FirstAddsAccepted state costs accepted text

-- The text that a record adds to the output, given the answer that it has in a session of version 1.
abbrev pub FirstAdds : SessionState → ℕ → List (List ℕ) → List ℕ → Type 0
FirstAdds state at fields text = FirstAddsBy state at (named_costs fields) (first_answer_of state.rows fields) text

-- what a session holds after a record with that answer
abbrev pub first_state_after : SessionState → ℕ → List (List ℕ) → SessionState
first_state_after state at fields =
    record { options = state.options; form = state.form; rows = after_answer state.rows at (first_answer_of state.rows fields) }

-- The text of a session: the texts of its records in order, each after the rows that earlier records stored.
abbrev pub IsFirstText : SessionState → ℕ → List (List (List ℕ)) → List ℕ → Type 0
IsFirstText state at [] text = text ≡ []
IsFirstText state at (fields ∷ records) text =
    (first : List ℕ) × (rest : List ℕ) × FirstAdds state at fields first
    × IsFirstText (first_state_after state at fields) (at + 1) records rest × (text ≡ first ++ rest)

-- ---- the law

-- some record of a session is accepted as the one that states version 2
abbrev pub accepts_version_2 : SessionState → ℕ → List (List (List ℕ)) → Bool
accepts_version_2 state at [] = false
accepts_version_2 state at (fields ∷ records) =
    says_version (answer_of state.rows fields) || accepts_version_2 (state_after state at fields) (at + 1) records

-- in a session of version 1, a record that doesn't state version 2 adds what it added before version 2 existed
abbrev pub FirstTextLaw : Type 0
FirstTextLaw =
    (state : SessionState) (at : ℕ) (fields : List (List ℕ)) (text : List ℕ) → version_of (declared_of state.rows) ≡ One
    → says_version (answer_of state.rows fields) ≡ false → Adds state at fields text ↔ FirstAdds state at fields text

-- A session writes what it wrote before version 2 existed, unless one of its records is accepted as the one that states it.
abbrev pub FirstSessionTextLaw : Type 0
FirstSessionTextLaw =
    (state : SessionState) (at : ℕ) (records : List (List (List ℕ))) (text : List ℕ) → version_of (declared_of state.rows) ≡ One
    → accepts_version_2 state at records ≡ false → IsSessionText state at records text ↔ IsFirstText state at records text

-- no boundary is declared, and no arc has days of service
pub record IsFirstPlant (declared : List Declared) : Type 0 where
  pub boundaries : boundary_names declared ≡ []
  pub services : filter_map (λ (arc : Arc). arc.service) (arcs_of declared) ≡ []

-- this holds for accepted rows of version 1
abbrev pub FirstPlantLaw : Type 0
FirstPlantLaw = (rows : List StoredRow) → AreAccepted rows → version_of (declared_of rows) ≡ One → IsFirstPlant (declared_of rows)

-- What the version decides about refusals, in version 1: each part of the plant is sealed once some period is closed, a fact
-- touches periods as above, no fact is of a day out of service, no assay is of a period without a day in service, and there are at
-- most 2,000 streams and tanks.
pub record FirstRefusalLaw : Type 0 where
  pub sealed : (periods : List Period) (declared : Declared)
      → is_sealed_by One periods declared ≡ (is_of_plant declared && some_closed periods)
  pub touching : (declared : List Declared) (fact : Fact) (period : Period)
      → touches_in One declared fact period ≡ first_touches fact period
  pub served : (declared : List Declared) (fact : Fact) → is_out_of_service (service_in One declared (named_by fact)) fact ≡ false
  pub assayed : (declared : List Declared) (stream name : List ℕ) (period : Period)
      → is_unserved_in (service_in One declared stream) name period ≡ false
  pub most : most_arcs One ≡ 2000

-- an arc as a window uses it: in service on every day
abbrev pub first_window_arc : Arc → PlantArc
first_window_arc arc = record { from = arc.from; to = arc.to; is_tank = is_inventory arc.kind; service = None }

-- the plant as a window uses it: all its arcs, and all its nodes except the environment, including those that no arc joins
abbrev pub first_window_plant : List Declared → Plant
first_window_plant declared = record {
  nodes = length (node_names declared) - 1;
  arcs = map first_window_arc (arcs_of declared);
  keeps_idle = true;
}

-- what the version decides about a window: its plant, and what its periods measured
pub record HasFirstWindows (rows : List StoredRow) : Type 0 where
  pub plant : window_plant (declared_of rows) ≡ first_window_plant (declared_of rows)
  pub flows : (arc : Arc) (period : Period) → flow_measured rows arc period ≡ first_measured rows (days_of period) arc

-- this holds in version 1
abbrev pub FirstWindowLaw : Type 0
FirstWindowLaw = (rows : List StoredRow) → version_of (declared_of rows) ≡ One → HasFirstWindows rows
