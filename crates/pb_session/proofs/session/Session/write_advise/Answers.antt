use Rattle.std.proofs.Common.{◌≡◌, ◌∙◌, ap, subst, List, ℤ}
use Rattle.std.specs.Prelude.{All}
use Rattle.pb_rows.specs.declared.name.Names.{Names}
use Rattle.pb_graph.specs.ProcessGraph.{ProcessGraph}
use Rattle.pb_advise.specs.Choice.{AreCosts}
use Rattle.pb_site.specs.Site.{HasDistinctNames, names_of}
use Rattle.pb_kinds.specs.Costs.{IsMeterCost, named_costs}
use Rattle.pb_kinds.specs.declared.rows.StoredRow.{StoredRow}
use Rattle.pb_book.specs.Costs.{meter_costs}
use Rattle.pb_book.specs.Rows.{declared_of}
use Rattle.pb_period.specs.PeriodGraph.{base_of, design_graph}
use Rattle.pb_session.specs.Kept.{Held}
use Rattle.pb_session.specs.Session.{IsAdviceText}
use Rattle.pb_session.proofs.AppendingLemmas.{appends_so}
use Rattle.pb_session.proofs.NamedLemmas.{costs_are, names_are}
use Rattle.pb_session.proofs.session.Session.write_advise.Goals as goal

pub write_meters-requires-clause-names : goal.write_meters-requires-clause-names
write_meters-requires-clause-names c =
    let rows = c.self.inside.book in
    let names_is : c.in_ok-names.names ≡ names_of (declared_of rows) = c.in_ok-names.ensures.ok ∙ ap names_of c.site.ensures.value in
    let distinct : HasDistinctNames (declared_of rows) = subst HasDistinctNames c.site.ensures.value c.in_ok-names.ensures.distinct in
    rw (names_is, c.in_ok-plant.ensures) (names_are base_of rows distinct)

pub write_meters-requires-clause-costs : goal.write_meters-requires-clause-costs
write_meters-requires-clause-costs c =
    let rows = c.self.inside.book in
    let costs = meter_costs (declared_of rows) (named_costs c.args.row.now) in
    let within : All IsMeterCost costs = subst (All IsMeterCost) c.in_ok-costs.ensures.value c.in_ok-costs.ensures.within in
    let are : AreCosts (design_graph rows) costs = costs_are base_of rows (named_costs c.args.row.now) within in
    rw (c.deref.ensures.value, c.in_ok-costs.ensures.value, c.in_ok-plant.ensures) are

pub returns-clause-ok : goal.returns-clause-ok
returns-clause-ok c =
    let state = c.args.self.now.state in
    let fields = c.args.row.now in
    let names = c.in_ok-names.names in
    let plant = c.in_ok-plant.plant in
    let rows_is : c.self.inside.book ≡ state.rows = ap (λ (h : Held). h.state.rows) c.self.view_is in
    let names_is : names ≡ names_of (declared_of state.rows) =
    c.in_ok-names.ensures.ok ∙ ap names_of c.site.ensures.value ∙ ap (λ (rows : List StoredRow). names_of (declared_of rows)) rows_is in
    let plant_is : plant ≡ design_graph state.rows = c.in_ok-plant.ensures ∙ ap design_graph rows_is in
    let costs_is : c.deref.result.now ≡ meter_costs (declared_of state.rows) (named_costs fields) =
    c.deref.ensures.value ∙ c.in_ok-costs.ensures.value ∙ ap (λ (rows : List StoredRow). meter_costs (declared_of rows) (named_costs fields)) rows_is in
    appends_so c.write_meters.result (IsAdviceText state names plant c.deref.result.now)
    (IsAdviceText state (names_of (declared_of state.rows)) (design_graph state.rows) (meter_costs (declared_of state.rows) (named_costs fields))) _ _
    (λ t is. subst (λ (n : Names). IsAdviceText state n (design_graph state.rows) (meter_costs (declared_of state.rows) (named_costs fields)) t) names_is
    (subst (λ (g : ProcessGraph). IsAdviceText state names g (meter_costs (declared_of state.rows) (named_costs fields)) t) plant_is
    (subst (λ (costs : List ℤ). IsAdviceText state names plant costs t) costs_is is)))
    c.write_meters.ensures.ok
