use Rattle.std.proofs.Common.{◌≡◌, ◌∙◌, ap, subst, List}
use Rattle.pb_rows.specs.declared.name.Names.{Names}
use Rattle.pb_graph.specs.ProcessGraph.{ProcessGraph}
use Rattle.pb_site.specs.Site.{HasDistinctNames, names_of}
use Rattle.pb_kinds.specs.declared.rows.StoredRow.{StoredRow}
use Rattle.pb_book.specs.Rows.{declared_of}
use Rattle.pb_period.specs.PeriodGraph.{base_of, design_graph}
use Rattle.pb_session.specs.Kept.{Held}
use Rattle.pb_session.specs.Session.{IsDesign}
use Rattle.pb_session.proofs.AppendingLemmas.{appends_so}
use Rattle.pb_session.proofs.NamedLemmas.{names_are}
use Rattle.pb_session.proofs.session.Session.write_design.Goals as goal

pub write_classes-requires-clause-names : goal.write_classes-requires-clause-names
write_classes-requires-clause-names c =
    let rows = c.self.inside.book in
    let names_is : c.in_ok-names.names ≡ names_of (declared_of rows) = c.in_ok-names.ensures.ok ∙ ap names_of c.site.ensures.value in
    let distinct : HasDistinctNames (declared_of rows) = subst HasDistinctNames c.site.ensures.value c.in_ok-names.ensures.distinct in
    rw (names_is, c.in_ok-graph.ensures) (names_are base_of rows distinct)

pub returns-clause-ok : goal.returns-clause-ok
returns-clause-ok c =
    let state = c.args.self.now.state in
    let names = c.in_ok-names.names in
    let rows_is : c.self.inside.book ≡ state.rows = ap (λ (h : Held). h.state.rows) c.self.view_is in
    let names_is : names ≡ names_of (declared_of state.rows) =
    c.in_ok-names.ensures.ok ∙ ap names_of c.site.ensures.value ∙ ap (λ (rows : List StoredRow). names_of (declared_of rows)) rows_is in
    let graph_is : c.in_ok-graph.graph ≡ design_graph state.rows = c.in_ok-graph.ensures ∙ ap design_graph rows_is in
    appends_so c.write_classes.result (IsDesign state names c.in_ok-graph.graph) (IsDesign state (names_of (declared_of state.rows)) (design_graph state.rows)) _ _
    (λ t is. subst (λ (n : Names). IsDesign state n (design_graph state.rows) t) names_is (subst (λ (g : ProcessGraph). IsDesign state names g t) graph_is is))
    c.write_classes.ensures.ok
