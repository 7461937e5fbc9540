-- The graphs of plain rows.
use Rattle.std.proofs.Common.{◌≡◌, ◌∙◌, List, None, length, map, refl, sym, ap, ap₂}
use Rattle.pb_graph.specs.ProcessGraph.{ProcessGraph}
use Rattle.pb_site.specs.declared.declared.Declared.{Declared}
use Rattle.pb_site.specs.declared.declared.Version.{Version}
use Rattle.pb_site.specs.declared.declared.Version.TheVariants.{One, Two}
use Rattle.pb_site.specs.OnDays.{names_on}
use Rattle.pb_site.specs.Site.{arcs_of, node_names, version_of}
use Rattle.pb_facts.specs.Facts.{live_facts}
use Rattle.pb_facts.specs.declared.fact.Fact.{Fact}
use Rattle.pb_book.specs.Plain.{ArePlain}
use Rattle.pb_kinds.specs.declared.rows.StoredRow.{StoredRow}
use Rattle.pb_book.specs.Rows.{declared_of, facts_of}
use Rattle.pb_period.specs.Laws.{HaveSameGraphs}
use Rattle.pb_period.specs.Measurement.{measured}
use Rattle.pb_period.specs.PeriodGraph.{base_of, design_graph, graph_in, period_graph, served_graph, stream_with, within_limits}
use Rattle.pb_period.specs.declared.days.Days.{Days}

-- the graph of some days by what is declared and by the live facts
abbrev pub graph_by : Version → List Declared → List Fact → Days → ProcessGraph
graph_by One declared facts days = record {
  nodes = length (node_names declared);
  streams = map (stream_with (measured declared facts days None)) (arcs_of declared);
}
graph_by Two declared facts days = served_graph declared facts days

pub graph_is : (version : Version) (rows : List StoredRow) (days : Days) → graph_in version rows days ≡ graph_by version (declared_of rows) (live_facts (facts_of rows)) days
graph_is One rows days = refl
graph_is Two rows days = refl

design_same : (rows other : List StoredRow) → declared_of other ≡ declared_of rows → design_graph other ≡ design_graph rows
design_same rows other same = ap (λ (ds : List Declared). let g : ProcessGraph = record { nodes = length (node_names ds); streams = map (stream_with base_of) (arcs_of ds) } in g) same

pub period_same : (rows other : List StoredRow) (days : Days) → declared_of other ≡ declared_of rows → live_facts (facts_of other) ≡ live_facts (facts_of rows)
    → period_graph other days ≡ period_graph rows days
period_same rows other days declared facts =
    graph_is (version_of (declared_of other)) other days
    ∙ ap₂ (λ (ds : List Declared) (fs : List Fact). graph_by (version_of ds) ds fs days) declared facts
    ∙ sym (graph_is (version_of (declared_of rows)) rows days)

pub plain_graphs : (rows plain : List StoredRow) → ArePlain rows plain → HaveSameGraphs rows plain
plain_graphs rows plain are = record {
  design = design_same rows plain are.declared;
  days = λ days. ap within_limits (period_same rows plain days are.declared are.same);
  names = λ days. ap (λ (ds : List Declared). names_on (version_of ds) ds days.first days.last) are.declared;
}
