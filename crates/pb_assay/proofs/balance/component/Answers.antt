use Rattle.std.proofs.Common.{◌≡◌, ◌≢◌, ◌∙◌, ◌<◌, ℕ, List, Option, Result, Ok, Err, IfErr, length, slice_get, sym, ap, ap₂, subst}
use Rattle.pb_study.specs.declared.results.StreamResult.{StreamResult}
use Rattle.pb_graph.specs.ProcessGraph.{ProcessGraph}
use Rattle.pb_facts.specs.declared.grade.Grade.{Grade}
use Rattle.pb_grades.specs.declared.component.ComponentFault.{ComponentFault}
use Rattle.pb_grades.specs.declared.component.ComponentFault.TheVariants.{NoMemory, Over}
use Rattle.pb_grades.specs.Component.{NamesAStreamOf, component_of}
use Rattle.pb_periods.specs.declared.period.Period.{Period}
use Rattle.pb_book.specs.Rows.{periods_of}
use Rattle.pb_period.specs.declared.graph.Assembly.{Assembly}
use Rattle.pb_period.specs.declared.graph.Assembly.TheVariants as assembly
use Rattle.pb_assay.specs.Balance.{component_assembly, component_in}
use Rattle.pb_assay.proofs.BalanceLemmas.{for_found, grades_are}
use Rattle.pb_assay.proofs.CountLemmas.{counts_of}
use Rattle.pb_assay.proofs.balance.component.Goals as goal

ok_sure : (graph : ProcessGraph) (r : Result ProcessGraph ComponentFault) → r ≡ Ok graph → r ≢ Err NoMemory
ok_sure graph r is = λ other. cc (is, other)

is_over : (j : ℕ) (why : ComponentFault) (r : Result ProcessGraph ComponentFault) → r ≡ Err why → why ≡ Over j → r ≡ Err (Over j)
is_over j why r is why_is = cc (is, why_is)

over_sure : (j : ℕ) (r : Result ProcessGraph ComponentFault) → r ≡ Err (Over j) → r ≢ Err NoMemory
over_sure j r is = λ other. cc (is, other)

abbrev assembled : ProcessGraph → Result ProcessGraph Assembly
assembled graph = Ok graph

abbrev beyond : ℕ → Result ProcessGraph Assembly
beyond j = Err (assembly.Over j)

over_within : (graph : ProcessGraph) (j : ℕ) (r : Result ProcessGraph ComponentFault) → r ≡ Err (Over j) → IfErr r (NamesAStreamOf graph) → j < length graph.streams
over_within graph j r is named = subst (λ (r : Result ProcessGraph ComponentFault). IfErr r (NamesAStreamOf graph)) is named

pub component_graph-requires-clause-printed : goal.component_graph-requires-clause-printed
component_graph-requires-clause-printed c = ap (λ (rs : List StreamResult). length rs) c.as_slice-2.ensures ∙ c.requires.stage

pub component_graph-requires-clause-each : goal.component_graph-requires-clause-each
component_graph-requires-clause-each c =
    let rows = c.args.book.now in
    let graph = c.args.graph.now in
    let graded = grades_are rows c.args.period c.args.component.now graph c.in_ok-names.names c.as_slice.result.now c.in_ok-grades.grades.items c.requires.there c.requires.graph c.as_slice.ensures
    c.in_ok-grades.ensures.value c.in_ok-names.ensures.ok c.in_ok-names.ensures.named in
    ap (λ (gs : List (Option Grade)). length gs) c.deref.ensures.value ∙ graded.each

pub returns-in-Ok-clause-answer : goal.returns-in-Ok-clause-answer
returns-in-Ok-clause-answer c = λ _.
    let rows = c.args.book.now in
    let graph = c.args.graph.now in
    let last = c.args.last.now in
    let result = c.component_graph.result in
    let graded = grades_are rows c.args.period c.args.component.now graph c.in_ok-names.names c.as_slice.result.now c.in_ok-grades.grades.items c.requires.there c.requires.graph c.as_slice.ensures
    c.in_ok-grades.ensures.value c.in_ok-names.ensures.ok c.in_ok-names.ensures.named in
    let answer = c.component_graph.ensures.answer (ok_sure c.in-Ok.component result c.in-Ok.is) in
    let is = sym c.in-Ok.is ∙ answer ∙ ap₂ (component_of graph) c.as_slice-2.ensures c.deref.ensures.value in
    for_found (slice_get (periods_of rows) c.args.period)
    (λ (one : Period). assembled c.in-Ok.component ≡ component_in rows c.args.component.now one graph last)
    (λ one at. ap component_assembly (is ∙ ap (component_of graph last.streams) (graded.are one at)))

pub returns-in-Err-Over : goal.returns-in-Err-Over
returns-in-Err-Over c =
    let rows = c.args.book.now in
    let graph = c.args.graph.now in
    let last = c.args.last.now in
    let result = c.component_graph.result in
    let j = c.in-Err-Over.j in
    let graded = grades_are rows c.args.period c.args.component.now graph c.in_ok-names.names c.as_slice.result.now c.in_ok-grades.grades.items c.requires.there c.requires.graph c.as_slice.ensures
    c.in_ok-grades.ensures.value c.in_ok-names.ensures.ok c.in_ok-names.ensures.named in
    let over = is_over j c.in-Err-Over.field-0 result c.in-Err-Over.is c.in-Err-Over.field-0-is in
    let answer = c.component_graph.ensures.answer (over_sure j result over) in
    let is = sym over ∙ answer ∙ ap₂ (component_of graph) c.as_slice-2.ensures c.deref.ensures.value in
    record {
      answer = λ _. for_found (slice_get (periods_of rows) c.args.period)
          (λ (one : Period). beyond j ≡ component_in rows c.args.component.now one graph last)
          (λ one at. ap component_assembly (is ∙ ap (component_of graph last.streams) (graded.are one at)));
      counts = tt;
      over = over_within graph j result over c.component_graph.ensures.over;
    }

pub returns-in-Ok-clause-counts : goal.returns-in-Ok-clause-counts
returns-in-Ok-clause-counts c =
    let rows = c.args.book.now in
    let graph = c.args.graph.now in
    let last = c.args.last.now in
    let result = c.component_graph.result in
    let graded = grades_are rows c.args.period c.args.component.now graph c.in_ok-names.names c.as_slice.result.now c.in_ok-grades.grades.items c.requires.there c.requires.graph c.as_slice.ensures
    c.in_ok-grades.ensures.value c.in_ok-names.ensures.ok c.in_ok-names.ensures.named in
    let answer = c.component_graph.ensures.answer (ok_sure c.in-Ok.component result c.in-Ok.is) in
    let is = sym c.in-Ok.is ∙ answer ∙ ap₂ (component_of graph) c.as_slice-2.ensures c.deref.ensures.value in
    counts_of graph c.in-Ok.component last.streams c.in_ok-grades.grades.items c.requires.stage graded.each (sym is)
