use Rattle.std.proofs.Common.{◌≡◌, ◌≢◌, List, Result, Ok, Err, sym, ap, subst}
use Rattle.pb_rows.specs.declared.name.Names.{Names}
use Rattle.pb_graph.specs.ProcessGraph.{ProcessGraph}
use Rattle.pb_kinds.specs.declared.rows.StoredRow.{StoredRow}
use Rattle.pb_book.specs.Windows.{IsWindowAsked, OfEnds}
use Rattle.pb_period.specs.declared.graph.Assembly.{Assembly}
use Rattle.pb_period.specs.declared.graph.Assembly.TheVariants.{NoMemory}
use Rattle.pb_periods.specs.declared.period.Period.{Period}
use Rattle.pb_window.specs.Between.{named_between}
use Rattle.pb_session.specs.Kept.{Held}
use Rattle.pb_session.proofs.WindowedLemmas.{graph_between, windows_ok}
use Rattle.pb_session.proofs.session.Session.write_window.Goals as goal

ok_sure : (graph : ProcessGraph) (names : Names) (r : Result (ProcessGraph × Names) Assembly) → r ≡ Ok (graph, names) → r ≢ Err NoMemory
ok_sure graph names r is = λ other. cc (is, other)

pub window-requires : goal.window-requires
window-requires c =
    let rows_is : c.self.inside.book ≡ c.args.self.now.state.rows = ap (λ (h : Held). h.state.rows) c.self.view_is in
    subst (λ (rows : List StoredRow). IsWindowAsked rows c.args.first c.args.last) (sym rows_is) c.requires

pub returns-in-Ok-clause-ok : goal.returns-in-Ok-clause-ok
returns-in-Ok-clause-ok c =
    let state = c.args.self.now.state in
    let first = c.args.first in
    let last = c.args.last in
    let asked = c.requires in
    let rows_is : c.self.inside.book ≡ state.rows = ap (λ (h : Held). h.state.rows) c.self.view_is in
    let answer = c.window.ensures.answer (ok_sure c.in-Ok.graph c.in-Ok.names c.window.result c.in-Ok.is) in
    let answer_now = subst (λ (rows : List StoredRow). OfEnds rows first last (λ (one other : Period). c.window.result ≡ named_between rows one other)) rows_is answer in
    let made = graph_between state.rows asked.one asked.other c.in-Ok.graph c.in-Ok.names c.window.result c.in-Ok.is (answer_now asked.one asked.other asked.first_is asked.last_is) in
    windows_ok c.report_window.result state first last asked.one asked.other c.in-Ok.names c.in-Ok.graph _ _ asked.first_is asked.last_is made.0 made.1 c.report_window.ensures.ok
