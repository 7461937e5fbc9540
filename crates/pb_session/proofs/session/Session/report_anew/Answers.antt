use Rattle.std.proofs.Common.{◌≡◌, ◌≢◌, ◌∙◌, ◌<◌, ◌∷◌, [], ℕ, List, length, Some, IfErr, Result, Ok, Err, slice_get, sym, ap, ap₂, subst}
use Rattle.pb_rows.specs.declared.name.Names.{Names}
use Rattle.pb_graph.specs.ProcessGraph.{ProcessGraph}
use Rattle.pb_periods.specs.declared.period.Period.{Period}
use Rattle.pb_kinds.specs.declared.rows.StoredRow.{StoredRow}
use Rattle.pb_book.specs.Rows.{periods_of}
use Rattle.pb_period.specs.declared.days.Days.{Days}
use Rattle.pb_period.specs.Days.{days_of}
use Rattle.pb_period.specs.declared.graph.Assembly.{Assembly}
use Rattle.pb_period.specs.declared.graph.Assembly.TheVariants.{Over, NoMemory}
use Rattle.pb_period.specs.Laws.{AreGraphNames}
use Rattle.pb_period.specs.PeriodGraph.{NamesAStream, assembly_of, period_graph, period_names}
use Rattle.pb_report.specs.declared.form.Form.{Form}
use Rattle.pb_report.specs.Form.{text_in}
use Rattle.pb_report.specs.Names.{name_at}
use Rattle.pb_report.specs.Over.{over_row}
use Rattle.pb_session.specs.Kept.{Held}
use Rattle.pb_session.specs.Session.{IsReport, Reports}
use Rattle.pb_session.proofs.KeepingLemmas.{passed_at, reported_at}
use Rattle.pb_session.proofs.NamedLemmas.{period_names_are, stream_named}
use Rattle.pb_session.proofs.ReportLemmas.{at_found, reports_at}
use Rattle.pb_session.proofs.session.Session.report_anew.Goals as goal

ok_sure : (graph : ProcessGraph) (r : Result ProcessGraph Assembly) → r ≡ Ok graph → r ≢ Err NoMemory
ok_sure graph r is = λ other. cc (is, other)

is_over : (j : ℕ) (why : Assembly) (r : Result ProcessGraph Assembly) → r ≡ Err why → why ≡ Over j → r ≡ Err (Over j)
is_over j why r is why_is = cc (is, why_is)

over_sure : (j : ℕ) (r : Result ProcessGraph Assembly) → r ≡ Err (Over j) → r ≢ Err NoMemory
over_sure j r is = λ other. cc (is, other)

-- the stream that is over the limits is one of the graph's
over_within : (rows : List StoredRow) (days : Days) (j : ℕ) (r : Result ProcessGraph Assembly) → r ≡ Err (Over j) → IfErr r (NamesAStream rows days)
    → j < length (period_graph rows days).streams
over_within rows days j r is named = subst (λ (r : Result ProcessGraph Assembly). IfErr r (NamesAStream rows days)) is named

pub report_graph-requires-clause-names : goal.report_graph-requires-clause-names
report_graph-requires-clause-names c =
    let rows = c.self.inside.book in
    let period = c.period.result in
    let found = slice_get (periods_of rows) c.args.i in
    let names = c.in_ok-names.names in
    let names_is = at_found found period (λ (p : Period). names ≡ period_names rows (days_of p)) c.period.ensures.value c.in_ok-names.ensures.ok in
    let sure = ok_sure c.in-Ok.graph c.assemble.result c.in-Ok.is in
    let answer_is = at_found found period (λ (p : Period). c.assemble.result ≡ assembly_of rows (days_of p)) c.period.ensures.value (c.assemble.ensures.answer sure) in
    let named = at_found found period (λ (p : Period). AreGraphNames (period_names rows (days_of p)) (period_graph rows (days_of p))) c.period.ensures.value c.in_ok-names.ensures.named in
    rw names_is (period_names_are rows (days_of period) c.in-Ok.graph named (sym c.in-Ok.is ∙ answer_is))

pub at-requires : goal.at-requires
at-requires c =
    let rows = c.self.inside.book in
    let period = c.period.result in
    let found = slice_get (periods_of rows) c.args.i in
    let names = c.in_ok-names.names in
    let names_is = at_found found period (λ (p : Period). names ≡ period_names rows (days_of p)) c.period.ensures.value c.in_ok-names.ensures.ok in
    let is = is_over c.in-Err-Over.j c.in-Err-Over.field-0 c.assemble.result c.in-Err-Over.is c.in-Err-Over.field-0-is in
    let named = at_found found period (λ (p : Period). IfErr c.assemble.result (NamesAStream rows (days_of p))) c.period.ensures.value c.assemble.ensures.over in
    let own = at_found found period (λ (p : Period). AreGraphNames (period_names rows (days_of p)) (period_graph rows (days_of p))) c.period.ensures.value c.in_ok-names.ensures.named in
    let there = stream_named rows (days_of period) c.in-Err-Over.j own (over_within rows (days_of period) c.in-Err-Over.j c.assemble.result is named) in
    subst (λ (n : Names). c.in-Err-Over.j < length n.streams) (sym names_is) there

pub returns-in-Ok-clause-ok : goal.returns-in-Ok-clause-ok
returns-in-Ok-clause-ok c =
    let state = c.args.self.now.state in
    let rows = c.self.inside.book in
    let i = c.args.i in
    let period = c.period.result in
    let found = slice_get (periods_of rows) i in
    let names = c.in_ok-names.names in
    let graph = c.in-Ok.graph in
    let rows_is : rows ≡ state.rows = ap (λ (h : Held). h.state.rows) c.self.view_is in
    let names_is = at_found found period (λ (p : Period). names ≡ period_names rows (days_of p)) c.period.ensures.value c.in_ok-names.ensures.ok in
    let sure = ok_sure graph c.assemble.result c.in-Ok.is in
    let answer_is = at_found found period (λ (p : Period). c.assemble.result ≡ assembly_of rows (days_of p)) c.period.ensures.value (c.assemble.ensures.answer sure) in
    let at_now : slice_get (periods_of state.rows) i ≡ Some period = subst (λ (rs : List StoredRow). slice_get (periods_of rs) i ≡ Some period) rows_is c.period.ensures.value in
    let names_now : names ≡ period_names state.rows (days_of period) = subst (λ (rs : List StoredRow). names ≡ period_names rs (days_of period)) rows_is names_is in
    let answer_now : c.assemble.result ≡ assembly_of state.rows (days_of period) = subst (λ (rs : List StoredRow). c.assemble.result ≡ assembly_of rs (days_of period)) rows_is answer_is in
    let (text, written, is) = c.in_ok-report_graph-in-Ok.ensures.ok in
    (text, written, reports_at state i period (Ok graph) text at_now (sym c.in-Ok.is ∙ answer_now) (subst (λ (n : Names). IsReport state [] n period.name graph text) names_now is))

pub returns-in-Ok-clause-leaves : goal.returns-in-Ok-clause-leaves
returns-in-Ok-clause-leaves c =
    let held = c.args.self.now in
    let rows = c.self.inside.book in
    let i = c.args.i in
    let period = c.period.result in
    let graph = c.in-Ok.graph in
    let found = slice_get (periods_of rows) i in
    let rows_is : rows ≡ held.state.rows = ap (λ (h : Held). h.state.rows) c.self.view_is in
    let sure = ok_sure graph c.assemble.result c.in-Ok.is in
    let answer_is = at_found found period (λ (p : Period). c.assemble.result ≡ assembly_of rows (days_of p)) c.period.ensures.value (c.assemble.ensures.answer sure) in
    let at_now : slice_get (periods_of held.state.rows) i ≡ Some period = subst (λ (rs : List StoredRow). slice_get (periods_of rs) i ≡ Some period) rows_is c.period.ensures.value in
    let answer_now : c.assemble.result ≡ assembly_of held.state.rows (days_of period) = subst (λ (rs : List StoredRow). c.assemble.result ≡ assembly_of rs (days_of period)) rows_is answer_is in
    reported_at held i (slice_get (periods_of held.state.rows) i) period graph _ at_now (sym c.in-Ok.is ∙ answer_now) c.in_ok-report_graph-in-Ok.ensures.leaves

pub returns-in-Err-Over-clause-ok : goal.returns-in-Err-Over-clause-ok
returns-in-Err-Over-clause-ok c =
    let state = c.args.self.now.state in
    let rows = c.self.inside.book in
    let i = c.args.i in
    let j = c.in-Err-Over.j in
    let period = c.period.result in
    let found = slice_get (periods_of rows) i in
    let names = c.in_ok-names.names in
    let rows_is : rows ≡ state.rows = ap (λ (h : Held). h.state.rows) c.self.view_is in
    let names_is = at_found found period (λ (p : Period). names ≡ period_names rows (days_of p)) c.period.ensures.value c.in_ok-names.ensures.ok in
    let over = is_over j c.in-Err-Over.field-0 c.assemble.result c.in-Err-Over.is c.in-Err-Over.field-0-is in
    let sure = over_sure j c.assemble.result over in
    let answer_is = at_found found period (λ (p : Period). c.assemble.result ≡ assembly_of rows (days_of p)) c.period.ensures.value (c.assemble.ensures.answer sure) in
    let at_now : slice_get (periods_of state.rows) i ≡ Some period = subst (λ (rs : List StoredRow). slice_get (periods_of rs) i ≡ Some period) rows_is c.period.ensures.value in
    let names_now : names ≡ period_names state.rows (days_of period) = subst (λ (rs : List StoredRow). names ≡ period_names rs (days_of period)) rows_is names_is in
    let answer_now : c.assemble.result ≡ assembly_of state.rows (days_of period) = subst (λ (rs : List StoredRow). c.assemble.result ≡ assembly_of rs (days_of period)) rows_is answer_is in
    let line : Form → List ℕ → List ℕ = λ form name. text_in form (over_row period.name name ∷ []) in
    let name_is : c.at.result.now ≡ name_at (period_names state.rows (days_of period)).streams j = c.at.ensures ∙ ap (λ (n : Names). name_at n.streams j) names_now in
    let text = line c.self.inside.form c.at.result.now in
    let is : text ≡ line state.form (name_at (period_names state.rows (days_of period)).streams j) = ap₂ line (ap (λ (h : Held). h.state.form) c.self.view_is) name_is in
    let here : Reports state (slice_get (periods_of state.rows) i) text = reports_at state i period (Err (Over j)) text at_now (sym over ∙ answer_now) is in
    (text, c.in_ok-write_over-in-Err-Over.ensures.ok, here)

pub returns-in-Err-Over-clause-leaves : goal.returns-in-Err-Over-clause-leaves
returns-in-Err-Over-clause-leaves c =
    let held = c.args.self.now in
    let rows = c.self.inside.book in
    let i = c.args.i in
    let j = c.in-Err-Over.j in
    let period = c.period.result in
    let found = slice_get (periods_of rows) i in
    let rows_is : rows ≡ held.state.rows = ap (λ (h : Held). h.state.rows) c.self.view_is in
    let over = is_over j c.in-Err-Over.field-0 c.assemble.result c.in-Err-Over.is c.in-Err-Over.field-0-is in
    let sure = over_sure j c.assemble.result over in
    let answer_is = at_found found period (λ (p : Period). c.assemble.result ≡ assembly_of rows (days_of p)) c.period.ensures.value (c.assemble.ensures.answer sure) in
    let at_now : slice_get (periods_of held.state.rows) i ≡ Some period = subst (λ (rs : List StoredRow). slice_get (periods_of rs) i ≡ Some period) rows_is c.period.ensures.value in
    let answer_now : c.assemble.result ≡ assembly_of held.state.rows (days_of period) = subst (λ (rs : List StoredRow). c.assemble.result ≡ assembly_of rs (days_of period)) rows_is answer_is in
    passed_at held i (slice_get (periods_of held.state.rows) i) period (Over j) at_now (sym over ∙ answer_now)
