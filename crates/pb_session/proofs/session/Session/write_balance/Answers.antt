use Rattle.std.proofs.Common.{◌≡◌, ◌≢◌, ◌∙◌, ◌<◌, ◌∷◌, [], ℕ, List, length, Some, IfSome, IfErr, IfOk, Result, Ok, Err, slice_get, sym, ap, ap₂, subst}
use Rattle.pb_rows.specs.declared.name.Names.{Names}
use Rattle.pb_graph.specs.ProcessGraph.{ProcessGraph}
use Rattle.pb_periods.specs.declared.period.Period.{Period}
use Rattle.pb_kinds.specs.declared.rows.StoredRow.{StoredRow}
use Rattle.pb_book.specs.Rows.{periods_of}
use Rattle.pb_period.specs.Days.{days_of}
use Rattle.pb_period.specs.declared.graph.Assembly.{Assembly}
use Rattle.pb_period.specs.declared.graph.Assembly.TheVariants.{Over, NoMemory}
use Rattle.pb_period.specs.Laws.{AreGraphNames}
use Rattle.pb_period.specs.PeriodGraph.{NamesAStream, period_graph, period_names}
use Rattle.pb_report.specs.declared.form.Form.{Form}
use Rattle.pb_report.specs.Component.{component_row}
use Rattle.pb_report.specs.Form.{text_in}
use Rattle.pb_report.specs.Names.{name_at}
use Rattle.pb_report.specs.Over.{over_row}
use Rattle.pb_assay.specs.Balance.{HasCountsOf}
use Rattle.pb_session.specs.Keeping.{IsBalanceAt}
use Rattle.pb_session.specs.Kept.{Held}
use Rattle.pb_session.specs.Session.{AreNamesOf, Balances, IsReport, SessionState}
use Rattle.pb_session.proofs.AppendingLemmas.{appends_so, appends_such}
use Rattle.pb_session.proofs.BalanceLemmas.{balances_at, names_as}
use Rattle.pb_session.proofs.NamedLemmas.{graph_names_are, stream_named}
use Rattle.pb_session.proofs.ReportLemmas.{at_found}
use Rattle.pb_session.proofs.session.Session.write_balance.Goals as goal

ok_sure : (graph : ProcessGraph) (r : Result ProcessGraph Assembly) → r ≡ Ok graph → r ≢ Err NoMemory
ok_sure graph r is = λ other. cc (is, other)

is_over : (j : ℕ) (why : Assembly) (r : Result ProcessGraph Assembly) → r ≡ Err why → why ≡ Over j → r ≡ Err (Over j)
is_over j why r is why_is = cc (is, why_is)

over_sure : (j : ℕ) (r : Result ProcessGraph Assembly) → r ≡ Err (Over j) → r ≢ Err NoMemory
over_sure j r is = λ other. cc (is, other)

-- what is known about the period and its names, by the rows of the session
record IsNamedPeriod (state : SessionState) (i : ℕ) (period : Period) (names : Names) : Type 0 where
  there : slice_get (periods_of state.rows) i ≡ Some period
  names_are : names ≡ period_names state.rows (days_of period)
  own : AreGraphNames (period_names state.rows (days_of period)) (period_graph state.rows (days_of period))

named_period : (state : SessionState) (rows : List StoredRow) (i : ℕ) (period : Period) (names : Names) → rows ≡ state.rows → slice_get (periods_of rows) i ≡ Some period
    → IfSome (slice_get (periods_of rows) i) (λ (p : Period). names ≡ period_names rows (days_of p))
    → IfSome (slice_get (periods_of rows) i) (λ (p : Period). AreGraphNames (period_names rows (days_of p)) (period_graph rows (days_of p)))
    → IsNamedPeriod state i period names
named_period state rows i period names rows_is there names_are own =
    let found = slice_get (periods_of rows) i in
    let names_here = at_found found period (λ (p : Period). names ≡ period_names rows (days_of p)) there names_are in
    let own_here = at_found found period (λ (p : Period). AreGraphNames (period_names rows (days_of p)) (period_graph rows (days_of p))) there own in
    record {
      there = subst (λ (rs : List StoredRow). slice_get (periods_of rs) i ≡ Some period) rows_is there;
      names_are = subst (λ (rs : List StoredRow). names ≡ period_names rs (days_of period)) rows_is names_here;
      own = subst (λ (rs : List StoredRow). AreGraphNames (period_names rs (days_of period)) (period_graph rs (days_of period))) rows_is own_here;
    }

counts_now : (graph other : ProcessGraph) (r : Result ProcessGraph Assembly) → r ≡ Ok other → IfOk r (HasCountsOf graph) → HasCountsOf graph other
counts_now graph other r is counts = subst (λ (r : Result ProcessGraph Assembly). IfOk r (HasCountsOf graph)) is counts

pub write_component-requires-clause-names : goal.write_component-requires-clause-names
write_component-requires-clause-names c =
    let state = c.args.self.now.state in
    let period = c.period-period.result in
    let own = period_graph state.rows (days_of period) in
    let k = named_period state c.self.inside.book c.args.i c.period-period.result c.in_ok-names.names (ap (λ (h : Held). h.state.rows) c.self.view_is) c.period-period.ensures.value c.in_ok-names.ensures.ok c.in_ok-names.ensures.named in
    let counts = at_found (slice_get (periods_of state.rows) c.args.i) period (λ (p : Period). IfOk c.balance.result (HasCountsOf (period_graph state.rows (days_of p)))) k.there c.balance.ensures.counts in
    subst (λ (n : Names). AreNamesOf n c.in-Ok.graph) (sym k.names_are)
    (names_as (period_names state.rows (days_of period)) own c.in-Ok.graph (graph_names_are (period_names state.rows (days_of period)) own k.own) (counts_now own c.in-Ok.graph c.balance.result c.in-Ok.is counts))

over_within : (rows : List StoredRow) (period : Period) (j : ℕ) (r : Result ProcessGraph Assembly) → r ≡ Err (Over j) → IfErr r (NamesAStream rows (days_of period))
    → j < length (period_graph rows (days_of period)).streams
over_within rows period j r is named = subst (λ (r : Result ProcessGraph Assembly). IfErr r (NamesAStream rows (days_of period))) is named

pub at-requires : goal.at-requires
at-requires c =
    let state = c.args.self.now.state in
    let period = c.period-period.result in
    let j = c.in-Err-Over.j in
    let k = named_period state c.self.inside.book c.args.i c.period-period.result c.in_ok-names.names (ap (λ (h : Held). h.state.rows) c.self.view_is) c.period-period.ensures.value c.in_ok-names.ensures.ok c.in_ok-names.ensures.named in
    let is = is_over j c.in-Err-Over.field-0 c.balance.result c.in-Err-Over.is c.in-Err-Over.field-0-is in
    let named = at_found (slice_get (periods_of state.rows) c.args.i) period (λ (p : Period). IfErr c.balance.result (NamesAStream state.rows (days_of p))) k.there c.balance.ensures.over in
    let there = stream_named state.rows (days_of period) j k.own (over_within state.rows period j c.balance.result is named) in
    subst (λ (n : Names). j < length n.streams) (sym k.names_are) there

pub returns-in-Ok-clause-ok : goal.returns-in-Ok-clause-ok
returns-in-Ok-clause-ok c =
    let state = c.args.self.now.state in
    let component = c.args.component.now in
    let period = c.period-period.result in
    let found = slice_get (periods_of state.rows) c.args.i in
    let graph = c.in-Ok.graph in
    let rows = component_row component period.name ∷ [] in
    let k = named_period state c.self.inside.book c.args.i c.period-period.result c.in_ok-names.names (ap (λ (h : Held). h.state.rows) c.self.view_is) c.period-period.ensures.value c.in_ok-names.ensures.ok c.in_ok-names.ensures.named in
    let at : IsBalanceAt state component found (Ok graph) =
    subst (λ (r : Result ProcessGraph Assembly). IsBalanceAt state component found r) c.in-Ok.is (c.balance.ensures.answer (ok_sure graph c.balance.result c.in-Ok.is)) in
    appends_so c.write_component.result (IsReport state rows c.in_ok-names.names period.name graph) (Balances state component found) _ _
    (λ text is. balances_at state component found period (Ok graph) text k.there at (subst (λ (n : Names). IsReport state rows n period.name graph text) k.names_are is))
    c.write_component.ensures.ok

pub returns-in-Err-Over-clause-ok : goal.returns-in-Err-Over-clause-ok
returns-in-Err-Over-clause-ok c =
    let state = c.args.self.now.state in
    let component = c.args.component.now in
    let period = c.period-period.result in
    let found = slice_get (periods_of state.rows) c.args.i in
    let j = c.in-Err-Over.j in
    let k = named_period state c.self.inside.book c.args.i c.period-period.result c.in_ok-names.names (ap (λ (h : Held). h.state.rows) c.self.view_is) c.period-period.ensures.value c.in_ok-names.ensures.ok c.in_ok-names.ensures.named in
    let over = is_over j c.in-Err-Over.field-0 c.balance.result c.in-Err-Over.is c.in-Err-Over.field-0-is in
    let at : IsBalanceAt state component found (Err (Over j)) =
    subst (λ (r : Result ProcessGraph Assembly). IsBalanceAt state component found r) over (c.balance.ensures.answer (over_sure j c.balance.result over)) in
    let line : Form → List ℕ → List ℕ = λ form name. text_in form (over_row period.name name ∷ []) in
    let name_is : c.at.result.now ≡ name_at (period_names state.rows (days_of period)).streams j = c.at.ensures ∙ ap (λ (n : Names). name_at n.streams j) k.names_are in
    let text = line c.self.inside.form c.at.result.now in
    let is : text ≡ line state.form (name_at (period_names state.rows (days_of period)).streams j) = ap₂ line (ap (λ (h : Held). h.state.form) c.self.view_is) name_is in
    appends_such c.write_over.result (Balances state component found) _ _ text (balances_at state component found period (Err (Over j)) text k.there at is) c.write_over.ensures.ok
