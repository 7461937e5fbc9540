use Rattle.std.proofs.Common.{◌≡◌, ◌∙◌, ◌++◌, List, ℕ, length, slice_get, Some, sym, ap, subst, arith}
use Rattle.pb_kinds.specs.declared.rows.StoredRow.{StoredRow}
use Rattle.pb_book.specs.Rows.{periods_of}
use Rattle.pb_book.specs.Windows.{ArePlacesBetween, IsWindowAsked, OfEnds}
use Rattle.pb_periods.specs.declared.period.Period.{Period}
use Rattle.pb_window.specs.Between.{places_between}
use Rattle.pb_report.specs.declared.form.Form.{Form}
use Rattle.pb_report.specs.Form.{text_in}
use Rattle.pb_report.specs.Window.{window_rows}
use Rattle.pb_session.specs.Kept.{Held}
use Rattle.pb_session.proofs.WindowedLemmas.{head_is, head_ok}
use Rattle.pb_session.proofs.session.Session.report_window.Goals as goal

-- what is known about the session's rows is known about the book's
pub periods_between-requires : goal.periods_between-requires
periods_between-requires c =
    let rows_is : c.self.inside.book ≡ c.args.self.now.state.rows = ap (λ (h : Held). h.state.rows) c.self.view_is in
    subst (λ (rows : List StoredRow). IsWindowAsked rows c.args.first c.args.last) (sym rows_is) c.requires.asked

pub places-requires : goal.places-requires
places-requires c =
    let rows_is : c.self.inside.book ≡ c.args.self.now.state.rows = ap (λ (h : Held). h.state.rows) c.self.view_is in
    subst (λ (rows : List StoredRow). IsWindowAsked rows c.args.first c.args.last) (sym rows_is) c.requires.asked

pub returns-clause-ok : goal.returns-clause-ok
returns-clause-ok c =
    let state = c.args.self.now.state in
    let first = c.args.first in
    let last = c.args.last in
    let places = c.in_ok-periods.periods.items in
    let rows_is : c.self.inside.book ≡ state.rows = ap (λ (h : Held). h.state.rows) c.self.view_is in
    let form_is : c.self.inside.form ≡ state.form = ap (λ (h : Held). h.state.form) c.self.view_is in
    let a_is : slice_get (periods_of state.rows) first ≡ Some c.period-name.result = subst (λ (rows : List StoredRow). slice_get (periods_of rows) first ≡ Some c.period-name.result) rows_is c.period-name.ensures.value in
    let b_is : slice_get (periods_of state.rows) last ≡ Some c.period.result = subst (λ (rows : List StoredRow). slice_get (periods_of rows) last ≡ Some c.period.result) rows_is c.period.ensures.value in
    let between = subst (λ (rows : List StoredRow). ArePlacesBetween rows first last places) rows_is c.in_ok-periods.ensures.value in
    let stand = subst (λ (rows : List StoredRow). OfEnds rows first last (λ (one other : Period). c.in_ok-places.places ≡ places_between rows one other)) rows_is c.in_ok-places.ensures in
    let many : c.len.result ≡ length places = omega (arith, c.len.ensures, c.in_ok-periods.periods.ok) in
    let rows = window_rows c.period-name.result.name c.period.result.name c.len.result c.as_slice.result.now in
    head_ok c.report_after.result state first last c.period-name.result c.args.names.now c.args.graph.now rows _ _ _ a_is
    (λ one other first_is last_is. ap (λ (n : ℕ). window_rows c.period-name.result.name c.period.result.name n c.as_slice.result.now) many ∙ head_is state.rows first last places c.period-name.result c.period.result one other c.as_slice.result.now between a_is b_is first_is last_is (c.as_slice.ensures ∙ stand one other first_is last_is))
    (c.in_ok-write_window.ensures.ok ∙ ap (λ (form : Form). c.args.out.now.items ++ text_in form rows) form_is) c.report_after.ensures.ok
