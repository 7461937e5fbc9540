use Rattle.std.proofs.Common.{◌≡◌, ◌∙◌, List, slice_get, sym, ap}
use Rattle.pb_kinds.specs.declared.rows.StoredRow.{StoredRow}
use Rattle.pb_periods.specs.declared.period.Period.{Period}
use Rattle.pb_book.specs.Rows.{periods_of}
use Rattle.pb_assay.specs.Balance.{component_in}
use Rattle.pb_session.specs.Kept.{Held}
use Rattle.pb_session.proofs.BalanceLemmas.{answers_at, moved}
use Rattle.pb_session.proofs.session.Session.balance_by.Goals as goal

pub returns : goal.returns
returns c =
    let state = c.args.self.now.state in
    let found = slice_get (periods_of state.rows) c.args.i in
    let component = c.args.component.now in
    let graph = c.args.graph.now in
    let last = c.at-last.result.now in
    let rows_is = ap (λ (h : Held). h.state.rows) c.self.view_is in
    let is_last = ap (slice_get c.args.study.now.stages) (sym c.len.ensures) ∙ c.at-last.ensures in
    let answers = answers_at state found component graph c.args.study.now last c.component.result c.requires is_last
    (λ sure. moved (λ (rows : List StoredRow) (p : Period). c.component.result ≡ component_in rows component p graph last) c.self.inside.book state c.args.i c.requires.period rows_is c.requires.there
    (c.component.ensures.answer sure)) c.component.ensures.counts c.component.ensures.over in
    record { answer = answers.at; counts = answers.counts; over = answers.over }
