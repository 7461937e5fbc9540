use Rattle.std.proofs.Common.{slice_get, ap}
use Rattle.pb_book.specs.Rows.{periods_of}
use Rattle.pb_session.specs.Kept.{Held}
use Rattle.pb_session.proofs.BalanceLemmas.{kept_studied, studied_at}
use Rattle.pb_session.proofs.session.Session.balance.Goals as goal

pub balance_by-requires : goal.balance_by-requires
balance_by-requires c =
    let state = c.args.self.now.state in
    kept_studied state (slice_get (periods_of state.rows) c.args.i) c.in-Some.study.now c.at.result.now c.in-Some.ensures.study c.at.ensures

pub balance_by-requires-in-Ok : goal.balance_by-requires-in-Ok
balance_by-requires-in-Ok c =
    let state = c.args.self.now.state in
    let rows_is = ap (λ (h : Held). h.state.rows) c.self.view_is in
    studied_at state c.self.inside.book c.args.i c.in-Ok.graph c.in_ok-study-in-Ok.study c.assemble.result rows_is c.requires c.in-Ok.is c.assemble.ensures.answer c.in_ok-study-in-Ok.ensures
