use Rattle.std.proofs.Common.{[], ap}
use Rattle.pb_session.specs.Kept.{Held}
use Rattle.pb_session.specs.Session.{IsReport}
use Rattle.pb_session.proofs.AppendingLemmas.{appends_such}
use Rattle.pb_session.proofs.ReportLemmas.{report_of}
use Rattle.pb_session.proofs.session.Session.write_graph.Goals as goal

pub write_study-requires : goal.write_study-requires
write_study-requires c = record {
  named = record { graph = c.args.graph.now; named = c.requires.names.each; formed = c.in_ok-study.ensures.formed };
}

pub returns-clause-ok : goal.returns-clause-ok
returns-clause-ok c =
    appends_such c.write_study.result (IsReport c.args.self.now.state [] c.args.names.now c.args.period.now c.args.graph.now) _ _ _
    (report_of c.args.self.now.state c.self.inside.options c.self.inside.form c.args.names.now c.args.period.now c.args.graph.now c.in_ok-study.study
    (ap (λ (h : Held). h.state.options) c.self.view_is) (ap (λ (h : Held). h.state.form) c.self.view_is) c.requires.names c.in_ok-study.ensures)
    c.write_study.ensures.ok
