use Rattle.std.proofs.Common.{ap}
use Rattle.pb_session.specs.Kept.{Held}
use Rattle.pb_session.proofs.ReportLemmas.{report_of}
use Rattle.pb_session.proofs.session.Session.report_graph.Goals as goal

pub write_study-requires : goal.write_study-requires
write_study-requires c = record {
  named = record { graph = c.args.graph.now; named = c.requires.names.each; formed = c.in_ok-study.ensures.formed };
}

pub returns-clause-ok : goal.returns-clause-ok
returns-clause-ok c = (
  _,
  c.in_ok-write_study.ensures.ok,
  report_of c.args.self.now.state c.self.inside.options c.self.inside.form c.args.names.now c.args.period.now c.args.graph.now c.in_ok-study.study
      (ap (λ (h : Held). h.state.options) c.self.view_is) (ap (λ (h : Held). h.state.form) c.self.view_is) c.requires.names c.in_ok-study.ensures,
)
