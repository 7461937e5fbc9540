use Rattle.std.proofs.Common.{◌∷◌, [], ◌++◌, ◌∙◌, ap}
use Rattle.pb_report.specs.Component.{component_row}
use Rattle.pb_report.specs.declared.form.Form.{Form}
use Rattle.pb_report.specs.Form.{text_in}
use Rattle.pb_session.specs.Kept.{Held}
use Rattle.pb_session.proofs.WindowedLemmas.{after_ok}
use Rattle.pb_session.proofs.session.Session.write_component.Goals as goal

pub returns-clause-ok : goal.returns-clause-ok
returns-clause-ok c =
    let state = c.args.self.now.state in
    let rows = component_row c.args.component.now c.args.period.now ∷ [] in
    let form_is = ap (λ (h : Held). h.state.form) c.self.view_is in
    after_ok c.report_after.result state rows c.args.names.now c.args.period.now c.args.graph.now _ _ _
    (c.in_ok-write_component.ensures.ok ∙ ap (λ (form : Form). c.args.out.now.items ++ text_in form rows) form_is) c.report_after.ensures.ok
