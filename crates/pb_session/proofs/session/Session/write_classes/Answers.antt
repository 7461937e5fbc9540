use Rattle.std.proofs.Common.{ap, get_or}
use Rattle.std.proofs.lemmas.Option.{slice_get-get_or}
use Rattle.pb_graph.proofs.CertificateLemmas.{witness_within}
use Rattle.pb_report.specs.Form.{text_in}
use Rattle.pb_report.specs.Design.{design_rows}
use Rattle.pb_session.specs.Kept.{Held}
use Rattle.pb_session.specs.Session.{IsDesign}
use Rattle.pb_session.proofs.AppendingLemmas.{appends_such}
use Rattle.pb_session.proofs.session.Session.write_classes.Goals as goal

pub write_design-requires : goal.write_design-requires
write_design-requires c = record {
  named = c.requires.names.each;
  each = c.in_ok-classes.ensures.each;
  within = λ j d lt.
      let classes = c.in_ok-classes.classes in
      let certified = (c.in_ok-classes.ensures.right j (get_or classes j d) (slice_get-get_or classes j d lt)).certified in
      witness_within c.args.graph.now j (get_or classes j d) certified;
}

pub returns-clause-ok : goal.returns-clause-ok
returns-clause-ok c =
    let names = c.args.names.now in
    let graph = c.args.graph.now in
    let classes = c.in_ok-classes.classes in
    let text = text_in c.self.inside.form (design_rows names graph classes) in
    let here : IsDesign c.args.self.now.state names graph text = record {
      limits = c.requires.limits;
      named = c.requires.names;
      classes = classes;
      are = c.in_ok-classes.ensures;
      rows = ap (λ (h : Held). text_in h.state.form (design_rows names graph classes)) c.self.view_is;
    } in
    appends_such _ (IsDesign c.args.self.now.state names graph) _ _ text here c.write_design.ensures.ok
