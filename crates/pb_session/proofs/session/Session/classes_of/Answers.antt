use Rattle.std.proofs.Common.{◌≡◌, List, IfOk, subst}
use Rattle.pb_study.specs.declared.results.StreamResult.{StreamResult}
use Rattle.pb_classify.specs.Classification.{IsClassification}
use Rattle.pb_classify.proofs.AlikeLaws.{alike_classes}
use Rattle.pb_stage.specs.Printed.{printed_classes}
use Rattle.pb_session.specs.Keeping.{classes_in}
use Rattle.pb_session.proofs.KeepingLemmas.{such_copy}
use Rattle.pb_session.proofs.session.Session.classes_of.Goals as goal

-- those that were reported last, copied
pub returns-in-Some : goal.returns-in-Some
returns-in-Some c =
    let stage = c.in-Some.stage.now in
    let alike = c.alike.ensures.0 c.if-alike.true in
    let own = rw c.in-Some.is at c.classes.ensures.list in
    let known = alike_classes stage.graph c.args.graph.now (printed_classes stage) c.requires alike own in
    such_copy c.classes_in.result (printed_classes stage) (IsClassification c.args.graph.now) known
    (subst (λ (results : List StreamResult). IfOk c.classes_in.result (λ classes. classes ≡ classes_in results)) c.as_slice.ensures c.classes_in.ensures)
