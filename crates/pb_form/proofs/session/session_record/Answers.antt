use Rattle.std.specs.Prelude.{IfOk}
use Rattle.std.proofs.Common.{◌≡◌, ◌∙◌, length, ap, subst, sym}
use Rattle.std.proofs.lemmas.List.{length-map}
use Rattle.std.proofs.lemmas.Result.{IfOk-weaker}
use Rattle.pb_form.proofs.KindLemmas.{one_kind}
use Rattle.pb_form.specs.Columns.{Schema}
use Rattle.pb_form.specs.Given.{values_as}
use Rattle.pb_form.specs.Seen.{column_seen}
use Rattle.pb_form.specs.Texts.{texts_of}
use Rattle.pb_form.specs.Writing.{FitEach, Writes}
use Rattle.pb_form.proofs.session.session_record.Goals as goal

pub write-requires-clause-each : goal.write-requires-clause-each
write-requires-clause-each c =
    let same = ap (λ (s : Schema). length s.columns) c.session_schema.ensures.value in
    c.requires.each ∙ sym same ∙ length-map c.session_schema.result.now.columns.now column_seen

pub write-requires-clause-fit : goal.write-requires-clause-fit
write-requires-clause-fit c =
    subst (λ (s : Schema). FitEach s.columns (values_as s.columns c.args.values.now)) (sym c.session_schema.ensures.value) c.requires.fit

pub returns-clause-value : goal.returns-clause-value
returns-clause-value c =
    subst (λ (s : Schema). IfOk c.write.result (Writes s (values_as s.columns c.args.values.now))) c.session_schema.ensures.value c.write.ensures.value

pub returns-clause-fields : goal.returns-clause-fields
returns-clause-fields c =
    subst (λ (s : Schema). IfOk c.write.result (λ row. row ≡ texts_of s.columns (values_as s.columns c.args.values.now))) c.session_schema.ensures.value c.write.ensures.fields

pub returns-clause-kind : goal.returns-clause-kind
returns-clause-kind c =
    let writes = subst (λ (s : Schema). IfOk c.write.result (Writes s (values_as s.columns c.args.values.now))) c.session_schema.ensures.value c.write.ensures.value in
    IfOk-weaker c.write.result _ _ (λ row writes. one_kind c.args.kind _ row writes) writes
