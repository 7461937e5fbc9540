use Rattle.std.specs.Prelude.{Result, Ok, Err}
use Rattle.std.proofs.Common.{◌≡◌, ◌∙◌, List, ap, subst, sym}
use Rattle.pb_form.specs.Columns.{Schema}
use Rattle.pb_form.specs.Reading.{row_read}
use Rattle.pb_form.specs.SessionRows.{session_schema}
use Rattle.pb_form.specs.Value.{Value}
use Rattle.pb_form.specs.Writing.{FitEach}
use Rattle.pb_form.specs.declared.fault.FormFault.{FormFault}
use Rattle.pb_kinds.specs.declared.rows.Request.{Request}
use Rattle.pb_kinds.specs.Ranges.{IsRequestInRange}
use Rattle.pb_kinds.specs.There.{request_by}
use Rattle.pb_kinds.proofs.RangeLemmas.{asked_in_range}
use Rattle.pb_kinds.proofs.reading.asked_by_values.Goals as goal

abbrev read_as : Result (List Value) FormFault → Result (List Value) FormFault
read_as read = read

pub returns-in-Err-clause-value : goal.returns-in-Err-clause-value
returns-in-Err-clause-value c =
    let reads : row_read (session_schema c.args.kind) c.args.fields.now ≡ read_as (Err c.in-Err.fault) =
    ap (λ (s : Schema). row_read s c.args.fields.now) (sym c.session_schema.ensures.value) ∙ sym c.read.ensures.value ∙ c.in-Err.is in
    sym (ap (request_by c.args.kind) reads)

pub returns-in-Ok-clause-value : goal.returns-in-Ok-clause-value
returns-in-Ok-clause-value c =
    let reads : row_read (session_schema c.args.kind) c.args.fields.now ≡ read_as (Ok c.in-Ok.values) =
    ap (λ (s : Schema). row_read s c.args.fields.now) (sym c.session_schema.ensures.value) ∙ sym c.read.ensures.value ∙ c.in-Ok.is in
    let ok : Request → Result Request FormFault = λ request. Ok request in
    ap ok c.request_of.ensures ∙ sym (ap (request_by c.args.kind) reads)

pub returns-in-Ok-clause-in_range : goal.returns-in-Ok-clause-in_range
returns-in-Ok-clause-in_range c =
    let fit = subst (λ (s : Schema). FitEach s.columns c.in-Ok.values) c.session_schema.ensures.value (rw c.in-Ok.is at c.read.ensures.fit) in
    subst IsRequestInRange (sym c.request_of.ensures) (asked_in_range c.args.kind c.in-Ok.values fit)
