use Rattle.std.specs.Prelude.{Option, Result, Ok, Err}
use Rattle.std.proofs.Common.{◌≡◌, ◌∙◌, true, ap, sym}
use Rattle.pb_form.specs.declared.fault.FormFault.{FormFault}
use Rattle.pb_site.specs.declared.declared.Version.{Version}
use Rattle.pb_kinds.specs.Costs.{named_costs}
use Rattle.pb_kinds.specs.Versions.{may_ask}
use Rattle.pb_kinds.specs.Requests.{request_in}
use Rattle.pb_kinds.specs.declared.rows.Request.{Request}
use Rattle.pb_book.specs.declared.answer.Accepted.{Accepted}
use Rattle.pb_book.specs.declared.answer.NotAccepted.{NotAccepted}
use Rattle.pb_book.specs.declared.answer.Refused.{Refused}
use Rattle.pb_book.specs.Answer.{answer_if, said_of}
use Rattle.pb_book.specs.Rows.{version_at}
use Rattle.pb_book.proofs.AcceptedLemmas.{accepted_answer}
use Rattle.pb_book.proofs.VersionOneLemmas.{version_one}
use Rattle.pb_book.proofs.book.Book.accept_any.Goals as goal

abbrev asked_as : Result Request FormFault → Result Request FormFault
asked_as asked = asked

pub returns-in-Ok-clause-accepted : goal.returns-in-Ok-clause-accepted
returns-in-Ok-clause-accepted c =
    let may : may_ask (version_at c.args.self.now) c.in-Ok.request ≡ true =
    ap (λ (v : Option Version). may_ask v c.in-Ok.request) (sym c.version.ensures.value) ∙ rw c.in-Ok.is at c.read_request.ensures.may in
    accepted_answer c.args.self.now c.answer.new.self c.args.at (named_costs c.args.row.now) c.in-Ok.request c.answer.result c.version.ensures.accepted
    (rw c.in-Ok.is at c.read_request.ensures.in_range) may c.answer.ensures.stored c.answer.ensures.unchanged

pub returns-in-Err-clause-accepted : goal.returns-in-Err-clause-accepted
returns-in-Err-clause-accepted c = c.version.ensures.accepted

pub returns-in-Ok-clause-version_1 : goal.returns-in-Ok-clause-version_1
returns-in-Ok-clause-version_1 c = λ one unsaid known.
    let old = c.args.self.now in
    let fields = c.args.row.now in
    let asks : request_in (version_at old) fields ≡ asked_as (Ok c.in-Ok.request) =
    ap (λ (v : Option Version). request_in v fields) (sym c.version.ensures.value) ∙ sym c.read_request.ensures.value ∙ c.in-Ok.is in
    c.answer.ensures.answer known ∙ ap said_of (sym (ap (answer_if old (named_costs fields)) asks) ∙ version_one old fields one unsaid)

pub returns-in-Err-clause-version_1 : goal.returns-in-Err-clause-version_1
returns-in-Err-clause-version_1 c = λ one unsaid known.
    let old = c.args.self.now in
    let fields = c.args.row.now in
    let asks : request_in (version_at old) fields ≡ asked_as (Err c.in-Err.fault) =
    ap (λ (v : Option Version). request_in v fields) (sym c.version.ensures.value) ∙ sym c.read_request.ensures.value ∙ c.in-Err.is in
    let told : (let result : Result Accepted NotAccepted = Err (NotAccepted.Refused c.from.result) in result) ≡ said_of (answer_if old (named_costs fields) (asked_as (Err c.in-Err.fault))) =
    ap (λ (cause : Refused). (let result : Result Accepted NotAccepted = Err (NotAccepted.Refused cause) in result)) c.from.ensures in
    told ∙ ap said_of (sym (ap (answer_if old (named_costs fields)) asks) ∙ version_one old fields one unsaid)
