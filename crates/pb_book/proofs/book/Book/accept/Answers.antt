use Rattle.std.specs.Prelude.{Option, Result, Ok}
use Rattle.std.proofs.Common.{◌≡◌, ◌∙◌, ap, false, sym, true}
use Rattle.pb_form.specs.declared.fault.FormFault.{FormFault}
use Rattle.pb_site.specs.declared.declared.Version.{Version}
use Rattle.pb_kinds.specs.Costs.{named_costs}
use Rattle.pb_kinds.specs.Requests.{books, request_in}
use Rattle.pb_kinds.specs.Versions.{may_ask}
use Rattle.pb_kinds.specs.declared.rows.Request.{Request}
use Rattle.pb_book.specs.Answer.{answer_if, said_of}
use Rattle.pb_book.specs.Rows.{version_at}
use Rattle.pb_book.proofs.AcceptedLemmas.{accepted_answer}
use Rattle.pb_book.proofs.VersionOneLemmas.{version_one}
use Rattle.pb_book.proofs.book.Book.accept.Goals as goal

abbrev asked_as : Result Request FormFault → Result Request FormFault
asked_as asked = asked

pub returns-in-Some-clause-accepted : goal.returns-in-Some-clause-accepted
returns-in-Some-clause-accepted c =
    let may : may_ask (version_at c.args.self.now) (books false c.in-Some.fact) ≡ true =
    ap (λ (v : Option Version). may_ask v (books false c.in-Some.fact)) (sym c.version.ensures.value) ∙ c.in-Some.ensures.may in
    accepted_answer c.args.self.now c.book_fact.new.self c.args.at (named_costs c.args.row.now) (books false c.in-Some.fact) c.book_fact.result c.version.ensures.accepted
    c.in-Some.ensures.in_range may c.book_fact.ensures.stored c.book_fact.ensures.unchanged

pub returns-in-Some-clause-version_1 : goal.returns-in-Some-clause-version_1
returns-in-Some-clause-version_1 c = λ one unsaid known.
    let old = c.args.self.now in
    let fields = c.args.row.now in
    let asks : request_in (version_at old) fields ≡ asked_as (Ok (books false c.in-Some.fact)) =
    ap (λ (v : Option Version). request_in v fields) (sym c.version.ensures.value) ∙ c.in-Some.ensures.value in
    c.book_fact.ensures.answer known ∙ ap said_of (sym (ap (answer_if old (named_costs fields)) asks) ∙ version_one old fields one unsaid)
