-- What the book says about a record, and what the record adds.
use Rattle.std.proofs.Common.{◌≡◌, ◌≢◌, ℕ, ◌<◌, Bool, true, false, List, [], length, Option, Some, None, IfSome, Result, Ok, Err, sym, ap, refl, subst, position, slice_get}
use Rattle.std.proofs.lemmas.List.Quantifiers.{position-Some}
use Rattle.std.specs.Prelude.{pos}
use Rattle.pb_kinds.specs.declared.rows.Effect.{Effect}
use Rattle.pb_periods.specs.declared.period.Period.{Period}
use Rattle.pb_book.specs.declared.answer.Refused.{Refused}
use Rattle.pb_book.specs.declared.answer.NotAccepted.{NotAccepted}
use Rattle.pb_book.specs.declared.answer.Accepted.{Accepted}
use Rattle.pb_book.specs.declared.answer.Accepted.TheVariants.{Advise}
use Rattle.pb_form.specs.declared.fault.FormFault.{FormFault}
use Rattle.pb_kinds.specs.declared.rows.Request.{Request}
use Rattle.pb_kinds.specs.declared.rows.Request.TheVariants as asked
use Rattle.pb_periods.specs.Apart.{is_named}
use Rattle.pb_kinds.specs.declared.rows.StoredRow.{StoredRow}
use Rattle.pb_book.specs.Rows.{declared_of, period_place, periods_of, version_at}
use Rattle.pb_kinds.specs.Requests.{request_in}
use Rattle.pb_kinds.specs.declared.costs.NamedCost.{NamedCost}
use Rattle.pb_kinds.specs.Costs.{named_costs}
use Rattle.pb_book.specs.Costs.{refusal_of_costs}
use Rattle.pb_book.specs.Refusals.{refusal_of}
use Rattle.pb_book.specs.Windows.{refusal_of_ends, window_refusal}
use Rattle.pb_book.specs.Answer.{Answer, Refuses, Says, Stores, after_answer, answer_if, answer_of, answer_to, component_or_refused, said_of, window_or_refused, if_known, unless_refused}
use Rattle.pb_book.specs.declared.answer.Accepted.TheVariants as answered
use Rattle.pb_session.specs.Session.{AddsAccepted, AddsBy, SessionState, cause_in}
use Rattle.pb_session.specs.Accepted.{IsOfPeriods}
use Rattle.std.specs.List.{list_any}
use Rattle.pb_facts.specs.Assays.{is_assay_over}
use Rattle.pb_book.specs.Assays.{assays_of}

-- what the book says about a record that it accepts, and about one that it refuses
abbrev said_ok : Accepted → Result Accepted NotAccepted
said_ok accepted = Ok accepted

abbrev said_err : Refused → Result Accepted NotAccepted
said_err cause = Err (NotAccepted.Refused cause)

-- an accepted record's answer isn't a refusal
pub accepted_is : (answer : Answer) (accepted : Accepted) → said_ok accepted ≡ said_of answer → None ≡ cause_in answer
accepted_is (Refuses cause) accepted is = cc is
accepted_is (Stores effect) accepted is = refl
accepted_is (Says said) accepted is = refl

same_accepted : (a b : Accepted) → said_ok a ≡ said_ok b → a ≡ b
same_accepted a b is = cc is

-- what an accepted record adds, after it, is what its answer adds
pub accepted_adds : (state new : SessionState) (at : ℕ) (costs : List NamedCost) (answer : Answer) (accepted : Accepted) (text : List ℕ) → said_ok accepted ≡ said_of answer
    → new ≡ record { options = state.options; form = state.form; rows = after_answer state.rows at answer } → AddsAccepted new costs accepted text → AddsBy state at costs answer text
accepted_adds state new at costs (Refuses cause) accepted text is new_is adds = cc is
accepted_adds state new at costs (Stores effect) accepted text is new_is adds = subst (λ (a : Accepted). AddsAccepted new costs a text) (same_accepted accepted Accepted.Stored is) adds
accepted_adds state new at costs (Says said) accepted text is new_is adds =
    subst (λ (s : SessionState). AddsAccepted s costs said text) new_is (subst (λ (a : Accepted). AddsAccepted new costs a text) (same_accepted accepted said is) adds)

-- the answer to a record asks for a report, a history or a balance of a period that exists, or for a window from one to another
abbrev pub AnswersOf : List StoredRow → Answer → Type 0
AnswersOf rows (Says accepted) = IsOfPeriods rows accepted
AnswersOf rows answer = Unit {0}

-- a report, a history or a balance is of a period that exists, and a window from one to another
pub of_periods : (rows new : List StoredRow) (at : ℕ) (answer : Answer) (accepted : Accepted) → said_ok accepted ≡ said_of answer → AnswersOf rows answer
    → new ≡ after_answer rows at answer → IsOfPeriods new accepted
of_periods rows new at (Refuses cause) accepted is of is_new = cc is
of_periods rows new at (Stores effect) accepted is of is_new = subst (λ (a : Accepted). IsOfPeriods new a) (sym (same_accepted accepted Accepted.Stored is)) tt
of_periods rows new at (Says said) accepted is of is_new =
    let here : IsOfPeriods new said = subst (λ (r : List StoredRow). IsOfPeriods r said) (sym is_new) of in
    subst (λ (a : Accepted). IsOfPeriods new a) (sym (same_accepted accepted said is)) here

pub some_period : Period
some_period = record { name = []; first = pos 0; last = pos 0; closed = false }

-- what is found is there
found_within : (name : List ℕ) (periods : List Period) (found : Option ℕ) → position (is_named name) periods ≡ found → IfSome found (λ i. i < length periods)
found_within name periods (Some i) is = (position-Some (is_named name) periods i some_period is).0
found_within name periods None is = tt

periods_there : (rows : List StoredRow) (says : ℕ → Accepted) → ((i : ℕ) → i < length (periods_of rows) → IsOfPeriods rows (says i)) → (found : Option ℕ)
    → IfSome found (λ i. i < length (periods_of rows)) → AnswersOf rows (if_known says found)
periods_there rows says each (Some i) lt = each i lt
periods_there rows says each None lt = tt

-- an answer about a period that is found is about one that exists
of_period : (rows : List StoredRow) (says : ℕ → Accepted) → ((i : ℕ) → i < length (periods_of rows) → IsOfPeriods rows (says i)) → (name : List ℕ)
    → AnswersOf rows (if_known says (period_place rows name))
of_period rows says each name = periods_there rows says each (period_place rows name) (found_within name (periods_of rows) (period_place rows name) refl)

components_of : (rows : List StoredRow) (component : List ℕ) (assayed : Bool) (found : Option ℕ) → IfSome found (λ i. i < length (periods_of rows))
    → AnswersOf rows (component_or_refused component assayed found)
components_of rows component true (Some i) lt = lt
components_of rows component true None lt = tt
components_of rows component false found lt = tt

-- periods at two places, with no cause to refuse a window between them
asked_of : (rows : List StoredRow) (first last : ℕ) (one other : Option Period) → slice_get (periods_of rows) first ≡ one → slice_get (periods_of rows) last ≡ other
    → AnswersOf rows (unless_refused (Says (answered.Window first last)) (refusal_of_ends rows one other))
asked_of rows first last None other first_is last_is = tt
asked_of rows first last (Some one) None first_is last_is = tt
asked_of rows first last (Some one) (Some other) first_is last_is = by (window_refusal rows one other) refl
  where
    by : (cause : Option Refused) → window_refusal rows one other ≡ cause → AnswersOf rows (unless_refused (Says (answered.Window first last)) cause)
    by (Some cause) is = tt
    by None none = record { one = one; first_is = first_is; other = other; last_is = last_is; no_cause = none }

windows_of : (rows : List StoredRow) (first last : Option ℕ) → AnswersOf rows (window_or_refused rows first last)
windows_of rows (Some first) (Some last) = asked_of rows first last (slice_get (periods_of rows) first) (slice_get (periods_of rows) last) refl refl
windows_of rows (Some first) None = tt
windows_of rows None last = tt

stores_of : (rows : List StoredRow) (effect : Effect) (cause : Option Refused) → AnswersOf rows (unless_refused (Stores effect) cause)
stores_of rows effect (Some cause) = tt
stores_of rows effect None = tt

advises_of : (rows : List StoredRow) (cause : Option Refused) → AnswersOf rows (unless_refused (Says answered.Advise) cause)
advises_of rows (Some cause) = tt
advises_of rows None = tt

answers_to : (rows : List StoredRow) (costs : List NamedCost) (request : Request) → AnswersOf rows (answer_to rows costs request)
answers_to rows costs (asked.Store effect) = stores_of rows effect (refusal_of rows effect)
answers_to rows costs (asked.Report name) = of_period rows answered.Report (λ i lt. lt) name
answers_to rows costs (asked.History name) = of_period rows answered.History (λ i lt. lt) name
answers_to rows costs (asked.Component component name) =
    components_of rows component (list_any (is_assay_over component name) (assays_of rows)) (period_place rows name) (found_within name (periods_of rows) (period_place rows name) refl)
answers_to rows costs (asked.Window first last) = windows_of rows (period_place rows first) (period_place rows last)
answers_to rows costs asked.Advise = advises_of rows (refusal_of_costs (declared_of rows) costs)
answers_to rows costs request = tt

answers_if : (rows : List StoredRow) (costs : List NamedCost) (request : Result Request FormFault) → AnswersOf rows (answer_if rows costs request)
answers_if rows costs (Err fault) = tt
answers_if rows costs (Ok request) = answers_to rows costs request

pub answers : (rows : List StoredRow) (fields : List (List ℕ)) → AnswersOf rows (answer_of rows fields)
answers rows fields = answers_if rows (named_costs fields) (request_in (version_at rows) fields)

-- an accepted record that stores nothing doesn't change the rows
pub unchanged_by : (rows : List StoredRow) (at : ℕ) (answer : Answer) (accepted : Accepted) → said_ok accepted ≡ said_of answer
    → accepted ≢ Accepted.Stored → after_answer rows at answer ≡ rows
unchanged_by rows at (Refuses cause) accepted is other = refl
unchanged_by rows at (Stores effect) accepted is other = absurd (other (same_accepted accepted Accepted.Stored is))
unchanged_by rows at (Says said) accepted is other = refl

same_refusal : (a b : Refused) → said_err a ≡ said_err b → a ≡ b
same_refusal a b is = cc is

-- a record that the book refuses has this cause for an answer
pub refused_is : (answer : Answer) (cause : Refused) → said_err cause ≡ said_of answer → answer ≡ Refuses cause
refused_is (Refuses other) cause is = ap Refuses (sym (same_refusal cause other is))
refused_is (Stores effect) cause is = cc is
refused_is (Says said) cause is = cc is

-- a record that asks for advice, according to the book, has that answer, and doesn't change the rows
pub advice_is : (rows new : List StoredRow) (at : ℕ) (answer : Answer) → said_ok Advise ≡ said_of answer → new ≡ after_answer rows at answer → (answer ≡ Says Advise) × (new ≡ rows)
advice_is rows new at (Refuses cause) is is_new = cc is
advice_is rows new at (Stores effect) is is_new = absurd (cc is)
advice_is rows new at (Says said) is is_new = (ap Says (sym (same_accepted Advise said is)), is_new)
