-- What an answer says about the request that it answers.
use Rattle.std.proofs.Common.{◌≡◌, ℕ, Bool, true, false, List, Option, Some, None, Result, Ok, Err, refl, subst}
use Rattle.std.specs.Prelude.{slice_get}
use Rattle.pb_form.specs.declared.fault.FormFault.{FormFault}
use Rattle.pb_kinds.specs.declared.costs.NamedCost.{NamedCost}
use Rattle.pb_kinds.specs.declared.rows.Effect.{Effect}
use Rattle.pb_kinds.specs.declared.rows.Request.{Request}
use Rattle.pb_kinds.specs.declared.rows.Request.TheVariants as asked
use Rattle.pb_kinds.specs.Costs.{named_costs}
use Rattle.pb_kinds.specs.Requests.{request_in}
use Rattle.pb_book.specs.declared.answer.Accepted.{Accepted}
use Rattle.pb_book.specs.declared.answer.Accepted.TheVariants as answered
use Rattle.pb_book.specs.declared.answer.Refused.{Refused}
use Rattle.pb_periods.specs.declared.period.Period.{Period}
use Rattle.pb_kinds.specs.declared.rows.StoredRow.{StoredRow}
use Rattle.pb_book.specs.Answer.{Answer, Says, answer_if, answer_to, component_or_refused, window_or_refused, Stores, if_known, unless_refused}
use Rattle.pb_book.specs.Costs.{refusal_of_costs}
use Rattle.pb_book.specs.Laws.{AskedWindowLaw}
use Rattle.pb_book.specs.Refusals.{refusal_of}
use Rattle.pb_book.specs.Rows.{declared_of, period_place, periods_of, version_at}
use Rattle.pb_book.specs.Windows.{IsWindowAsked, refusal_of_ends, refusal_of_window}
use Rattle.std.specs.List.{list_any}
use Rattle.pb_facts.specs.Assays.{is_assay_over}
use Rattle.pb_book.specs.Assays.{assays_of}

-- what is stored was asked for, and there is no cause to refuse it; advice was asked for; a window is one that may be asked for; and
-- there is an assay of the component of a balance
abbrev pub AnswersTo : List StoredRow → Request → Answer → Type 0
AnswersTo rows request (Stores effect) = (request ≡ asked.Store effect) × (refusal_of rows effect ≡ None)
AnswersTo rows request (Says answered.Advise) = request ≡ asked.Advise
AnswersTo rows request (Says (answered.Window first last)) = IsWindowAsked rows first last
AnswersTo rows request (Says (answered.Component component period)) = (name : List ℕ) × (list_any (is_assay_over component name) (assays_of rows) ≡ true)
AnswersTo rows request answer = Unit {0}

stored : (rows : List StoredRow) (effect : Effect) (cause : Option Refused) → refusal_of rows effect ≡ cause → AnswersTo rows (asked.Store effect) (unless_refused (Stores effect) cause)
stored rows effect (Some cause) is = tt
stored rows effect None is = (refl, is)

known : (rows : List StoredRow) (request : Request) (says : ℕ → Accepted) → ((i : ℕ) → AnswersTo rows request (Says (says i))) → (place : Option ℕ)
    → AnswersTo rows request (if_known says place)
known rows request says each (Some i) = each i
known rows request says each None = tt

advised : (rows : List StoredRow) (cause : Option Refused) → AnswersTo rows asked.Advise (unless_refused (Says answered.Advise) cause)
advised rows (Some cause) = tt
advised rows None = refl

-- the periods at two places, if there is no cause to refuse a window between them
ends_of : (rows : List StoredRow) (first last : ℕ) (one other : Option Period) → slice_get (periods_of rows) first ≡ one → slice_get (periods_of rows) last ≡ other
    → refusal_of_ends rows one other ≡ None → IsWindowAsked rows first last
ends_of rows first last (Some one) (Some other) begins ends none = record { one = one; first_is = begins; other = other; last_is = ends; no_cause = none }
ends_of rows first last (Some one) None begins ends none = cc none
ends_of rows first last None other begins ends none = cc none

between : (rows : List StoredRow) (request : Request) (first last : ℕ) (cause : Option Refused) → refusal_of_window rows first last ≡ cause
    → AnswersTo rows request (unless_refused (Says (answered.Window first last)) cause)
between rows request first last (Some cause) is = tt
between rows request first last None is = ends_of rows first last (slice_get (periods_of rows) first) (slice_get (periods_of rows) last) refl refl is

windowed : (rows : List StoredRow) (request : Request) (one other : Option ℕ) → AnswersTo rows request (window_or_refused rows one other)
windowed rows request (Some first) (Some last) = between rows request first last (refusal_of_window rows first last) refl
windowed rows request (Some first) None = tt
windowed rows request None other = tt

balanced : (rows : List StoredRow) (request : Request) (component name : List ℕ) (assayed : Bool) → list_any (is_assay_over component name) (assays_of rows) ≡ assayed → (place : Option ℕ)
    → AnswersTo rows request (component_or_refused component assayed place)
balanced rows request component name true is (Some place) = (name, is)
balanced rows request component name true is None = tt
balanced rows request component name false is place = tt

pub answers_to : (rows : List StoredRow) (costs : List NamedCost) (request : Request) → AnswersTo rows request (answer_to rows costs request)
answers_to rows costs (asked.Store effect) = stored rows effect (refusal_of rows effect) refl
answers_to rows costs (asked.Report name) = known rows (asked.Report name) answered.Report (λ i. tt) (period_place rows name)
answers_to rows costs (asked.History name) = known rows (asked.History name) answered.History (λ i. tt) (period_place rows name)
answers_to rows costs asked.Advise = advised rows (refusal_of_costs (declared_of rows) costs)
answers_to rows costs (asked.Window first last) = windowed rows (asked.Window first last) (period_place rows first) (period_place rows last)
answers_to rows costs (asked.Component component name) =
    balanced rows (asked.Component component name) component name (list_any (is_assay_over component name) (assays_of rows)) refl (period_place rows name)
answers_to rows costs request = tt

-- ---- a window that is asked for

pub asked_window : AskedWindowLaw
asked_window rows fields first last is = by (request_in (version_at rows) fields) is
  where
    by : (request : Result Request FormFault) → answer_if rows (named_costs fields) request ≡ Says (answered.Window first last) → IsWindowAsked rows first last
    by (Err fault) says = cc says
    by (Ok request) says = subst (AnswersTo rows request) says (answers_to rows (named_costs fields) request)
