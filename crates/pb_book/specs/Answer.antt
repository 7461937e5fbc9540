-- Statement. The answer to a record, given the rows stored before it, and the rows stored after it.
use Rattle.std.specs.Prelude.{ℕ, Bool, true, false, List, Option, Some, Result, Ok, Err, if◌then◌else◌}
use Rattle.std.specs.Option.{option_map_or}
use Rattle.pb_form.specs.declared.fault.FormFault.{FormFault}
use Rattle.pb_form.specs.declared.fault.FormFault.TheVariants as fault
use Rattle.pb_kinds.specs.declared.costs.NamedCost.{NamedCost}
use Rattle.pb_kinds.specs.declared.rows.Effect.{Effect}
use Rattle.pb_kinds.specs.declared.rows.Request.{Request}
use Rattle.pb_kinds.specs.declared.rows.Request.TheVariants as asked
use Rattle.pb_kinds.specs.Costs.{named_costs}
use Rattle.pb_kinds.specs.Requests.{request_in}
use Rattle.pb_book.specs.declared.answer.Accepted.{Accepted}
use Rattle.pb_book.specs.declared.answer.Accepted.TheVariants.{Blank, Design, Report, History, Advise, Window, Component}
use Rattle.pb_book.specs.declared.answer.NotAccepted.{NotAccepted}
use Rattle.pb_book.specs.declared.answer.Refused.{Refused}
use Rattle.pb_book.specs.declared.answer.Refused.TheVariants.{Kind, Fields, BadName, Number, Date, Unknown, Duplicate, Order, Mismatch, Sealed, Closed, Range, Full}
use Rattle.pb_kinds.specs.declared.rows.StoredRow.{StoredRow}
use Rattle.pb_book.specs.Costs.{refusal_of_costs}
use Rattle.pb_book.specs.Refusals.{refusal_of}
use Rattle.pb_book.specs.Rows.{declared_of, period_place, version_at, with_row}
use Rattle.pb_book.specs.Windows.{refusal_of_window}
use Rattle.std.specs.List.{list_any}
use Rattle.pb_facts.specs.Assays.{is_assay_over}
use Rattle.pb_book.specs.Assays.{assays_of}

-- the numbers of the causes in the output
abbrev pub cause_code : Refused → ℕ
cause_code Kind = 1
cause_code Fields = 2
cause_code BadName = 3
cause_code Number = 4
cause_code Date = 5
cause_code Unknown = 6
cause_code Duplicate = 7
cause_code Order = 8
cause_code Mismatch = 9
cause_code Sealed = 10
cause_code Closed = 11
cause_code Range = 12
cause_code Full = 13

-- the cause for a fault in a record's fields; a word that isn't one of its column's words counts as an unknown kind
abbrev pub cause_of : FormFault → Refused
cause_of fault.Kind = Kind
cause_of fault.Fields = Fields
cause_of fault.Name = BadName
cause_of fault.Number = Number
cause_of fault.Date = Date
cause_of fault.Word = Kind

-- the answer to a record: it is refused, its row joins the stored ones, or the book says what the record asks for
pub data Answer : Type 0 where
  Refuses : Refused → Answer
  Stores : Effect → Answer
  Says : Accepted → Answer

-- this answer, unless there is a cause to refuse the record
abbrev pub unless_refused : Answer → Option Refused → Answer
unless_refused answer cause = option_map_or Refuses cause answer

-- what the book says of a period, by its place; a record that names no period is refused
abbrev pub if_known : (ℕ → Accepted) → Option ℕ → Answer
if_known accepted place = option_map_or (λ (period : ℕ). Says (accepted period)) place (Refuses Unknown)

-- a window is refused unless its first and last periods exist
abbrev pub window_or_refused : List StoredRow → Option ℕ → Option ℕ → Answer
window_or_refused rows (Some first) (Some last) = unless_refused (Says (Window first last)) (refusal_of_window rows first last)
window_or_refused rows first last = Refuses Unknown

-- the balance of a component over a period is refused unless the period exists and there is an assay of the component over it
abbrev pub component_or_refused : List ℕ → Bool → Option ℕ → Answer
component_or_refused component assayed place = if assayed then if_known (Component component) place else Refuses Unknown

-- the answer to a request, given the costs that its record names
abbrev pub answer_to : List StoredRow → List NamedCost → Request → Answer
answer_to rows costs asked.Blank = Says Blank
answer_to rows costs (asked.Store effect) = unless_refused (Stores effect) (refusal_of rows effect)
answer_to rows costs asked.Design = Says Design
answer_to rows costs (asked.Report period) = if_known Report (period_place rows period)
answer_to rows costs (asked.History period) = if_known History (period_place rows period)
answer_to rows costs asked.Advise = unless_refused (Says Advise) (refusal_of_costs (declared_of rows) costs)
answer_to rows costs (asked.Window first last) = window_or_refused rows (period_place rows first) (period_place rows last)
answer_to rows costs (asked.Component component period) =
    component_or_refused component (list_any (is_assay_over component period) (assays_of rows)) (period_place rows period)

-- the answer to a request, or to a record that has a fault
abbrev pub answer_if : List StoredRow → List NamedCost → Result Request FormFault → Answer
answer_if rows costs (Ok request) = answer_to rows costs request
answer_if rows costs (Err fault) = Refuses (cause_of fault)

-- The answer to a record, given these stored rows. Empty fields at its end don't count.
abbrev pub answer_of : List StoredRow → List (List ℕ) → Answer
answer_of rows fields = answer_if rows (named_costs fields) (request_in (version_at rows) fields)

-- what the book returns for an answer
abbrev pub said_of : Answer → Result Accepted NotAccepted
said_of (Refuses cause) = Err (NotAccepted.Refused cause)
said_of (Stores effect) = Ok Accepted.Stored
said_of (Says accepted) = Ok accepted

-- a record is refused
abbrev pub is_refused : Answer → Bool
is_refused (Refuses cause) = true
is_refused answer = false

-- the stored rows after an answer to the record with this number: an accepted row joins them
abbrev pub after_answer : List StoredRow → ℕ → Answer → List StoredRow
after_answer rows at (Stores effect) = with_row rows at effect
after_answer rows at answer = rows

-- the stored rows after the record with this number
abbrev pub after : List StoredRow → ℕ → List (List ℕ) → List StoredRow
after rows at fields = after_answer rows at (answer_of rows fields)
