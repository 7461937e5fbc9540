-- Statement. As long as a session stores no row that states version 2, the book answers as in a session of version 1.
use Rattle.std.specs.Prelude.{◌≡◌, ℕ, Bool, true, false, List, Option, Some, Result, Ok, Err}
use Rattle.pb_form.specs.declared.fault.FormFault.{FormFault}
use Rattle.pb_site.specs.declared.declared.Declared.TheVariants.{Version2}
use Rattle.pb_site.specs.declared.declared.Version.TheVariants.{One}
use Rattle.pb_site.specs.Site.{version_of}
use Rattle.pb_kinds.specs.declared.costs.NamedCost.{NamedCost}
use Rattle.pb_kinds.specs.declared.rows.Effect.{Effect}
use Rattle.pb_kinds.specs.declared.rows.Effect.TheVariants.{Declares}
use Rattle.pb_kinds.specs.declared.rows.Request.{Request}
use Rattle.pb_kinds.specs.declared.rows.Request.TheVariants.{Store}
use Rattle.pb_kinds.specs.Costs.{named_costs}
use Rattle.pb_kinds.specs.Requests.{request_in}
use Rattle.pb_book.specs.declared.answer.Refused.{Refused}
use Rattle.pb_kinds.specs.declared.rows.StoredRow.{StoredRow}
use Rattle.pb_book.specs.Answer.{Answer, Refuses, Stores, answer_of, answer_to, cause_of, unless_refused}
use Rattle.pb_book.specs.Assays.{assays_of}
use Rattle.pb_book.specs.Refusals.{refusal_behind}
use Rattle.pb_book.specs.Rows.{declared_of, facts_of, periods_of}

-- the first cause to refuse a row, as in a session of version 1
abbrev pub first_refusal_of : List StoredRow → Effect → Option Refused
first_refusal_of rows effect = refusal_behind One (declared_of rows) (facts_of rows) (periods_of rows) (assays_of rows) effect

-- the answer to a request, or to a record that has a fault, as in a session of version 1
abbrev pub first_answer_to : List StoredRow → List NamedCost → Request → Answer
first_answer_to rows costs (Store effect) = unless_refused (Stores effect) (first_refusal_of rows effect)
first_answer_to rows costs request = answer_to rows costs request

abbrev pub first_answer_if : List StoredRow → List NamedCost → Result Request FormFault → Answer
first_answer_if rows costs (Ok request) = first_answer_to rows costs request
first_answer_if rows costs (Err fault) = Refuses (cause_of fault)

-- the answer to a record, as in a session of version 1
abbrev pub first_answer_of : List StoredRow → List (List ℕ) → Answer
first_answer_of rows fields = first_answer_if rows (named_costs fields) (request_in (Some One) fields)

-- the row that joins the stored ones states that the session is of version 2
abbrev pub says_version : Answer → Bool
says_version (Stores (Declares Version2)) = true
says_version answer = false

-- A record gets the answer that it has in a session of version 1, unless it or an earlier record states that the session is of
-- version 2.
abbrev pub VersionOneLaw : Type 0
VersionOneLaw =
    (rows : List StoredRow) (fields : List (List ℕ)) → version_of (declared_of rows) ≡ One
    → says_version (answer_of rows fields) ≡ false → answer_of rows fields ≡ first_answer_of rows fields
