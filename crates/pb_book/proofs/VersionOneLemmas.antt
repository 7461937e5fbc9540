-- A record of a session of version 1 gets the answer of version 1.
use Rattle.std.specs.Prelude.{Some, Result, Ok, if◌then◌else◌}
use Rattle.std.proofs.Common.{◌≡◌, ◌∙◌, Bool, true, false, List, [], ◌∷◌, refl, ap}
use Rattle.pb_rows.specs.Records.{without_trailing_empty}
use Rattle.pb_form.specs.SessionRows.{kinds_of_version_1, session_schema}
use Rattle.pb_form.specs.Telling.{is_of}
use Rattle.pb_form.specs.declared.fault.FormFault.{FormFault}
use Rattle.pb_form.specs.declared.session.SessionKind.TheVariants as kind
use Rattle.pb_site.specs.declared.declared.Declared.TheVariants.{Version2}
use Rattle.pb_site.specs.declared.declared.Version.{Version}
use Rattle.pb_site.specs.declared.declared.Version.TheVariants.{One}
use Rattle.pb_site.specs.Site.{version_of}
use Rattle.pb_kinds.specs.declared.costs.NamedCost.{NamedCost}
use Rattle.pb_kinds.specs.declared.rows.Request.{Request}
use Rattle.pb_kinds.specs.declared.rows.Request.TheVariants as asked
use Rattle.pb_kinds.specs.Costs.{named_costs}
use Rattle.pb_kinds.specs.Requests.{asked_by, declares, request_in}
use Rattle.pb_kinds.specs.declared.rows.StoredRow.{StoredRow}
use Rattle.pb_book.specs.Answer.{answer_if, Stores, unless_refused}
use Rattle.pb_book.specs.Assays.{assays_of}
use Rattle.pb_book.specs.Refusals.{refusal_behind}
use Rattle.pb_book.specs.Rows.{declared_of, facts_of, periods_of}
use Rattle.pb_book.specs.VersionOne.{VersionOneLaw, first_answer_if, says_version}

-- the answer to what was asked
same_answer : (rows : List StoredRow) (costs : List NamedCost) (request : Result Request FormFault) → version_of (declared_of rows) ≡ One
    → answer_if rows costs request ≡ first_answer_if rows costs request
same_answer rows costs (Ok (asked.Store effect)) one =
    ap (λ (version : Version). unless_refused (Stores effect) (refusal_behind version (declared_of rows) (facts_of rows) (periods_of rows) (assays_of rows) effect)) one
same_answer rows costs request one = refl

pub version_one : VersionOneLaw
unfolding request_in
version_one [] fields one unsaid = by (is_of (without_trailing_empty fields) (session_schema kind.Version)) unsaid
  where
    costs : List NamedCost
    costs = named_costs fields

    by : (says : Bool)
        → says_version (answer_if [] costs (if says then Ok (declares Version2) else asked_by kinds_of_version_1 (without_trailing_empty fields))) ≡ false
        → answer_if [] costs (if says then Ok (declares Version2) else asked_by kinds_of_version_1 (without_trailing_empty fields))
        ≡ first_answer_if [] costs (asked_by kinds_of_version_1 (without_trailing_empty fields))
    by true unsaid = cc unsaid
    by false unsaid = same_answer [] costs (asked_by kinds_of_version_1 (without_trailing_empty fields)) refl
version_one (stored ∷ rows) fields one unsaid =
    ap (λ (version : Version). answer_if (stored ∷ rows) (named_costs fields) (request_in (Some version) fields)) one
    ∙ same_answer (stored ∷ rows) (named_costs fields) (request_in (Some One) fields) one
