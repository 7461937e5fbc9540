-- Inside. What stands at a place of a row's values, and what a record writes.
use Rattle.std.specs.Prelude.{◌≡◌, ◌≤ℤ◌, ◌^◌, ◌-◌, ◌/◌, ◌<◌, ℕ, ℤ, pos, neg_ℤ, true, List, [], length, Option, Result, Ok, Some}
use Rattle.std.specs.Result.{result_map_both, result_unwrap_or}
use Rattle.pb_rows.specs.Date.{IsDay}
use Rattle.pb_rows.specs.Name.{is_name}
use Rattle.pb_rows.specs.Records.{without_trailing_empty}
use Rattle.pb_form.specs.Reading.{fields_read, repeated, row_read}
use Rattle.pb_form.specs.Columns.{Column}
use Rattle.pb_form.specs.SessionRows.{kinds_of_version_1, kinds_of_version_2, session_columns, session_schema, session_tail}
use Rattle.pb_form.specs.Value.{Value}
use Rattle.pb_form.specs.Values.{day_in, name_in, number_in, reason_in, value_at}
use Rattle.pb_form.specs.Writing.{FitEach}
use Rattle.pb_form.specs.declared.fault.FormFault.{FormFault}
use Rattle.pb_form.specs.declared.session.SessionKind.{SessionKind}
use Rattle.pb_form.specs.declared.session.SessionKind.TheVariants.{Advise, BatchInService, MeteredInService, PlainInService, Reading, StreamBatch, StreamMetered, StreamPlain}
use Rattle.pb_facts.specs.declared.fact.Fact.{Fact}
use Rattle.pb_site.specs.declared.declared.Kind.{Kind}
use Rattle.pb_site.specs.declared.declared.Kind.TheVariants.{Metered, Batch, Plain}
use Rattle.pb_site.specs.declared.declared.Version.{Version}
use Rattle.pb_site.specs.declared.declared.Version.TheVariants.{One, Two}
use Rattle.pb_kinds.specs.declared.costs.NamedCost.{NamedCost}
use Rattle.pb_kinds.specs.declared.rows.Effect.{Effect}
use Rattle.pb_kinds.specs.declared.rows.Request.{Request}
use Rattle.pb_kinds.specs.declared.rows.Request.TheVariants.{Store}
use Rattle.pb_kinds.specs.Costs.{costs_in}
use Rattle.pb_kinds.specs.Requests.{reading_from, request_in, request_of}
use Rattle.pb_kinds.specs.Versions.{may_do}

-- a name
pub record IsNameThere (values : List Value) (place : ℕ) : Type 0 where
  pub name : List ℕ
  pub is : value_at name_in values place ≡ Some name
  pub form : is_name name ≡ true

-- a reason
pub record IsReasonThere (values : List Value) (place : ℕ) : Type 0 where
  pub reason : List ℕ
  pub is : value_at reason_in values place ≡ Some reason

-- a day
pub record IsDayThere (values : List Value) (place : ℕ) : Type 0 where
  pub day : ℤ
  pub is : value_at day_in values place ≡ Some day
  pub range : IsDay day

-- a number from lo to hi, both included
pub record IsNumberThere (lo hi : ℤ) (values : List Value) (place : ℕ) : Type 0 where
  pub number : ℤ
  pub is : value_at number_in values place ≡ Some number
  pub least : lo ≤ℤ number
  pub most : number ≤ℤ hi

-- a number of 64 bits
abbrev pub IsLongThere : List Value → ℕ → Type 0
IsLongThere values place = IsNumberThere (neg_ℤ (pos (2 ^ 63))) (pos (2 ^ 63 - 1)) values place

-- a record asks to store this effect, in each session whose rows may do it, and it doesn't end with an empty field
pub record WritesEffect (effect : Effect) (fields : List (List ℕ)) : Type 0 where
  pub asks : (version : Option Version) → may_do version effect ≡ true → request_in version fields ≡ Ok (Store effect)
  pub filled : without_trailing_empty fields ≡ fields

-- the columns of a named cost
abbrev pub cost_columns : List Column
cost_columns = session_tail Advise

-- what fields that are pairs of a stream and a cost say
abbrev pub pairs_read : List (List ℕ) → Result (List Value) FormFault
pairs_read pairs = fields_read (repeated cost_columns [] (length pairs)) pairs

-- the costs that values name, if values were read
abbrev pub costs_by : Result (List Value) FormFault → List NamedCost
costs_by read = costs_in (result_unwrap_or read [])

-- n pairs, each a name and a cost
pub record ArePairs (pairs : List (List ℕ)) (n : ℕ) : Type 0 where
  pub values : List Value
  pub read : pairs_read pairs ≡ Ok values
  pub half : n ≡ length pairs / 2
  pub few : length pairs < 2 ^ 64

-- the request of values that were read, or their fault
abbrev pub request_by : SessionKind → Result (List Value) FormFault → Result Request FormFault
request_by kind read = result_map_both (request_of kind) (λ fault. fault) read

-- the kinds of the rows of a session of a version
abbrev pub kinds_of : Version → List SessionKind
kinds_of One = kinds_of_version_1
kinds_of Two = kinds_of_version_2

-- the kind of the row of a stream
abbrev pub stream_kind : Kind → SessionKind
stream_kind Metered = StreamMetered
stream_kind Batch = StreamBatch
stream_kind Plain = StreamPlain

-- the kind of the row of a stream with days of service
abbrev pub served_stream_kind : Kind → SessionKind
served_stream_kind Metered = MeteredInService
served_stream_kind Batch = BatchInService
served_stream_kind Plain = PlainInService

-- the values of a row of a reading, whose fields have no fault, say a reading
pub record IsReadingIn (fields : List (List ℕ)) (fact : Fact) : Type 0 where
  pub values : List Value
  pub read : row_read (session_schema Reading) fields ≡ Ok values
  pub fit : FitEach (session_columns Reading) values
  pub is : fact ≡ reading_from values 1
