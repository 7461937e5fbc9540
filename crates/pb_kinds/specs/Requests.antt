-- Statement. What a record asks for, or the first fault of its fields.
use Rattle.std.specs.Prelude.{◌≡◌, ℕ, ◌+◌, ℤ, pos, Bool, true, false, List, [], Option, Some, None, Result, Ok, Err, if◌then◌else◌, unsigned_abs, unwrap_or}
use Rattle.std.specs.Result.{result_map_both}
use Rattle.pb_rows.specs.Records.{without_trailing_empty}
use Rattle.pb_form.specs.Reading.{row_read}
use Rattle.pb_form.specs.SessionRows.{kinds_of_version_1, kinds_of_version_2, session_schema, session_told}
use Rattle.pb_form.specs.Telling.{is_of}
use Rattle.pb_form.specs.Value.{Value}
use Rattle.pb_form.specs.Values.{day_in, name_in, number_at, reason_in, value_at}
use Rattle.pb_form.specs.declared.fault.FormFault.{FormFault}
use Rattle.pb_form.specs.declared.session.SessionKind.{SessionKind}
use Rattle.pb_form.specs.declared.session.SessionKind.TheVariants as kind
use Rattle.pb_site.specs.declared.declared.Declared.{Declared}
use Rattle.pb_site.specs.declared.declared.Declared.TheVariants.{Version2, Boundary, Tank, Strap, Stream, CritGlobal, CritNodal, CritMeasure}
use Rattle.pb_site.specs.declared.declared.Kind.{Kind}
use Rattle.pb_site.specs.declared.declared.Kind.TheVariants.{Metered, Batch, Plain}
use Rattle.pb_site.specs.declared.declared.Service.{Service}
use Rattle.pb_site.specs.declared.declared.Version.{Version}
use Rattle.pb_site.specs.declared.declared.Version.TheVariants.{One, Two}
use Rattle.pb_facts.specs.declared.fact.Change.TheVariants.{Amount, Level}
use Rattle.pb_facts.specs.declared.fact.Fact.{Fact}
use Rattle.pb_facts.specs.declared.fact.Fact.TheVariants.{Reading, Transfer, Dip}
use Rattle.pb_facts.specs.declared.assays.Assay.{Assay}
use Rattle.pb_kinds.specs.declared.rows.Edit.{Edit}
use Rattle.pb_kinds.specs.declared.rows.Edit.TheVariants.{Change, Strike}
use Rattle.pb_kinds.specs.declared.rows.Effect.TheVariants.{Declares, Opens, Books, Edits, Closes, Assays}
use Rattle.pb_kinds.specs.declared.rows.Request.{Request}
use Rattle.pb_kinds.specs.declared.rows.Request.TheVariants.{Blank, Store, Design, Report, History, Advise, Window, Component}

-- the name or the day at a place of a row's values; a place is only asked for what its column holds
abbrev pub name_there : List Value → ℕ → List ℕ
name_there values place = unwrap_or (value_at name_in values place) []

abbrev pub day_there : List Value → ℕ → ℤ
day_there values place = unwrap_or (value_at day_in values place) (pos 0)

-- a service whose first day is at a place, and its last day at the next
abbrev pub service_from : List Value → ℕ → Service
service_from values at = record { since = day_there values at; until = day_there values (at + 1) }

-- a stream of a kind, in service on every day or by a service
abbrev pub stream_of : Kind → Option Service → List Value → Declared
stream_of sort service values =
    Stream (name_there values 1) (name_there values 2) (name_there values 3) sort (number_at values 5) service

-- a fact whose columns begin at a place: after the word of its kind, or after `late` and that word
abbrev pub reading_from : List Value → ℕ → Fact
reading_from values at =
    Reading (name_there values at) (name_there values (at + 1)) (day_there values (at + 2)) (number_at values (at + 3))
    (number_at values (at + 4))

abbrev pub transfer_from : List Value → ℕ → Fact
transfer_from values at =
    Transfer (name_there values at) (name_there values (at + 1)) (day_there values (at + 2)) (day_there values (at + 3))
    (number_at values (at + 4)) (number_at values (at + 5))

abbrev pub dip_from : List Value → ℕ → Fact
dip_from values at =
    Dip (name_there values at) (name_there values (at + 1)) (day_there values (at + 2)) (number_at values (at + 3))
    (number_at values (at + 4)) (number_at values (at + 5))

-- the assay of a component in a stream over a period: a grade and its variance
abbrev pub assay_in : List Value → Assay
assay_in values = record {
  component = name_there values 1;
  stream = name_there values 2;
  period = name_there values 3;
  grade = record { ppm = number_at values 4; variance = number_at values 5 };
}

-- the fact of the id in the first column after the word is edited, for the reason in the column at a place
abbrev pub edits : Edit → List Value → ℕ → Request
edits edit values place = Store (Edits (name_there values 1) edit (unwrap_or (value_at reason_in values place) []))

-- a declaration is stored
abbrev pub declares : Declared → Request
declares declared = Store (Declares declared)

-- a fact is stored, on time or late
abbrev pub books : Bool → Fact → Request
books late fact = Store (Books fact late)

-- What a record of a kind asks for, by its values, the first of which is the kind's word.
abbrev pub request_of : SessionKind → List Value → Request
request_of kind.Version values = declares Version2
request_of kind.Boundary values = declares (Boundary (name_there values 1))
request_of kind.TankInService values =
    declares (Tank (name_there values 1) (number_at values 2) (Some (service_from values 3)))
request_of kind.MeteredInService values = declares (stream_of Metered (Some (service_from values 6)) values)
request_of kind.BatchInService values = declares (stream_of Batch (Some (service_from values 6)) values)
request_of kind.PlainInService values = declares (stream_of Plain (Some (service_from values 6)) values)
request_of kind.Unit values = declares (Declared.Unit (name_there values 1))
request_of kind.Tank values = declares (Tank (name_there values 1) (number_at values 2) None)
request_of kind.Strap values = declares (Strap (name_there values 1) (number_at values 2) (number_at values 3))
request_of kind.StreamMetered values = declares (stream_of Metered None values)
request_of kind.StreamBatch values = declares (stream_of Batch None values)
request_of kind.StreamPlain values = declares (stream_of Plain None values)
request_of kind.Period values = Store (Opens (name_there values 1) (day_there values 2) (day_there values 3))
request_of kind.CriticalGlobal values = declares (CritGlobal (unsigned_abs (number_at values 2)) (number_at values 3))
request_of kind.CriticalNodal values = declares (CritNodal (number_at values 2))
request_of kind.CriticalMeasure values = declares (CritMeasure (number_at values 2))
request_of kind.Reading values = books false (reading_from values 1)
request_of kind.Transfer values = books false (transfer_from values 1)
request_of kind.Dip values = books false (dip_from values 1)
request_of kind.LateReading values = books true (reading_from values 2)
request_of kind.LateTransfer values = books true (transfer_from values 2)
request_of kind.LateDip values = books true (dip_from values 2)
request_of kind.AmendAmount values = edits (Change (Amount (number_at values 2) (number_at values 3))) values 4
request_of kind.AmendLevel values =
    edits (Change (Level (number_at values 2) (number_at values 3) (number_at values 4))) values 5
request_of kind.Strike values = edits Strike values 2
request_of kind.Close values = Store (Closes (name_there values 1))
request_of kind.Assay values = Store (Assays (assay_in values))
request_of kind.Design values = Design
request_of kind.Report values = Report (name_there values 1)
request_of kind.History values = History (name_there values 1)
request_of kind.Advise values = Advise
request_of kind.Window values = Window (name_there values 1) (name_there values 2)
request_of kind.Component values = Component (name_there values 1) (name_there values 2)

-- what the fields of a record ask for by the kind that was identified, or the fault
abbrev pub request_if : Result SessionKind FormFault → List (List ℕ) → Result Request FormFault
request_if (Ok kind) fields = result_map_both (request_of kind) (λ fault. fault) (row_read (session_schema kind) fields)
request_if (Err fault) fields = Err fault

-- what a record asks for by its fields up to the last one that isn't empty, in a session that has rows of these kinds
abbrev pub asked_by : List SessionKind → List (List ℕ) → Result Request FormFault
asked_by kinds [] = Ok Blank
asked_by kinds fields = request_if (session_told kinds fields) fields

-- the same in a session of a version, and in a session without stored rows: then the version may be stated, and it is 1 otherwise
abbrev pub asked_in : Option Version → List (List ℕ) → Result Request FormFault
asked_in None fields =
    if is_of fields (session_schema kind.Version) then Ok (declares Version2) else asked_by kinds_of_version_1 fields
asked_in (Some One) fields = asked_by kinds_of_version_1 fields
asked_in (Some Two) fields = asked_by kinds_of_version_2 fields

-- What a record asks for in a session of a version, or its first fault: the fault of its kind, or the fault of its fields. The
-- session has no version before its first row is stored. Empty fields at the record's end don't count.
unfoldable pub request_in : Option Version → List (List ℕ) → Result Request FormFault
request_in version fields = asked_in version (without_trailing_empty fields)

-- a record asks for advice, in a session of some version
pub record AsksAdvice (fields : List (List ℕ)) : Type 0 where
  pub version : Option Version
  pub asks : request_in version fields ≡ Ok Advise
