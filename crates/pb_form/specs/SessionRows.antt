-- Statement. The rows of a session: the columns of each kind.
use Prim.Native.String.{String}
use Rattle.std.specs.Prelude.{ℕ, ◌^◌, Bool, true, false, List, [], ◌∷◌, ◌++◌, Result, map}
use Rattle.pb_limits.specs.Limits.{most_critical, most_density, most_freedom, most_grade, most_grade_variance, most_grams, most_level, most_row_variance, most_volume}
use Rattle.pb_form.specs.Columns.{Column, Schema, column, row, word_column}
use Rattle.pb_form.specs.Holds.{Holds, Name, Reason, Date, either_way, from_one, from_zero}
use Rattle.pb_form.specs.Telling.{kind_told}
use Rattle.pb_form.specs.declared.fault.FormFault.{FormFault}
use Rattle.pb_form.specs.declared.session.SessionKind.{SessionKind}
use Rattle.pb_form.specs.declared.session.SessionKind.TheVariants as kind

-- the base variance of a tank, or of a metered or batch stream, in squared grams; a plain stream has none
abbrev pub base_variance : Holds
base_variance = from_one most_row_variance

-- the variance of a measurement, in squared grams
abbrev pub row_variance : Holds
row_variance = from_zero most_row_variance

-- a critical value, in thousandths
abbrev pub critical_range : Holds
critical_range = from_zero most_critical

-- the greatest cost of a meter, in any unit
abbrev pub most_meter_cost : ℕ
most_meter_cost = 10 ^ 12

-- the columns of a kind of streams, which has this word and this base variance
abbrev pub stream_columns : String → Holds → List Column
stream_columns word base =
    row "stream" (column "name" Name ∷ column "from" Name ∷ column "to" Name ∷ word_column "word" word ∷ column "base" base ∷ [])

-- the first and the last day on which a tank or a stream is in service
abbrev pub service_columns : List Column
service_columns = column "since" Date ∷ column "until" Date ∷ []

-- the columns of a fact after its word
abbrev pub reading_columns : List Column
reading_columns =
    column "id" Name ∷ column "stream" Name ∷ column "day" Date ∷ column "grams" (either_way most_grams)
    ∷ column "variance" row_variance ∷ []

abbrev pub transfer_columns : List Column
transfer_columns =
    column "id" Name ∷ column "stream" Name ∷ column "first" Date ∷ column "last" Date ∷ column "grams" (either_way most_grams)
    ∷ column "variance" row_variance ∷ []

abbrev pub dip_columns : List Column
dip_columns =
    column "id" Name ∷ column "tank" Name ∷ column "day" Date ∷ column "mm" (from_zero most_level)
    ∷ column "density" (from_one most_density) ∷ column "variance" row_variance ∷ []

-- The columns of each kind. A late fact has the word `late`, the fact's word, and the columns of the fact.
abbrev pub session_columns : SessionKind → List Column
session_columns kind.Version = row "version" (word_column "number" "2" ∷ [])
session_columns kind.Boundary = row "boundary" (column "name" Name ∷ [])
session_columns kind.TankInService = row "tank" (column "name" Name ∷ column "base" base_variance ∷ service_columns)
session_columns kind.MeteredInService = stream_columns "metered" base_variance ++ service_columns
session_columns kind.BatchInService = stream_columns "batch" base_variance ++ service_columns
session_columns kind.PlainInService = stream_columns "plain" (from_zero 0) ++ service_columns
session_columns kind.Unit = row "unit" (column "name" Name ∷ [])
session_columns kind.Tank = row "tank" (column "name" Name ∷ column "base" base_variance ∷ [])
session_columns kind.Strap =
    row "strap" (column "tank" Name ∷ column "mm" (from_zero most_level) ∷ column "ml" (from_zero most_volume) ∷ [])
session_columns kind.StreamMetered = stream_columns "metered" base_variance
session_columns kind.StreamBatch = stream_columns "batch" base_variance
session_columns kind.StreamPlain = stream_columns "plain" (from_zero 0)
session_columns kind.Period = row "period" (column "name" Name ∷ column "first" Date ∷ column "last" Date ∷ [])
session_columns kind.CriticalGlobal =
    row "critical" (word_column "word" "global" ∷ column "dof" (from_one most_freedom) ∷ column "value" critical_range ∷ [])
session_columns kind.CriticalNodal = row "critical" (word_column "word" "nodal" ∷ column "value" critical_range ∷ [])
session_columns kind.CriticalMeasure = row "critical" (word_column "word" "measure" ∷ column "value" critical_range ∷ [])
session_columns kind.Reading = row "reading" reading_columns
session_columns kind.Transfer = row "transfer" transfer_columns
session_columns kind.Dip = row "dip" dip_columns
session_columns kind.LateReading = row "late" (word_column "word" "reading" ∷ reading_columns)
session_columns kind.LateTransfer = row "late" (word_column "word" "transfer" ∷ transfer_columns)
session_columns kind.LateDip = row "late" (word_column "word" "dip" ∷ dip_columns)
session_columns kind.AmendAmount =
    row "amend" (column "id" Name ∷ column "grams" (either_way most_grams) ∷ column "variance" row_variance
    ∷ column "reason" Reason ∷ [])
session_columns kind.AmendLevel =
    row "amend" (column "id" Name ∷ column "mm" (from_zero most_level) ∷ column "density" (from_one most_density)
    ∷ column "variance" row_variance ∷ column "reason" Reason ∷ [])
session_columns kind.Strike = row "strike" (column "id" Name ∷ column "reason" Reason ∷ [])
session_columns kind.Close = row "close" (column "period" Name ∷ [])
session_columns kind.Assay =
    row "assay" (column "component" Name ∷ column "stream" Name ∷ column "period" Name ∷ column "ppm" (from_zero most_grade)
    ∷ column "variance" (from_zero most_grade_variance) ∷ [])
session_columns kind.Design = row "design" []
session_columns kind.Report = row "report" (column "period" Name ∷ [])
session_columns kind.History = row "history" (column "period" Name ∷ [])
session_columns kind.Advise = row "advise" []
session_columns kind.Window = row "window" (column "first" Name ∷ column "last" Name ∷ [])
session_columns kind.Component = row "component" (column "component" Name ∷ column "period" Name ∷ [])

-- The columns that are repeated after those of a kind: those of a named cost, a stream and what a meter on it costs.
abbrev pub session_tail : SessionKind → List Column
session_tail kind.Advise = column "stream" Name ∷ column "cost" (from_zero most_meter_cost) ∷ []
session_tail kind = []

-- the schema of each kind
abbrev pub session_schema : SessionKind → Schema
session_schema kind = record { columns = session_columns kind; tail = session_tail kind }

-- the kinds of a session of version 1
abbrev pub kinds_of_version_1 : List SessionKind
kinds_of_version_1 =
    kind.Unit ∷ kind.Tank ∷ kind.Strap ∷ kind.StreamMetered ∷ kind.StreamBatch ∷ kind.StreamPlain ∷ kind.Period
    ∷ kind.CriticalGlobal ∷ kind.CriticalNodal ∷ kind.CriticalMeasure ∷ kind.Reading ∷ kind.Transfer ∷ kind.Dip
    ∷ kind.LateReading ∷ kind.LateTransfer ∷ kind.LateDip ∷ kind.AmendAmount ∷ kind.AmendLevel ∷ kind.Strike ∷ kind.Close
    ∷ kind.Assay ∷ kind.Design ∷ kind.Report ∷ kind.History ∷ kind.Advise ∷ kind.Window ∷ kind.Component ∷ []

-- the kinds of a session of version 2, which also has boundaries and dates of service
abbrev pub kinds_of_version_2 : List SessionKind
kinds_of_version_2 =
    kind.Boundary ∷ kind.TankInService ∷ kind.MeteredInService ∷ kind.BatchInService ∷ kind.PlainInService ∷ kinds_of_version_1

-- all kinds: the record that makes a session one of version 2 isn't one of its rows
abbrev pub session_kinds : List SessionKind
session_kinds = kind.Version ∷ kinds_of_version_2

-- the schemas of all kinds
abbrev pub session_schemas : List Schema
session_schemas = map session_schema session_kinds

-- a session of version 2 has rows of this kind
abbrev pub is_of_version_2 : SessionKind → Bool
is_of_version_2 kind.Version = false
is_of_version_2 kind = true

-- a session of version 1 has rows of this kind
abbrev pub is_of_version_1 : SessionKind → Bool
is_of_version_1 kind.Version = false
is_of_version_1 kind.Boundary = false
is_of_version_1 kind.TankInService = false
is_of_version_1 kind.MeteredInService = false
is_of_version_1 kind.BatchInService = false
is_of_version_1 kind.PlainInService = false
is_of_version_1 kind = true

-- The kind of a row of a session that has rows of these kinds, or why it has none.
unfoldable pub session_told : List SessionKind → List (List ℕ) → Result SessionKind FormFault
session_told kinds fields = kind_told session_schema kinds fields
