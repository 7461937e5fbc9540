-- Statement. The rows of an output: the columns of each kind.
use Rattle.std.specs.Prelude.{◌-◌, ◌^◌, List, [], ◌∷◌, ◌++◌}
use Rattle.pb_limits.specs.Limits.{most_freedom, most_gap, most_price, most_rounds, most_sweeps, most_value, most_variance, most_wide}
use Rattle.pb_form.specs.Columns.{Column, Schema, column, optional, row}
use Rattle.pb_form.specs.Holds.{Holds, Word, Name, Reason, Items, either_way, from_one, from_zero}
use Rattle.pb_form.specs.SessionRows.{critical_range, most_meter_cost}
use Rattle.pb_form.specs.Words.{cause_words, class_words, edit_words, measured_words, period_words, shape_words, state_words, stop_words, test_words, unread_words, verdict_words}
use Rattle.pb_form.specs.declared.output.OutputKind.{OutputKind}
use Rattle.pb_form.specs.declared.output.OutputKind.TheVariants as kind

-- a count of 64 bits
abbrev pub natural_range : Holds
natural_range = from_zero (2 ^ 64 - 1)

-- a number that no limit of a plant bounds: a bound of a flow, a net flow or its variance, an end of a statistic
abbrev pub wide_range : Holds
wide_range = either_way most_wide

-- a round
abbrev pub round_range : Holds
round_range = from_zero most_rounds

-- the columns of a certificate
abbrev pub certificate_columns : List Column
certificate_columns = column "shape" (Word shape_words) ∷ column "side" Items ∷ column "parts" Items ∷ []

-- the columns of a stream up to its bounds: the measured value in grams, its variance in squared grams, the reconciled flow in grams
abbrev pub bounded_columns : List Column
bounded_columns =
    row "stream" (column "name" Name ∷ column "from" Name ∷ column "to" Name ∷ optional "value" (either_way most_value)
    ∷ optional "variance" (from_one most_variance) ∷ column "class" (Word class_words) ∷ column "flow" (either_way (2 ^ 68 - 1))
    ∷ optional "lo" wide_range ∷ optional "hi" wide_range ∷ [])

-- The columns of each kind. `StreamBefore` is a stream as it was written before there were least bounds. In a solved row `k` is the
-- number of sweeps done, and `g` is the number of the gap, whose exponent is `h`.
abbrev pub output_columns : OutputKind → List Column
output_columns kind.Refused =
    row "refused" (column "at" natural_range ∷ column "code" natural_range ∷ column "word" (Word cause_words) ∷ [])
output_columns kind.Over = row "over" (column "period" Name ∷ column "stream" Name ∷ [])
output_columns kind.Design = row "design" (column "nodes" natural_range ∷ column "streams" natural_range ∷ [])
output_columns kind.Class =
    row "class" (column "name" Name ∷ column "from" Name ∷ column "to" Name ∷ column "measured" (Word measured_words)
    ∷ column "class" (Word class_words) ∷ certificate_columns)
output_columns kind.History =
    row "history" (column "period" Name ∷ column "state" (Word period_words) ∷ column "count" natural_range ∷ [])
output_columns kind.Edit =
    row "edit" (column "at" natural_range ∷ column "word" (Word edit_words) ∷ optional "id" Name ∷ optional "reason" Reason ∷ [])
output_columns kind.Report =
    row "report" (column "period" Name ∷ column "round" round_range ∷ column "nodes" wide_range ∷ column "streams" wide_range
    ∷ column "gap" (from_one most_gap) ∷ column "sweeps" (from_zero most_sweeps) ∷ [])
output_columns kind.Node = row "node" (column "name" Name ∷ column "price" (either_way most_price) ∷ [])
output_columns kind.Stream =
    bounded_columns ++ optional "least_lo" wide_range ∷ optional "least_hi" wide_range ∷ certificate_columns
output_columns kind.StreamBefore = bounded_columns ++ certificate_columns
output_columns kind.Solved =
    row "solved" (column "k" (from_zero most_sweeps) ∷ column "state" (Word state_words) ∷ column "g" (from_zero (2 ^ 63))
    ∷ column "h" (from_zero 32) ∷ column "dof" (from_zero most_freedom) ∷ column "low" wide_range ∷ optional "high" wide_range ∷ [])
output_columns kind.Global = row "global" (optional "critical" critical_range ∷ column "verdict" (Word verdict_words) ∷ [])
output_columns kind.Nodal =
    row "nodal" (column "node" Name ∷ column "net" wide_range ∷ column "variance" wide_range ∷ optional "critical" critical_range
    ∷ column "verdict" (Word verdict_words) ∷ [])
output_columns kind.Measure =
    row "measure" (column "stream" Name ∷ column "low" wide_range ∷ optional "high" wide_range ∷ optional "critical" critical_range
    ∷ column "verdict" (Word verdict_words) ∷ [])
output_columns kind.End = row "end" (column "period" Name ∷ column "round" round_range ∷ [])
output_columns kind.Taken =
    row "taken" (column "period" Name ∷ column "round" round_range ∷ column "stream" Name ∷ column "low" wide_range ∷ [])
output_columns kind.Stop = row "stop" (column "period" Name ∷ column "reason" (Word stop_words) ∷ column "rounds" round_range ∷ [])
output_columns kind.Summary =
    row "summary" (column "number" natural_range ∷ column "streams" natural_range ∷ column "rows" natural_range
    ∷ column "observable" natural_range ∷ column "unobservable" natural_range ∷ column "redundant" natural_range
    ∷ column "nonredundant" natural_range ∷ column "dof" natural_range ∷ column "state" (Word state_words)
    ∷ column "k" natural_range ∷ column "low" wide_range ∷ optional "high" wide_range ∷ [])
output_columns kind.Yes = row "yes" (column "period" Name ∷ column "round" round_range ∷ [])
output_columns kind.No =
    row "no" (column "period" Name ∷ column "round" round_range ∷ column "code" natural_range ∷ column "word" (Word test_words)
    ∷ optional "name" Name ∷ column "stated" wide_range ∷ column "found" wide_range ∷ [])
output_columns kind.Unreadable =
    row "unreadable" (column "at" natural_range ∷ column "code" natural_range ∷ column "word" (Word unread_words) ∷ [])
output_columns kind.Advise = row "advise" (column "count" natural_range ∷ column "total" natural_range ∷ [])
output_columns kind.Meter =
    row "meter" (column "stream" Name ∷ column "cost" (from_zero most_meter_cost) ∷ column "parts" Items ∷ [])
output_columns kind.Window = row "window" (column "first" Name ∷ column "last" Name ∷ column "periods" natural_range ∷ [])
output_columns kind.Place = row "place" (column "code" Name ∷ column "period" Name ∷ column "name" Name ∷ [])
output_columns kind.Component = row "component" (column "component" Name ∷ column "period" Name ∷ [])

-- the schema of each kind
abbrev pub output_schema : OutputKind → Schema
output_schema kind = record { columns = output_columns kind; tail = [] }

-- all kinds
abbrev pub output_kinds : List OutputKind
output_kinds =
    kind.Refused ∷ kind.Over ∷ kind.Design ∷ kind.Class ∷ kind.History ∷ kind.Edit ∷ kind.Report ∷ kind.Node ∷ kind.Stream
    ∷ kind.StreamBefore ∷ kind.Solved ∷ kind.Global ∷ kind.Nodal ∷ kind.Measure ∷ kind.End ∷ kind.Taken ∷ kind.Stop
    ∷ kind.Summary ∷ kind.Yes ∷ kind.No ∷ kind.Unreadable ∷ kind.Advise ∷ kind.Meter ∷ kind.Window ∷ kind.Place
    ∷ kind.Component ∷ []
