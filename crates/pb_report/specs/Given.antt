-- Inside. Rows, certificates and meters as the code gives them.
use Rattle.std.specs.Prelude.{List, [], ◌∷◌, ◌<◌, All, length, string_bytes}
use Rattle.pb_rows.specs.declared.name.Names.{Names}
use Rattle.pb_graph.specs.declared.records.Step.{Step}
use Rattle.pb_advise.specs.declared.advice.Meter.{Meter}
use Rattle.pb_form.specs.Given.{values_as}
use Rattle.pb_form.specs.OutputRows.{output_columns}
use Rattle.pb_form.specs.Value as value
use Rattle.pb_form.specs.Value.{Word, Items}
use Rattle.pb_form.specs.declared.output.OutputKind.{OutputKind}
use Rattle.pb_form.specs.declared.value.Value.{Value}
use Rattle.pb_report.specs.declared.certificate.Certificate.{Certificate}
use Rattle.pb_choices.specs.Places.{shape_place}
use Rattle.pb_report.specs.Row.{OutputRow}

-- the row of a kind with these values
abbrev pub given_row : OutputKind → List Value → OutputRow
given_row kind values = record { kind = kind; values = values_as (output_columns kind) values }

-- the values of a certificate by its texts
abbrev pub given_certificate : Certificate → List value.Value
given_certificate certificate =
    Word (shape_place certificate.shape) ∷ Items (string_bytes certificate.side) ∷ Items (string_bytes certificate.parts) ∷ []

-- a meter refers only to streams that have names
pub record IsNamedMeter (names : Names) (meter : Meter) : Type 0 where
  pub stream : meter.stream < length names.streams
  pub steps : All (λ (step : Step). step.stream < length names.streams) meter.steps
