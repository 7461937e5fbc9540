-- Statement. The rows of advice: how many streams to meter and the total cost of their meters, and for each meter its stream, its
-- cost and the cycle that shows why the stream needs one.
use Rattle.std.specs.Prelude.{pos, List, [], ◌∷◌, length, map}
use Rattle.pb_rows.specs.declared.name.Names.{Names}
use Rattle.pb_form.specs.Value.{Name, Number, Items}
use Rattle.pb_form.specs.declared.output.OutputKind.TheVariants as kind
use Rattle.pb_graph.specs.ProcessGraph.{ProcessGraph}
use Rattle.pb_advise.specs.declared.advice.Advice.{Advice}
use Rattle.pb_advise.specs.declared.advice.Meter.{Meter}
use Rattle.pb_advise.specs.Advice.{IsAdviceWithin}
use Rattle.pb_report.specs.Certificate.{spaced, step_text}
use Rattle.pb_report.specs.Names.{IsNamed, name_at}
use Rattle.pb_report.specs.Row.{OutputRow, row_of}

-- advice for a graph that has these names
pub record IsNamedAdvice (names : Names) (advice : Advice) : Type 0 where
  pub graph : ProcessGraph
  pub named : IsNamed names graph
  pub within : IsAdviceWithin graph advice

-- the row of a meter: the name of its stream, its cost, and the steps of its cycle
abbrev pub meter_row : Names → Meter → OutputRow
meter_row names meter =
    row_of kind.Meter
    (Name (name_at names.streams meter.stream) ∷ Number meter.cost ∷ Items (spaced (step_text names.streams) meter.steps) ∷ [])

-- the row of the advice: how many meters, and their total cost
abbrev pub advice_row : Advice → OutputRow
advice_row advice = row_of kind.Advise (Number (pos (length advice.meter)) ∷ Number advice.total ∷ [])

-- all rows of the advice
abbrev pub advice_rows : Names → Advice → List OutputRow
advice_rows names advice = advice_row advice ∷ map (meter_row names) advice.meter
