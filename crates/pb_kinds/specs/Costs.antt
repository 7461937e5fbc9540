-- Statement. The costs of meters that a record names, as an `advise` record does.
use Rattle.std.specs.Prelude.{ℕ, pos, ℤ, ◌≤ℤ◌, List, [], ◌∷◌, unwrap_or}
use Rattle.std.specs.Result.{result_unwrap_or}
use Rattle.pb_rows.specs.Records.{without_trailing_empty}
use Rattle.pb_form.specs.Reading.{tail_read}
use Rattle.pb_form.specs.SessionRows.{most_meter_cost, session_schema}
use Rattle.pb_form.specs.Value.{Value}
use Rattle.pb_form.specs.Values.{name_in, number_in}
use Rattle.pb_form.specs.declared.session.SessionKind.TheVariants.{Advise}
use Rattle.pb_kinds.specs.declared.costs.NamedCost.{NamedCost}

-- what a meter costs, in any unit
abbrev pub IsMeterCost : ℤ → Type 0
IsMeterCost cost = (pos 0 ≤ℤ cost) × (cost ≤ℤ pos most_meter_cost)

-- the costs that values name, two values for each: a stream, and what a meter on it costs
abbrev pub costs_in : List Value → List NamedCost
costs_in (stream ∷ (cost ∷ values)) =
    record { stream = unwrap_or (name_in stream) []; cost = unwrap_or (number_in cost) (pos 0) } ∷ costs_in values
costs_in values = []

-- The costs that a record names after its word. Empty fields at its end don't count.
abbrev pub named_costs : List (List ℕ) → List NamedCost
named_costs fields = costs_in (result_unwrap_or (tail_read (session_schema Advise) (without_trailing_empty fields)) [])
