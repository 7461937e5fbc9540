-- Statement. What the rows of each kind say, column by column.
use Rattle.std.specs.Prelude.{ℕ, ℤ, false, List, [], map, Option, Some, None, option_and_then, if◌then◌else◌, unsigned_abs}
use Rattle.std.specs.Option.{unwrap_or}
use Rattle.std.specs.Result.{result_unwrap_or}
use Rattle.pb_form.specs.OutputRows.{output_schema}
use Rattle.pb_form.specs.Reading.{row_read}
use Rattle.pb_form.specs.Value.{Value}
use Rattle.pb_form.specs.Values.{number_in, value_at, word_in, number_at}
use Rattle.pb_form.specs.declared.output.OutputKind.{OutputKind}
use Rattle.pb_graph.specs.declared.records.Meas.{Meas}
use Rattle.pb_graph.specs.declared.records.Stream.{Stream}
use Rattle.pb_graph.specs.declared.records.Class.TheVariants.{Nonredundant}
use Rattle.pb_study.specs.declared.results.Bounds.{Bounds}
use Rattle.pb_study.specs.declared.results.Verdict.TheVariants.{NoTest}
use Rattle.pb_study.specs.declared.results.Solved.TheVariants.{Converged, Unconverged}
use Rattle.pb_study.specs.declared.results.GlobalTest.{GlobalTest}
use Rattle.pb_study.specs.declared.results.NodalTest.{NodalTest}
use Rattle.pb_study.specs.declared.results.MeasureTest.{MeasureTest}
use Rattle.pb_choices.specs.Places.{placed_class, placed_shape, placed_truth, placed_verdict}
use Rattle.pb_choices.specs.declared.places.Shape.TheVariants.{Cycle}
use Rattle.pb_blocks.specs.declared.rows.Heading.{Heading}
use Rattle.pb_blocks.specs.declared.rows.Solution.{Solution}
use Rattle.pb_blocks.specs.declared.rows.StreamRow.{StreamRow}
use Rattle.pb_blocks.specs.Lists.{is_among, items, place_of}
use Rattle.pb_blocks.specs.Texts.{name_field, parts_field, place_after, side_field, field}

-- the values of a row that can be read
abbrev pub values_in : OutputKind → List (List ℕ) → List Value
values_in kind row = result_unwrap_or (row_read (output_schema kind) row) []

-- the number at a place, of a column whose numbers aren't negative
abbrev pub natural_at : List Value → ℕ → ℕ
natural_at values place = unsigned_abs (number_at values place)

-- what the word at a place stands for, by the table of its column; something else if it isn't one of the column's words
abbrev pub chosen_at : {A : Type 0} → (ℕ → Option A) → A → List Value → ℕ → A
chosen_at placed other values place = unwrap_or (option_and_then placed (value_at word_in values place)) other

-- a value with its variance, or neither
abbrev pub both_meas : Option ℤ → Option ℤ → Option Meas
both_meas (Some value) (Some variance) = Some (record { value = value; variance = variance })
both_meas value variance = None

-- a lower bound with an upper one, or neither
abbrev pub both_bounds : Option ℤ → Option ℤ → Option Bounds
both_bounds (Some lo) (Some hi) = Some (record { lo = lo; hi = hi })
both_bounds lo hi = None

-- `report,PERIOD,ROUND,NODES,STREAMS,GAP,SWEEPS`
abbrev pub said_heading : List (List ℕ) → List Value → Heading
said_heading row values = record {
  period = name_field row;
  round = natural_at values 2;
  nodes = natural_at values 3;
  streams = natural_at values 4;
  gap = natural_at values 5;
  sweeps = natural_at values 6;
}

-- `stream,NAME,FROM,TO,VALUE,VARIANCE,CLASS,FLOW,LO,HI,LEAST_LO,LEAST_HI,SHAPE,SIDE,PARTS`: the ends by their places among the nodes,
-- and what was measured
abbrev pub said_arc : List (List ℕ) → List (List ℕ) → List Value → Stream
said_arc nodes row values = record {
  from = place_of nodes (field row 2);
  to = place_of nodes (field row 3);
  meas = both_meas (value_at number_in values 4) (value_at number_in values 5);
}

-- the class, the flow, the bounds, the least bounds (in their place an older row has words) and the certificate, whose parts are kept
-- as they are written
abbrev pub said_stream : List (List ℕ) → OutputKind → List (List ℕ) → List Value → StreamRow
said_stream nodes kind row values = record {
  class = chosen_at placed_class Nonredundant values 6;
  flow = number_at values 7;
  bounds = both_bounds (value_at number_in values 8) (value_at number_in values 9);
  least = both_bounds (value_at number_in values 10) (value_at number_in values 11);
  shape = chosen_at placed_shape Cycle values (place_after kind 12);
  side = map (is_among (items (side_field kind row))) nodes;
  parts = parts_field kind row;
}

-- `solved,K,STATE,G,H,DOF,LOW,HIGH`
abbrev pub said_solution : List Value → Solution
said_solution values = record {
  solved = if chosen_at placed_truth false values 2 then Converged (natural_at values 1) else Unconverged (natural_at values 1);
  g = natural_at values 3;
  h = natural_at values 4;
  dof = natural_at values 5;
  low = number_at values 6;
  high = value_at number_in values 7;
}

-- `global,CRITICAL,VERDICT`
abbrev pub said_global : List Value → GlobalTest
said_global values = record { critical = value_at number_in values 1; verdict = chosen_at placed_verdict NoTest values 2 }

-- `nodal,NODE,NET,VARIANCE,CRITICAL,VERDICT`, by the place of the node
abbrev pub said_nodal : List (List ℕ) → List (List ℕ) → List Value → NodalTest
said_nodal nodes row values = record {
  node = place_of nodes (name_field row);
  net = number_at values 2;
  variance = number_at values 3;
  critical = value_at number_in values 4;
  verdict = chosen_at placed_verdict NoTest values 5;
}

-- `measure,STREAM,LOW,HIGH,CRITICAL,VERDICT`, by the place of the stream
abbrev pub said_measure : List (List ℕ) → List (List ℕ) → List Value → MeasureTest
said_measure streams row values = record {
  stream = place_of streams (name_field row);
  low = number_at values 2;
  high = value_at number_in values 3;
  critical = value_at number_in values 4;
  verdict = chosen_at placed_verdict NoTest values 5;
}
