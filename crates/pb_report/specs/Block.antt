-- Statement. The block of a stage: what frames it, its nodes, its streams, and how it was solved.
use Rattle.std.specs.Prelude.{ℕ, ℤ, pos, List, [], ◌∷◌, ◌++◌, Option, length}
use Rattle.std.specs.Option.{option_and}
use Rattle.pb_rows.specs.declared.name.Names.{Names}
use Rattle.pb_form.specs.Value.{Value, Name, Number, Word}
use Rattle.pb_form.specs.declared.output.OutputKind.TheVariants as kind
use Rattle.pb_graph.specs.declared.records.Meas.{Meas}
use Rattle.pb_graph.specs.declared.records.Stream.{Stream}
use Rattle.pb_study.specs.declared.results.Bounds.{Bounds}
use Rattle.pb_study.specs.declared.results.StreamResult.{StreamResult}
use Rattle.pb_study.specs.declared.results.Options.{Options}
use Rattle.pb_study.specs.declared.results.Stage.{Stage}
use Rattle.pb_graph.specs.ProcessGraph.{ProcessGraph}
use Rattle.pb_study.specs.WellFormed.{sweeps_of}
use Rattle.pb_report.specs.Certificate.{certificate_values}
use Rattle.pb_report.specs.Names.{name_at}
use Rattle.pb_choices.specs.Places.{class_place, gap_met, truth_place}
use Rattle.pb_report.specs.Row.{OutputRow, row_of, value_or_none}
use Rattle.pb_report.specs.Rows.{rows_with}
use Rattle.pb_report.specs.Tests.{tests_rows}

-- the row that opens a block: the period and the round, how many nodes (including the environment) and streams, the gap in
-- thousandths and the greatest number of sweeps
abbrev pub report_row : List ℕ → ℕ → ProcessGraph → Options → OutputRow
report_row period round graph options =
    row_of kind.Report
    (Name period ∷ Number (pos round) ∷ Number (pos graph.nodes) ∷ Number (pos (length graph.streams)) ∷ Number (pos options.gap)
    ∷ Number (pos options.sweeps) ∷ [])

-- the row that closes a block
abbrev pub end_row : List ℕ → ℕ → OutputRow
end_row period round = row_of kind.End (Name period ∷ Number (pos round) ∷ [])

-- a node's name and its price
abbrev pub node_row : List ℕ → ℤ → OutputRow
node_row name price = row_of kind.Node (Name name ∷ Number price ∷ [])

-- the ends of bounds, if there are any
abbrev pub low_end : Option Bounds → Value
low_end bounds = value_or_none (λ (bounds : Bounds). Number bounds.lo) bounds

abbrev pub high_end : Option Bounds → Value
high_end bounds = value_or_none (λ (bounds : Bounds). Number bounds.hi) bounds

-- The row of the stream at a place with its result: its name and the names of its ends, the measured value and its variance, its
-- class, its reconciled flow, the bounds of the flow, its bounds in every least vector (none for a stream without bounds), and the
-- certificate of its class.
abbrev pub result_row : Names → ℕ → Stream → StreamResult → OutputRow
result_row names id stream result =
    row_of kind.Stream
    (Name (name_at names.streams id) ∷ Name (name_at names.nodes stream.from) ∷ Name (name_at names.nodes stream.to)
    ∷ value_or_none (λ (meas : Meas). Number meas.value) stream.meas
    ∷ value_or_none (λ (meas : Meas). Number meas.variance) stream.meas ∷ Word (class_place result.classified.class)
    ∷ Number result.flow ∷ low_end result.bounds ∷ high_end result.bounds ∷ low_end (option_and result.bounds result.least)
    ∷ high_end (option_and result.bounds result.least) ∷ certificate_values names result.classified.witness)

-- how the stage was solved: the sweeps done and whether the gap was met, its two numbers, the degrees of freedom, and the
-- bounds of the weighted squares
abbrev pub solved_row : Stage → OutputRow
solved_row stage =
    row_of kind.Solved
    (Number (pos (sweeps_of stage.solved)) ∷ Word (truth_place (gap_met stage.solved)) ∷ Number (pos stage.g)
    ∷ Number (pos stage.h) ∷ Number (pos stage.dof) ∷ Number stage.low ∷ value_or_none Number stage.high ∷ [])

-- the block of a stage
abbrev pub block_rows : Names → List ℕ → Options → ℕ → Stage → List OutputRow
block_rows names period options round stage =
    report_row period round stage.graph options
    ∷ (rows_with (λ n name price. node_row name price) 0 names.nodes stage.prices
    ++ (rows_with (result_row names) 0 stage.graph.streams stage.streams
    ++ (solved_row stage ∷ (tests_rows names stage.tests ++ end_row period round ∷ []))))
