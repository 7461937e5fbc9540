-- Statement. What the rows of a block have said so far, row by row, and which kinds the next row may have.
use Rattle.std.specs.Prelude.{ℕ, pos, nat_lt, List, [], ◌∷◌, ◌++◌, length, Some, None, if◌then◌else◌}
use Rattle.std.specs.Option.{option_map, option_map_or}
use Rattle.std.specs.Result.{result_ok}
use Rattle.std.specs.List.{fold}
use Rattle.pb_form.specs.declared.output.OutputKind.{OutputKind}
use Rattle.pb_form.specs.declared.output.OutputKind.TheVariants.{Report, Node, Stream, StreamBefore, Solved, Global, Nodal, Measure, End}
use Rattle.pb_study.specs.declared.results.MeasureTest.{MeasureTest}
use Rattle.pb_study.specs.declared.results.NodalTest.{NodalTest}
use Rattle.pb_study.specs.declared.results.Solved.TheVariants.{Unconverged}
use Rattle.pb_study.specs.declared.results.Tests.{Tests}
use Rattle.pb_blocks.specs.declared.rows.Heading.{Heading}
use Rattle.pb_blocks.specs.Kinds.{kind_among}
use Rattle.pb_blocks.specs.Texts.{name_field}
use Rattle.pb_blocks.specs.Values.{said_arc, said_global, said_measure, said_nodal, said_solution, said_stream, values_in}
use Rattle.pb_form.specs.Values.{number_at}
use Rattle.pb_readback.specs.declared.draft.Draft.{Draft}

-- what a heading says: no nodes and no streams yet, and nothing about the solution
abbrev pub draft_of : Heading → Draft
draft_of heading = record {
  last = Report;
  heading = heading;
  nodes = [];
  prices = [];
  streams = [];
  graph = record { nodes = heading.nodes; streams = [] };
  rows = [];
  solution = record { solved = Unconverged 0; g = 0; h = 0; dof = 0; low = pos 0; high = None };
  tests = None;
}

-- the last stream is followed by how the stage was solved; then comes the end, or the tests and then the end: the global test, the
-- tests of balances, and the tests of measurements
abbrev pub kinds_after : OutputKind → List OutputKind
kinds_after Solved = Global ∷ End ∷ []
kinds_after Global = Nodal ∷ Measure ∷ End ∷ []
kinds_after Nodal = Nodal ∷ Measure ∷ End ∷ []
kinds_after Measure = Measure ∷ End ∷ []
kinds_after End = []
kinds_after last = Solved ∷ []

-- all streams of a block have rows of the same form as the first
abbrev pub stream_kinds : OutputKind → List OutputKind
stream_kinds Stream = Stream ∷ []
stream_kinds StreamBefore = StreamBefore ∷ []
stream_kinds last = Stream ∷ StreamBefore ∷ []

-- the kinds of rows that may come next: as many nodes as the heading says, then as many streams, and then the rest
abbrev pub kinds_next : Draft → List OutputKind
kinds_next draft =
    if nat_lt (length draft.nodes) draft.heading.nodes then Node ∷ []
    else if nat_lt (length draft.streams) draft.heading.streams then stream_kinds draft.last
    else kinds_after draft.last

-- tests with one more test of a balance, or of a measurement
abbrev pub with_nodal : NodalTest → Tests → Tests
with_nodal test tests = record tests { nodal = tests.nodal ++ test ∷ [] }

abbrev pub with_measure : MeasureTest → Tests → Tests
with_measure test tests = record tests { measure = tests.measure ++ test ∷ [] }

-- the draft with one more stream, by its row in one of the two forms
abbrev pub with_stream : OutputKind → List (List ℕ) → Draft → Draft
with_stream kind row draft = record draft {
  streams = draft.streams ++ name_field row ∷ [];
  graph = record draft.graph { streams = draft.graph.streams ++ said_arc draft.nodes row (values_in kind row) ∷ [] };
  rows = draft.rows ++ said_stream draft.nodes kind row (values_in kind row) ∷ [];
}

-- what a row of a kind adds to what the rows before it have said
abbrev pub added : OutputKind → Draft → List (List ℕ) → Draft
added Node draft row = record draft {
  nodes = draft.nodes ++ name_field row ∷ [];
  prices = draft.prices ++ number_at (values_in Node row) 2 ∷ [];
}
added Stream draft row = with_stream Stream row draft
added StreamBefore draft row = with_stream StreamBefore row draft
added Solved draft row = record draft { solution = said_solution (values_in Solved row) }
added Global draft row =
    record draft { tests = Some (record { global = said_global (values_in Global row); nodal = []; measure = [] }) }
added Nodal draft row =
    record draft { tests = option_map (with_nodal (said_nodal draft.nodes row (values_in Nodal row))) draft.tests }
added Measure draft row =
    record draft { tests = option_map (with_measure (said_measure draft.streams row (values_in Measure row))) draft.tests }
added kind draft row = draft

-- the draft after one more row, if the row is of a kind that may come; this kind is then the kind of the last row
abbrev pub draft_with_row : Draft → List (List ℕ) → Draft
draft_with_row draft row =
    option_map_or (λ kind. record (added kind draft row) { last = kind }) (result_ok (kind_among (kinds_next draft) row)) draft

-- the draft after several more rows
abbrev pub with_rows : Draft → List (List (List ℕ)) → Draft
with_rows draft rows = fold draft_with_row draft rows
