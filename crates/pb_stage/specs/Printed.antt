-- Statement. What a stage contains, as it is printed.
use Rattle.std.specs.Prelude.{◌≡◌, ℕ, ℤ, Bool, List, map, Some, is_some, slice_get, IsTrue}
use Rattle.std.specs.List.{list_any}
use Rattle.pb_fixed.specs.Sums.{item}
use Rattle.pb_graph.specs.declared.records.Classified.{Classified}
use Rattle.pb_study.specs.declared.results.StreamResult.{StreamResult}
use Rattle.pb_study.specs.declared.results.Stage.{Stage}
use Rattle.pb_gap.specs.declared.gap.Gap.{Gap}

-- the price of each node
abbrev pub printed_price : Stage → ℕ → ℤ
printed_price stage n = item stage.prices n

-- the flow of each stream, in order
abbrev pub printed_flows : Stage → List ℤ
printed_flows stage = map (λ (r : StreamResult). r.flow) stage.streams

-- the class of each stream with its certificate, in order
abbrev pub printed_classes : Stage → List Classified
printed_classes stage = map (λ (r : StreamResult). r.classified) stage.streams

-- the two numbers of the gap
abbrev pub printed_gap : Stage → Gap
printed_gap stage = record { g = stage.g; h = stage.h }

-- what holds for each stream and its result
abbrev pub EachStream : Stage → (ℕ → StreamResult → Type 0) → Type 0
EachStream stage P = (j : ℕ) (r : StreamResult) → slice_get stage.streams j ≡ Some r → P j r

-- whether some stream among these has least bounds
abbrev pub have_least : List StreamResult → Bool
have_least results = list_any (λ (r : StreamResult). is_some r.least) results

-- a stage has least bounds if some stream of it has
abbrev pub HasLeastBounds : Stage → Type 0
HasLeastBounds stage = IsTrue (have_least stage.streams)
