-- Inside. What holds at a place of a stage or of a list of rows, and what is reported if it doesn't.
use Rattle.std.specs.Prelude.{◌≡◌, ◌≢◌, ◌&&◌, ℕ, ℤ, Bool, true, false, is_some, pos, unsigned_abs, List, Option, Some, None, All, map, slice_get, if◌then◌else◌}
use Rattle.std.specs.Ordering.{int_eq}
use Rattle.pb_graph.specs.declared.records.Class.{Class}
use Rattle.pb_graph.specs.declared.records.Class.TheVariants.{Unobservable, Redundant, Nonredundant}
use Rattle.pb_graph.specs.declared.records.Meas.{Meas}
use Rattle.pb_graph.specs.declared.records.Stream.{Stream}
use Rattle.pb_study.specs.declared.results.Bounds.{Bounds}
use Rattle.pb_study.specs.declared.results.NodalTest.{NodalTest}
use Rattle.pb_study.specs.declared.results.MeasureTest.{MeasureTest}
use Rattle.pb_study.specs.declared.results.StreamResult.{StreamResult}
use Rattle.pb_study.specs.declared.results.Tests.{Tests}
use Rattle.pb_study.specs.declared.results.Stage.{Stage}
use Rattle.pb_graph.specs.ProcessGraph.{is_measured}
use Rattle.pb_graph.specs.Balance.{net_of}
use Rattle.pb_graph.specs.Prices.{IsInBox, rise_of}
use Rattle.pb_dual.specs.Candidates.{room_of}
use Rattle.pb_stage.specs.Nodal.{AreNodalTests}
use Rattle.pb_stage.specs.Printed.{HasLeastBounds, printed_flows, printed_price}
use Rattle.pb_stage.specs.Certified.{IsMeasureVerdict, IsNodalVerdict, found_least, unjudged}
use Rattle.pb_check.specs.declared.faults.Fault.{Fault}
use Rattle.pb_check.specs.declared.faults.Place.{Place}
use Rattle.pb_check.specs.declared.faults.Place.TheVariants.{Node}
use Rattle.pb_check.specs.First.{FirstFails, IsFirstWithout}
use Rattle.pb_check.specs.Asked.{HasGroupPriceAt, IsGlobalVerdict, IsLeastOfGroup}
use Rattle.pb_check.specs.Faults.{AreRowsFault, IsBoundsFault, bare_fault_at, fault_at, first_differing, row_numbers}

-- whether a class is one of those of measured streams
abbrev pub is_of_measured : Class → Bool
is_of_measured Redundant = true
is_of_measured Nonredundant = true
is_of_measured class = false

-- whether a stream of a class has bounds
abbrev pub is_bounded : Class → Bool
is_bounded Unobservable = false
is_bounded class = true

-- what `HasClassAt` asks of a stream and its result, by these
pub record HasClassBits (in_stage : Bool) (stream : Stream) (result : StreamResult) : Type 0 where
  pub measured : is_of_measured result.classified.class ≡ is_measured stream
  pub bounded : is_some result.bounds ≡ is_bounded result.classified.class
  pub least_bounded : is_some result.least ≡ (is_some result.bounds && in_stage)

-- what holds for the stream at a place and its result
abbrev pub AtStream : Stage → (ℕ → StreamResult → Type 0) → ℕ → Type 0
AtStream stage Holds j = (result : StreamResult) → slice_get stage.streams j ≡ Some result → Holds j result

-- the first stream at which something fails
abbrev pub IsStreamFault : Stage → (ℕ → StreamResult → Type 0) → Fault → Type 0
IsStreamFault stage P fault = FirstFails P stage.streams (λ j r. fault ≡ bare_fault_at (Place.Stream j))

-- the flows balance at a node
abbrev pub IsEvenAt : Stage → ℕ → Type 0
IsEvenAt stage n = net_of n stage.graph.streams (printed_flows stage) ≡ pos 0

-- the first node at which they don't balance
abbrev pub IsBalanceFault : Stage → Fault → Type 0
IsBalanceFault stage fault =
    (node : ℕ) × IsFirstWithout (IsEvenAt stage) stage.graph.nodes node
    × (fault ≡ fault_at (Node node) (pos 0, net_of node stage.graph.streams (printed_flows stage)))

-- a node doesn't have the price of its group: the number reported next to its price
pub record IsOtherPrice (stage : Stage) (node : ℕ) (found : ℤ) : Type 0 where
  pub least : ℕ
  pub is_least : IsLeastOfGroup stage.graph node least
  pub fails : HasGroupPriceAt stage node → ⊥
  pub is :
      found
      ≡ (if int_eq (printed_price stage node) (printed_price stage least) then pos 0
      else printed_price stage least)

-- the adjustment of the measured flow at a place is within its limit
abbrev pub IsInBoxAt : Stage → ℕ → Type 0
IsInBoxAt stage j =
    (stream : Stream) → slice_get stage.graph.streams j ≡ Some stream
    → IsInBox (printed_price stage) stream

-- a measured flow isn't in its box
pub record IsOutOfBox (stage : Stage) (place : ℕ) (fault : Fault) : Type 0 where
  pub stream : Stream
  pub meas : Meas
  pub stream_is : slice_get stage.graph.streams place ≡ Some stream
  pub meas_is : stream.meas ≡ Some meas
  pub fails : IsInBoxAt stage place → ⊥
  pub is :
      fault
      ≡ fault_at (Place.Stream place)
      (pos (unsigned_abs (rise_of (printed_price stage) stream)), room_of meas.variance)

-- two bounds of the stream at a place differ
pub record DifferAt (stream : ℕ) (stated found : Option Bounds) (fault : Fault) : Type 0 where
  pub here : Bounds
  pub there : Bounds
  pub stated_is : stated ≡ Some here
  pub found_is : found ≡ Some there
  pub differ : here ≢ there
  pub is : fault ≡ fault_at (Place.Stream stream) (first_differing here.lo there.lo here.hi there.hi)

-- in a stage that has least bounds, they aren't those of the rule
abbrev pub IsLeastFault : Stage → Fault → Type 0
IsLeastFault stage fault = HasLeastBounds stage × IsBoundsFault stage (λ r. r.least) (found_least stage) fault

-- except for critical values and verdicts, the nodal tests are those of the graph
abbrev pub AreNodalRows : Stage → Tests → Type 0
AreNodalRows stage tests = AreNodalTests stage.graph None (map unjudged tests.nodal)

-- the row at a place is the test of the group at that place
abbrev pub IsRowAt : List NodalTest → List NodalTest → ℕ → Type 0
IsRowAt rows tests i =
    (row test : NodalTest) → slice_get rows i ≡ Some row → slice_get tests i ≡ Some test
    → unjudged row ≡ test

-- a row isn't the test at its place
pub record IsRowDifference (row test : NodalTest) (fault : Fault) : Type 0 where
  pub differ : unjudged row ≢ test
  pub is : fault ≡ fault_at (Node row.node) (row_numbers row test)

-- the rows aren't the tests of the graph, both without critical values
abbrev pub IsNodalRowsFault : Stage → Tests → Fault → Type 0
IsNodalRowsFault stage tests fault =
    (rule : List NodalTest) × AreNodalTests stage.graph None rule × AreRowsFault (map unjudged tests.nodal) rule fault

-- each verdict follows from the printed numbers
abbrev pub AreVerdicts : Stage → Tests → Type 0
AreVerdicts stage tests =
    IsGlobalVerdict stage tests × All IsNodalVerdict tests.nodal × All IsMeasureVerdict tests.measure

-- the first nodal row whose verdict doesn't follow
abbrev pub IsFirstNodal : List NodalTest → Fault → Type 0
IsFirstNodal rows fault = FirstFails (λ i. IsNodalVerdict) rows (λ i row. fault ≡ bare_fault_at (Node row.node))

-- the first measurement whose verdict doesn't follow
abbrev pub IsFirstMeasure : List MeasureTest → Fault → Type 0
IsFirstMeasure rows fault = FirstFails (λ i. IsMeasureVerdict) rows (λ i row. fault ≡ bare_fault_at (Place.Stream row.stream))
