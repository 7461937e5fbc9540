-- Statement. The component graph: a plant whose streams are measured by what their printed flows carry of one component.
use Rattle.std.specs.Prelude.{◌≡◌, ◌≢◌, ℕ, ◌<◌, Bool, true, false, List, length, map, zip, position, option_map, slice_get, Option, Some, None, IsSomeAnd, Result, Ok, Err}
use Rattle.std.specs.Option.{option_map_or}
use Rattle.pb_graph.specs.declared.records.Stream.{Stream}
use Rattle.pb_graph.specs.declared.records.Class.{Class}
use Rattle.pb_graph.specs.declared.records.Class.TheVariants.{Unobservable}
use Rattle.pb_study.specs.declared.results.StreamResult.{StreamResult}
use Rattle.pb_graph.specs.ProcessGraph.{ProcessGraph}
use Rattle.pb_facts.specs.declared.grade.Grade.{Grade}
use Rattle.pb_grades.specs.declared.component.ComponentFault.{ComponentFault}
use Rattle.pb_grades.specs.declared.component.ComponentFault.TheVariants.{NoMemory, Over}
use Rattle.pb_grades.specs.Grade.{IsCarried, carried, carries_too_much}

-- the grade by which a stream is measured: the stream's grade, unless its flow is unobservable and so isn't known
abbrev pub counted_grade : Class → Option Grade → Option Grade
counted_grade Unobservable grade = None
counted_grade class grade = grade

-- a stream of the component graph: the stream's ends, measured by what its printed flow carries
abbrev pub component_stream : StreamResult → Option Grade → Stream → Stream
component_stream printed grade stream = record {
  from = stream.from;
  to = stream.to;
  meas = option_map (carried printed.flow) (counted_grade printed.classified.class grade);
}

-- a stream that is to be measured is over the limits
abbrev pub is_component_over : StreamResult → Option Grade → Bool
is_component_over printed grade = option_map_or (carries_too_much printed.flow) (counted_grade printed.classified.class grade) false

-- the streams of the component graph, each by what is printed of it and by its grade
abbrev pub component_streams : List Stream → List StreamResult → List (Option Grade) → List Stream
component_streams streams printed grades =
    map (λ (one : Stream × (StreamResult × Option Grade)). component_stream one.1.0 one.1.1 one.0) (zip streams (zip printed grades))

-- which of these streams are over the limits
abbrev pub component_overs : List StreamResult → List (Option Grade) → List Bool
component_overs printed grades = map (λ (one : StreamResult × Option Grade). is_component_over one.0 one.1) (zip printed grades)

-- The component graph of a graph, or its first stream that is over the limits.
abbrev pub component_of : ProcessGraph → List StreamResult → List (Option Grade) → Result ProcessGraph ComponentFault
component_of graph printed grades =
    option_map_or (λ stream. Err (Over stream)) (position (λ over. over) (component_overs printed grades))
    (Ok (record { nodes = graph.nodes; streams = component_streams graph.streams printed grades }))

-- a stream that is named as over the limits is one of the graph's
abbrev pub NamesAStreamOf : ProcessGraph → ComponentFault → Type 0
NamesAStreamOf graph (Over stream) = stream < length graph.streams
NamesAStreamOf graph NoMemory = Unit {0}

-- A stream of the component graph, by meaning: the stream's ends, measured exactly when it has a grade and isn't unobservable, and then by
-- what its printed flow carries.
pub record IsComponentStream (printed : StreamResult) (grade : Option Grade) (stream component : Stream) : Type 0 where
  pub from : component.from ≡ stream.from
  pub to : component.to ≡ stream.to
  pub bare : grade ≡ None → component.meas ≡ None
  pub unknown : printed.classified.class ≡ Unobservable → component.meas ≡ None
  pub measured : (known : Grade) → grade ≡ Some known → printed.classified.class ≢ Unobservable
      → IsSomeAnd component.meas (IsCarried printed.flow known)

-- the stream at a place is to be measured, and its flow or its variance is above the limits
pub record IsOverAt (printed : List StreamResult) (grades : List (Option Grade)) (j : ℕ) : Type 0 where
  pub result : StreamResult
  pub grade : Grade
  pub there : slice_get printed j ≡ Some result
  pub assayed : slice_get grades j ≡ Some (Some grade)
  pub known : result.classified.class ≢ Unobservable
  pub over : carries_too_much result.flow grade ≡ true

-- The component graph, by meaning: the graph's nodes and, in order, its streams, none of which is over the limits.
pub record IsComponentGraph (graph : ProcessGraph) (printed : List StreamResult) (grades : List (Option Grade)) (component : ProcessGraph) : Type 0 where
  pub nodes : component.nodes ≡ graph.nodes
  pub each : length component.streams ≡ length graph.streams
  pub streams : (j : ℕ) (stream measured : Stream) (result : StreamResult) (grade : Option Grade)
      → slice_get graph.streams j ≡ Some stream → slice_get printed j ≡ Some result → slice_get grades j ≡ Some grade
      → slice_get component.streams j ≡ Some measured → IsComponentStream result grade stream measured
  pub within : (j : ℕ) → IsOverAt printed grades j → ⊥

-- the first stream that is over the limits
pub record IsFirstOver (printed : List StreamResult) (grades : List (Option Grade)) (j : ℕ) : Type 0 where
  pub over : IsOverAt printed grades j
  pub before : (k : ℕ) → k < j → IsOverAt printed grades k → ⊥
