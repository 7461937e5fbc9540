-- The component graph of a graph has as many nodes and streams as the graph.
use Rattle.std.specs.Prelude.{position}
use Rattle.std.specs.Option.{option_map_or}
use Rattle.std.proofs.Common.{◌≡◌, ℕ, suc, Bool, List, [], ◌∷◌, length, Option, Some, None, Result, Ok, Err, refl, ap, subst, arith}
use Rattle.pb_graph.specs.declared.records.Stream.{Stream}
use Rattle.pb_graph.specs.ProcessGraph.{ProcessGraph}
use Rattle.pb_study.specs.declared.results.StreamResult.{StreamResult}
use Rattle.pb_facts.specs.declared.grade.Grade.{Grade}
use Rattle.pb_grades.specs.declared.component.ComponentFault.{ComponentFault}
use Rattle.pb_grades.specs.declared.component.ComponentFault.TheVariants as fault
use Rattle.pb_grades.specs.Component.{component_of, component_overs, component_streams}
use Rattle.pb_assay.specs.Balance.{HasCountsOf}

streams_each : (streams : List Stream) (printed : List StreamResult) (grades : List (Option Grade)) → length printed ≡ length streams → length grades ≡ length streams
    → length (component_streams streams printed grades) ≡ length streams
streams_each [] printed grades results graded = refl
streams_each (s ∷ streams) [] grades results graded = absurd (omega (arith, results))
streams_each (s ∷ streams) (r ∷ printed) [] results graded = absurd (omega (arith, graded))
streams_each (s ∷ streams) (r ∷ printed) (grade ∷ grades) results graded =
    ap (λ (n : ℕ). suc n) (streams_each streams printed grades (omega (arith, results)) (omega (arith, graded)))

-- a graph, unless a stream is over the limits
abbrev pub component_unless : ProcessGraph → Option ℕ → Result ProcessGraph ComponentFault
component_unless graph found = option_map_or (λ j. Err (fault.Over j)) found (Ok graph)

unless_made : (made component : ProcessGraph) (found : Option ℕ) → component_unless made found ≡ Ok component → made ≡ component
unless_made made component (Some j) is = cc is
unless_made made component None is = cc is

-- it has the nodes of the graph, and as many streams
pub counts_of : (graph component : ProcessGraph) (printed : List StreamResult) (grades : List (Option Grade)) → length printed ≡ length graph.streams → length grades ≡ length graph.streams
    → component_of graph printed grades ≡ Ok component → HasCountsOf graph component
counts_of graph component printed grades results graded is =
    let made : ProcessGraph = record { nodes = graph.nodes; streams = component_streams graph.streams printed grades } in
    let same : made ≡ component = unless_made made component (position (λ (over : Bool). over) (component_overs printed grades)) is in
    subst (λ (g : ProcessGraph). HasCountsOf graph g) same (record { nodes = refl; streams = streams_each graph.streams printed grades results graded })
