-- The component graph is within the limits of a process graph.
use Rattle.std.specs.Prelude.{option_map, All, IfSome}
use Rattle.std.proofs.Common.{◌≡◌, ◌∙◌, ◌<◌, ℕ, zero, suc, ℤ, false, List, [], ◌∷◌, length, get_or, Option, Some, None, sym, arith, subst}
use Rattle.std.specs.Option.{option_map_or}
use Rattle.pb_graph.specs.declared.records.Stream.{Stream}
use Rattle.pb_graph.specs.declared.records.Class.{Class}
use Rattle.pb_graph.specs.declared.records.Class.TheVariants.{Observable, Unobservable, Redundant, Nonredundant}
use Rattle.pb_study.specs.declared.results.StreamResult.{StreamResult}
use Rattle.pb_graph.specs.ProcessGraph.{IsMeasurement, IsProcessGraph, IsStream, IsWithinLimits}
use Rattle.pb_facts.specs.declared.grade.Grade.{Grade}
use Rattle.pb_facts.specs.Grade.{IsGrade}
use Rattle.pb_grades.specs.Grade.{carried, carries_too_much}
use Rattle.pb_grades.specs.Component.{component_overs, component_stream, component_streams, counted_grade, is_component_over}
use Rattle.pb_grades.specs.Laws.{ComponentFormLaw}
use Rattle.pb_grades.proofs.CarriedLemmas.{carried_within}
use Rattle.pb_grades.proofs.ComponentLemmas.{made_graph, none_over, streams_each}

-- ---- one stream

by_grade : (flow : ℤ) (o : Option Grade) → option_map_or (carries_too_much flow) o false ≡ false → IfSome o IsGrade → IfSome (option_map (carried flow) o) IsMeasurement
by_grade flow None not_over is = tt
by_grade flow (Some grade) not_over is = carried_within flow grade not_over is

in_class : (class : Class) (o : Option Grade) → IfSome o IsGrade → IfSome (counted_grade class o) IsGrade
in_class Observable o is = is
in_class Unobservable o is = tt
in_class Redundant o is = is
in_class Nonredundant o is = is

within : (r : StreamResult) (o : Option Grade) (s : Stream) → is_component_over r o ≡ false → IfSome o IsGrade → IsWithinLimits (component_stream r o s)
within r o s not_over is = by_grade r.flow (counted_grade r.classified.class o) not_over (in_class r.classified.class o is)

-- ---- each stream

-- what holds of the ends of each stream holds of the ends of those made
ends_stay : (nodes : ℕ) (ss : List Stream) (rs : List StreamResult) (gs : List (Option Grade)) → All (IsStream nodes) ss → length rs ≡ length ss → length gs ≡ length ss
    → (k : ℕ) (d : Stream) → k < length ss → IsStream nodes (get_or (component_streams ss rs gs) k d)
ends_stay nodes [] rs gs ends e f k d lt = absurd (omega (arith, lt))
ends_stay nodes (s ∷ ss) [] gs ends e f k d lt = absurd (omega (arith, e))
ends_stay nodes (s ∷ ss) (r ∷ rs) [] ends e f k d lt = absurd (omega (arith, f))
ends_stay nodes (s ∷ ss) (r ∷ rs) (g ∷ gs) ends e f zero d lt =
    let first : IsStream nodes s = ends zero s (omega arith) in
    record { from = first.from; to = first.to; apart = first.apart }
ends_stay nodes (s ∷ ss) (r ∷ rs) (g ∷ gs) ends e f (suc k) d lt =
    ends_stay nodes ss rs gs (λ i x less. ends (suc i) x (omega (arith, less))) (omega (arith, e)) (omega (arith, f)) k d (omega (arith, lt))

limits_kept : (ss : List Stream) (rs : List StreamResult) (gs : List (Option Grade)) → length rs ≡ length ss → length gs ≡ length ss
    → All (λ (o : Option Grade). IfSome o IsGrade) gs → ((k : ℕ) → k < length ss → get_or (component_overs rs gs) k false ≡ false)
    → (k : ℕ) (d : Stream) → k < length ss → IsWithinLimits (get_or (component_streams ss rs gs) k d)
limits_kept [] rs gs e f are none k d lt = absurd (omega (arith, lt))
limits_kept (s ∷ ss) [] gs e f are none k d lt = absurd (omega (arith, e))
limits_kept (s ∷ ss) (r ∷ rs) [] e f are none k d lt = absurd (omega (arith, f))
limits_kept (s ∷ ss) (r ∷ rs) (g ∷ gs) e f are none zero d lt = within r g s (none zero (omega arith)) (are zero g (omega arith))
limits_kept (s ∷ ss) (r ∷ rs) (g ∷ gs) e f are none (suc k) d lt =
    limits_kept ss rs gs (omega (arith, e)) (omega (arith, f)) (λ i x less. are (suc i) x (omega (arith, less))) (λ i less. none (suc i) (omega (arith, less))) k d (omega (arith, lt))

-- ---- the graph

pub form_is : ComponentFormLaw
form_is graph component rs gs is e f are answer = subst IsProcessGraph same good
  where
    streams : List Stream
    streams = component_streams graph.streams rs gs

    found : (made_graph graph rs gs ≡ component) × ((k : ℕ) → k < length rs → get_or (component_overs rs gs) k false ≡ false)
    found = none_over graph component rs gs (f ∙ sym e) answer

    same : made_graph graph rs gs ≡ component
    same = found.0

    each : length streams ≡ length graph.streams
    each = streams_each graph.streams rs gs e f

    good : IsProcessGraph (made_graph graph rs gs)
    good = record {
      env = is.env;
      few_nodes = is.few_nodes;
      few_streams = omega (arith, each, is.few_streams);
      joins = λ k d lt. ends_stay graph.nodes graph.streams rs gs is.joins e f k d (omega (arith, lt, each));
      limits = λ k d lt. limits_kept graph.streams rs gs e f are (λ i less. found.1 i (omega (arith, less, e))) k d (omega (arith, lt, each));
    }
