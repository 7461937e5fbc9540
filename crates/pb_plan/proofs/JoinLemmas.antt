-- Each stream of a window joins two nodes of its graph.
use Rattle.std.specs.Prelude.{IfSome, slice_get, option_and_then, option_map, nat_lt, if◌then◌else◌}
use Rattle.std.specs.List.{AllByRecursion, enumerate_from, list_any, range_with_len}
use Rattle.std.proofs.Common.{◌≡◌, ◌∙◌, ℕ, ◌+◌, ◌-◌, ◌≤◌, ℤ, Bool, true, ◌||◌, ◌&&◌, List, [], length, get_or, Option, None, Some, Ok, inl, inr, refl, sym, ap, subst, arith}
use Rattle.std.specs.Prelude.{◌==◌}
use Rattle.std.proofs.lemmas.Bool.{cases_Bool, eq-eqb, eqb-false, ltb-false, or_parts}
use Rattle.std.proofs.lemmas.Option.{cond_some, get_or_from_slice_get, slice_get_within}
use Rattle.std.proofs.lemmas.List.Elements.{All-from_recursion, recursion_from_All}
use Rattle.std.proofs.lemmas.List.Folds.{list_any_at}
use Rattle.std.proofs.lemmas.List.FromFn.{get_or-enumerate_from, length-enumerate_from}
use Rattle.pb_limits.specs.Limits.{most_nodes, most_streams}
use Rattle.pb_plan.specs.declared.plant.Plant.{Plant}
use Rattle.pb_plan.specs.declared.plant.PlantArc.{PlantArc}
use Rattle.pb_plan.specs.declared.plant.Span.{Span}
use Rattle.pb_plan.specs.declared.window.Source.TheVariants.{Content}
use Rattle.pb_plan.specs.declared.window.Window.{Window}
use Rattle.pb_plan.specs.declared.window.WindowNode.{WindowNode}
use Rattle.pb_plan.specs.declared.window.WindowStream.{WindowStream}
use Rattle.pb_plan.specs.Plant.{IsPlant, IsPlantArc, NumberedArc, arcs_in, is_end, is_node_in, is_served}
use Rattle.pb_plan.specs.Window.{IsWindow, IsWindowStream, NumberedSpan, content_day, content_end, content_after, contents_of_arc, flow_of, flows_of_period, is_too_great, stands_for, stay_of, unless_too_great, window_contents, window_flows, window_nodes, window_shape, window_streams}
use Rattle.pb_plan.specs.Laws.{WindowFormLaw}
use Rattle.pb_plan.proofs.ListLemmas.{all_flat, all_join, all_kept, all_mapped, all_numbered, all_range, or_true}
use Rattle.pb_plan.proofs.NumberLemmas.{HasNodes, nodes_apart, number_small, number_some, periods_apart, periods_have}

-- ---- the ends of an arc in service are nodes

-- an arc of the plant, whose ends are nodes of each period in which it is in service
abbrev IsArcOf : Plant → PlantArc → Type 0
IsArcOf plant arc =
    IsPlantArc plant.nodes arc × ((span : Span) (n : ℕ) → is_served span arc ≡ true → is_end n arc ≡ true → is_node_in plant span n ≡ true)

arcs_are : (plant : Plant) → IsPlant plant → AllByRecursion (IsArcOf plant) plant.arcs
arcs_are plant is = recursion_from_All (IsArcOf plant) plant.arcs (λ k d lt. (
  is.arcs k d lt,
  λ span n served end.
      let any = list_any_at (λ (arc : PlantArc). is_served span arc && is_end n arc) plant.arcs k d lt (rw (served, end) refl) in
      ap (λ (b : Bool). plant.keeps_idle || b) any ∙ or_true plant.keeps_idle,
))

from_end : (arc : PlantArc) → is_end arc.from arc ≡ true
from_end arc = rw (eq-eqb arc.from arc.from refl) refl

to_end : (arc : PlantArc) → is_end arc.to arc ≡ true
to_end arc = rw (eq-eqb arc.to arc.to refl) (or_true (arc.from == arc.to))

-- ---- flows

-- a numbered arc of the plant, in service in a period
abbrev IsServedArc : Plant → Span → NumberedArc → Type 0
IsServedArc plant span numbered = IsArcOf plant numbered.1 × (is_served span numbered.1 ≡ true)

flow_joins : (plant : Plant) (nodes : List WindowNode) (numbered : NumberedSpan) → HasNodes plant nodes numbered → (placed : ℕ × NumberedArc) → IsServedArc plant numbered.1 placed.1
    → IfSome (flow_of nodes numbered.0 placed) (IsWindowStream (1 + length nodes))
flow_joins plant nodes numbered has placed is = elim (cases_Bool placed.1.1.is_tank) [
  | inl tank ↦ rw tank tt
  | inr flow ↦ rw flow (record {
    from = number_small nodes numbered.0 arc.from;
    to = number_small nodes numbered.0 arc.to;
    apart = nodes_apart nodes numbered.0 arc.from arc.to is.0.0.apart
        (λ some. has arc.from (is.0.1 numbered.1 arc.from is.1 (from_end arc)) some is.0.0.from)
        (λ some. has arc.to (is.0.1 numbered.1 arc.to is.1 (to_end arc)) some is.0.0.to);
  })
]
  where
    arc : PlantArc
    arc = placed.1.1

flows_join : (plant : Plant) → IsPlant plant → (nodes : List WindowNode) (numbered : NumberedSpan) → HasNodes plant nodes numbered
    → AllByRecursion (IsWindowStream (1 + length nodes)) (flows_of_period plant.arcs nodes numbered)
flows_join plant is nodes numbered has =
    let each = all_numbered (IsArcOf plant) 0 plant.arcs (arcs_are plant is) in
    let served = all_kept (λ (one : NumberedArc). IsArcOf plant one.1) (λ (one : NumberedArc). is_served numbered.1 one.1) (enumerate_from 0 plant.arcs) each in
    all_mapped (λ (placed : ℕ × NumberedArc). IsServedArc plant numbered.1 placed.1) (IsWindowStream (1 + length nodes)) (flow_of nodes numbered.0)
    (flow_joins plant nodes numbered has) (enumerate_from 0 (arcs_in plant.arcs numbered.1)) (all_numbered (IsServedArc plant numbered.1) 0 (arcs_in plant.arcs numbered.1) served)

-- ---- contents

-- a period that an arc is in service in
pub stay_parts : (arc : PlantArc) (span : Span) (o : Option Span) → option_and_then (λ (one : Span). if is_served one arc then Some one else None) o ≡ Some span → (o ≡ Some span) × (is_served span arc ≡ true)
stay_parts arc span None is = cc is
stay_parts arc span (Some one) is =
    let parts = cond_some (is_served one arc) one span is in
    (ap Some parts.1, ap (λ (s : Span). is_served s arc) (sym parts.1) ∙ parts.0)

-- a tank in service in a period is a node of it
stay_there : (plant : Plant) (nodes : List WindowNode) (spans : List Span) (arc : PlantArc) (period : ℕ) (span : Span)
    → AllByRecursion (HasNodes plant nodes) (enumerate_from 1 spans) → IsArcOf plant arc → arc.is_tank ≡ true → stay_of spans arc period ≡ Some span
    → list_any (stands_for period arc.from) nodes ≡ true
stay_there plant nodes spans arc period span have is tank stay = elim (cases_Bool (period == 0)) [
  | inl none ↦ cc (rw none at stay)
  | inr some ↦
      let later = eqb-false period 0 some in
      let parts = stay_parts arc span (slice_get spans (period - 1)) (rw some at stay) in
      let lt = slice_get_within spans (period - 1) span parts.0 in
      let d : NumberedSpan = (0, span) in
      let at = get_or-enumerate_from 1 spans (period - 1) d lt in
      let long = length-enumerate_from 1 spans in
      let here : HasNodes plant nodes (get_or (enumerate_from 1 spans) (period - 1) d) =
      All-from_recursion (HasNodes plant nodes) (enumerate_from 1 spans) have (period - 1) d (omega (arith, long, lt)) in
      let has : HasNodes plant nodes (1 + (period - 1), get_or spans (period - 1) span) = subst (HasNodes plant nodes) at here in
      let own : get_or spans (period - 1) span ≡ span = get_or_from_slice_get spans (period - 1) span span parts.0 in
      let number : 1 + (period - 1) ≡ period = omega (arith, later) in
      let ends = is.0.apart in
      let first : 1 ≤ arc.from = omega (arith, ends, is.0.tank tank) in
      let is_node = is.1 (get_or spans (period - 1) span) arc.from (ap (λ (s : Span). is_served s arc) own ∙ parts.1) (from_end arc) in
      subst (λ (t : ℕ). list_any (stands_for t arc.from) nodes ≡ true) number (has arc.from is_node first is.0.from)
]

content_joins : (plant : Plant) (nodes : List WindowNode) (spans : List Span) → AllByRecursion (HasNodes plant nodes) (enumerate_from 1 spans)
    → (numbered : NumberedArc) → IsArcOf plant numbered.1 → numbered.1.is_tank ≡ true → (period : ℕ)
    → IfSome (content_after nodes spans numbered period) (IsWindowStream (1 + length nodes))
content_joins plant nodes spans have numbered is tank period = by (stay_of spans arc period) (stay_of spans arc (period + 1)) refl refl
  where
    arc : PlantArc
    arc = numbered.1

    stream : ℤ → Option Span → Option Span → WindowStream
    stream day before after = record {
      source = Content day;
      period = period;
      place = numbered.0;
      arc = numbered.0;
      from = content_end nodes period arc before;
      to = content_end nodes (period + 1) arc after;
    }

    by : (before after : Option Span) → stay_of spans arc period ≡ before → stay_of spans arc (period + 1) ≡ after
        → IfSome (option_map (λ (day : ℤ). stream day before after) (content_day arc before after)) (IsWindowStream (1 + length nodes))
    by None None one other = tt
    by None (Some span) one other =
        let there = stay_there plant nodes spans arc (period + 1) span have is tank other in
        record { from = omega arith; to = number_small nodes (period + 1) arc.from; apart = λ same. number_some nodes (period + 1) arc.from there (sym same) }
    by (Some span) None one other =
        let there = stay_there plant nodes spans arc period span have is tank one in
        record { from = number_small nodes period arc.from; to = omega arith; apart = number_some nodes period arc.from there }
    by (Some span) (Some next) one other =
        let there = stay_there plant nodes spans arc period span have is tank one in
        record {
          from = number_small nodes period arc.from;
          to = number_small nodes (period + 1) arc.from;
          apart = periods_apart nodes period (period + 1) arc.from (λ same. absurd (omega (arith, same))) there;
        }

contents_join : (plant : Plant) (nodes : List WindowNode) (spans : List Span) → AllByRecursion (HasNodes plant nodes) (enumerate_from 1 spans)
    → (numbered : NumberedArc) → IsArcOf plant numbered.1 → AllByRecursion (IsWindowStream (1 + length nodes)) (contents_of_arc nodes spans numbered)
contents_join plant nodes spans have numbered is = elim (cases_Bool numbered.1.is_tank) [
  | inl tank ↦ rw tank (all_mapped (λ (period : ℕ). Unit {0}) (IsWindowStream (1 + length nodes)) (content_after nodes spans numbered)
      (λ period _. content_joins plant nodes spans have numbered is tank period) (range_with_len 0 (length spans + 1)) (all_range (λ (period : ℕ). Unit {0}) (λ _. tt) 0 (length spans + 1)))
  | inr flow ↦ rw flow tt
]

-- ---- the window

streams_join : (plant : Plant) (spans : List Span) → IsPlant plant → AllByRecursion (IsWindowStream (1 + length (window_nodes plant spans))) (window_streams plant spans)
streams_join plant spans is = all_join joins (window_flows plant.arcs nodes spans) (window_contents plant.arcs nodes spans)
    (all_flat (HasNodes plant nodes) joins (flows_of_period plant.arcs nodes) (flows_join plant is nodes) (enumerate_from 1 spans) have)
    (all_flat (λ (numbered : NumberedArc). IsArcOf plant numbered.1) joins (contents_of_arc nodes spans) (contents_join plant nodes spans have)
    (enumerate_from 0 plant.arcs) (all_numbered (IsArcOf plant) 0 plant.arcs (arcs_are plant is)))
  where
    nodes : List WindowNode
    nodes = window_nodes plant spans

    joins : WindowStream → Type 0
    joins = IsWindowStream (1 + length nodes)

    have : AllByRecursion (HasNodes plant nodes) (enumerate_from 1 spans)
    have = periods_have plant [] 1 spans

form_by : (shape window : Window) → AllByRecursion (IsWindowStream (1 + length shape.nodes)) shape.streams → unless_too_great shape ≡ Ok window → IsWindow window
form_by shape window joins answer = elim (cases_Bool (is_too_great shape)) [
  | inl great ↦ cc (rw great at answer)
  | inr fits ↦
      let same : shape ≡ window = cc (rw fits at answer) in
      let parts = or_parts (nat_lt most_nodes (1 + length shape.nodes)) (nat_lt most_streams (length shape.streams)) fits in
      let good : IsWindow shape = record {
        few_nodes = omega (arith, ltb-false most_nodes (1 + length shape.nodes) parts.0);
        few_streams = omega (arith, ltb-false most_streams (length shape.streams) parts.1);
        joins = All-from_recursion (IsWindowStream (1 + length shape.nodes)) shape.streams joins;
      } in
      subst IsWindow same good
]

pub form_is : WindowFormLaw
form_is plant spans window is answer = form_by (window_shape plant spans) window (streams_join plant spans is) answer
