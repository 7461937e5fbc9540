-- Each node and stream of a window finds the names of what it stands for.
use Rattle.std.specs.Prelude.{filter, IfSome, map, option_map, slice_get}
use Rattle.std.specs.List.{AllByRecursion, enumerate_from, range_with_len}
use Rattle.std.proofs.Common.{◌≡◌, ℕ, zero, suc, ◌+◌, ◌-◌, ◌<◌, ◌≤◌, ℤ, Bool, true, List, [], ◌∷◌, length, Option, None, Some, inl, inr, refl, subst, arith}
use Rattle.std.specs.Prelude.{◌==◌}
use Rattle.std.proofs.lemmas.Bool.{cases_Bool}
use Rattle.std.proofs.lemmas.Option.{slice_get_within}
use Rattle.std.proofs.lemmas.List.Elements.{All-from_recursion}
use Rattle.pb_rows.specs.declared.name.Names.{Names}
use Rattle.pb_plan.specs.declared.plant.PlantArc.{PlantArc}
use Rattle.pb_plan.specs.declared.plant.Span.{Span}
use Rattle.pb_plan.specs.declared.window.Source.TheVariants.{Content}
use Rattle.pb_plan.specs.declared.window.WindowNode.{WindowNode}
use Rattle.pb_plan.specs.declared.window.WindowStream.{WindowStream}
use Rattle.pb_plan.specs.Plant.{NumberedArc, arcs_in, is_node_in, is_served, nodes_in}
use Rattle.pb_plan.specs.Window.{NumberedSpan, content_after, content_day, content_end, contents_of_arc, flow_of, flows_of_period, nodes_of_period, stay_of, window_contents, window_flows, window_node, window_nodes, window_shape, window_streams}
use Rattle.pb_plan.specs.Places.{HasNodeNames, HasStreamNames, HaveNames}
use Rattle.pb_plan.specs.Laws.{WindowPlacesLaw}
use Rattle.pb_plan.proofs.ListLemmas.{all_flat, all_join, all_kept, all_mapped, all_numbered, all_range}
use Rattle.pb_plan.proofs.JoinLemmas.{stay_parts}
use Rattle.pb_plan.proofs.NameLemmas.{shape_in}

-- the numbers of a numbered list
all_places : {A : Type 0} (b n e : ℕ) (xs : List A) → b ≤ n → n + length xs ≤ e → AllByRecursion (λ (numbered : ℕ × A). (b ≤ numbered.0) × (numbered.0 < e)) (enumerate_from n xs)
all_places b n e [] least most = tt
all_places b n e (x ∷ xs) least most = ((least, omega (arith, most)), all_places b (n + 1) e xs (omega (arith, least)) (omega (arith, most)))

-- the numbers of a range
range_below : (a n e : ℕ) → a + n ≤ e → AllByRecursion (λ (m : ℕ). m < e) (range_with_len a n)
range_below a zero e most = tt
range_below a (suc n) e most = (omega (arith, most), range_below (a + 1) n e (omega (arith, most)))

-- ---- nodes

nodes_named : (names : Names) (periods : List (List ℕ)) (period i : ℕ) (xs : List ℕ) → period - 1 < length periods
    → AllByRecursion (λ (m : ℕ). m < length names.nodes) xs → AllByRecursion (HasNodeNames names periods) (map (window_node period) (enumerate_from i xs))
nodes_named names periods period i [] there are = tt
nodes_named names periods period i (x ∷ xs) there are = (record { period = there; name = are.0 }, nodes_named names periods period (i + 1) xs there are.1)

kept_below : (q : ℕ → Bool) (e : ℕ) (xs : List ℕ) → AllByRecursion (λ (m : ℕ). m < e) xs → AllByRecursion (λ (m : ℕ). m < e) (filter q xs)
kept_below q e [] are = tt
kept_below q e (x ∷ xs) are = elim (cases_Bool (q x)) [ inl passes ↦ rw passes (are.0, kept_below q e xs are.1) | inr fails ↦ rw fails (kept_below q e xs are.1) ]

-- ---- contents

stay_short : (spans : List Span) (arc : PlantArc) (period : ℕ) (span : Span) → stay_of spans arc period ≡ Some span → period - 1 < length spans
stay_short spans arc period span stay = elim (cases_Bool (period == 0)) [
  | inl none ↦ cc (rw none at stay)
  | inr some ↦ slice_get_within spans (period - 1) span (stay_parts arc span (slice_get spans (period - 1)) (rw some at stay)).0
]

content_named : (names : Names) (periods : List (List ℕ)) (nodes : List WindowNode) (spans : List Span) (numbered : NumberedArc) (period : ℕ) → length periods ≡ length spans
    → numbered.0 < length names.streams → IfSome (content_after nodes spans numbered period) (HasStreamNames names periods)
content_named names periods nodes spans numbered period long lt = by (stay_of spans arc period) (stay_of spans arc (period + 1)) refl refl
  where
    arc : PlantArc
    arc = numbered.1

    stream : ℤ → Option Span → Option Span → WindowStream
    stream day before after = record {
      source = Content day;
      period = period;
      place = numbered.0;
      arc = numbered.0;
      from = content_end nodes period arc before;
      to = content_end nodes (period + 1) arc after;
    }

    by : (before after : Option Span) → stay_of spans arc period ≡ before → stay_of spans arc (period + 1) ≡ after
        → IfSome (option_map (λ (day : ℤ). stream day before after) (content_day arc before after)) (HasStreamNames names periods)
    by None None one other = tt
    by None (Some span) one other =
        let short = stay_short spans arc (period + 1) span other in
        record { period = omega (arith, short, long); name = lt }
    by (Some span) after one other =
        let short = stay_short spans arc period span one in
        record { period = omega (arith, short, long); name = lt }

-- ---- the window

pub places_are : WindowPlacesLaw
places_are plant spans window names periods answer few_nodes few_arcs few_periods = subst (HaveNames names periods) (shape_in (window_shape plant spans) window answer) (record {
  nodes = All-from_recursion (HasNodeNames names periods) nodes
      (all_flat IsThere (HasNodeNames names periods) (nodes_of_period plant) nodes_of_one (enumerate_from 1 spans) spans_there);
  streams = All-from_recursion (HasStreamNames names periods) (window_streams plant spans) (all_join (HasStreamNames names periods) (window_flows plant.arcs nodes spans) (window_contents plant.arcs nodes spans)
      (all_flat IsThere (HasStreamNames names periods) (flows_of_period plant.arcs nodes) flows_of_one (enumerate_from 1 spans) spans_there)
      (all_flat IsNamed (HasStreamNames names periods) (contents_of_arc nodes spans) contents_of_one (enumerate_from 0 plant.arcs) arcs_named));
})
  where
    nodes : List WindowNode
    nodes = window_nodes plant spans

    IsThere : NumberedSpan → Type 0
    IsThere numbered = (1 ≤ numbered.0) × (numbered.0 < 1 + length spans)

    IsNamed : NumberedArc → Type 0
    IsNamed numbered = (0 ≤ numbered.0) × (numbered.0 < length plant.arcs)

    spans_there : AllByRecursion IsThere (enumerate_from 1 spans)
    spans_there = all_places 1 1 (1 + length spans) spans (omega arith) (omega arith)

    arcs_named : AllByRecursion IsNamed (enumerate_from 0 plant.arcs)
    arcs_named = all_places 0 0 (length plant.arcs) plant.arcs (omega arith) (omega arith)

    nodes_of_one : (numbered : NumberedSpan) → IsThere numbered → AllByRecursion (HasNodeNames names periods) (nodes_of_period plant numbered)
    nodes_of_one numbered there = nodes_named names periods numbered.0 1 (nodes_in plant numbered.1) (omega (arith, there.0, there.1, few_periods))
        (kept_below (is_node_in plant numbered.1) (length names.nodes) (range_with_len 1 plant.nodes) (range_below 1 plant.nodes (length names.nodes) (omega (arith, few_nodes))))

    flow_of_one : (numbered : NumberedSpan) → IsThere numbered → (placed : ℕ × NumberedArc) → IsNamed placed.1 → IfSome (flow_of nodes numbered.0 placed) (HasStreamNames names periods)
    flow_of_one numbered there placed named = elim (cases_Bool placed.1.1.is_tank) [
      | inl tank ↦ rw tank tt
      | inr flow ↦ rw flow (record { period = omega (arith, there.0, there.1, few_periods); name = omega (arith, named.1, few_arcs) })
    ]

    flows_of_one : (numbered : NumberedSpan) → IsThere numbered → AllByRecursion (HasStreamNames names periods) (flows_of_period plant.arcs nodes numbered)
    flows_of_one numbered there =
        let kept = all_kept IsNamed (λ (one : NumberedArc). is_served numbered.1 one.1) (enumerate_from 0 plant.arcs) arcs_named in
        let placed = all_numbered (λ (one : NumberedArc). IsNamed one × (is_served numbered.1 one.1 ≡ true)) 0 (arcs_in plant.arcs numbered.1) kept in
        all_mapped (λ (one : ℕ × NumberedArc). IsNamed one.1 × (is_served numbered.1 one.1.1 ≡ true)) (HasStreamNames names periods) (flow_of nodes numbered.0)
        (λ one is. flow_of_one numbered there one is.0) (enumerate_from 0 (arcs_in plant.arcs numbered.1)) placed

    contents_of_one : (numbered : NumberedArc) → IsNamed numbered → AllByRecursion (HasStreamNames names periods) (contents_of_arc nodes spans numbered)
    contents_of_one numbered named = elim (cases_Bool numbered.1.is_tank) [
      | inl tank ↦ rw tank (all_mapped (λ (period : ℕ). Unit {0}) (HasStreamNames names periods) (content_after nodes spans numbered)
          (λ period _. content_named names periods nodes spans numbered period few_periods (omega (arith, named.1, few_arcs)))
          (range_with_len 0 (length spans + 1)) (all_range (λ (period : ℕ). Unit {0}) (λ _. tt) 0 (length spans + 1)))
      | inr flow ↦ rw flow tt
    ]
