-- What each node and stream of a window is.
use Rattle.std.specs.Prelude.{All, IfSome, map, option_map, slice_get}
use Rattle.std.specs.List.{AllByRecursion, enumerate_from, range_with_len}
use Rattle.std.proofs.Common.{◌≡◌, ℕ, zero, suc, ◌+◌, ◌-◌, ◌≤◌, ℤ, true, List, [], ◌∷◌, length, Option, None, Some, inl, inr, refl, subst, arith}
use Rattle.std.proofs.lemmas.Bool.{cases_Bool, ne_eqb}
use Rattle.std.proofs.lemmas.List.Elements.{All-from_recursion}
use Rattle.pb_plan.specs.declared.plant.PlantArc.{PlantArc}
use Rattle.pb_plan.specs.declared.plant.Span.{Span}
use Rattle.pb_plan.specs.declared.window.Source.TheVariants.{Content}
use Rattle.pb_plan.specs.declared.window.Window.{Window}
use Rattle.pb_plan.specs.declared.window.WindowNode.{WindowNode}
use Rattle.pb_plan.specs.declared.window.WindowStream.{WindowStream}
use Rattle.pb_plan.specs.Plant.{NumberedArc, arcs_in, is_node_in, is_served, nodes_in}
use Rattle.pb_plan.specs.Window.{NumberedSpan, content_after, content_day, content_end, contents_of_arc, flow_of, flows_of_period, nodes_of_period, span_of, stay_of, window_contents, window_flows, window_node, window_nodes, window_shape, window_streams}
use Rattle.pb_plan.specs.Meaning.{IsNodeOf, IsStreamOf}
use Rattle.pb_plan.specs.Laws.{WindowLaw}
use Rattle.pb_plan.proofs.ListLemmas.{all_flat, all_join, all_kept, all_mapped, all_numbered, all_range}
use Rattle.pb_plan.proofs.NameLemmas.{shape_in}

-- ---- numbered lists

-- an item, preceded by its place in a list
abbrev IsAt : {A : Type 0} → List A → ℕ × A → Type 0
IsAt whole numbered = slice_get whole numbered.0 ≡ Some numbered.1

all_at : {A : Type 0} (whole : List A) (n : ℕ) (xs : List A) → ((k : ℕ) (x : A) → slice_get xs k ≡ Some x → slice_get whole (n + k) ≡ Some x)
    → AllByRecursion (IsAt whole) (enumerate_from n xs)
all_at whole n [] are = tt
all_at {A} whole n (x ∷ xs) are = (
  (let e : n + 0 ≡ n = omega arith in subst (λ (k : ℕ). slice_get whole k ≡ Some x) e (are 0 x refl)),
  all_at whole (n + 1) xs (λ k y at.
      let e : n + suc k ≡ n + 1 + k = omega arith in
      subst (λ (i : ℕ). slice_get whole i ≡ Some y) e (are (suc k) y at)),
)

-- a period, preceded by its number
abbrev IsSpanAt : List Span → NumberedSpan → Type 0
IsSpanAt spans numbered = span_of spans numbered.0 ≡ Some numbered.1

all_spans : (whole : List Span) (n : ℕ) (spans : List Span) → ((k : ℕ) (span : Span) → slice_get spans k ≡ Some span → slice_get whole (n + k) ≡ Some span)
    → AllByRecursion (IsSpanAt whole) (enumerate_from (n + 1) spans)
all_spans whole n [] are = tt
all_spans whole n (span ∷ spans) are = (
  (let e : n + 0 ≡ n + 1 - 1 = omega arith in
      rw (ne_eqb (n + 1) 0 (λ same. absurd (omega (arith, same)))) (subst (λ (k : ℕ). slice_get whole k ≡ Some span) e (are 0 span refl))),
  all_spans whole (n + 1) spans (λ k one at.
      let e : n + suc k ≡ n + 1 + k = omega arith in
      subst (λ (i : ℕ). slice_get whole i ≡ Some one) e (are (suc k) one at)),
)

-- the numbers of a range
range_within : (a n e : ℕ) → 1 ≤ a → a + n ≤ e + 1 → AllByRecursion (λ (m : ℕ). (1 ≤ m) × (m ≤ e)) (range_with_len a n)
range_within a zero e least most = tt
range_within a (suc n) e least most = ((least, omega (arith, most)), range_within (a + 1) n e (omega (arith, least)) (omega (arith, most)))

-- ---- the window

pub window_is : WindowLaw
window_is plant spans window answer = subst (λ (w : Window). All (IsNodeOf plant spans) w.nodes × All (IsStreamOf plant spans w.nodes) w.streams) (shape_in (window_shape plant spans) window answer) (
  All-from_recursion (IsNodeOf plant spans) nodes (all_flat (IsSpanAt spans) (IsNodeOf plant spans) (nodes_of_period plant) nodes_of_one (enumerate_from 1 spans) spans_are),
  All-from_recursion IsOne (window_streams plant spans) (all_join IsOne (window_flows plant.arcs nodes spans) (window_contents plant.arcs nodes spans)
      (all_flat (IsSpanAt spans) IsOne (flows_of_period plant.arcs nodes) flows_of_one (enumerate_from 1 spans) spans_are)
      (all_flat (IsAt plant.arcs) IsOne (contents_of_arc nodes spans) contents_of_one (enumerate_from 0 plant.arcs) arcs_are)),
)
  where
    nodes : List WindowNode
    nodes = window_nodes plant spans

    IsOne : WindowStream → Type 0
    IsOne = IsStreamOf plant spans nodes

    spans_are : AllByRecursion (IsSpanAt spans) (enumerate_from 1 spans)
    spans_are = all_spans spans 0 spans (λ k span at. let e : k ≡ 0 + k = omega arith in subst (λ (i : ℕ). slice_get spans i ≡ Some span) e at)

    arcs_are : AllByRecursion (IsAt plant.arcs) (enumerate_from 0 plant.arcs)
    arcs_are = all_at plant.arcs 0 plant.arcs (λ k arc at. let e : k ≡ 0 + k = omega arith in subst (λ (i : ℕ). slice_get plant.arcs i ≡ Some arc) e at)

    named : (period : ℕ) (span : Span) → span_of spans period ≡ Some span → (i : ℕ) (list : List ℕ)
        → AllByRecursion (λ (m : ℕ). ((1 ≤ m) × (m ≤ plant.nodes)) × (is_node_in plant span m ≡ true)) list → AllByRecursion (IsNodeOf plant spans) (map (window_node period) (enumerate_from i list))
    named period span there i [] are = tt
    named period span there i (m ∷ list) are =
        (record { span = span; there = there; least = are.0.0.0; most = are.0.0.1; joined = are.0.1 }, named period span there (i + 1) list are.1)

    nodes_of_one : (numbered : NumberedSpan) → IsSpanAt spans numbered → AllByRecursion (IsNodeOf plant spans) (nodes_of_period plant numbered)
    nodes_of_one numbered there = named numbered.0 numbered.1 there 1 (nodes_in plant numbered.1)
        (all_kept (λ (m : ℕ). (1 ≤ m) × (m ≤ plant.nodes)) (is_node_in plant numbered.1) (range_with_len 1 plant.nodes) (range_within 1 plant.nodes plant.nodes (omega arith) (omega arith)))

    flow_is : (numbered : NumberedSpan) → IsSpanAt spans numbered → (placed : ℕ × NumberedArc) → IsAt plant.arcs placed.1 → is_served numbered.1 placed.1.1 ≡ true
        → IfSome (flow_of nodes numbered.0 placed) IsOne
    flow_is numbered there placed at served = elim (cases_Bool placed.1.1.is_tank) [
      | inl tank ↦ rw tank tt
      | inr flow ↦ rw flow (inl (record {
        span = numbered.1;
        there = there;
        arc = placed.1.1;
        declared = at;
        flows = flow;
        served = served;
        source = refl;
        from = refl;
        to = refl;
      }))
    ]

    flows_of_one : (numbered : NumberedSpan) → IsSpanAt spans numbered → AllByRecursion IsOne (flows_of_period plant.arcs nodes numbered)
    flows_of_one numbered there =
        let kept = all_kept (IsAt plant.arcs) (λ (one : NumberedArc). is_served numbered.1 one.1) (enumerate_from 0 plant.arcs) arcs_are in
        let placed = all_numbered (λ (one : NumberedArc). IsAt plant.arcs one × (is_served numbered.1 one.1 ≡ true)) 0 (arcs_in plant.arcs numbered.1) kept in
        all_mapped (λ (one : ℕ × NumberedArc). IsAt plant.arcs one.1 × (is_served numbered.1 one.1.1 ≡ true)) IsOne (flow_of nodes numbered.0)
        (λ one is. flow_is numbered there one is.0 is.1) (enumerate_from 0 (arcs_in plant.arcs numbered.1)) placed

    content_is : (numbered : NumberedArc) → IsAt plant.arcs numbered → numbered.1.is_tank ≡ true → (period : ℕ) → IfSome (content_after nodes spans numbered period) IsOne
    content_is numbered at tank period = by (content_day arc before after) refl
      where
        arc : PlantArc
        arc = numbered.1

        before : Option Span
        before = stay_of spans arc period

        after : Option Span
        after = stay_of spans arc (period + 1)

        stream : ℤ → WindowStream
        stream day = record {
          source = Content day;
          period = period;
          place = numbered.0;
          arc = numbered.0;
          from = content_end nodes period arc before;
          to = content_end nodes (period + 1) arc after;
        }

        by : (o : Option ℤ) → content_day arc before after ≡ o → IfSome (option_map stream o) IsOne
        by None held = tt
        by (Some day) held = inr (record {
          arc = arc;
          declared = at;
          holds = tank;
          day = day;
          held = held;
          source = refl;
          from = refl;
          to = refl;
        })

    contents_of_one : (numbered : NumberedArc) → IsAt plant.arcs numbered → AllByRecursion IsOne (contents_of_arc nodes spans numbered)
    contents_of_one numbered at = elim (cases_Bool numbered.1.is_tank) [
      | inl tank ↦ rw tank (all_mapped (λ (period : ℕ). Unit {0}) IsOne (content_after nodes spans numbered) (λ period _. content_is numbered at tank period)
          (range_with_len 0 (length spans + 1)) (all_range (λ (period : ℕ). Unit {0}) (λ _. tt) 0 (length spans + 1)))
      | inr flow ↦ rw flow tt
    ]
