-- Keys of a window's nodes and streams that rise from one to the next.
use Rattle.std.specs.Prelude.{filter, map, option_map}
use Rattle.std.specs.List.{AllByRecursion, cons_option, enumerate_from, filter_map, flat_map, range_with_len}
use Rattle.std.proofs.Common.{◌≡◌, ℕ, zero, suc, ◌+◌, ◌*◌, ◌<◌, ◌≤◌, ℤ, Bool, List, [], ◌∷◌, ◌++◌, length, Option, None, Some, inl, inr, refl, arith}
use Rattle.std.proofs.lemmas.Bool.{cases_Bool}
use Rattle.std.proofs.lemmas.List.FromFn.{length-enumerate_from, length-range_with_len}
use Rattle.pb_plan.specs.declared.plant.Plant.{Plant}
use Rattle.pb_plan.specs.declared.plant.PlantArc.{PlantArc}
use Rattle.pb_plan.specs.declared.plant.Span.{Span}
use Rattle.pb_plan.specs.declared.window.WindowNode.{WindowNode}
use Rattle.pb_plan.specs.declared.window.WindowStream.{WindowStream}
use Rattle.pb_plan.specs.declared.window.Source.TheVariants.{Content}
use Rattle.pb_plan.specs.Plant.{NumberedArc, arcs_in, is_node_in, is_served, nodes_in}
use Rattle.pb_plan.specs.Window.{content_after, content_day, content_end, contents_of_arc, flow_of, flows_of_period, nodes_of_period, stay_of, window_node}

-- the keys of items rise, from one number on and below another
abbrev pub Rise : {A : Type 0} → (A → ℕ) → ℕ → List A → ℕ → Type 0
Rise key b [] e = b ≤ e
Rise key b (x ∷ xs) e = (b ≤ key x) × Rise key (key x + 1) xs e

rise_from : {A : Type 0} (key : A → ℕ) (a b : ℕ) (xs : List A) (e : ℕ) → a ≤ b → Rise key b xs e → Rise key a xs e
rise_from key a b [] e le is = omega (arith, le, is)
rise_from key a b (x ∷ xs) e le is = (omega (arith, le, is.0), is.1)

rise_to : {A : Type 0} (key : A → ℕ) (b : ℕ) (xs : List A) (e f : ℕ) → e ≤ f → Rise key b xs e → Rise key b xs f
rise_to key b [] e f le is = omega (arith, le, is)
rise_to key b (x ∷ xs) e f le is = (is.0, rise_to key (key x + 1) xs e f le is.1)

rise_join : {A : Type 0} (key : A → ℕ) (b m e : ℕ) (xs ys : List A) → Rise key b xs m → Rise key m ys e → Rise key b (xs ++ ys) e
rise_join key b m e [] ys one other = rise_from key b m ys e one other
rise_join key b m e (x ∷ xs) ys one other = (one.0, rise_join key (key x + 1) m e xs ys one.1 other)

rise_least : {A : Type 0} (key : A → ℕ) (b : ℕ) (xs : List A) (e : ℕ) → Rise key b xs e → b ≤ e
rise_least key b [] e is = is
rise_least key b (x ∷ xs) e is = let more = rise_least key (key x + 1) xs e is.1 in omega (arith, is.0, more)

-- each key lies between
pub rise_within : {A : Type 0} (key : A → ℕ) (b m : ℕ) (xs : List A) (e : ℕ) → b ≤ m → Rise key m xs e → AllByRecursion (λ (y : A). (b ≤ key y) × (key y < e)) xs
rise_within key b m [] e le is = tt
rise_within key b m (x ∷ xs) e le is =
    let more = rise_least key (key x + 1) xs e is.1 in
    ((omega (arith, le, is.0), omega (arith, more)), rise_within key b (key x + 1) xs e (omega (arith, le, is.0)) is.1)

length_filter : {A : Type 0} (p : A → Bool) (xs : List A) → length (filter p xs) ≤ length xs
length_filter p [] = omega arith
length_filter p (x ∷ xs) = let more = length_filter p xs in elim (cases_Bool (p x)) [ inl passes ↦ rw passes (omega (arith, more)) | inr fails ↦ rw fails (omega (arith, more)) ]

-- ---- nodes

abbrev pub node_key : WindowNode → ℕ
node_key node = node.period * 65536 + node.place

rise_numbered : (period i : ℕ) (xs : List ℕ) → Rise node_key (period * 65536 + i) (map (window_node period) (enumerate_from i xs)) (period * 65536 + (i + length xs))
rise_numbered period i [] = omega arith
rise_numbered period i (x ∷ xs) = (
  omega arith,
  rise_from node_key (period * 65536 + i + 1) (period * 65536 + (i + 1)) (map (window_node period) (enumerate_from (i + 1) xs)) (period * 65536 + (i + length (x ∷ xs))) (omega arith)
      (rise_to node_key (period * 65536 + (i + 1)) (map (window_node period) (enumerate_from (i + 1) xs)) (period * 65536 + (i + 1 + length xs)) (period * 65536 + (i + length (x ∷ xs))) (omega arith)
      (rise_numbered period (i + 1) xs)),
)

pub nodes_rise : (plant : Plant) → plant.nodes ≤ 65000 → (u : ℕ) (spans : List Span)
    → Rise node_key (u * 65536) (flat_map (nodes_of_period plant) (enumerate_from u spans)) ((u + length spans) * 65536)
nodes_rise plant few u [] = omega arith
nodes_rise plant few u (span ∷ spans) =
    let list = nodes_in plant span in
    let short = length_filter (is_node_in plant span) (range_with_len 1 plant.nodes) in
    let long = length-range_with_len 1 plant.nodes in
    let here = nodes_of_period plant (u, span) in
    let rest = flat_map (nodes_of_period plant) (enumerate_from (u + 1) spans) in
    rise_join node_key (u * 65536) ((u + 1) * 65536) ((u + length (span ∷ spans)) * 65536) here rest
    (rise_from node_key (u * 65536) (u * 65536 + 1) here ((u + 1) * 65536) (omega arith)
    (rise_to node_key (u * 65536 + 1) here (u * 65536 + (1 + length list)) ((u + 1) * 65536) (omega (arith, short, long, few)) (rise_numbered u 1 list)))
    (rise_to node_key ((u + 1) * 65536) rest ((u + 1 + length spans) * 65536) ((u + length (span ∷ spans)) * 65536) (omega arith) (nodes_rise plant few (u + 1) spans))

-- ---- flows

abbrev pub flow_key : WindowStream → ℕ
flow_key stream = stream.period * 65536 + stream.place

rise_flows : (nodes : List WindowNode) (period i : ℕ) (xs : List NumberedArc)
    → Rise flow_key (period * 65536 + i) (filter_map (flow_of nodes period) (enumerate_from i xs)) (period * 65536 + (i + length xs))
rise_flows nodes period i [] = omega arith
rise_flows nodes period i (x ∷ xs) =
    let rest = filter_map (flow_of nodes period) (enumerate_from (i + 1) xs) in
    let later = rise_to flow_key (period * 65536 + (i + 1)) rest (period * 65536 + (i + 1 + length xs)) (period * 65536 + (i + length (x ∷ xs))) (omega arith) (rise_flows nodes period (i + 1) xs) in
    elim (cases_Bool x.1.is_tank) [
      | inl tank ↦ rw tank (rise_from flow_key (period * 65536 + i) (period * 65536 + (i + 1)) rest (period * 65536 + (i + length (x ∷ xs))) (omega arith) later)
      | inr flow ↦ rw flow (
        omega arith,
        rise_from flow_key (period * 65536 + i + 1) (period * 65536 + (i + 1)) rest (period * 65536 + (i + length (x ∷ xs))) (omega arith) later,
      )
    ]

pub flows_rise : (arcs : List PlantArc) (nodes : List WindowNode) → length arcs ≤ 65000 → (u : ℕ) (spans : List Span)
    → Rise flow_key (u * 65536) (flat_map (flows_of_period arcs nodes) (enumerate_from u spans)) ((u + length spans) * 65536)
flows_rise arcs nodes few u [] = omega arith
flows_rise arcs nodes few u (span ∷ spans) =
    let list = arcs_in arcs span in
    let short = length_filter (λ (numbered : NumberedArc). is_served span numbered.1) (enumerate_from 0 arcs) in
    let long = length-enumerate_from 0 arcs in
    let here = flows_of_period arcs nodes (u, span) in
    let rest = flat_map (flows_of_period arcs nodes) (enumerate_from (u + 1) spans) in
    rise_join flow_key (u * 65536) ((u + 1) * 65536) ((u + length (span ∷ spans)) * 65536) here rest
    (rise_from flow_key (u * 65536) (u * 65536 + 0) here ((u + 1) * 65536) (omega arith)
    (rise_to flow_key (u * 65536 + 0) here (u * 65536 + (0 + length list)) ((u + 1) * 65536) (omega (arith, short, long, few)) (rise_flows nodes u 0 list)))
    (rise_to flow_key ((u + 1) * 65536) rest ((u + 1 + length spans) * 65536) ((u + length (span ∷ spans)) * 65536) (omega arith) (flows_rise arcs nodes few (u + 1) spans))

-- ---- contents

abbrev pub content_key : WindowStream → ℕ
content_key stream = stream.place * 65536 + stream.period

rise_option : {A B : Type 0} (key : B → ℕ) (make : A → B) (b : ℕ) (o : Option A) (rest : List B) (e : ℕ)
    → ((x : A) → key (make x) ≡ b) → Rise key (b + 1) rest e → Rise key b (cons_option (option_map make o) rest) e
rise_option key make b None rest e at later = rise_from key b (b + 1) rest e (omega arith) later
rise_option key make b (Some x) rest e at later =
    let is = at x in
    (omega (arith, is), rise_from key (key (make x) + 1) (b + 1) rest e (omega (arith, is)) later)

rise_contents : (nodes : List WindowNode) (spans : List Span) (numbered : NumberedArc) (k n : ℕ)
    → Rise content_key (numbered.0 * 65536 + k) (filter_map (content_after nodes spans numbered) (range_with_len k n)) (numbered.0 * 65536 + (k + n))
rise_contents nodes spans numbered k zero = omega arith
rise_contents nodes spans numbered k (suc n) =
    let arc = numbered.1 in
    let before = stay_of spans arc k in
    let after = stay_of spans arc (k + 1) in
    let rest = filter_map (content_after nodes spans numbered) (range_with_len (k + 1) n) in
    let end = numbered.0 * 65536 + (k + suc n) in
    rise_option content_key (λ (day : ℤ). record {
      source = Content day;
      period = k;
      place = numbered.0;
      arc = numbered.0;
      from = content_end nodes k arc before;
      to = content_end nodes (k + 1) arc after;
    }) (numbered.0 * 65536 + k) (content_day arc before after) rest end (λ day. refl)
    (rise_from content_key (numbered.0 * 65536 + k + 1) (numbered.0 * 65536 + (k + 1)) rest end (omega arith)
    (rise_to content_key (numbered.0 * 65536 + (k + 1)) rest (numbered.0 * 65536 + (k + 1 + n)) end (omega arith) (rise_contents nodes spans numbered (k + 1) n)))

rise_of_arc : (nodes : List WindowNode) (spans : List Span) (numbered : NumberedArc) → length spans ≤ 65000
    → Rise content_key (numbered.0 * 65536) (contents_of_arc nodes spans numbered) ((numbered.0 + 1) * 65536)
rise_of_arc nodes spans numbered few = elim (cases_Bool numbered.1.is_tank) [
  | inl tank ↦
      let list = filter_map (content_after nodes spans numbered) (range_with_len 0 (length spans + 1)) in
      rw tank (rise_from content_key (numbered.0 * 65536) (numbered.0 * 65536 + 0) list ((numbered.0 + 1) * 65536) (omega arith)
      (rise_to content_key (numbered.0 * 65536 + 0) list (numbered.0 * 65536 + (0 + (length spans + 1))) ((numbered.0 + 1) * 65536) (omega (arith, few))
      (rise_contents nodes spans numbered 0 (length spans + 1))))
  | inr flow ↦ rw flow (omega arith)
]

pub contents_rise : (nodes : List WindowNode) (spans : List Span) → length spans ≤ 65000 → (j : ℕ) (arcs : List PlantArc)
    → Rise content_key (j * 65536) (flat_map (contents_of_arc nodes spans) (enumerate_from j arcs)) ((j + length arcs) * 65536)
contents_rise nodes spans few j [] = omega arith
contents_rise nodes spans few j (arc ∷ arcs) =
    let here = contents_of_arc nodes spans (j, arc) in
    let rest = flat_map (contents_of_arc nodes spans) (enumerate_from (j + 1) arcs) in
    rise_join content_key (j * 65536) ((j + 1) * 65536) ((j + length (arc ∷ arcs)) * 65536) here rest
    (rise_of_arc nodes spans (j, arc) few)
    (rise_to content_key ((j + 1) * 65536) rest ((j + 1 + length arcs) * 65536) ((j + length (arc ∷ arcs)) * 65536) (omega arith) (contents_rise nodes spans few (j + 1) arcs))
