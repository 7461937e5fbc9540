-- What numbers, labels and points say about a stream: whether its ends are apart, and the side of its cut.
use Rattle.std.proofs.Common.{◌≡◌, ◌≢◌, ◌∙◌, ◌⊎◌, ◌↔◌, ℕ, ◌<◌, ◌≤◌, Bool, true, false, not, ◌==◌, List, [], length, Some, Result, Ok, Err, IfOk, slice_get, refl, sym, ap, ap₂, subst, inl, inr, arith}
use Rattle.std.proofs.lemmas.Bool.{cases_Bool, cases_lt, and_parts, and_from, not_from_false, ne_eqb}
use Rattle.std.proofs.lemmas.List.{get_or_past}
use Rattle.pb_fixed.proofs.Lists.{all_each}
use Rattle.pb_graph.specs.declared.records.Stream.{Stream}
use Rattle.pb_graph.specs.ProcessGraph.{ProcessGraph, IsProcessGraph, IsStream, is_measured}
use Rattle.pb_graph.specs.Walk.{ends_of, unmeasured, unmeasured_but, Reaches, is_in, IsReach}
use Rattle.pb_graph.specs.Path.{is_open}
use Rattle.pb_graph.proofs.WalkLemmas.{some_same, reach_back, IsWithin, reach_more}
use Rattle.pb_forest.specs.Forest.{IsForest}
use Rattle.pb_forest.specs.Laws.{held_unmeasured, except}
use Rattle.pb_forest.proofs.ForestLaws.{spans_law}
use Rattle.pb_classify.specs.Points.{NodePoints, IsBelow, IsNumbering, ArePoints, IsApart, IsJoined, IsSideOf}
use Rattle.pb_classify.specs.PointLaws.{IsNumberBelow}
use Rattle.pb_classify.specs.Cuts.{IsTreeOf}
use Rattle.pb_classify.proofs.BridgeLemmas.{but_bare, branches_but, joins_reach, reach_within, below_but, not_below, below_reach, past, points_apart, points_law}

-- ---- a stream that no node hangs by
-- it isn't held, or it is measured
pub no_branch : (g : ProcessGraph) (held : List Bool) (points : NodePoints) (j : ℕ) (s : Stream) → IsNumbering g held points → slice_get g.streams j ≡ Some s
    → points.up s.from ≢ Some j → points.up s.to ≢ Some j → held_unmeasured held j s ≡ false
no_branch g held points j s numbering at from to = elim (cases_Bool (held_unmeasured held j s)) [
  | inr out ↦ out
  | inl branch ↦
      let lower = numbering.each j s at branch in
      let is = numbering.up lower.node j lower.there lower.up in
      let same : is.stream ≡ s = some_same (sym is.at ∙ at) in
      elim is.touch [
        | inl here ↦ absurd (from (ap points.up (ap (λ (u : Stream). u.from) (sym same) ∙ here) ∙ lower.up))
        | inr here ↦ absurd (to (ap points.up (ap (λ (u : Stream). u.to) (sym same) ∙ here) ∙ lower.up))
      ]
]

-- the held unmeasured streams are then other streams
branches_others : (held : List Bool) (j : ℕ) (ss : List Stream) (s : Stream) → slice_get ss j ≡ Some s → held_unmeasured held j s ≡ false
    → IsWithin ss (held_unmeasured held) (unmeasured_but j)
branches_others held j ss s at out k t there ok =
    let other : k ≢ j = λ same.
    let is : t ≡ s = some_same (sym there ∙ ap (λ (i : ℕ). slice_get ss i) same ∙ at) in
    cc (sym ok ∙ ap₂ (λ (i : ℕ) (u : Stream). held_unmeasured held i u) same is ∙ out) in
    and_from (unmeasured k t) (not (k == j)) (and_parts (is_open held k t) (unmeasured k t) ok).1 (not_from_false (k == j) (ne_eqb k j other))

-- so what unmeasured streams join, the other ones join
pub others_reach : (g : ProcessGraph) (held : List Bool) (j a b : ℕ) (s : Stream) → IsForest g.streams held → slice_get g.streams j ≡ Some s
    → held_unmeasured held j s ≡ false → Reaches (ends_of unmeasured g.streams) a b → Reaches (ends_of (unmeasured_but j) g.streams) a b
others_reach g held j a b s forest at out r =
    reach_more (held_unmeasured held) (unmeasured_but j) g.streams a b (branches_others held j g.streams s at out) ((spans_law g.streams held forest).bare a b r)

bare_reach : (g : ProcessGraph) (j a b : ℕ) → Reaches (ends_of (unmeasured_but j) g.streams) a b → Reaches (ends_of unmeasured g.streams) a b
bare_reach g j a b r = reach_more (unmeasured_but j) unmeasured g.streams a b (but_bare j g.streams) r

-- a stream at one place
at_one : (g : ProcessGraph) (j : ℕ) (s : Stream) (P : Stream → Type 0) → slice_get g.streams j ≡ Some s → P s → (t : Stream) → slice_get g.streams j ≡ Some t → P t
at_one g j s P at p t there = subst P (some_same (sym at ∙ there)) p

pub stream_in : (g : ProcessGraph) (j : ℕ) (s : Stream) → IsProcessGraph g → slice_get g.streams j ≡ Some s → IsStream g.nodes s
stream_in g j s graph at = all_each (IsStream g.nodes) g.streams graph.joins j s at

-- ---- whether the ends are apart
measured_out : (held : List Bool) (j : ℕ) (s : Stream) → is_measured s ≡ true → held_unmeasured held j s ≡ false
measured_out held j s is = elim (cases_Bool (held_unmeasured held j s)) [
  | inr out ↦ out
  | inl branch ↦
      let bare : not (is_measured s) ≡ true = (and_parts (is_open held j s) (unmeasured j s) branch).1 in
      cc (rw is at bare)
]

pub labels_apart : (g : ProcessGraph) (points : NodePoints) (j : ℕ) (s : Stream) → IsProcessGraph g → ArePoints g points → slice_get g.streams j ≡ Some s
    → points.label s.from ≢ points.label s.to → IsApart g j
labels_apart g points j s graph are at ne =
    let is = stream_in g j s graph at in
    at_one g j s (λ (t : Stream). Reaches (ends_of (unmeasured_but j) g.streams) t.from t.to → ⊥) at
    (λ r. ne ((are.numbering.label s.from s.to is.from is.to).1 (bare_reach g j s.from s.to r)))

pub labels_joined : (g : ProcessGraph) (points : NodePoints) (j : ℕ) (s : Stream) → IsProcessGraph g → ArePoints g points → slice_get g.streams j ≡ Some s
    → is_measured s ≡ true → points.label s.from ≡ points.label s.to → IsJoined g j
labels_joined g points j s graph are at measured same =
    let is = stream_in g j s graph at in
    at_one g j s (λ (t : Stream). Reaches (ends_of (unmeasured_but j) g.streams) t.from t.to) at
    (others_reach g are.held j s.from s.to s are.forest at (measured_out are.held j s measured) ((are.numbering.label s.from s.to is.from is.to).0 same))

-- an unmeasured stream that isn't held
pub chord_joined : (g : ProcessGraph) (points : NodePoints) (j : ℕ) (s : Stream) → IsProcessGraph g → ArePoints g points → slice_get g.streams j ≡ Some s
    → is_measured s ≡ false → points.up s.from ≢ Some j → points.up s.to ≢ Some j → IsJoined g j
chord_joined g points j s graph are at bare from to =
    at_one g j s (λ (t : Stream). Reaches (ends_of (unmeasured_but j) g.streams) t.from t.to) at
    (others_reach g are.held j s.from s.to s are.forest at (no_branch g are.held points j s are.numbering at from to)
    (joins_reach unmeasured g.streams j s s.from s.to at (not_from_false (is_measured s) bare) (inl (refl, refl))))

-- the lower end of a stream
pub lower_within : (g : ProcessGraph) (points : NodePoints) (j n : ℕ) (s : Stream) → IsProcessGraph g → slice_get g.streams j ≡ Some s
    → (n ≡ s.from) ⊎ (n ≡ s.to) → n < g.nodes
lower_within g points j n s graph at ends =
    let is = stream_in g j s graph at in
    elim ends [ inl from ↦ omega (arith, from, is.from) | inr to ↦ omega (arith, to, is.to) ]

pub points_joined : (g : ProcessGraph) (points : NodePoints) (j n : ℕ) → IsProcessGraph g → ArePoints g points → n < g.nodes → points.up n ≡ Some j
    → ((points.number n ≤ points.low n) × (points.high n ≤ points.last n) → ⊥) → IsJoined g j
points_joined g points j n graph are lt up out =
    let tell = points_law g are.held points n j graph are.forest are.numbering lt up (are.each n lt) in
    let within : (number : ℕ) → IsNumberBelow g are.held points n number → (points.number n ≤ number) × (number ≤ points.last n) =
    λ number b. let w = (are.numbering.below n b.node lt b.there).0 b.below in (omega (arith, w.0, b.is), omega (arith, w.1, b.is)) in
    elim (cases_lt (points.low n) (points.number n)) [
      | inl less ↦ tell.by_low (λ b. let w = within (points.low n) b in omega (arith, w.0, less))
      | inr low ↦ elim (cases_lt (points.last n) (points.high n)) [
        | inl more ↦ tell.by_high (λ b. let w = within (points.high n) b in omega (arith, w.1, more))
        | inr high ↦ absurd (out (low, high))
      ]
    ]

pub points_tell : (g : ProcessGraph) (points : NodePoints) (j n : ℕ) → IsProcessGraph g → ArePoints g points → n < g.nodes → points.up n ≡ Some j
    → (points.number n ≤ points.low n) × (points.high n ≤ points.last n) → IsApart g j
points_tell g points j n graph are lt up within =
    points_apart g are.held points n j graph are.forest are.numbering lt up (are.each n lt) within.0 within.1

-- if the ends are apart, both points are below
within_if_apart : (g : ProcessGraph) (points : NodePoints) (j n : ℕ) (s : Stream) → IsProcessGraph g → ArePoints g points → n < g.nodes → points.up n ≡ Some j
    → slice_get g.streams j ≡ Some s → IsApart g j → (points.number n ≤ points.low n) × (points.high n ≤ points.last n)
within_if_apart g points j n s graph are lt up at apart =
    elim (cases_lt (points.low n) (points.number n)) [
      | inl less ↦ absurd (apart s at (points_joined g points j n graph are lt up (λ w. omega (arith, w.0, less)) s at))
      | inr low ↦ elim (cases_lt (points.last n) (points.high n)) [
        | inl more ↦ absurd (apart s at (points_joined g points j n graph are lt up (λ w. omega (arith, w.1, more)) s at))
        | inr high ↦ (low, high)
      ]
    ]

-- the side of a measured stream is the tree of its `from` end
pub measured_tree : (g : ProcessGraph) (points : NodePoints) (j : ℕ) (s : Stream) (side : List Bool) → ArePoints g points → slice_get g.streams j ≡ Some s
    → is_measured s ≡ true → IsSideOf g j side → IsTreeOf g s.from side
measured_tree g points j s side are at measured is =
    let reach = is s at in
    record {
      each = reach.each;
      reached = λ n inside. bare_reach g j s.from n (reach.reached n inside);
      whole = λ n r. reach.whole n (others_reach g are.held j s.from n s are.forest at (measured_out are.held j s measured) r);
    }

-- ---- sides
in_within : (nodes m : ℕ) (side : List Bool) → length side ≡ nodes → is_in side m ≡ true → m < nodes
in_within nodes m side each inside = elim (cases_lt m nodes) [
  | inl lt ↦ lt
  | inr past ↦ cc (sym inside ∙ get_or_past side m false (omega (arith, past, each)))
]

others_within : (g : ProcessGraph) (j a m : ℕ) → IsProcessGraph g → a < g.nodes → Reaches (ends_of (unmeasured_but j) g.streams) a m → m < g.nodes
others_within g j a m graph lt r = reach_within (unmeasured_but j) g.nodes g.streams a m (all_each (IsStream g.nodes) g.streams graph.joins) lt r

-- a stream that no node hangs by: the nodes with the label of its `from` end
pub tree_side : (g : ProcessGraph) (points : NodePoints) (j : ℕ) (s : Stream) (side : List Bool) → IsProcessGraph g → ArePoints g points → slice_get g.streams j ≡ Some s
    → points.up s.from ≢ Some j → points.up s.to ≢ Some j → length side ≡ points.nodes
    → ((m : ℕ) → m < points.nodes → (is_in side m ≡ true) ↔ (points.label s.from ≡ points.label m)) → IsSideOf g j side
tree_side g points j s side graph are at from to each tree =
    let is = stream_in g j s graph at in
    let out = no_branch g are.held points j s are.numbering at from to in
    let nodes : length side ≡ g.nodes = each ∙ are.nodes in
    at_one g j s (λ (t : Stream). IsReach (ends_of (unmeasured_but j) g.streams) g.nodes t.from side) at (record {
      each = nodes;
      reached = λ m inside.
          let lt = in_within g.nodes m side nodes inside in
          others_reach g are.held j s.from m s are.forest at out ((are.numbering.label s.from m is.from lt).0 ((tree m (omega (arith, lt, are.nodes))).0 inside));
      whole = λ m r.
          let lt = others_within g j s.from m graph is.from r in
          (tree m (omega (arith, lt, are.nodes))).1 ((are.numbering.label s.from m is.from lt).1 (bare_reach g j s.from m r));
    })

-- a stream whose lower end is its `from` end: the nodes below that
pub below_side : (g : ProcessGraph) (points : NodePoints) (j : ℕ) (s : Stream) (side : List Bool) → IsProcessGraph g → ArePoints g points → slice_get g.streams j ≡ Some s
    → points.up s.from ≡ Some j → IsApart g j → length side ≡ points.nodes
    → ((m : ℕ) → m < points.nodes → (is_in side m ≡ true) ↔ ((points.number s.from ≤ points.number m) × (points.number m ≤ points.last s.from))) → IsSideOf g j side
below_side g points j s side graph are at up apart each below =
    let is = stream_in g j s graph at in
    let n = s.from in
    let nodes : length side ≡ g.nodes = each ∙ are.nodes in
    let within = within_if_apart g points j n s graph are is.from up at apart in
    at_one g j s (λ (t : Stream). IsReach (ends_of (unmeasured_but j) g.streams) g.nodes t.from side) at (record {
      each = nodes;
      reached = λ m inside.
          let lt = in_within g.nodes m side nodes inside in
          let there : IsBelow g are.held points n m = (are.numbering.below n m is.from lt).1 ((below m (omega (arith, lt, are.nodes))).0 inside) in
          reach_more (except j (held_unmeasured are.held)) (unmeasured_but j) g.streams n m (branches_but are.held j g.streams) (below_but g are.held points n j m up there);
      whole = λ m r.
          let lt = others_within g j n m graph is.from r in
          let there = below_reach g are.held points n j n m graph are.numbering is.from up (are.each n is.from) within.0 within.1 r ([], refl) in
          (below m (omega (arith, lt, are.nodes))).1 ((are.numbering.below n m is.from lt).0 there);
    })

-- a stream whose lower end is its `to` end: the nodes of the tree that aren't below that
pub rest_side : (g : ProcessGraph) (points : NodePoints) (j : ℕ) (s : Stream) (side : List Bool) → IsProcessGraph g → ArePoints g points → slice_get g.streams j ≡ Some s
    → points.up s.to ≡ Some j → IsApart g j → length side ≡ points.nodes
    → ((m : ℕ) → m < points.nodes
    → (is_in side m ≡ true) ↔ ((points.label s.to ≡ points.label m) × ((points.number s.to ≤ points.number m) × (points.number m ≤ points.last s.to) → ⊥))) → IsSideOf g j side
rest_side g points j s side graph are at up apart each rest =
    let ss = g.streams in
    let held = are.held in
    let is = stream_in g j s graph at in
    let n = s.to in
    let nodes : length side ≡ g.nodes = each ∙ are.nodes in
    let within = within_if_apart g points j n s graph are is.to up at apart in
    let hangs = are.numbering.up n j is.to up in
    let same : hangs.stream ≡ s = some_same (sym hangs.at ∙ at) in
    let branch : held_unmeasured held j s ≡ true = subst (λ (u : Stream). held_unmeasured held j u ≡ true) same hangs.branch in
    let bare : unmeasured j s ≡ true = (and_parts (is_open held j s) (unmeasured j s) branch).1 in
    let ends_level : points.label s.from ≡ points.label n =
    (are.numbering.label s.from n is.from is.to).1 (joins_reach unmeasured ss j s s.from n at bare (inl (refl, refl))) in
    let from_out : IsBelow g held points n s.from → ⊥ = λ b.
    not_below g held j s are.forest at branch (reach_back (except j (held_unmeasured held)) ss n s.from (below_but g held points n j s.from up b)) in
    at_one g j s (λ (t : Stream). IsReach (ends_of (unmeasured_but j) ss) g.nodes t.from side) at (record {
      each = nodes;
      reached = λ m inside.
          let lt = in_within g.nodes m side nodes inside in
          let facts = (rest m (omega (arith, lt, are.nodes))).0 inside in
          let joined = (are.numbering.label n m is.to lt).0 facts.0 in
          let branches = (spans_law ss held are.forest).bare m n (reach_back unmeasured ss n m joined) in
          let out : IsBelow g held points n m → ⊥ = λ b. facts.1 ((are.numbering.below n m is.to lt).0 b) in
          let sides = past g held points n j n m s up at ([], refl) out branches in
          let there = reach_more (except j (held_unmeasured held)) (unmeasured_but j) ss m s.from (branches_but held j ss) (sides.1 refl) in
          reach_back (unmeasured_but j) ss m s.from there;
      whole = λ m r.
          let lt = others_within g j s.from m graph is.from r in
          let level = sym ends_level ∙ (are.numbering.label s.from m is.from lt).1 (bare_reach g j s.from m r) in
          let out : (points.number n ≤ points.number m) × (points.number m ≤ points.last n) → ⊥ = λ w.
          let b : IsBelow g held points n m = (are.numbering.below n m is.to lt).1 w in
          from_out (below_reach g held points n j m s.from graph are.numbering is.to up (are.each n is.to) within.0 within.1 (reach_back (unmeasured_but j) ss s.from m r) b) in
          (rest m (omega (arith, lt, are.nodes))).1 (level, out);
    })

-- the same, if the lower end goes by another name
pub below_side_at : (g : ProcessGraph) (points : NodePoints) (j n : ℕ) (s : Stream) (side : List Bool) → IsProcessGraph g → ArePoints g points → slice_get g.streams j ≡ Some s
    → n ≡ s.from → points.up n ≡ Some j → IsApart g j → length side ≡ points.nodes
    → ((m : ℕ) → m < points.nodes → (is_in side m ≡ true) ↔ ((points.number n ≤ points.number m) × (points.number m ≤ points.last n))) → IsSideOf g j side
below_side_at g points j n s side graph are at is up apart each below =
    below_side g points j s side graph are at (subst (λ (k : ℕ). points.up k ≡ Some j) is up) apart each
    (subst (λ (k : ℕ). (m : ℕ) → m < points.nodes → (is_in side m ≡ true) ↔ ((points.number k ≤ points.number m) × (points.number m ≤ points.last k))) is below)

pub rest_side_at : (g : ProcessGraph) (points : NodePoints) (j n : ℕ) (s : Stream) (side : List Bool) → IsProcessGraph g → ArePoints g points → slice_get g.streams j ≡ Some s
    → n ≡ s.to → points.up n ≡ Some j → IsApart g j → length side ≡ points.nodes
    → ((m : ℕ) → m < points.nodes
    → (is_in side m ≡ true) ↔ ((points.label n ≡ points.label m) × ((points.number n ≤ points.number m) × (points.number m ≤ points.last n) → ⊥))) → IsSideOf g j side
rest_side_at g points j n s side graph are at is up apart each rest =
    rest_side g points j s side graph are at (subst (λ (k : ℕ). points.up k ≡ Some j) is up) apart each
    (subst
    (λ (k : ℕ). (m : ℕ) → m < points.nodes
    → (is_in side m ≡ true) ↔ ((points.label k ≡ points.label m) × ((points.number k ≤ points.number m) × (points.number m ≤ points.last k) → ⊥))) is rest)

pub if_ok_both : {T E : Type 0} (r : Result T E) (P Q R : T → Type 0) → ((x : T) → P x → Q x → R x) → IfOk r P → IfOk r Q → IfOk r R
if_ok_both (Ok x) P Q R f p q = f x p q
if_ok_both (Err e) P Q R f p q = tt
