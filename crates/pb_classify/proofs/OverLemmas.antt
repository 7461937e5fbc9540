-- What the depths of a walk show: the nodes below a node are those of the entries after it that are deeper.
use Rattle.std.proofs.Common.{◌≡◌, ◌≢◌, ◌∙◌, ◌⊎◌, ◌↔◌, ℕ, zero, suc, ◌+◌, ◌<◌, ◌≤◌, Bool, true, not, ◌==◌, List, length, Option, Some, None, slice_get, get_or, refl, sym, ap, ap₂, subst, inl, inr, arith}
use Rattle.std.proofs.lemmas.Bool.{cases_Bool, cases_eq, cases_lt, and_parts, and_from, not-true, not_from_false, eq-eqb, ne_eqb}
use Rattle.std.proofs.lemmas.Option.{slice_get_within, get_or_from_slice_get, slice_get-get_or}
use Rattle.pb_fixed.proofs.Lists.{all_each}
use Rattle.pb_graph.specs.declared.records.Stream.{Stream}
use Rattle.pb_graph.specs.declared.records.Step.{Step}
use Rattle.pb_graph.specs.ProcessGraph.{ProcessGraph, IsProcessGraph, IsStream, some_stream, other_end}
use Rattle.pb_graph.specs.Neighbours.{touches}
use Rattle.pb_graph.specs.Walk.{ends_of, unmeasured, Reaches}
use Rattle.pb_graph.proofs.WalkLemmas.{stream_of, reach_none, reach_both, reach_back, reach_more, walk_keeps}
use Rattle.pb_forest.specs.Forest.{IsForest}
use Rattle.pb_forest.specs.Laws.{held_unmeasured, except}
use Rattle.pb_forest.proofs.ForestLaws.{end_cases, two_ends, spans_law}
use Rattle.pb_classify.specs.Points.{branch_but, Joins}
use Rattle.pb_classify.specs.Tables.{Entries, entry_at, node_at, depth_at, tree_at, up_at, number_of}
use Rattle.pb_classify.specs.Walk.{is_branch, end_from, Hangs, AreEntries, IsWalked}
use Rattle.pb_classify.proofs.EntryLemmas.{option_cases}
use Rattle.pb_classify.proofs.BridgeLemmas.{branches_bare, joins_of, joins_reach, not_below}

-- entry i is entry k or comes after it, and all entries after k up to i are deeper than k
pub record IsOver (w : Entries) (k i : ℕ) : Type 0 where
  pub from : k ≤ i
  pub over : (m : ℕ) → k < m → m ≤ i → depth_at w k < depth_at w m

pub over_self : (w : Entries) (k : ℕ) → IsOver w k k
over_self w k = record { from = omega arith; over = λ m lt le. absurd (omega (arith, lt, le)) }

pub over_both : (w : Entries) (k p i : ℕ) → IsOver w k p → IsOver w p i → IsOver w k i
over_both w k p i a b = record {
  from = omega (arith, a.from, b.from);
  over = λ m lt le. elim (cases_lt p m) [
    | inr early ↦ a.over m lt early
    | inl late ↦
        let deeper = b.over m late le in
        elim (cases_eq k p) [
          | inl same ↦ let d = ap (depth_at w) same in omega (arith, d, deeper)
          | inr ne ↦ let d = a.over p (omega (arith, ne, a.from)) (omega arith) in omega (arith, d, deeper)
        ]
  ];
}

-- the parent of an entry
pub parent_over : (ss : List Stream) (held : List Bool) (w : Entries) (i e : ℕ) (h : Hangs ss held w i (entry_at w i) e) → IsOver w h.parent i
parent_over ss held w i e h = record {
  from = omega (arith, h.before);
  over = λ m lt le. elim (cases_eq m i) [
    | inl same ↦ let d = ap (depth_at w) same in omega (arith, d, h.deeper)
    | inr ne ↦ h.over m lt (omega (arith, le, ne))
  ];
}

-- if an entry other than k is over k, so is its parent
pub over_parent : (ss : List Stream) (held : List Bool) (w : Entries) (k i e : ℕ) (h : Hangs ss held w i (entry_at w i) e) → IsOver w k i → k ≢ i → IsOver w k h.parent
over_parent ss held w k i e h o ne =
    let deep = o.over i (omega (arith, o.from, ne)) (omega arith) in
    let from : k ≤ h.parent = elim (cases_lt h.parent k) [
      | inr le ↦ le
      | inl lt ↦ let d = h.over k lt (omega (arith, o.from, ne)) in absurd (omega (arith, d, deep, h.deeper))
    ] in
    record { from = from; over = λ m lt le. o.over m lt (omega (arith, le, h.before)) }

-- ---- the two ends of a stream by which an entry hangs
-- of the ends of a stream, one is this node and the other is the other end
pub which_end : (nodes n a b : ℕ) (s : Stream) → IsStream nodes s → touches n s ≡ true → Joins s a b
    → ((n ≡ a) × (other_end n s ≡ b)) ⊎ ((n ≡ b) × (other_end n s ≡ a))
which_end nodes n a b s is touch joins = elim (end_cases n s touch) [
  | inl (to, other) ↦ elim joins [
    | inl (from_a, to_b) ↦ inr (sym to ∙ to_b, other ∙ from_a)
    | inr (to_a, from_b) ↦ inl (sym to ∙ to_a, other ∙ from_b)
  ]
  | inr (from, away, other) ↦ elim joins [
    | inl (from_a, to_b) ↦ inl (sym from ∙ from_a, other ∙ to_b)
    | inr (to_a, from_b) ↦ inr (sym from ∙ from_b, other ∙ to_a)
  ]
]

-- a stream joins a node that it touches to the other end
pub touch_joins : (n : ℕ) (s : Stream) → touches n s ≡ true → Joins s (other_end n s) n
touch_joins n s touch = elim (end_cases n s touch) [
  | inl (to, other) ↦ inl (sym other, to)
  | inr (from, away, other) ↦ inr (sym other, from)
]

-- a stream is found at its place
pub stream_there : (ss : List Stream) (k : ℕ) → k < length ss → slice_get ss k ≡ Some (get_or ss k some_stream)
stream_there ss k lt = slice_get-get_or ss k some_stream lt

-- an entry is the only one with its node
pub one_number : (nodes : ℕ) (ss : List Stream) (held : List Bool) (w : Entries) (i k : ℕ) → AreEntries nodes ss held w → i < length w.list → k < length w.list
    → node_at w i ≡ node_at w k → i ≡ k
one_number nodes ss held w i k entries li lk same = sym (entries.placed i li) ∙ ap (number_of w) same ∙ entries.placed k lk

-- no two entries hang by the same stream
pub one_stream : (nodes : ℕ) (ss : List Stream) (held : List Bool) (w : Entries) (i k e : ℕ) → AreEntries nodes ss held w → k < i → i < length w.list
    → up_at w i ≡ Some e → up_at w k ≡ Some e → ⊥
one_stream nodes ss held w i k e entries less lt up_i up_k =
    let s : Stream = get_or ss e some_stream in
    let lk : k < length w.list = omega (arith, less, lt) in
    let hi = entries.branch i e lt up_i in
    let hk = entries.branch k e lk up_k in
    let apart : node_at w i ≢ node_at w k = λ same. let one = one_number nodes ss held w i k entries lt lk same in omega (arith, one, less) in
    let other : node_at w i ≡ other_end (node_at w k) s = two_ends (node_at w k) (node_at w i) s hk.touch hi.touch (λ same. apart (sym same)) in
    let one = one_number nodes ss held w i hk.parent entries lt (omega (arith, hk.before, lk)) (other ∙ sym hk.end) in
    absurd (omega (arith, one, hk.before, less))

-- ---- down from a node
-- the step from an entry's parent to it, over streams of which the one by which it hangs may be taken
parent_reach : (nodes : ℕ) (ss : List Stream) (held : List Bool) (w : Entries) (may : ℕ → Stream → Bool) (i e : ℕ) (h : Hangs ss held w i (entry_at w i) e)
    → may e (get_or ss e some_stream) ≡ true → Reaches (ends_of may ss) (node_at w h.parent) (node_at w i)
parent_reach nodes ss held w may i e h ok =
    let s : Stream = get_or ss e some_stream in
    subst (λ (a : ℕ). Reaches (ends_of may ss) a (node_at w i)) (sym h.end)
    (joins_reach may ss e s (other_end (node_at w i) s) (node_at w i) (stream_there ss e h.there) ok (touch_joins (node_at w i) s h.touch))

-- the stream by which an entry after k hangs isn't the one by which entry k does
but_up : (nodes : ℕ) (ss : List Stream) (held : List Bool) (w : Entries) (k i e : ℕ) (o : Option ℕ) → AreEntries nodes ss held w → k < i → i < length w.list
    → up_at w i ≡ Some e → is_branch ss held e ≡ true → up_at w k ≡ o → branch_but held o e (get_or ss e some_stream) ≡ true
but_up nodes ss held w k i e None entries less lt up_i branch up_k = branch
but_up nodes ss held w k i e (Some j) entries less lt up_i branch up_k = elim (cases_eq e j) [
  | inl same ↦ absurd (one_stream nodes ss held w i k e entries less lt up_i (up_k ∙ ap (λ (m : ℕ). Some m) (sym same)))
  | inr ne ↦ and_from (held_unmeasured held e (get_or ss e some_stream)) (not (e == j)) branch (not_from_false (e == j) (ne_eqb e j ne))
]

descend : (nodes : ℕ) (ss : List Stream) (held : List Bool) (w : Entries) (k bound i : ℕ) → AreEntries nodes ss held w → i < bound → i < length w.list → IsOver w k i
    → Reaches (ends_of (branch_but held (up_at w k)) ss) (node_at w k) (node_at w i)
descend nodes ss held w k zero i entries less lt o = absurd (omega (arith, less))
descend nodes ss held w k (suc bound) i entries less lt o = elim (cases_eq k i) [
  | inl same ↦
      subst (λ (m : ℕ). Reaches (ends_of (branch_but held (up_at w k)) ss) (node_at w k) (node_at w m)) same (reach_none (ends_of (branch_but held (up_at w k)) ss) (node_at w k))
  | inr ne ↦
      let after : k < i = omega (arith, ne, o.from) in
      let deep = o.over i after (omega arith) in
      elim (option_cases (up_at w i)) [
        | inl none ↦ let top = entries.top i lt none in absurd (omega (arith, top, deep))
        | inr some ↦
            let (e, up) = some in
            let h = entries.branch i e lt up in
            let rest = descend nodes ss held w k bound h.parent entries (omega (arith, h.before, less)) (omega (arith, h.before, lt)) (over_parent ss held w k i e h o ne) in
            let ok = but_up nodes ss held w k i e (up_at w k) entries after lt up h.branch refl in
            reach_both (ends_of (branch_but held (up_at w k)) ss) (node_at w k) (node_at w h.parent) (node_at w i) rest
            (parent_reach nodes ss held w (branch_but held (up_at w k)) i e h ok)
      ]
]

-- the entries that are over entry k are reached from it over branches other than the one to its parent
pub over_reach : (nodes : ℕ) (ss : List Stream) (held : List Bool) (w : Entries) (k i : ℕ) → AreEntries nodes ss held w → i < length w.list → IsOver w k i
    → Reaches (ends_of (branch_but held (up_at w k)) ss) (node_at w k) (node_at w i)
over_reach nodes ss held w k i entries lt o = descend nodes ss held w k (i + 1) i entries (omega arith) lt o

-- ---- up to the first node of a tree
-- every stream by which an entry hangs may be taken
abbrev pub TakesUps : List Stream → Entries → (ℕ → Stream → Bool) → Type 0
TakesUps ss w may = (i e : ℕ) → i < length w.list → up_at w i ≡ Some e → may e (get_or ss e some_stream) ≡ true

rise : (nodes : ℕ) (ss : List Stream) (held : List Bool) (w : Entries) (may : ℕ → Stream → Bool) (bound i : ℕ) → AreEntries nodes ss held w → TakesUps ss w may
    → i < bound → i < length w.list → Reaches (ends_of may ss) (node_at w (tree_at w i)) (node_at w i)
rise nodes ss held w may zero i entries ups less lt = absurd (omega (arith, less))
rise nodes ss held w may (suc bound) i entries ups less lt = elim (option_cases (up_at w i)) [
  | inl none ↦ subst (λ (m : ℕ). Reaches (ends_of may ss) (node_at w m) (node_at w i)) (sym (entries.label i lt none)) (reach_none (ends_of may ss) (node_at w i))
  | inr some ↦
      let (e, up) = some in
      let h = entries.branch i e lt up in
      let rest = rise nodes ss held w may bound h.parent entries ups (omega (arith, h.before, less)) (omega (arith, h.before, lt)) in
      reach_both (ends_of may ss) (node_at w (tree_at w i)) (node_at w h.parent) (node_at w i)
      (subst (λ (m : ℕ). Reaches (ends_of may ss) (node_at w m) (node_at w h.parent)) h.tree rest) (parent_reach nodes ss held w may i e h (ups i e lt up))
]

-- a label is at most the number of each entry that has it
pub label_least : (nodes : ℕ) (ss : List Stream) (held : List Bool) (w : Entries) (bound i : ℕ) → AreEntries nodes ss held w → i < bound → i < length w.list → tree_at w i ≤ i
label_least nodes ss held w zero i entries less lt = absurd (omega (arith, less))
label_least nodes ss held w (suc bound) i entries less lt = elim (option_cases (up_at w i)) [
  | inl none ↦ let own = entries.label i lt none in omega (arith, own)
  | inr some ↦
      let (e, up) = some in
      let h = entries.branch i e lt up in
      let rest = label_least nodes ss held w bound h.parent entries (omega (arith, h.before, less)) (omega (arith, h.before, lt)) in
      omega (arith, rest, h.tree, h.before)
]

-- entries with the same label are joined by the streams by which entries hang
pub label_reach : (nodes : ℕ) (ss : List Stream) (held : List Bool) (w : Entries) (may : ℕ → Stream → Bool) (i k : ℕ) → AreEntries nodes ss held w → TakesUps ss w may
    → i < length w.list → k < length w.list → tree_at w i ≡ tree_at w k → Reaches (ends_of may ss) (node_at w i) (node_at w k)
label_reach nodes ss held w may i k entries ups li lk same =
    let to_i = rise nodes ss held w may (i + 1) i entries ups (omega arith) li in
    let to_k = rise nodes ss held w may (k + 1) k entries ups (omega arith) lk in
    reach_both (ends_of may ss) (node_at w i) (node_at w (tree_at w k)) (node_at w k)
    (subst (λ (m : ℕ). Reaches (ends_of may ss) (node_at w i) (node_at w m)) same (reach_back may ss (node_at w (tree_at w i)) (node_at w i) to_i)) to_k

-- ---- each branch is one by which an entry hangs
-- entry i hangs by stream j
pub record IsLower (w : Entries) (j : ℕ) : Type 0 where
  pub i : ℕ
  pub there : i < length w.list
  pub up : up_at w i ≡ Some j

-- whether an entry hangs by stream j is decided
up_cases : (o : Option ℕ) (j : ℕ) → (o ≡ Some j) ⊎ (o ≡ Some j → ⊥)
up_cases None j = inr (λ e. cc e)
up_cases (Some k) j = elim (cases_eq k j) [
  | inl same ↦ inl (ap (λ (m : ℕ). Some m) same)
  | inr ne ↦ inr (λ e. ne (cc e))
]

-- the number of a node entered
pub number_there : (nodes : ℕ) (ss : List Stream) (held : List Bool) (w : Entries) (n : ℕ) → IsWalked nodes ss held w → n < nodes
    → (number_of w n < length w.list) × (node_at w (number_of w n) ≡ n)
number_there nodes ss held w n walked lt = (walked.entries.few n (walked.all n lt), walked.entries.found n (walked.all n lt))

touch_from : (s : Stream) → touches s.from s ≡ true
touch_from s = rw (eq-eqb s.from s.from refl) refl

touch_to : (s : Stream) → touches s.to s ≡ true
touch_to s = elim (cases_Bool (s.from == s.to)) [
  | inl same ↦ rw same refl
  | inr other ↦ rw (other, eq-eqb s.to s.to refl) refl
]

-- the ends of a branch have the same label
pub level_ends : (nodes : ℕ) (ss : List Stream) (held : List Bool) (w : Entries) (j : ℕ) (s : Stream) → IsWalked nodes ss held w → IsStream nodes s
    → slice_get ss j ≡ Some s → held_unmeasured held j s ≡ true → tree_at w (number_of w s.from) ≡ tree_at w (number_of w s.to)
level_ends nodes ss held w j s walked is at branch =
    let same : get_or ss j some_stream ≡ s = get_or_from_slice_get ss j s some_stream at in
    let (lt, node) = number_there nodes ss held w s.from walked is.from in
    let touch : touches (node_at w (number_of w s.from)) (get_or ss j some_stream) ≡ true = ap₂ (λ (n : ℕ) (u : Stream). touches n u) node same ∙ touch_from s in
    let to : end_from ss (node_at w (number_of w s.from)) j ≡ s.to = ap₂ (λ (n : ℕ) (u : Stream). other_end n u) node same ∙ rw (ne_eqb s.to s.from (λ e. is.apart (sym e))) refl in
    let level = walked.level (number_of w s.from) j lt (slice_get_within ss j s at) (ap (held_unmeasured held j) same ∙ branch) touch in
    sym level ∙ ap (λ (n : ℕ). tree_at w (number_of w n)) to

-- an entry that hangs by stream j is at one of its ends
hangs_at : (nodes : ℕ) (ss : List Stream) (held : List Bool) (w : Entries) (j i : ℕ) (s : Stream) → IsWalked nodes ss held w → slice_get ss j ≡ Some s
    → i < length w.list → up_at w i ≡ Some j → (i ≡ number_of w s.from) ⊎ (i ≡ number_of w s.to)
hangs_at nodes ss held w j i s walked at lt up =
    let same : get_or ss j some_stream ≡ s = get_or_from_slice_get ss j s some_stream at in
    let h = walked.entries.branch i j lt up in
    let touch : touches (node_at w i) s ≡ true = ap (touches (node_at w i)) (sym same) ∙ h.touch in
    let number = walked.entries.placed i lt in
    elim (end_cases (node_at w i) s touch) [
      | inl (to, other) ↦ inr (sym number ∙ ap (number_of w) (sym to))
      | inr (from, away, other) ↦ inl (sym number ∙ ap (number_of w) (sym from))
    ]

pub each_hangs : (g : ProcessGraph) (held : List Bool) (w : Entries) (j : ℕ) (s : Stream) → IsProcessGraph g → IsForest g.streams held → IsWalked g.nodes g.streams held w
    → slice_get g.streams j ≡ Some s → held_unmeasured held j s ≡ true → IsLower w j
each_hangs g held w j s graph forest walked at branch =
    let ss = g.streams in
    let is : IsStream g.nodes s = all_each (IsStream g.nodes) ss graph.joins j s at in
    let (from_lt, from_node) = number_there g.nodes ss held w s.from walked is.from in
    let (to_lt, to_node) = number_there g.nodes ss held w s.to walked is.to in
    elim (up_cases (up_at w (number_of w s.from)) j) [
      | inl here ↦ record { i = number_of w s.from; there = from_lt; up = here }
      | inr not_from ↦ elim (up_cases (up_at w (number_of w s.to)) j) [
        | inl here ↦ record { i = number_of w s.to; there = to_lt; up = here }
        | inr not_to ↦
            let may = except j (held_unmeasured held) in
            let never : (i : ℕ) → i < length w.list → up_at w i ≡ Some j → ⊥ = λ i lt up. elim (hangs_at g.nodes ss held w j i s walked at lt up) [
              | inl same ↦ not_from (ap (up_at w) (sym same) ∙ up)
              | inr same ↦ not_to (ap (up_at w) (sym same) ∙ up)
            ] in
            let ups : TakesUps ss w may = λ i e lt up.
            let h = walked.entries.branch i e lt up in
            let other : e ≢ j = λ same. never i lt (up ∙ ap (λ (m : ℕ). Some m) same) in
            and_from (held_unmeasured held e (get_or ss e some_stream)) (not (e == j)) h.branch (not_from_false (e == j) (ne_eqb e j other)) in
            let level = level_ends g.nodes ss held w j s walked is at branch in
            let joined = label_reach g.nodes ss held w may (number_of w s.from) (number_of w s.to) walked.entries ups from_lt to_lt level in
            absurd (not_below g held j s forest at branch
            (subst (λ (a : ℕ). Reaches (ends_of may ss) a s.to) from_node
            (subst (λ (b : ℕ). Reaches (ends_of may ss) (node_at w (number_of w s.from)) b) to_node joined)))
      ]
    ]

-- ---- what a node reaches over branches other than the one to its parent is below it
-- no such branch leads out of the entries that are deeper
over_step : (g : ProcessGraph) (held : List Bool) (w : Entries) (k : ℕ) → IsProcessGraph g → IsForest g.streams held → IsWalked g.nodes g.streams held w
    → (e a b : ℕ) (s : Stream) → slice_get g.streams e ≡ Some s → held_unmeasured held e s ≡ true → (up_at w k ≢ Some e) → Joins s a b
    → IsOver w k (number_of w a) → IsOver w k (number_of w b)
over_step g held w k graph forest walked e a b s at branch but joins o =
    let ss = g.streams in
    let lower = each_hangs g held w e s graph forest walked at branch in
    let i = lower.i in
    let h = walked.entries.branch i e lower.there lower.up in
    let same : get_or ss e some_stream ≡ s = get_or_from_slice_get ss e s some_stream at in
    let touch : touches (node_at w i) s ≡ true = ap (touches (node_at w i)) (sym same) ∙ h.touch in
    let number_i : number_of w (node_at w i) ≡ i = walked.entries.placed i lower.there in
    let number_p : number_of w (other_end (node_at w i) s) ≡ h.parent =
    ap (number_of w) (ap (other_end (node_at w i)) (sym same) ∙ sym h.end) ∙ walked.entries.placed h.parent (omega (arith, h.before, lower.there)) in
    elim (which_end g.nodes (node_at w i) a b s (all_each (IsStream g.nodes) ss graph.joins e s at) touch joins) [
      | inl (here, there) ↦
          let o_i : IsOver w k i = subst (IsOver w k) (ap (number_of w) (sym here) ∙ number_i) o in
          let other : k ≢ i = λ is. but (ap (up_at w) is ∙ lower.up) in
          subst (IsOver w k) (sym number_p ∙ ap (number_of w) there) (over_parent ss held w k i e h o_i other)
      | inr (here, there) ↦
          let o_p : IsOver w k h.parent = subst (IsOver w k) (ap (number_of w) (sym there) ∙ number_p) o in
          subst (IsOver w k) (sym number_i ∙ ap (number_of w) here) (over_both w k h.parent i o_p (parent_over ss held w i e h))
    ]

-- a test that passes a branch other than the one to the parent
passes_branch : (held : List Bool) (o : Option ℕ) (e : ℕ) (s : Stream) → branch_but held o e s ≡ true → (held_unmeasured held e s ≡ true) × (o ≢ Some e)
passes_branch held None e s ok = (ok, λ is. cc is)
passes_branch held (Some j) e s ok =
    let parts = and_parts (held_unmeasured held e s) (not (e == j)) ok in
    (parts.0, λ is. let same : j ≡ e = cc is in cc (sym (eq-eqb e j (sym same)) ∙ not-true (e == j) parts.1))

pub reach_over : (g : ProcessGraph) (held : List Bool) (w : Entries) (n m : ℕ) → IsProcessGraph g → IsForest g.streams held → IsWalked g.nodes g.streams held w
    → Reaches (ends_of (branch_but held (up_at w (number_of w n))) g.streams) n m → IsOver w (number_of w n) (number_of w m)
reach_over g held w n m graph forest walked (steps, walk) =
    let k = number_of w n in
    let may = branch_but held (up_at w k) in
    walk_keeps (ends_of may g.streams) (λ (x : ℕ). IsOver w k (number_of w x)) n m steps
    (λ t a b e o.
    let (s, at, ok, goes) = stream_of may g.streams t (a, b) e in
    let passes = passes_branch held (up_at w k) t.stream s ok in
    over_step g held w k graph forest walked t.stream a b s at passes.0 passes.1 (joins_of s t.forward a b goes) o) walk (over_self w k)

-- ---- labels
branch_level : (g : ProcessGraph) (held : List Bool) (w : Entries) → IsProcessGraph g → IsWalked g.nodes g.streams held w → (t : Step) (a b : ℕ)
    → ends_of (held_unmeasured held) g.streams t ≡ Some (a, b) → tree_at w (number_of w a) ≡ tree_at w (number_of w b)
branch_level g held w graph walked t a b e =
    let (s, at, ok, goes) = stream_of (held_unmeasured held) g.streams t (a, b) e in
    let level = level_ends g.nodes g.streams held w t.stream s walked (all_each (IsStream g.nodes) g.streams graph.joins t.stream s at) at ok in
    elim (joins_of s t.forward a b goes) [
      | inl (from, to) ↦ ap (λ (n : ℕ). tree_at w (number_of w n)) (sym from) ∙ level ∙ ap (λ (n : ℕ). tree_at w (number_of w n)) to
      | inr (to, from) ↦ ap (λ (n : ℕ). tree_at w (number_of w n)) (sym to) ∙ sym level ∙ ap (λ (n : ℕ). tree_at w (number_of w n)) from
    ]

-- nodes have the same label exactly when unmeasured streams join them
pub labels_tell : (g : ProcessGraph) (held : List Bool) (w : Entries) (m n : ℕ) → IsProcessGraph g → IsForest g.streams held → IsWalked g.nodes g.streams held w
    → m < g.nodes → n < g.nodes → (tree_at w (number_of w m) ≡ tree_at w (number_of w n)) ↔ Reaches (ends_of unmeasured g.streams) m n
labels_tell g held w m n graph forest walked lm ln =
    let ss = g.streams in
    let branches = ends_of (held_unmeasured held) ss in
    let (m_lt, m_node) = number_there g.nodes ss held w m walked lm in
    let (n_lt, n_node) = number_there g.nodes ss held w n walked ln in
    let ups : TakesUps ss w (held_unmeasured held) = λ i e lt up. (walked.entries.branch i e lt up).branch in (
      λ same.
          let r = label_reach g.nodes ss held w (held_unmeasured held) (number_of w m) (number_of w n) walked.entries ups m_lt n_lt same in
          let r_m : Reaches branches m (node_at w (number_of w n)) = subst (λ (a : ℕ). Reaches branches a (node_at w (number_of w n))) m_node r in
          reach_more (held_unmeasured held) unmeasured ss m n (branches_bare held ss) (subst (Reaches branches m) n_node r_m),
      λ r.
          let (steps, walk) = (spans_law ss held forest).bare m n r in
          walk_keeps branches (λ (x : ℕ). tree_at w (number_of w m) ≡ tree_at w (number_of w x)) m n steps (λ t a b e h. h ∙ branch_level g held w graph walked t a b e) walk refl,
    )
