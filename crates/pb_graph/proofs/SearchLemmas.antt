-- A breadth-first search keeps a tree, and at its end no step leads out of it.
use Rattle.std.proofs.Common.{◌≡◌, ◌≢◌, ◌∙◌, ℕ, zero, suc, ◌+◌, ◌-◌, ◌<◌, ◌≤◌, Bool, true, false, ◌==◌, if◌then◌else◌, ◌⊎◌, List, [], ◌∷◌, length, get_or, set, replicate, Option, Some, slice_get, ap, sym, refl, subst, inl, inr, arith}
use Rattle.std.specs.List.{AllByRecursion}
use Rattle.std.proofs.lemmas.Bool.{cases_Bool, cases_eq, cases_lt, eq-eqb, ne_eqb, eqb-true}
use Rattle.std.proofs.lemmas.List.{get_or_past, get_or-set_same, get_or-set_other, length-set, length-replicate}
use Rattle.std.proofs.lemmas.Option.{get_or_from_slice_get}
use Rattle.pb_graph.specs.declared.records.Stream.{Stream}
use Rattle.pb_graph.specs.declared.records.Step.{Step}
use Rattle.pb_graph.specs.ProcessGraph.{IsStream, other_end, some_stream}
use Rattle.pb_graph.specs.Walk.{along, ends_of}
use Rattle.pb_graph.specs.Path.{is_open}
use Rattle.pb_graph.specs.Neighbours.{touches, touching_from, touching}
use Rattle.pb_graph.specs.Search.{SearchTree, IsTree, IsClosedTo, place_of, way_of, unfound, hung, step_back, followed, visited, begun}
use Rattle.pb_graph.proofs.WalkLemmas.{along_within, ends_is, stream_of, some_same}

-- finding a node takes one from those not found
pub unfound-set : (ps : List ℕ) (i p : ℕ) → i < length ps → get_or ps i 0 ≡ 0 → 0 < p → unfound (set ps i p) + 1 ≡ unfound ps
unfound-set [] i p lt none some = absurd (omega (arith, lt))
unfound-set (q ∷ ps) zero (suc p) lt none some = rw (none, ne_eqb (suc p) 0 (λ e. absurd (omega (arith, e)))) (omega arith)
unfound-set (q ∷ ps) zero zero lt none some = absurd (omega (arith, some))
unfound-set (q ∷ ps) (suc i) p lt none some =
    let rest = unfound-set ps i p (omega (arith, lt)) none some in
    omega (arith, rest)

-- if a node isn't found, there is room in the order
pub room_left : (ps : List ℕ) (i : ℕ) → i < length ps → get_or ps i 0 ≡ 0 → 0 < unfound ps
room_left ps i lt none = omega (arith, unfound-set ps i 1 lt none (omega arith))

-- what one more node leaves: the places of the others, and a place after all of them
pub record Grows (t u : SearchTree) : Type 0 where
  pub each : (n : ℕ) → (place_of u n ≡ place_of t n) ⊎ ((place_of t n ≡ 0) × (t.found < place_of u n))
  pub more : t.found ≤ u.found

grows_same : (t : SearchTree) → Grows t t
grows_same t = record { each = λ n. inl refl; more = omega arith }

grows_both : (t u v : SearchTree) → Grows t u → Grows u v → Grows t v
grows_both t u v a b = record {
  each = λ n. elim (b.each n) [
    | inl same ↦ elim (a.each n) [
      | inl old ↦ inl (same ∙ old)
      | inr (none, new) ↦ inr (none, omega (arith, same, new))
    ]
    | inr (none, new) ↦ elim (a.each n) [
      | inl old ↦ inr (sym old ∙ none, omega (arith, new, a.more))
      | inr (was, first) ↦ absurd (omega (arith, first, none))
    ]
  ];
  more = omega (arith, a.more, b.more);
}

pub grows_found : (t u : SearchTree) (n : ℕ) → Grows t u → 0 < place_of t n → place_of u n ≡ place_of t n
grows_found t u n g some = elim (g.each n) [
  | inl same ↦ same
  | inr (none, new) ↦ absurd (omega (arith, none, some))
]

place_new : (ends : Step → Option (ℕ × ℕ)) (nodes : ℕ) (t : SearchTree) (at : ℕ) (step : Step) → IsTree ends nodes t → at < nodes → place_of (hung t at step) at ≡ t.found + 1
place_new ends nodes t at step tree lt = get_or-set_same t.place at (t.found + 1) 0 (omega (arith, lt, tree.places))

place_old : (t : SearchTree) (at n : ℕ) (step : Step) → n ≢ at → place_of (hung t at step) n ≡ place_of t n
place_old t at n step ne = get_or-set_other t.place at n (t.found + 1) 0 ne

no_step : Step
no_step = record { stream = 0; forward = false }

-- one more node, hung below a node found
pub hung_tree : (ends : Step → Option (ℕ × ℕ)) (nodes : ℕ) (t : SearchTree) (at next : ℕ) (step : Step) → IsTree ends nodes t → place_of t at ≡ 0
    → at < nodes → ends step ≡ Some (at, next) → 0 < place_of t next → IsTree ends nodes (hung t at step)
hung_tree ends nodes t at next step tree new lt leads below =
    let u = hung t at step in
    let here : place_of u at ≡ t.found + 1 = place_new ends nodes t at step tree lt in
    let room = unfound-set t.place at (t.found + 1) (omega (arith, lt, tree.places)) new (omega arith) in
    let fits : t.found < length t.order = omega (arith, room, tree.room, tree.orders) in
    let apart : (n : ℕ) → 0 < place_of t n → n ≢ at = λ n some e. absurd (omega (arith, some, ap (place_of t) e, new)) in
    let kept : (n : ℕ) → 0 < place_of t n → place_of u n ≡ place_of t n = λ n some. place_old t at n step (apart n some) in
    record {
      places = length-set t.place at (t.found + 1) ∙ tree.places;
      ways = length-set t.way at step ∙ tree.ways;
      orders = length-set t.order t.found at ∙ tree.orders;
      start = kept t.root (omega (arith, tree.start)) ∙ tree.start;
      only = λ n one. elim (cases_eq n at) [
        | inl same ↦ absurd (omega (arith, one, ap (place_of u) same, here, tree.within t.root, tree.start))
        | inr other ↦ tree.only n (sym (place_old t at n step other) ∙ one)
      ];
      leads = λ n far. elim (cases_eq n at) [
        | inl same ↦
            let way : way_of u n ≡ step = ap (λ (m : ℕ). way_of u m) same ∙ get_or-set_same t.way at step (record { stream = 0; forward = false }) (omega (arith, lt, tree.ways)) in
            let at_n : ends (way_of u n) ≡ Some (n, next) = ap ends way ∙ leads ∙ ap (λ (m : ℕ). Some (m, next)) (sym same) in
            (next, at_n, omega (arith, kept next below, below), omega (arith, kept next below, tree.within next, ap (place_of u) same, here))
        | inr other ↦
            let was = place_old t at n step other in
            let (m, e, some, less) = tree.leads n (omega (arith, far, was)) in
            let way : way_of u n ≡ way_of t n = get_or-set_other t.way at n step (record { stream = 0; forward = false }) other in
            (m, ap ends way ∙ e, omega (arith, kept m some, some), omega (arith, kept m some, less, was))
      ];
      listed = λ i less. elim (cases_eq i t.found) [
        | inl same ↦
            let is : get_or u.order i 0 ≡ at = ap (λ (k : ℕ). get_or u.order k 0) same ∙ get_or-set_same t.order t.found at 0 fits in
            ap (place_of u) is ∙ here ∙ ap (λ (k : ℕ). k + 1) (sym same)
        | inr other ↦
            let is : get_or u.order i 0 ≡ get_or t.order i 0 = get_or-set_other t.order t.found i at 0 other in
            let was = tree.listed i (omega (arith, less, other)) in
            ap (place_of u) is ∙ kept (get_or t.order i 0) (omega (arith, was)) ∙ was
      ];
      found_at = λ n some. elim (cases_eq n at) [
        | inl same ↦
            let place : place_of u n - 1 ≡ t.found = omega (arith, ap (place_of u) same, here) in
            ap (λ (k : ℕ). get_or u.order k 0) place ∙ get_or-set_same t.order t.found at 0 fits ∙ sym same
        | inr other ↦
            let was = place_old t at n step other in
            let less : place_of t n - 1 ≢ t.found = λ e. absurd (omega (arith, e, some, was, tree.within n)) in
            ap (λ (k : ℕ). get_or u.order (k - 1) 0) was ∙ get_or-set_other t.order t.found (place_of t n - 1) at 0 less ∙ tree.found_at n (omega (arith, some, was))
      ];
      within = λ n. elim (cases_eq n at) [
        | inl same ↦ omega (arith, ap (place_of u) same, here)
        | inr other ↦ omega (arith, place_old t at n step other, tree.within n)
      ];
      room = omega (arith, room, tree.room);
    }

hung_grows : (ends : Step → Option (ℕ × ℕ)) (nodes : ℕ) (t : SearchTree) (at : ℕ) (step : Step) → IsTree ends nodes t → place_of t at ≡ 0 → at < nodes → Grows t (hung t at step)
hung_grows ends nodes t at step tree new lt = record {
  each = λ n. elim (cases_eq n at) [
    | inl same ↦ inr (ap (place_of t) same ∙ new, omega (arith, ap (place_of (hung t at step)) same, place_new ends nodes t at step tree lt))
    | inr other ↦ inl (place_old t at n step other)
  ];
  more = omega arith;
}

-- the step back along a stream that touches a node
back_ends : (nodes node j : ℕ) (s : Stream) → IsStream nodes s → touches node s ≡ true → along (s.to == node) s ≡ (other_end node s, node)
back_ends nodes node j s is touch = elim (cases_eq s.to node) [
  | inl to ↦ rw (eq-eqb s.to node to) (ap (λ (n : ℕ). (s.from, n)) to)
  | inr no_to ↦
      let from : s.from ≡ node = elim (cases_eq s.from node) [
        | inl same ↦ same
        | inr other ↦ cc (rw (ne_eqb s.from node other, ne_eqb s.to node no_to) at touch)
      ] in
      rw (ne_eqb s.to node no_to) (ap (λ (n : ℕ). (s.to, n)) from)
]

-- a step from a node leads to the stream's other end
step_leads : (nodes node m : ℕ) (s : Stream) (forward : Bool) → IsStream nodes s → along forward s ≡ (node, m) → other_end node s ≡ m
step_leads nodes node m s true is e =
    let from : s.from ≡ node = ap (λ (p : ℕ × ℕ). p.0) e in
    let to : s.to ≡ m = ap (λ (p : ℕ × ℕ). p.1) e in
    rw (ne_eqb s.to node (λ z. is.apart (from ∙ sym z))) to
step_leads nodes node m s false is e =
    let to : s.to ≡ node = ap (λ (p : ℕ × ℕ). p.0) e in
    let from : s.from ≡ m = ap (λ (p : ℕ × ℕ). p.1) e in
    rw (eq-eqb s.to node to) from

-- what following one stream does
record Follows (ends : Step → Option (ℕ × ℕ)) (nodes node j : ℕ) (t u : SearchTree) : Type 0 where
  tree : IsTree ends nodes u
  grows : Grows t u
  reached : (m : ℕ) (step : Step) → step.stream ≡ j → ends step ≡ Some (node, m) → 0 < place_of u m

-- a step along the stream at place j from a node leads to its other end
leads_to : (marks : List Bool) (ss : List Stream) (nodes node j m : ℕ) (s : Stream) (step : Step) → IsStream nodes s → slice_get ss j ≡ Some s → step.stream ≡ j
    → ends_of (is_open marks) ss step ≡ Some (node, m) → (other_end node s ≡ m) × (get_or marks j false ≡ true)
leads_to marks ss nodes node j m s step is at same e =
    let (r, at_r, ok, goes) = stream_of (is_open marks) ss step (node, m) e in
    let one : r ≡ s = some_same (sym at_r ∙ ap (λ (i : ℕ). slice_get ss i) same ∙ at) in
    (step_leads nodes node m s step.forward is (ap (along step.forward) (sym one) ∙ goes), ap (λ (i : ℕ). get_or marks i false) (sym same) ∙ ok)

follows_by : (marks : List Bool) (ss : List Stream) (nodes node j : ℕ) (s : Stream) (t : SearchTree) (may new : Bool) → get_or marks j false ≡ may
    → (place_of t (other_end node s) == 0) ≡ new → IsStream nodes s → touches node s ≡ true → slice_get ss j ≡ Some s
    → IsTree (ends_of (is_open marks) ss) nodes t → 0 < place_of t node
    → Follows (ends_of (is_open marks) ss) nodes node j t (if may then (if new then hung t (other_end node s) (step_back node j s) else t) else t)
follows_by marks ss nodes node j s t false new open_is new_is is touch at tree some = record {
  tree = tree;
  grows = grows_same t;
  reached = λ m step same e. cc (sym open_is ∙ (leads_to marks ss nodes node j m s step is at same e).1);
}
follows_by marks ss nodes node j s t true false open_is new_is is touch at tree some = record {
  tree = tree;
  grows = grows_same t;
  reached = λ m step same e.
      let other = (leads_to marks ss nodes node j m s step is at same e).0 in
      elim (cases_eq (place_of t (other_end node s)) 0) [
        | inl none ↦ cc (sym new_is ∙ eq-eqb (place_of t (other_end node s)) 0 none)
        | inr found ↦ subst (λ (n : ℕ). 0 < place_of t n) other (omega (arith, found))
      ];
}
follows_by marks ss nodes node j s t true true open_is new_is is touch at tree some =
    let ends = ends_of (is_open marks) ss in
    let other = other_end node s in
    let step = step_back node j s in
    let none : place_of t other ≡ 0 = eqb-true (place_of t other) 0 new_is in
    let goes = back_ends nodes node j s is touch in
    let leads : ends step ≡ Some (other, node) = ends_is (is_open marks) ss j s (s.to == node) at open_is ∙ ap (λ (e : ℕ × ℕ). Some e) goes in
    let lt : other < nodes = (along_within nodes s (s.to == node) other node is goes).0 in
    record {
      tree = hung_tree ends nodes t other node step tree none lt leads some;
      grows = hung_grows ends nodes t other step tree none lt;
      reached = λ m back same e.
          subst (λ (n : ℕ). 0 < place_of (hung t other step) n) (leads_to marks ss nodes node j m s back is at same e).0 (omega (arith, place_new ends nodes t other step tree lt));
    }

follows : (marks : List Bool) (ss : List Stream) (nodes node j : ℕ) (s : Stream) (t : SearchTree) → IsStream nodes s → touches node s ≡ true → slice_get ss j ≡ Some s
    → IsTree (ends_of (is_open marks) ss) nodes t → 0 < place_of t node
    → Follows (ends_of (is_open marks) ss) nodes node j t (followed node j (get_or marks j false) s t)
follows marks ss nodes node j s t is touch at tree some =
    follows_by marks ss nodes node j s t (get_or marks j false) (place_of t (other_end node s) == 0) refl refl is touch at tree some

-- a stream at a place of a list, with an end at a node
abbrev pub TouchesAt : List Stream → ℕ → ℕ → Type 0
TouchesAt ss node j = (s : Stream) × (slice_get ss j ≡ Some s) × (touches node s ≡ true)

-- what following some streams of a node does
pub record Visits (ends : Step → Option (ℕ × ℕ)) (nodes node : ℕ) (js : List ℕ) (t u : SearchTree) : Type 0 where
  pub tree : IsTree ends nodes u
  pub grows : Grows t u
  pub reached : AllByRecursion (λ (j : ℕ). (m : ℕ) (step : Step) → step.stream ≡ j → ends step ≡ Some (node, m) → 0 < place_of u m) js

pub visits : (marks : List Bool) (ss : List Stream) (nodes node : ℕ) (js : List ℕ) (t : SearchTree)
    → ((j : ℕ) (s : Stream) → slice_get ss j ≡ Some s → IsStream nodes s) → AllByRecursion (TouchesAt ss node) js
    → IsTree (ends_of (is_open marks) ss) nodes t → 0 < place_of t node
    → Visits (ends_of (is_open marks) ss) nodes node js t (visited ss marks node js t)
visits marks ss nodes node [] t each touch tree some = record { tree = tree; grows = grows_same t; reached = tt }
visits marks ss nodes node (j ∷ js) t each ((s, at, here), touch) tree some =
    let is : get_or ss j some_stream ≡ s = get_or_from_slice_get ss j s some_stream at in
    let first = follows marks ss nodes node j s t (each j s at) here at tree some in
    let u = followed node j (get_or marks j false) s t in
    let still : 0 < place_of u node = omega (arith, grows_found t u node first.grows some, some) in
    let rest = visits marks ss nodes node js u each touch first.tree still in
    let all : Visits (ends_of (is_open marks) ss) nodes node (j ∷ js) t (visited ss marks node js u) = record {
      tree = rest.tree;
      grows = grows_both t u (visited ss marks node js u) first.grows rest.grows;
      reached = (
        λ m step same e.
            let found = first.reached m step same e in
            omega (arith, grows_found u (visited ss marks node js u) m rest.grows found, found),
        rest.reached,
      );
    } in
    subst (λ (r : Stream). Visits (ends_of (is_open marks) ss) nodes node (j ∷ js) t (visited ss marks node js (followed node j (get_or marks j false) r t))) (sym is) all

-- the streams at a node's places touch it
touching_each : (n k : ℕ) (all ss : List Stream) → ((i : ℕ) (s : Stream) → slice_get ss i ≡ Some s → slice_get all (k + i) ≡ Some s)
    → AllByRecursion (TouchesAt all n) (touching_from n k ss)
touching_each n k all [] there = tt
touching_each n k all (s ∷ ss) there =
    let rest = touching_each n (k + 1) all ss (λ i r at. ap (slice_get all) (omega arith) ∙ there (suc i) r at) in
    elim (cases_Bool (touches n s)) [
      | inl here ↦ rw here ((s, ap (slice_get all) (omega arith) ∙ there zero s refl, here), rest)
      | inr away ↦ rw away rest
    ]

pub touching_all : (n : ℕ) (ss : List Stream) → AllByRecursion (TouchesAt ss n) (touching n ss)
touching_all n ss = touching_each n 0 ss ss (λ i s at. ap (slice_get ss) (omega arith) ∙ at)

-- a stream that touches a node is in its list
touching_has : (P : ℕ → Type 0) (n k : ℕ) (ss : List Stream) (i : ℕ) (s : Stream) → AllByRecursion P (touching_from n k ss) → slice_get ss i ≡ Some s → touches n s ≡ true → P (k + i)
touching_has P n k [] i s all at touch = cc at
touching_has P n k (r ∷ ss) zero s all at touch =
    let is : r ≡ s = some_same at in
    let here : touches n r ≡ true = ap (touches n) is ∙ touch in
    let first : AllByRecursion P (k ∷ touching_from n (k + 1) ss) = rw here at all in
    subst P (omega arith) first.0
touching_has P n k (r ∷ ss) (suc i) s all at touch =
    let rest : AllByRecursion P (touching_from n (k + 1) ss) = elim (cases_Bool (touches n r)) [
      | inl here ↦ let both : AllByRecursion P (k ∷ touching_from n (k + 1) ss) = rw here at all in both.1
      | inr away ↦ rw away at all
    ] in
    subst P (omega arith) (touching_has P n (k + 1) ss i s rest at touch)

touches_begin : (n m : ℕ) (s : Stream) (forward : Bool) → along forward s ≡ (n, m) → touches n s ≡ true
touches_begin n m s true e = rw (eq-eqb s.from n (ap (λ (p : ℕ × ℕ). p.0) e)) refl
touches_begin n m s false e = elim (cases_Bool (s.from == n)) [
  | inl here ↦ rw here refl
  | inr away ↦ rw (away, eq-eqb s.to n (ap (λ (p : ℕ × ℕ). p.0) e)) refl
]

-- the next node of the order is visited: steps from it lead to nodes found, and so do those from earlier nodes
pub closed_more : (marks : List Bool) (ss : List Stream) (nodes done node : ℕ) (t u : SearchTree) → IsTree (ends_of (is_open marks) ss) nodes t → done < t.found
    → get_or t.order done 0 ≡ node → Visits (ends_of (is_open marks) ss) nodes node (touching node ss) t u
    → IsClosedTo (ends_of (is_open marks) ss) t done → IsClosedTo (ends_of (is_open marks) ss) u (done + 1)
closed_more marks ss nodes done node t u tree lt is v closed = λ n m step some le e.
    let ends = ends_of (is_open marks) ss in
    let was : place_of u n ≡ place_of t n = elim (v.grows.each n) [
      | inl same ↦ same
      | inr (none, new) ↦ absurd (omega (arith, new, le, lt))
    ] in
    elim (cases_eq (place_of t n) (done + 1)) [
      | inr earlier ↦
          let found = closed n m step (omega (arith, some, was)) (omega (arith, was, le, earlier)) e in
          omega (arith, grows_found t u m v.grows found, found)
      | inl now ↦
          let here : n ≡ node = sym (tree.found_at n (omega (arith, now))) ∙ ap (λ (k : ℕ). get_or t.order k 0) (omega (arith, now)) ∙ is in
          let (s, at, ok, goes) = stream_of (is_open marks) ss step (n, m) e in
          let touch : touches node s ≡ true = ap (λ (k : ℕ). touches k s) (sym here) ∙ touches_begin n m s step.forward goes in
          let reached = touching_has (λ (j : ℕ). (m : ℕ) (step : Step) → step.stream ≡ j → ends step ≡ Some (node, m) → 0 < place_of u m) node 0 ss step.stream s v.reached at touch in
          reached m step (omega arith) (e ∙ ap (λ (k : ℕ). Some (k, m)) here)
    ]

-- the nodes of an order are nodes of the graph
pub listed_within : (ends : Step → Option (ℕ × ℕ)) (nodes i : ℕ) (t : SearchTree) → IsTree ends nodes t → i < t.found → get_or t.order i 0 < nodes
listed_within ends nodes i t tree lt = elim (cases_lt (get_or t.order i 0) nodes) [
  | inl within ↦ within
  | inr past ↦ absurd (omega (arith, tree.listed i lt, get_or_past t.place (get_or t.order i 0) 0 (omega (arith, past, tree.places))))
]

-- one more stream of a node is followed
pub follow_more : (marks : List Bool) (ss : List Stream) (nodes node j : ℕ) (t : SearchTree)
    → ((j : ℕ) (s : Stream) → slice_get ss j ≡ Some s → IsStream nodes s) → TouchesAt ss node j
    → IsTree (ends_of (is_open marks) ss) nodes t → 0 < place_of t node
    → IsTree (ends_of (is_open marks) ss) nodes (followed node j (get_or marks j false) (get_or ss j some_stream) t)
    × (0 < place_of (followed node j (get_or marks j false) (get_or ss j some_stream) t) node)
follow_more marks ss nodes node j t each touch tree some =
    let v = visits marks ss nodes node (j ∷ []) t each (touch, tt) tree some in
    (v.tree, omega (arith, grows_found t (followed node j (get_or marks j false) (get_or ss j some_stream) t) node v.grows some, some))

followed_root : (node j : ℕ) (may : Bool) (s : Stream) (t : SearchTree) → (followed node j may s t).root ≡ t.root
followed_root node j false s t = refl
followed_root node j true s t = elim (cases_Bool (place_of t (other_end node s) == 0)) [
  | inl new ↦ rw new refl
  | inr old ↦ rw old refl
]

pub visited_root : (ss : List Stream) (marks : List Bool) (node : ℕ) (js : List ℕ) (t : SearchTree) → (visited ss marks node js t).root ≡ t.root
visited_root ss marks node [] t = refl
visited_root ss marks node (j ∷ js) t =
    visited_root ss marks node js (followed node j (get_or marks j false) (get_or ss j some_stream) t) ∙ followed_root node j (get_or marks j false) (get_or ss j some_stream) t

pub zero_at : (n i : ℕ) → get_or (replicate {A = ℕ} n 0) i 0 ≡ 0
zero_at zero i = refl
zero_at (suc n) zero = refl
zero_at (suc n) (suc i) = zero_at n i

pub unfound-zeros : (n : ℕ) → unfound (replicate {A = ℕ} n 0) ≡ n
unfound-zeros zero = refl
unfound-zeros (suc n) = omega (arith, unfound-zeros n)

-- a search begins with a tree of only its root
pub begun_tree : (ends : Step → Option (ℕ × ℕ)) (nodes root : ℕ) → root < nodes → IsTree ends nodes (begun nodes root)
begun_tree ends nodes root lt =
    let t = begun nodes root in
    let zeros : List ℕ = replicate nodes 0 in
    let no_way : Step = record { stream = 0; forward = false } in
    let here : place_of t root ≡ 1 = get_or-set_same zeros root 1 0 (omega (arith, lt, length-replicate {A = ℕ} nodes 0)) in
    let away : (n : ℕ) → n ≢ root → place_of t n ≡ 0 = λ n ne. get_or-set_other zeros root n 1 0 ne ∙ zero_at nodes n in
    let only : (n : ℕ) → 0 < place_of t n → n ≡ root = λ n some. elim (cases_eq n root) [ inl same ↦ same | inr other ↦ absurd (omega (arith, some, away n other)) ] in
    let first : get_or t.order 0 0 ≡ root = get_or-set_same zeros 0 root 0 (omega (arith, lt, length-replicate {A = ℕ} nodes 0)) in
    let room = unfound-set zeros root 1 (omega (arith, lt, length-replicate {A = ℕ} nodes 0)) (zero_at nodes root) (omega arith) in
    record {
      places = length-set zeros root 1 ∙ length-replicate {A = ℕ} nodes 0;
      ways = length-set (replicate nodes no_way) root no_way ∙ length-replicate nodes no_way;
      orders = length-set zeros 0 root ∙ length-replicate {A = ℕ} nodes 0;
      start = here;
      only = λ n one. only n (omega (arith, one));
      leads = λ n far. absurd (omega (arith, far, ap (place_of t) (only n (omega (arith, far))), here));
      listed = λ i less. let zero_i : i ≡ 0 = omega (arith, less) in ap (λ (k : ℕ). place_of t (get_or t.order k 0)) zero_i ∙ ap (place_of t) first ∙ here ∙ omega (arith, zero_i);
      found_at = λ n some.
          let is = only n some in
          ap (λ (m : ℕ). get_or t.order (place_of t m - 1) 0) is ∙ ap (λ (k : ℕ). get_or t.order (k - 1) 0) here ∙ first ∙ sym is;
      within = λ n. elim (cases_eq n root) [ inl same ↦ omega (arith, ap (place_of t) same, here) | inr other ↦ omega (arith, away n other) ];
      room = omega (arith, room, unfound-zeros nodes);
    }
