-- A search of held streams from one root after another keeps trees, and at its end they are whole.
use Rattle.std.proofs.Common.{◌≡◌, ◌≢◌, ◌∙◌, ◌⊎◌, ℕ, zero, suc, ◌+◌, ◌<◌, ◌≤◌, Bool, true, false, ◌==◌, List, [], ◌∷◌, ◌++◌, length, Option, Some, None, is_some, slice_get, get_or, set, replicate, refl, sym, ap, ap₂, subst, inl, inr, arith}
use Rattle.std.proofs.lemmas.Bool.{cases_Bool, cases_eq, cases_lt, eq-eqb, ne_eqb}
use Rattle.std.proofs.lemmas.List.{get_or_past, get_or-set_same, get_or-set_other, get_or_append_left, get_or-append-add, length-append, length-set, length-replicate}
use Rattle.std.proofs.lemmas.Option.{slice_get_within, get_or_from_slice_get}
use Rattle.pb_graph.specs.declared.records.Stream.{Stream}
use Rattle.pb_graph.specs.ProcessGraph.{IsStream, other_end, some_stream}
use Rattle.pb_graph.specs.Neighbours.{touches, touching_from, touching}
use Rattle.pb_graph.proofs.WalkLemmas.{some_same}
use Rattle.pb_forest.specs.Trees.{RootedTrees, node_at, place_of, root_of, up_of, end_from, unfound, IsBranch, AreTrees, AreWhole, AreGrowing, Extends, hung, AreFollowed, AreSearched}

-- ---- the ends of a stream
pub end_cases : (n : ℕ) (s : Stream) → touches n s ≡ true → ((s.to ≡ n) × (other_end n s ≡ s.from)) ⊎ ((s.from ≡ n) × (s.to ≢ n) × (other_end n s ≡ s.to))
end_cases n s touch = elim (cases_eq s.to n) [
  | inl to ↦ inl (to, rw (eq-eqb s.to n to) refl)
  | inr away ↦
      let from : s.from ≡ n = elim (cases_eq s.from n) [
        | inl same ↦ same
        | inr other ↦ cc (rw (ne_eqb s.from n other, ne_eqb s.to n away) at touch)
      ] in
      inr (from, away, rw (ne_eqb s.to n away) refl)
]

touches_from : (s : Stream) → touches s.from s ≡ true
touches_from s = rw (eq-eqb s.from s.from refl) refl

touches_to : (s : Stream) → touches s.to s ≡ true
touches_to s = elim (cases_Bool (s.from == s.to)) [
  | inl same ↦ rw same refl
  | inr other ↦ rw (other, eq-eqb s.to s.to refl) refl
]

pub other_touches : (n : ℕ) (s : Stream) → touches n s ≡ true → touches (other_end n s) s ≡ true
other_touches n s touch = elim (end_cases n s touch) [
  | inl (to, other) ↦ ap (λ (m : ℕ). touches m s) other ∙ touches_from s
  | inr (from, away, other) ↦ ap (λ (m : ℕ). touches m s) other ∙ touches_to s
]

-- the other end of the other end
pub other_back : (nodes n : ℕ) (s : Stream) → IsStream nodes s → touches n s ≡ true → other_end (other_end n s) s ≡ n
other_back nodes n s is touch = elim (end_cases n s touch) [
  | inl (to, other) ↦ ap (λ (m : ℕ). other_end m s) other ∙ rw (ne_eqb s.to s.from (λ e. is.apart (sym e))) to
  | inr (from, away, other) ↦ ap (λ (m : ℕ). other_end m s) other ∙ rw (eq-eqb s.to s.to refl) from
]

-- two nodes that a stream touches are its ends
pub two_ends : (m n : ℕ) (s : Stream) → touches m s ≡ true → touches n s ≡ true → m ≢ n → n ≡ other_end m s
two_ends m n s at_m at_n ne = elim (end_cases m s at_m) [
  | inl (to, other) ↦ elim (end_cases n s at_n) [
    | inl (to_n, z) ↦ absurd (ne (sym to ∙ to_n))
    | inr (from_n, away, z) ↦ sym from_n ∙ sym other
  ]
  | inr (from, away, other) ↦ elim (end_cases n s at_n) [
    | inl (to_n, z) ↦ sym to_n ∙ sym other
    | inr (from_n, far, z) ↦ absurd (ne (sym from ∙ from_n))
  ]
]

pub end_within : (nodes n : ℕ) (s : Stream) → IsStream nodes s → touches n s ≡ true → other_end n s < nodes
end_within nodes n s is touch = elim (end_cases n s touch) [
  | inl (to, other) ↦ omega (arith, other, is.from)
  | inr (from, away, other) ↦ omega (arith, other, is.to)
]

-- a stream that touches a node has a place in its list
pub touching_place : (n k : ℕ) (ss : List Stream) (i : ℕ) → i < length ss → touches n (get_or ss i some_stream) ≡ true
    → (p : ℕ) × (p < length (touching_from n k ss)) × (get_or (touching_from n k ss) p 0 ≡ k + i)
touching_place n k [] i lt touch = absurd (omega (arith, lt))
touching_place n k (s ∷ ss) zero lt touch = rw touch (0, omega arith, omega arith)
touching_place n k (s ∷ ss) (suc i) lt touch =
    let (p, less, is) = touching_place n (k + 1) ss i (omega (arith, lt)) touch in
    elim (cases_Bool (touches n s)) [
      | inl here ↦ rw here (suc p, omega (arith, less), omega (arith, is))
      | inr away ↦ rw away (p, less, omega (arith, is))
    ]

-- ---- nodes found
pub found_within : (nodes : ℕ) (ss : List Stream) (held : List Bool) (t : RootedTrees) (n r : ℕ) → AreTrees nodes ss held t → root_of t n ≡ Some r → n < nodes
found_within nodes ss held t n r trees found = elim (cases_lt n nodes) [
  | inl lt ↦ lt
  | inr past ↦ cc (sym (get_or_past t.root n None (omega (arith, past, trees.roots))) ∙ found)
]

pub node_within : (nodes : ℕ) (ss : List Stream) (held : List Bool) (t : RootedTrees) (i : ℕ) → AreTrees nodes ss held t → i < length t.order → node_at t i < nodes
node_within nodes ss held t i trees lt = let (r, found) = trees.seen i lt in found_within nodes ss held t (node_at t i) r trees found

-- a node has only one place
pub one_place : (nodes : ℕ) (ss : List Stream) (held : List Bool) (t : RootedTrees) (i k : ℕ) → AreTrees nodes ss held t → i < length t.order → k < length t.order
    → node_at t i ≡ node_at t k → i ≡ k
one_place nodes ss held t i k trees li lk same = elim (cases_lt i k) [
  | inl less ↦ absurd (trees.once i k less lk same)
  | inr past ↦ elim (cases_lt k i) [
    | inl more ↦ absurd (trees.once k i more li (sym same))
    | inr equal ↦ omega (arith, past, equal)
  ]
]

unfound_set : (os : List (Option ℕ)) (i r : ℕ) → i < length os → get_or os i None ≡ None → unfound (set os i (Some r)) + 1 ≡ unfound os
unfound_set [] i r lt none = absurd (omega (arith, lt))
unfound_set (None ∷ os) zero r lt none = omega arith
unfound_set (Some q ∷ os) zero r lt none = cc none
unfound_set (None ∷ os) (suc i) r lt none = let e = unfound_set os i r (omega (arith, lt)) none in omega (arith, e)
unfound_set (Some q ∷ os) (suc i) r lt none = unfound_set os i r (omega (arith, lt)) none

-- ---- trees with more nodes
pub extends_same : (t : RootedTrees) → Extends t t
extends_same t = record { same = λ i lt. refl; more = omega arith; kept = λ n r found. found; left = refl }

pub extends_both : (t u v : RootedTrees) → Extends t u → Extends u v → Extends t v
extends_both t u v a b = record {
  same = λ i lt. b.same i (omega (arith, lt, a.more)) ∙ a.same i lt;
  more = omega (arith, a.more, b.more);
  kept = λ n r found. b.kept n r (a.kept n r found);
  left = b.left ∙ a.left;
}

-- what is in a node's tree stays there
pub kept_both : (nodes : ℕ) (ss : List Stream) (held : List Bool) (t u : RootedTrees) (n i : ℕ) → AreTrees nodes ss held t → Extends t u → i < length t.order
    → root_of t n ≡ root_of t (node_at t i) → root_of u n ≡ root_of u (node_at u i)
kept_both nodes ss held t u n i trees ext lt same =
    let (r, found) = trees.seen i lt in
    ext.kept n r (same ∙ found) ∙ sym (ext.kept (node_at t i) r found) ∙ ap (root_of u) (sym (ext.same i lt))

pub kept_followed : (nodes : ℕ) (ss : List Stream) (held : List Bool) (done : ℕ) (t u : RootedTrees) → AreGrowing nodes ss held done t → Extends t u
    → (i k : ℕ) → i < done → k < length ss → get_or held k false ≡ true → touches (node_at u i) (get_or ss k some_stream) ≡ true
    → root_of u (end_from ss (node_at u i) k) ≡ root_of u (node_at u i)
kept_followed nodes ss held done t u g ext i k lt there h touch =
    let less : i < length t.order = omega (arith, lt, g.within) in
    let same = ext.same i less in
    let was = g.followed i k lt there h (ap (λ (n : ℕ). touches n (get_or ss k some_stream)) (sym same) ∙ touch) in
    ap (λ (n : ℕ). root_of u (end_from ss n k)) same ∙ kept_both nodes ss held t u (end_from ss (node_at t i) k) i g.trees ext less was

-- ---- one more node
hung_last : (t : RootedTrees) (m : ℕ) (root up : Option ℕ) → node_at (hung t m root up) (length t.order) ≡ m
hung_last t m root up = ap (λ (i : ℕ). get_or (t.order ++ m ∷ []) i 0) (omega arith) ∙ get_or-append-add t.order (m ∷ []) 0 0

hung_before : (t : RootedTrees) (m i : ℕ) (root up : Option ℕ) → i < length t.order → node_at (hung t m root up) i ≡ node_at t i
hung_before t m i root up lt = get_or_append_left t.order (m ∷ []) 0 i lt

hung_length : (t : RootedTrees) (m : ℕ) (root up : Option ℕ) → length (hung t m root up).order ≡ length t.order + 1
hung_length t m root up = length-append t.order (m ∷ [])

hung_kept : (t : RootedTrees) (m n r : ℕ) (root up : Option ℕ) → root_of t m ≡ None → root_of t n ≡ Some r → root_of (hung t m root up) n ≡ root_of t n
hung_kept t m n r root up new found = get_or-set_other t.root m n root None (λ e. cc (sym new ∙ ap (root_of t) (sym e) ∙ found))

pub hung_extends : (nodes : ℕ) (ss : List Stream) (held : List Bool) (t : RootedTrees) (m r : ℕ) (up : Option ℕ) → AreTrees nodes ss held t → root_of t m ≡ None → m < nodes
    → Extends t (hung t m (Some r) up)
hung_extends nodes ss held t m r up trees new lt = record {
  same = λ i less. hung_before t m i (Some r) up less;
  more = let e = hung_length t m (Some r) up in omega (arith, e);
  kept = λ n q found. hung_kept t m n q (Some r) up new found ∙ found;
  left =
      let e = hung_length t m (Some r) up in
      let f = unfound_set t.root m r (omega (arith, lt, trees.roots)) new in
      omega (arith, e, f);
}

-- what hangs a node: a branch to an earlier one, or nothing at a root
pub record Hangs (ss : List Stream) (held : List Bool) (t : RootedTrees) (m r : ℕ) (up : Option ℕ) : Type 0 where
  pub branch : (k : ℕ) → up ≡ Some k → IsBranch ss held (t.order ++ m ∷ []) (length t.order) k
  pub top : up ≡ None → r ≡ m

branch_more : (ss : List Stream) (held : List Bool) (order : List ℕ) (m i k : ℕ) → i < length order → IsBranch ss held order i k → IsBranch ss held (order ++ m ∷ []) i k
branch_more ss held order m i k lt b =
    let same : get_or (order ++ m ∷ []) i 0 ≡ get_or order i 0 = get_or_append_left order (m ∷ []) 0 i lt in
    record {
      there = b.there;
      marked = b.marked;
      touch = ap (λ (n : ℕ). touches n (get_or ss k some_stream)) same ∙ b.touch;
      place = b.place;
      before = b.before;
      parent = get_or_append_left order (m ∷ []) 0 b.place (omega (arith, lt, b.before)) ∙ b.parent ∙ ap (λ (n : ℕ). end_from ss n k) (sym same);
    }

pub hung_trees : (nodes : ℕ) (ss : List Stream) (held : List Bool) (t : RootedTrees) (m r : ℕ) (up : Option ℕ) → AreTrees nodes ss held t → root_of t m ≡ None → m < nodes
    → Hangs ss held t m r up → AreTrees nodes ss held (hung t m (Some r) up)
hung_trees nodes ss held t m r up trees new lt by_ =
    let u = hung t m (Some r) up in
    let size : length u.order ≡ length t.order + 1 = hung_length t m (Some r) up in
    let last : node_at u (length t.order) ≡ m = hung_last t m (Some r) up in
    let before : (i : ℕ) → i < length t.order → node_at u i ≡ node_at t i = λ i less. hung_before t m i (Some r) up less in
    let root_m : root_of u m ≡ Some r = get_or-set_same t.root m (Some r) None (omega (arith, lt, trees.roots)) in
    let up_m : up_of u m ≡ up = get_or-set_same t.up m up None (omega (arith, lt, trees.ups)) in
    let apart : (i : ℕ) → i < length t.order → node_at t i ≢ m = λ i less e. let (q, found) = trees.seen i less in cc (sym new ∙ ap (root_of t) (sym e) ∙ found) in
    let place_m : place_of u m ≡ length t.order = get_or-set_same t.place m (length t.order) 0 (omega (arith, lt, trees.places)) in
    record {
      places = length-set t.place m (length t.order) ∙ trees.places;
      roots = length-set t.root m (Some r) ∙ trees.roots;
      ups = length-set t.up m up ∙ trees.ups;
      seen = λ i less. elim (cases_eq i (length t.order)) [
        | inl same ↦ (r, ap (λ (j : ℕ). root_of u (node_at u j)) same ∙ ap (root_of u) last ∙ root_m)
        | inr ne ↦
            let old : i < length t.order = omega (arith, less, ne, size) in
            let (q, found) = trees.seen i old in
            (q, ap (root_of u) (before i old) ∙ hung_kept t m (node_at t i) q (Some r) up new found ∙ found)
      ];
      placed = λ i less. elim (cases_eq i (length t.order)) [
        | inl same ↦ ap (λ (j : ℕ). place_of u (node_at u j)) same ∙ ap (place_of u) last ∙ place_m ∙ sym same
        | inr ne ↦
            let old : i < length t.order = omega (arith, less, ne, size) in
            ap (place_of u) (before i old) ∙ get_or-set_other t.place m (node_at t i) (length t.order) 0 (apart i old) ∙ trees.placed i old
      ];
      listed = λ n q found. elim (cases_eq n m) [
        | inl same ↦ (length t.order, omega (arith, size), last ∙ sym same)
        | inr ne ↦
            let (i, less, is) = trees.listed n q (sym (get_or-set_other t.root m n (Some r) None ne) ∙ found) in
            (i, omega (arith, less, size), before i less ∙ is)
      ];
      once = λ i k less lk. elim (cases_eq k (length t.order)) [
        | inl same ↦ λ e. apart i (omega (arith, less, same)) (sym (before i (omega (arith, less, same))) ∙ e ∙ ap (node_at u) same ∙ last)
        | inr ne ↦
            let old : k < length t.order = omega (arith, lk, ne, size) in
            λ e. trees.once i k less old (sym (before i (omega (arith, less, old))) ∙ e ∙ before k old)
      ];
      branch = λ i k less hangs. elim (cases_eq i (length t.order)) [
        | inl same ↦
            let is : up ≡ Some k = sym up_m ∙ ap (up_of u) (sym last) ∙ ap (λ (j : ℕ). up_of u (node_at u j)) (sym same) ∙ hangs in
            subst (λ (j : ℕ). IsBranch ss held u.order j k) (sym same) (by_.branch k is)
        | inr ne ↦
            let old : i < length t.order = omega (arith, less, ne, size) in
            let was : up_of t (node_at t i) ≡ Some k = sym (get_or-set_other t.up m (node_at t i) up None (apart i old)) ∙ ap (up_of u) (sym (before i old)) ∙ hangs in
            branch_more ss held t.order m i k old (trees.branch i k old was)
      ];
      top = λ n q found none. elim (cases_eq n m) [
        | inl same ↦
            let is : r ≡ q = some_same (sym root_m ∙ ap (root_of u) (sym same) ∙ found) in
            sym is ∙ by_.top (sym up_m ∙ ap (up_of u) (sym same) ∙ none) ∙ sym same
        | inr ne ↦ trees.top n q (sym (get_or-set_other t.root m n (Some r) None ne) ∙ found) (sym (get_or-set_other t.up m n up None ne) ∙ none)
      ];
    }

pub hung_growing : (nodes : ℕ) (ss : List Stream) (held : List Bool) (done : ℕ) (t : RootedTrees) (m r : ℕ) (up : Option ℕ) → AreGrowing nodes ss held done t
    → root_of t m ≡ None → m < nodes → Hangs ss held t m r up → (done < length t.order → root_of t (node_at t done) ≡ Some r) → AreGrowing nodes ss held done (hung t m (Some r) up)
hung_growing nodes ss held done t m r up g new lt by_ here =
    let u = hung t m (Some r) up in
    let ext = hung_extends nodes ss held t m r up g.trees new lt in
    let size : length u.order ≡ length t.order + 1 = hung_length t m (Some r) up in
    let root_m : root_of u m ≡ Some r = get_or-set_same t.root m (Some r) None (omega (arith, lt, g.trees.roots)) in
    let all : (i : ℕ) → done ≤ i → i < length u.order → root_of u (node_at u i) ≡ Some r = λ i le less. elim (cases_eq i (length t.order)) [
      | inl same ↦ ap (λ (j : ℕ). root_of u (node_at u j)) same ∙ ap (root_of u) (hung_last t m (Some r) up) ∙ root_m
      | inr ne ↦
          let old : i < length t.order = omega (arith, less, ne, size) in
          ap (root_of u) (ext.same i old) ∙ ext.kept (node_at t i) r (g.one_tree i le old ∙ here (omega (arith, le, old)))
    ] in
    record {
      trees = hung_trees nodes ss held t m r up g.trees new lt by_;
      within = omega (arith, g.within, size);
      followed = kept_followed nodes ss held done t u g ext;
      one_tree = λ i le less. all i le less ∙ sym (all done (omega arith) (omega (arith, le, less)));
    }

-- one more root
pub record IsRooted (nodes : ℕ) (ss : List Stream) (held : List Bool) (m : ℕ) (t u : RootedTrees) : Type 0 where
  pub growing : AreGrowing nodes ss held (length t.order) u
  pub extends : Extends t u
  pub found : root_of u m ≡ Some m

pub hung_root : (nodes : ℕ) (ss : List Stream) (held : List Bool) (t : RootedTrees) (m : ℕ) → AreGrowing nodes ss held (length t.order) t → root_of t m ≡ None → m < nodes
    → IsRooted nodes ss held m t (hung t m (Some m) None)
hung_root nodes ss held t m g new lt = record {
  growing = hung_growing nodes ss held (length t.order) t m m None g new lt (record { branch = λ k e. cc e; top = λ e. refl }) (λ less. absurd (omega (arith, less)));
  extends = hung_extends nodes ss held t m m None g.trees new lt;
  found = get_or-set_same t.root m (Some m) None (omega (arith, lt, g.trees.roots));
}

-- ---- one more stream
pub some_of : (o : Option ℕ) → is_some o ≡ true → (r : ℕ) × (o ≡ Some r)
some_of None e = cc e
some_of (Some r) e = (r, refl)

-- a stream leads to a node that is found
pub found_already : (nodes : ℕ) (ss : List Stream) (held : List Bool) (done j r : ℕ) (t : RootedTrees) → AreGrowing nodes ss held done t → IsStream nodes (get_or ss j some_stream)
    → j < length ss → touches (node_at t done) (get_or ss j some_stream) ≡ true → get_or held j false ≡ true → root_of t (end_from ss (node_at t done) j) ≡ Some r
    → root_of t (end_from ss (node_at t done) j) ≡ root_of t (node_at t done)
found_already nodes ss held done j r t g is lt touch h found =
    let s : Stream = get_or ss j some_stream in
    let node = node_at t done in
    let (i, less, at) = g.trees.listed (other_end node s) r found in
    elim (cases_lt i done) [
      | inl earlier ↦
          let there : touches (node_at t i) s ≡ true = ap (λ (n : ℕ). touches n s) at ∙ other_touches node s touch in
          let back : end_from ss (node_at t i) j ≡ node = ap (λ (n : ℕ). other_end n s) at ∙ other_back nodes node s is touch in
          ap (root_of t) (sym at) ∙ sym (g.followed i j earlier lt h there) ∙ ap (root_of t) back
      | inr later ↦ ap (root_of t) (sym at) ∙ g.one_tree i (omega (arith, later)) less
    ]

pub follows_none : (nodes : ℕ) (ss : List Stream) (held : List Bool) (done j : ℕ) (t : RootedTrees) → AreGrowing nodes ss held done t
    → (get_or held j false ≡ true → root_of t (end_from ss (node_at t done) j) ≡ root_of t (node_at t done)) → AreFollowed nodes ss held done j t t
follows_none nodes ss held done j t g reached = record { growing = g; extends = extends_same t; reached = reached }

pub follows_one : (nodes : ℕ) (ss : List Stream) (held : List Bool) (done j : ℕ) (t : RootedTrees) → AreGrowing nodes ss held done t → IsStream nodes (get_or ss j some_stream)
    → done < length t.order → j < length ss → touches (node_at t done) (get_or ss j some_stream) ≡ true → get_or held j false ≡ true
    → root_of t (end_from ss (node_at t done) j) ≡ None
    → AreFollowed nodes ss held done j t (hung t (end_from ss (node_at t done) j) (root_of t (node_at t done)) (Some j))
follows_one nodes ss held done j t g is place lt touch h new =
    let node = node_at t done in
    let m = end_from ss node j in
    let (r, root) = g.trees.seen done place in
    let within : m < nodes = end_within nodes node (get_or ss j some_stream) is touch in
    let last : get_or (t.order ++ m ∷ []) (length t.order) 0 ≡ m = hung_last t m (Some r) (Some j) in
    let back : end_from ss m j ≡ node = other_back nodes node (get_or ss j some_stream) is touch in
    let by_ : Hangs ss held t m r (Some j) = record {
      branch = λ k e. subst (λ (i : ℕ). IsBranch ss held (t.order ++ m ∷ []) (length t.order) i) (some_same e) (record {
        there = lt;
        marked = h;
        touch = ap (λ (n : ℕ). touches n (get_or ss j some_stream)) last ∙ other_touches node (get_or ss j some_stream) touch;
        place = done;
        before = place;
        parent = get_or_append_left t.order (m ∷ []) 0 done place ∙ sym back ∙ ap (λ (n : ℕ). end_from ss n j) (sym last);
      });
      top = λ e. cc e;
    } in
    let u = hung t m (Some r) (Some j) in
    let ext = hung_extends nodes ss held t m r (Some j) g.trees new within in
    let root_m : root_of u m ≡ Some r = get_or-set_same t.root m (Some r) None (omega (arith, within, g.trees.roots)) in
    let all : AreFollowed nodes ss held done j t u = record {
      growing = hung_growing nodes ss held done t m r (Some j) g new within by_ (λ less. root);
      extends = ext;
      reached = λ h2.
          ap (λ (n : ℕ). root_of u (end_from ss n j)) (ext.same done place) ∙ root_m ∙ sym (ext.kept node r root) ∙ ap (root_of u) (sym (ext.same done place));
    } in
    subst (λ (o : Option ℕ). AreFollowed nodes ss held done j t (hung t m o (Some j))) (sym root) all

-- ---- the streams of a node
-- the first streams of a list were followed
pub record AreVisited (nodes : ℕ) (ss : List Stream) (held : List Bool) (done : ℕ) (list : List ℕ) (i : ℕ) (t u : RootedTrees) : Type 0 where
  pub growing : AreGrowing nodes ss held done u
  pub extends : Extends t u
  pub reached : (p : ℕ) → p < i → get_or held (get_or list p 0) false ≡ true → root_of u (end_from ss (node_at u done) (get_or list p 0)) ≡ root_of u (node_at u done)

pub visits_none : (nodes : ℕ) (ss : List Stream) (held : List Bool) (done : ℕ) (list : List ℕ) (t : RootedTrees) → AreGrowing nodes ss held done t
    → AreVisited nodes ss held done list 0 t t
visits_none nodes ss held done list t g = record { growing = g; extends = extends_same t; reached = λ p lt h. absurd (omega (arith, lt)) }

pub visits_more : (nodes : ℕ) (ss : List Stream) (held : List Bool) (done : ℕ) (list : List ℕ) (i : ℕ) (t u v : RootedTrees) → done < length t.order
    → AreVisited nodes ss held done list i t u → AreFollowed nodes ss held done (get_or list i 0) u v → AreVisited nodes ss held done list (i + 1) t v
visits_more nodes ss held done list i t u v place a b =
    let place_u : done < length u.order = omega (arith, place, a.extends.more) in
    record {
      growing = b.growing;
      extends = extends_both t u v a.extends b.extends;
      reached = λ p lt h. elim (cases_eq p i) [
        | inl same ↦
            subst (λ (q : ℕ). root_of v (end_from ss (node_at v done) (get_or list q 0)) ≡ root_of v (node_at v done)) (sym same)
            (b.reached (ap (λ (q : ℕ). get_or held (get_or list q 0) false) (sym same) ∙ h))
        | inr ne ↦
            let was = a.reached p (omega (arith, lt, ne)) h in
            ap (λ (n : ℕ). root_of v (end_from ss n (get_or list p 0))) (b.extends.same done place_u)
            ∙ kept_both nodes ss held u v (end_from ss (node_at u done) (get_or list p 0)) done a.growing.trees b.extends place_u was
      ];
    }

pub visits_all : (nodes : ℕ) (ss : List Stream) (held : List Bool) (done : ℕ) (list : List ℕ) (t u : RootedTrees) → done < length t.order → list ≡ touching (node_at t done) ss
    → AreVisited nodes ss held done list (length list) t u → AreSearched nodes ss held (done + 1) t u
visits_all nodes ss held done list t u place is a =
    let g = a.growing in
    let place_u : done < length u.order = omega (arith, place, a.extends.more) in
    record {
      growing = record {
        trees = g.trees;
        within = omega (arith, place_u);
        followed = λ i k lt there h touch. elim (cases_eq i done) [
          | inr ne ↦ g.followed i k (omega (arith, lt, ne)) there h touch
          | inl same ↦
              let node : node_at u i ≡ node_at t done = ap (node_at u) same ∙ a.extends.same done place in
              let (p, less, at) = touching_place (node_at t done) 0 ss k there (ap (λ (n : ℕ). touches n (get_or ss k some_stream)) (sym node) ∙ touch) in
              let at_p : get_or list p 0 ≡ k = ap (λ (l : List ℕ). get_or l p 0) is ∙ at ∙ omega arith in
              let in_list : p < length list = omega (arith, less, ap (λ (l : List ℕ). length l) is) in
              let here = a.reached p in_list (ap (λ (j : ℕ). get_or held j false) at_p ∙ h) in
              ap (λ (j : ℕ). root_of u (end_from ss (node_at u j) k)) same
              ∙ ap (λ (j : ℕ). root_of u (end_from ss (node_at u done) j)) (sym at_p) ∙ here ∙ ap (λ (j : ℕ). root_of u (node_at u j)) (sym same)
        ];
        one_tree = λ i le lt. g.one_tree i (omega (arith, le)) lt ∙ sym (g.one_tree (done + 1) (omega arith) (omega (arith, le, lt)));
      };
      extends = a.extends;
    }

-- the streams of a list touch the node
touching_touch : (n k : ℕ) (ss : List Stream) (p : ℕ) → p < length (touching_from n k ss)
    → (i : ℕ) × (i < length ss) × (get_or (touching_from n k ss) p 0 ≡ k + i) × (touches n (get_or ss i some_stream) ≡ true)
touching_touch n k [] p lt = absurd (omega (arith, lt))
touching_touch n k (s ∷ ss) zero lt = elim (cases_Bool (touches n s)) [
  | inl here ↦ rw here (0, omega arith, omega arith, here)
  | inr away ↦
      let (i, less, at, touch) = touching_touch n (k + 1) ss zero (rw away at lt) in
      rw away (suc i, omega (arith, less), omega (arith, at), touch)
]
touching_touch n k (s ∷ ss) (suc p) lt = elim (cases_Bool (touches n s)) [
  | inl here ↦
      let more : suc p < length (k ∷ touching_from n (k + 1) ss) = rw here at lt in
      let (i, less, at, touch) = touching_touch n (k + 1) ss p (omega (arith, more)) in
      rw here (suc i, omega (arith, less), omega (arith, at), touch)
  | inr away ↦
      let (i, less, at, touch) = touching_touch n (k + 1) ss (suc p) (rw away at lt) in
      rw away (suc i, omega (arith, less), omega (arith, at), touch)
]

pub list_touches : (n : ℕ) (ss : List Stream) (list : List ℕ) (p : ℕ) → list ≡ touching n ss → p < length list
    → (get_or list p 0 < length ss) × (touches n (get_or ss (get_or list p 0) some_stream) ≡ true)
list_touches n ss list p is lt =
    let (i, less, at, touch) = touching_touch n 0 ss p (omega (arith, lt, ap (λ (l : List ℕ). length l) is)) in
    let same : get_or list p 0 ≡ i = ap (λ (l : List ℕ). get_or l p 0) is ∙ at ∙ omega arith in
    (omega (arith, less, same), ap (λ (j : ℕ). touches n (get_or ss j some_stream)) same ∙ touch)

-- ---- whole trees
abbrev none : Option ℕ
none = None

nothing : (m n : ℕ) → get_or (replicate m none) n none ≡ none
nothing zero n = refl
nothing (suc m) zero = refl
nothing (suc m) (suc n) = nothing m n

pub none_found : (nodes : ℕ) (ss : List Stream) (held : List Bool) → AreGrowing nodes ss held 0 (record { order = []; place = replicate nodes 0; root = replicate nodes none; up = replicate nodes none })
none_found nodes ss held = record {
  trees = record {
    places = length-replicate nodes 0;
    roots = length-replicate nodes none;
    ups = length-replicate nodes none;
    seen = λ i lt. absurd (omega (arith, lt));
    placed = λ i lt. absurd (omega (arith, lt));
    listed = λ n r found. cc (sym (nothing nodes n) ∙ found);
    once = λ i k lt less. absurd (omega (arith, less));
    branch = λ i k lt up. absurd (omega (arith, lt));
    top = λ n r found none. cc (sym (nothing nodes n) ∙ found);
  };
  within = omega arith;
  followed = λ i k lt there h touch. absurd (omega (arith, lt));
  one_tree = λ i le lt. absurd (omega (arith, lt));
}

pub whole_trees : (nodes : ℕ) (ss : List Stream) (held : List Bool) (t : RootedTrees) → AreGrowing nodes ss held (length t.order) t
    → ((k : ℕ) (s : Stream) → slice_get ss k ≡ Some s → IsStream nodes s) → ((n : ℕ) → n < nodes → (r : ℕ) × (root_of t n ≡ Some r)) → AreWhole nodes ss held t
whole_trees nodes ss held t g each all = record {
  trees = g.trees;
  all = all;
  level = λ k s at h.
      let is : IsStream nodes s = each k s at in
      let same : get_or ss k some_stream ≡ s = get_or_from_slice_get ss k s some_stream at in
      let (r, found) = all s.from is.from in
      let (i, lt, node) = g.trees.listed s.from r found in
      let touch : touches (node_at t i) (get_or ss k some_stream) ≡ true = ap₂ (λ (n : ℕ) (u : Stream). touches n u) node same ∙ touches_from s in
      let to : end_from ss (node_at t i) k ≡ s.to = ap₂ (λ (n : ℕ) (u : Stream). other_end n u) node same ∙ rw (ne_eqb s.to s.from (λ e. is.apart (sym e))) refl in
      ap (root_of t) (sym node) ∙ sym (g.followed i k lt (slice_get_within ss k s at) h touch) ∙ ap (root_of t) to;
}
