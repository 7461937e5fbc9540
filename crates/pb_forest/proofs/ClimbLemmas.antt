-- From two nodes of one tree up to where they meet: a walk on which no node appears twice.
use Rattle.std.proofs.Common.{◌≡◌, ◌≢◌, ◌∙◌, ◌⊎◌, ℕ, zero, suc, ◌+◌, ◌<◌, ◌≤◌, Bool, true, false, not, ◌==◌, List, [], ◌∷◌, ◌++◌, reverse, length, Option, Some, None, slice_get, get_or, refl, sym, ap, subst, inl, inr, arith}
use Rattle.std.specs.List.{list_any}
use Rattle.std.proofs.lemmas.Bool.{cases_Bool, cases_eq, and_parts, and_from, not-true, not_from_false, eq-eqb, ne_eqb}
use Rattle.std.proofs.lemmas.List.{append-nil, append_assoc, reverse-append}
use Rattle.std.proofs.lemmas.List.Folds.{list_any-append}
use Rattle.std.proofs.lemmas.Option.{slice_get-get_or}
use Rattle.pb_graph.specs.declared.records.Stream.{Stream}
use Rattle.pb_graph.specs.declared.records.Step.{Step}
use Rattle.pb_graph.specs.Neighbours.{touches}
use Rattle.pb_graph.specs.ProcessGraph.{IsStream, other_end, some_stream}
use Rattle.pb_graph.specs.Walk.{along, ends_of, Reaches}
use Rattle.pb_graph.specs.Cycle.{is_distinct, begin_of}
use Rattle.pb_graph.specs.Path.{IsPath, is_open}
use Rattle.pb_graph.proofs.WalkLemmas.{ends_is, ends_back, stream_of, walks_both, walk_keeps}
use Rattle.pb_forest.specs.Trees.{RootedTrees, node_at, place_of, root_of, up_of, end_from, AreWhole, IsRise}
use Rattle.pb_forest.proofs.TreeLemmas.{end_cases, end_within}
use Rattle.pb_forest.proofs.PathLemmas.{begin_is}

abbrev AreStreams : ℕ → List Stream → Type 0
AreStreams nodes ss = (k : ℕ) (s : Stream) → slice_get ss k ≡ Some s → IsStream nodes s

-- ---- one step up
-- a step from a node along a stream leads to the other end
way_up : (n : ℕ) (s : Stream) → touches n s ≡ true → along (not (s.to == n)) s ≡ (n, other_end n s)
way_up n s touch = elim (end_cases n s touch) [
  | inl (to, other) ↦ rw (eq-eqb s.to n to) (ap (λ (m : ℕ). (m, s.from)) to)
  | inr (from, away, other) ↦ rw (ne_eqb s.to n away) (ap (λ (m : ℕ). (m, s.to)) from)
]

pub rises : (nodes : ℕ) (ss : List Stream) (held : List Bool) (t : RootedTrees) (n k : ℕ) → AreWhole nodes ss held t → AreStreams nodes ss → n < nodes → up_of t n ≡ Some k
    → (k < length ss) × IsRise nodes ss held t n (end_from ss n k) (record { stream = k; forward = not ((get_or ss k some_stream).to == n) })
rises nodes ss held t n k whole each lt up =
    let (r, found) = whole.all n lt in
    let (i, less, node) = whole.trees.listed n r found in
    let branch = whole.trees.branch i k less (ap (up_of t) node ∙ up) in
    let s : Stream = get_or ss k some_stream in
    let at : slice_get ss k ≡ Some s = slice_get-get_or ss k some_stream branch.there in
    let touch : touches n s ≡ true = ap (λ (m : ℕ). touches m s) (sym node) ∙ branch.touch in
    let place_n : place_of t n ≡ i = ap (place_of t) (sym node) ∙ whole.trees.placed i less in
    let parent : node_at t branch.place ≡ end_from ss n k = branch.parent ∙ ap (λ (m : ℕ). end_from ss m k) node in
    let place_p : place_of t (end_from ss n k) ≡ branch.place =
    ap (place_of t) (sym parent) ∙ whole.trees.placed branch.place (omega (arith, less, branch.before)) in
    let level = whole.level k s at branch.marked in (
      branch.there,
      record {
        leads = ends_is (is_open held) ss k s (not (s.to == n)) at branch.marked ∙ ap (λ (q : ℕ × ℕ). Some q) (way_up n s touch);
        within = end_within nodes n s (each k s at) touch;
        before = omega (arith, place_n, place_p, branch.before);
        level = elim (end_cases n s touch) [
          | inl (to, other) ↦ ap (root_of t) other ∙ level ∙ ap (root_of t) to
          | inr (from, away, other) ↦ ap (root_of t) other ∙ sym level ∙ ap (root_of t) from
        ];
      },
    )

-- a root comes before the other nodes of its tree
root_first : (nodes : ℕ) (ss : List Stream) (held : List Bool) (t : RootedTrees) (bound n r : ℕ) → AreWhole nodes ss held t → AreStreams nodes ss → n < nodes
    → place_of t n < bound → root_of t n ≡ Some r → place_of t r ≤ place_of t n
root_first nodes ss held t zero n r whole each lt less found = absurd (omega (arith, less))
root_first nodes ss held t (suc bound) n r whole each lt less found = elim (up_of t n) as (λ (o : Option ℕ). up_of t n ≡ o → place_of t r ≤ place_of t n) [
  | None ↦ λ e. let top = ap (place_of t) (whole.trees.top n r found e) in omega (arith, top)
  | Some k ↦ λ e.
      let rise = (rises nodes ss held t n k whole each lt e).1 in
      let rest = root_first nodes ss held t bound (end_from ss n k) r whole each rise.within (omega (arith, rise.before, less)) (rise.level ∙ found) in
      omega (arith, rest, rise.before)
] refl

-- so of two nodes of a tree, the node found later has a parent
pub later_hangs : (nodes : ℕ) (ss : List Stream) (held : List Bool) (t : RootedTrees) (a b : ℕ) → AreWhole nodes ss held t → AreStreams nodes ss → a < nodes → b < nodes
    → root_of t a ≡ root_of t b → place_of t b < place_of t a → (k : ℕ) × (up_of t a ≡ Some k)
later_hangs nodes ss held t a b whole each la lb same less = elim (up_of t a) as (λ (o : Option ℕ). up_of t a ≡ o → (k : ℕ) × (o ≡ Some k)) [
  | None ↦ λ e.
      let (r, found) = whole.all a la in
      let top = ap (place_of t) (whole.trees.top a r found e) in
      let first = root_first nodes ss held t (place_of t b + 1) b r whole each lb (omega arith) (sym same ∙ found) in
      absurd (omega (arith, first, less, top))
  | Some k ↦ λ e. (k, refl)
] refl

-- two different nodes have different places
pub placed_once : (nodes : ℕ) (ss : List Stream) (held : List Bool) (t : RootedTrees) (a b : ℕ) → AreWhole nodes ss held t → a < nodes → b < nodes
    → place_of t a ≡ place_of t b → a ≡ b
placed_once nodes ss held t a b whole la lb same =
    let (r, found_a) = whole.all a la in
    let (i, li, at_a) = whole.trees.listed a r found_a in
    let (q, found_b) = whole.all b lb in
    let (j, lj, at_b) = whole.trees.listed b q found_b in
    let one : i ≡ j = sym (whole.trees.placed i li) ∙ ap (place_of t) at_a ∙ same ∙ ap (place_of t) (sym at_b) ∙ whole.trees.placed j lj in
    sym at_a ∙ ap (node_at t) one ∙ at_b

along_level : (f : ℕ → Option ℕ) (s : Stream) (forward : Bool) (x y : ℕ) → f s.from ≡ f s.to → along forward s ≡ (x, y) → f x ≡ f y
along_level f s true x y same goes = ap (λ (p : ℕ × ℕ). f p.0) (sym goes) ∙ same ∙ ap (λ (p : ℕ × ℕ). f p.1) goes
along_level f s false x y same goes = ap (λ (p : ℕ × ℕ). f p.0) (sym goes) ∙ sym same ∙ ap (λ (p : ℕ × ℕ). f p.1) goes

-- what held streams join is in one tree
pub joined_level : (nodes : ℕ) (ss : List Stream) (held : List Bool) (t : RootedTrees) (a b : ℕ) → AreWhole nodes ss held t → Reaches (ends_of (is_open held) ss) a b
    → root_of t a ≡ root_of t b
joined_level nodes ss held t a b whole (steps, w) =
    walk_keeps (ends_of (is_open held) ss) (λ (n : ℕ). root_of t a ≡ root_of t n) a b steps (λ u x y e so_far.
    let (s, at, ok, goes) = stream_of (is_open held) ss u (x, y) e in
    so_far ∙ along_level (root_of t) s u.forward x y (whole.level u.stream s at ok) goes) w refl

-- ---- paths
-- a key that no item has, put after a list of distinct keys
distinct_once : {A : Type 0} (key : A → ℕ) (xs : List A) (x : A) → is_distinct key xs ≡ true → list_any (λ y. key y == key x) xs ≡ false → is_distinct key (xs ++ x ∷ []) ≡ true
distinct_once key [] x once none = refl
distinct_once key (y ∷ xs) x once none =
    let parts = and_parts (not (list_any (λ z. key z == key y) xs)) (is_distinct key xs) once in
    elim (cases_eq (key y) (key x)) [
      | inl same ↦ cc (rw (eq-eqb (key y) (key x) same) at none)
      | inr ne ↦
          let rest : list_any (λ z. key z == key x) xs ≡ false = rw (ne_eqb (key y) (key x) ne) at none in
          let apart : list_any (λ z. key z == key y) (xs ++ x ∷ []) ≡ false =
          list_any-append (λ z. key z == key y) xs (x ∷ []) ∙ rw (not-true (list_any (λ z. key z == key y) xs) parts.0, ne_eqb (key x) (key y) (λ e. ne (sym e))) refl in
          and_from (not (list_any (λ z. key z == key y) (xs ++ x ∷ []))) (is_distinct key (xs ++ x ∷ []))
          (not_from_false (list_any (λ z. key z == key y) (xs ++ x ∷ [])) apart) (distinct_once key xs x parts.1 rest)
    ]

-- a path of which no node was found later than both ends
pub record IsLow (nodes : ℕ) (ss : List Stream) (held : List Bool) (t : RootedTrees) (a : ℕ) (steps : List Step) (b : ℕ) : Type 0 where
  pub path : IsPath (ends_of (is_open held) ss) nodes ss a steps b
  pub low : (n : ℕ) → list_any (λ y. begin_of nodes ss y == n) steps ≡ true → (place_of t n ≤ place_of t a) ⊎ (place_of t n ≤ place_of t b)

-- a node found later than both ends isn't on the path
not_on : (nodes : ℕ) (ss : List Stream) (held : List Bool) (t : RootedTrees) (a b n : ℕ) (steps : List Step) → IsLow nodes ss held t a steps b
    → place_of t a < place_of t n → place_of t b < place_of t n → list_any (λ y. begin_of nodes ss y == n) steps ≡ false
not_on nodes ss held t a b n steps low la lb = elim (cases_Bool (list_any (λ y. begin_of nodes ss y == n) steps)) [
  | inl there ↦ elim (low.low n there) [
    | inl x ↦ absurd (omega (arith, x, la))
    | inr x ↦ absurd (omega (arith, x, lb))
  ]
  | inr none ↦ none
]

low_none : (nodes : ℕ) (ss : List Stream) (held : List Bool) (t : RootedTrees) (a b : ℕ) → a ≡ b → IsLow nodes ss held t a [] b
low_none nodes ss held t a b same = record { path = record { walk = same; once = refl; last = refl }; low = λ n some. cc some }

-- the step up from a node found later than the other end, before a path from its parent
low_front : (nodes : ℕ) (ss : List Stream) (held : List Bool) (t : RootedTrees) (a b p : ℕ) (step : Step) (steps : List Step) → place_of t b < place_of t a
    → IsRise nodes ss held t a p step → IsLow nodes ss held t p steps b → IsLow nodes ss held t a (step ∷ steps) b
low_front nodes ss held t a b p step steps less rise low =
    let begin : begin_of nodes ss step ≡ a = begin_is (is_open held) nodes ss step a p rise.leads in
    let never = not_on nodes ss held t p b a steps low rise.before less in
    let once : list_any (λ y. begin_of nodes ss y == begin_of nodes ss step) steps ≡ false =
    subst (λ (n : ℕ). list_any (λ y. begin_of nodes ss y == n) steps ≡ false) (sym begin) never in
    let apart : begin_of nodes ss step ≢ b = λ e. let same = ap (place_of t) (sym begin ∙ e) in absurd (omega (arith, same, less)) in
    record {
      path = record {
        walk = (p, rise.leads, low.path.walk);
        once = and_from (not (list_any (λ y. begin_of nodes ss y == begin_of nodes ss step) steps)) (is_distinct (begin_of nodes ss) steps)
            (not_from_false (list_any (λ y. begin_of nodes ss y == begin_of nodes ss step) steps) once) low.path.once;
        last = rw (ne_eqb (begin_of nodes ss step) b apart) low.path.last;
      };
      low = λ n some. elim (cases_eq (begin_of nodes ss step) n) [
        | inl same ↦ let e = ap (place_of t) (sym begin ∙ same) in inl (omega (arith, e))
        | inr ne ↦ elim (low.low n (rw (ne_eqb (begin_of nodes ss step) n ne) at some)) [
          | inl x ↦ inl (omega (arith, x, rise.before))
          | inr x ↦ inr x
        ]
      ];
    }

-- a step the other way
abbrev pub turned : Step → Step
turned step = record { stream = step.stream; forward = not step.forward }

-- the step down to a node found later than the other end, after a path to its parent
low_back : (nodes : ℕ) (ss : List Stream) (held : List Bool) (t : RootedTrees) (a b p : ℕ) (step : Step) (steps : List Step) → place_of t a < place_of t b
    → IsRise nodes ss held t b p step → IsLow nodes ss held t a steps p → IsLow nodes ss held t a (steps ++ turned step ∷ []) b
low_back nodes ss held t a b p step steps less rise low =
    let ends = ends_of (is_open held) ss in
    let down = turned step in
    let leads : ends down ≡ Some (p, b) = ends_back (is_open held) ss step b p rise.leads in
    let begin : begin_of nodes ss down ≡ p = begin_is (is_open held) nodes ss down p b leads in
    let never = not_on nodes ss held t a p b steps low less rise.before in
    let apart : begin_of nodes ss down ≢ b = λ e. let same = ap (place_of t) (sym begin ∙ e) in absurd (omega (arith, same, rise.before)) in
    record {
      path = record {
        walk = walks_both ends a p b steps (down ∷ []) low.path.walk (b, leads, refl);
        once = distinct_once (begin_of nodes ss) steps down low.path.once
            (subst (λ (n : ℕ). list_any (λ y. begin_of nodes ss y == n) steps ≡ false) (sym begin) low.path.last);
        last = list_any-append (λ y. begin_of nodes ss y == b) steps (down ∷ []) ∙ rw (never, ne_eqb (begin_of nodes ss down) b apart) refl;
      };
      low = λ n some. elim (cases_Bool (list_any (λ y. begin_of nodes ss y == n) steps)) [
        | inl there ↦ elim (low.low n there) [
          | inl x ↦ inl x
          | inr x ↦ inr (omega (arith, x, rise.before))
        ]
        | inr none ↦ elim (cases_eq (begin_of nodes ss down) n) [
          | inl same ↦ let e = ap (place_of t) (sym begin ∙ same) in inr (omega (arith, e, rise.before))
          | inr ne ↦
              let split = sym (list_any-append (λ y. begin_of nodes ss y == n) steps (down ∷ [])) ∙ some in
              cc (rw (none, ne_eqb (begin_of nodes ss down) n ne) at split)
        ]
      ];
    }

-- ---- the climb
-- From the first end, the steps forth lead to node a. From node b, the steps back, from the last to the first, lead to the other end.
-- With any path between a and b that has no node found later than a and b, they make one path from end to end.
pub record IsClimb (nodes : ℕ) (ss : List Stream) (held : List Bool) (t : RootedTrees) (from to a b : ℕ) (forth back : List Step) : Type 0 where
  pub there : a < nodes
  pub here : b < nodes
  pub level : root_of t a ≡ root_of t b
  pub rest : (steps : List Step) → IsLow nodes ss held t a steps b → IsLow nodes ss held t from (forth ++ (steps ++ reverse back)) to

pub climb_none : (nodes : ℕ) (ss : List Stream) (held : List Bool) (t : RootedTrees) (from to : ℕ) → from < nodes → to < nodes → root_of t from ≡ root_of t to
    → IsClimb nodes ss held t from to from to [] []
climb_none nodes ss held t from to lf lt level = record {
  there = lf;
  here = lt;
  level = level;
  rest = λ steps low. subst (λ (xs : List Step). IsLow nodes ss held t from xs to) (sym (append-nil steps)) low;
}

pub climb_forth : (nodes : ℕ) (ss : List Stream) (held : List Bool) (t : RootedTrees) (from to a b p : ℕ) (forth back : List Step) (step : Step)
    → IsClimb nodes ss held t from to a b forth back → place_of t b < place_of t a → IsRise nodes ss held t a p step
    → IsClimb nodes ss held t from to p b (forth ++ step ∷ []) back
climb_forth nodes ss held t from to a b p forth back step climb less rise = record {
  there = rise.within;
  here = climb.here;
  level = rise.level ∙ climb.level;
  rest = λ steps low. subst (λ (xs : List Step). IsLow nodes ss held t from xs to) (sym (append_assoc forth (step ∷ []) (steps ++ reverse back)))
      (climb.rest (step ∷ steps) (low_front nodes ss held t a b p step steps less rise low));
}

pub climb_back : (nodes : ℕ) (ss : List Stream) (held : List Bool) (t : RootedTrees) (from to a b p : ℕ) (forth back : List Step) (step : Step)
    → IsClimb nodes ss held t from to a b forth back → place_of t a < place_of t b → IsRise nodes ss held t b p step
    → IsClimb nodes ss held t from to a p forth (back ++ turned step ∷ [])
climb_back nodes ss held t from to a b p forth back step climb less rise =
    let down = turned step in
    record {
      there = climb.there;
      here = rise.within;
      level = climb.level ∙ sym rise.level;
      rest = λ steps low.
          let more = climb.rest (steps ++ down ∷ []) (low_back nodes ss held t a b p step steps less rise low) in
          let turn : steps ++ reverse (back ++ down ∷ []) ≡ (steps ++ down ∷ []) ++ reverse back =
          ap (λ (xs : List Step). steps ++ xs) (reverse-append back (down ∷ [])) ∙ sym (append_assoc steps (down ∷ []) (reverse back)) in
          subst (λ (xs : List Step). IsLow nodes ss held t from (forth ++ xs) to) (sym turn) more;
    }

-- the ends met
pub climb_end : (nodes : ℕ) (ss : List Stream) (held : List Bool) (t : RootedTrees) (from to a b : ℕ) (forth back : List Step)
    → IsClimb nodes ss held t from to a b forth back → a ≡ b → IsPath (ends_of (is_open held) ss) nodes ss from (forth ++ reverse back) to
climb_end nodes ss held t from to a b forth back climb same = (climb.rest [] (low_none nodes ss held t a b same)).path
