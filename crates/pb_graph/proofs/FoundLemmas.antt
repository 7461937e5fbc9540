-- What a search has found when it is done: the nodes that the root reaches, and a path from each.
use Rattle.std.proofs.Common.{◌≡◌, ◌≢◌, ◌∙◌, ℕ, zero, suc, ◌<◌, ◌≤◌, Bool, true, false, not, ◌||◌, ◌==◌, List, [], ◌∷◌, ◌++◌, map, get_or, Option, Some, ap, sym, refl, subst, inl, inr, arith}
use Rattle.std.specs.List.{AllByRecursion, list_any}
use Rattle.std.proofs.lemmas.Bool.{cases_eq, and_parts, and_from, eq-eqb, ne_eqb}
use Rattle.std.proofs.lemmas.List.{length-map}
use Rattle.pb_graph.specs.declared.records.Stream.{Stream}
use Rattle.pb_graph.specs.declared.records.Step.{Step}
use Rattle.pb_graph.specs.Walk.{ends_of, any_stream, Walks, Reaches, is_in, IsReach}
use Rattle.pb_graph.specs.Cycle.{is_distinct, begin_of, first_or}
use Rattle.pb_graph.specs.Path.{IsPath}
use Rattle.pb_graph.specs.Search.{SearchTree, IsTree, IsSearch, place_of, way_of, end_of, second_or_env}
use Rattle.pb_graph.proofs.WalkLemmas.{reach_none, reach_one, reach_both, reach_back, walk_keeps, walks_both, ends_more}

-- a node found leads to the root, through nodes found before it
climbs : (ends : Step → Option (ℕ × ℕ)) (nodes : ℕ) (t : SearchTree) (bound n : ℕ) → IsTree ends nodes t → 0 < place_of t n → place_of t n ≤ bound → Reaches ends n t.root
climbs ends nodes t zero n tree some le = absurd (omega (arith, some, le))
climbs ends nodes t (suc bound) n tree some le = elim (cases_eq (place_of t n) 1) [
  | inl one ↦ subst (λ (m : ℕ). Reaches ends n m) (tree.only n one) (reach_none ends n)
  | inr far ↦
      let (m, e, found, less) = tree.leads n (omega (arith, some, far)) in
      reach_both ends n m t.root (reach_one ends n m (way_of t n) e) (climbs ends nodes t bound m tree found (omega (arith, less, le)))
]

pub found_reaches : (ends : Step → Option (ℕ × ℕ)) (nodes : ℕ) (t : SearchTree) (n : ℕ) → IsTree ends nodes t → 0 < place_of t n → Reaches ends n t.root
found_reaches ends nodes t n tree some = climbs ends nodes t (place_of t n) n tree some (omega arith)

-- what the root reaches is found
pub reached_found : (ends : Step → Option (ℕ × ℕ)) (nodes : ℕ) (t : SearchTree) (n : ℕ) → IsSearch ends nodes t → Reaches ends t.root n → 0 < place_of t n
reached_found ends nodes t n search (steps, w) =
    walk_keeps ends (λ (m : ℕ). 0 < place_of t m) t.root n steps (λ s x y e found. search.closed x y s found (search.tree.within x) e) w (omega (arith, search.tree.start))

is_in-map : (ps : List ℕ) (n : ℕ) → is_in (map (λ p. not (p == 0)) ps) n ≡ not (get_or ps n 0 == 0)
is_in-map [] n = refl
is_in-map (p ∷ ps) zero = refl
is_in-map (p ∷ ps) (suc n) = is_in-map ps n

-- the nodes found are those that the root reaches
pub search_reach : (may : ℕ → Stream → Bool) (ss : List Stream) (nodes : ℕ) (t : SearchTree) → IsSearch (ends_of may ss) nodes t
    → IsReach (ends_of may ss) nodes t.root (map (λ p. not (p == 0)) t.place)
search_reach may ss nodes t search = record {
  each = length-map t.place (λ p. not (p == 0)) ∙ search.tree.places;
  reached = λ n is. elim (cases_eq (place_of t n) 0) [
    | inl none ↦ cc (sym (rw (eq-eqb (place_of t n) 0 none) at (is_in-map t.place n)) ∙ is)
    | inr some ↦ reach_back may ss n t.root (found_reaches (ends_of may ss) nodes t n search.tree (omega (arith, some)))
  ];
  whole = λ n r.
      let found = reached_found (ends_of may ss) nodes t n search r in
      is_in-map t.place n ∙ ap not (ne_eqb (place_of t n) 0 (λ e. absurd (omega (arith, e, found))));
}

any-append : {A : Type 0} (p : A → Bool) (zs : List A) (z : A) → p z ≡ false → list_any p (zs ++ z ∷ []) ≡ list_any p zs
any-append p [] z none = rw none refl
any-append p (w ∷ zs) z none = ap (λ (b : Bool). p w || b) (any-append p zs z none)

-- a key that no item has, put after a list of distinct keys
distinct-append : {A : Type 0} (key : A → ℕ) (xs : List A) (x : A) → is_distinct key xs ≡ true → AllByRecursion (λ (y : A). key x ≢ key y) xs → is_distinct key (xs ++ x ∷ []) ≡ true
distinct-append key [] x once other = refl
distinct-append key (y ∷ xs) x once (ne, other) =
    let parts = and_parts (not (list_any (λ z. key z == key y) xs)) (is_distinct key xs) once in
    and_from (not (list_any (λ z. key z == key y) (xs ++ x ∷ []))) (is_distinct key (xs ++ x ∷ []))
    (ap not (any-append (λ z. key z == key y) xs x (ne_eqb (key x) (key y) ne)) ∙ parts.0) (distinct-append key xs x parts.1 other)

pub all_map : {A : Type 0} (P Q : A → Type 0) (xs : List A) → ((x : A) → P x → Q x) → AllByRecursion P xs → AllByRecursion Q xs
all_map P Q [] f all = tt
all_map P Q (x ∷ xs) f (p, all) = (f x p, all_map P Q xs f all)

pub all-append : {A : Type 0} (P : A → Type 0) (xs : List A) (x : A) → AllByRecursion P xs → P x → AllByRecursion P (xs ++ x ∷ [])
all-append P [] x all p = (p, tt)
all-append P (y ∷ xs) x (q, all) p = (q, all-append P xs x all p)

none_has : {A : Type 0} (p : A → Bool) (xs : List A) → AllByRecursion (λ (x : A). p x ≡ false) xs → list_any p xs ≡ false
none_has p [] all = refl
none_has p (x ∷ xs) (none, all) = rw none (none_has p xs all)

-- the way of a node up a search tree so far
pub record Climbs (ends : Step → Option (ℕ × ℕ)) (nodes : ℕ) (ss : List Stream) (t : SearchTree) (from : ℕ) (steps : List Step) (at : ℕ) : Type 0 where
  pub walk : Walks ends from steps at
  pub here : 0 < place_of t at
  pub above : AllByRecursion (λ (s : Step). place_of t at < place_of t (begin_of nodes ss s)) steps
  pub once : is_distinct (begin_of nodes ss) steps ≡ true

pub climb_more : (may : ℕ → Stream → Bool) (ss : List Stream) (nodes : ℕ) (t : SearchTree) (from at : ℕ) (steps : List Step) → IsTree (ends_of may ss) nodes t → at ≢ t.root
    → Climbs (ends_of may ss) nodes ss t from steps at
    → Climbs (ends_of may ss) nodes ss t from (steps ++ way_of t at ∷ []) (end_of ss (way_of t at)) × (place_of t (end_of ss (way_of t at)) < place_of t at)
climb_more may ss nodes t from at steps tree away c =
    let ends = ends_of may ss in
    let step = way_of t at in
    let (m, e, found, less) = tree.leads at (elim (cases_eq (place_of t at) 1) [ inl one ↦ absurd (away (tree.only at one)) | inr far ↦ omega (arith, c.here, far) ]) in
    let any : ends_of any_stream ss step ≡ Some (at, m) = ends_more may any_stream ss step (at, m) (λ k s at_k ok. refl) e in
    let next : end_of ss step ≡ m = ap second_or_env any in
    let begin : begin_of nodes ss step ≡ at = ap (first_or nodes) any in
    let above : AllByRecursion (λ (s : Step). place_of t m < place_of t (begin_of nodes ss s)) (steps ++ step ∷ []) =
    all-append (λ (s : Step). place_of t m < place_of t (begin_of nodes ss s)) steps step
    (all_map (λ (s : Step). place_of t at < place_of t (begin_of nodes ss s)) (λ (s : Step). place_of t m < place_of t (begin_of nodes ss s)) steps (λ s up. omega (arith, up, less)) c.above)
    (omega (arith, less, ap (place_of t) begin)) in
    let new : AllByRecursion (λ (y : Step). begin_of nodes ss step ≢ begin_of nodes ss y) steps =
    all_map (λ (s : Step). place_of t at < place_of t (begin_of nodes ss s)) (λ (y : Step). begin_of nodes ss step ≢ begin_of nodes ss y) steps
    (λ s up same. absurd (omega (arith, up, ap (place_of t) same, ap (place_of t) begin))) c.above in
    let all : Climbs ends nodes ss t from (steps ++ step ∷ []) m = record {
      walk = walks_both ends from at m steps (step ∷ []) c.walk (m, e, refl);
      here = found;
      above = above;
      once = distinct-append (begin_of nodes ss) steps step c.once new;
    } in
    (subst (λ (n : ℕ). Climbs ends nodes ss t from (steps ++ step ∷ []) n) (sym next) all, omega (arith, less, ap (place_of t) next))

pub climb_end : (ends : Step → Option (ℕ × ℕ)) (nodes : ℕ) (ss : List Stream) (t : SearchTree) (from : ℕ) (steps : List Step) → Climbs ends nodes ss t from steps t.root
    → IsPath ends nodes ss from steps t.root
climb_end ends nodes ss t from steps c = record {
  walk = c.walk;
  once = c.once;
  last = none_has (λ s. begin_of nodes ss s == t.root) steps
      (all_map (λ (s : Step). place_of t t.root < place_of t (begin_of nodes ss s)) (λ (s : Step). (begin_of nodes ss s == t.root) ≡ false) steps
      (λ s up. ne_eqb (begin_of nodes ss s) t.root (λ same. absurd (omega (arith, up, ap (place_of t) same)))) c.above);
}
