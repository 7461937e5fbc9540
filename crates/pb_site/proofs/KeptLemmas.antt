-- What a site keeps stays right if a declaration joins the others.
use Rattle.std.specs.Prelude.{◌||◌, ◌==◌, is_some, if◌then◌else◌, filter_map}
use Rattle.std.specs.Option.{option_map}
use Rattle.std.specs.Cmp.Lexicographic.{bytes_decides}
use Rattle.std.specs.List.{cons_option}
use Rattle.std.proofs.Common.{◌≡◌, ◌∙◌, ◌+◌, ◌<◌, ◌≤◌, ℕ, suc, ℤ, List, [], ◌∷◌, ◌++◌, drop, length, get_or, All, Bool, true, false, Option, Some, None, slice_get, codes, refl, sym, ap, ap₂, subst, arith, inl, inr, length-append}
use Rattle.std.proofs.lemmas.Bool.{cases_Bool, eqb-false, eqb-true, or_parts}
use Rattle.std.proofs.lemmas.List.{append-nil}
use Rattle.std.proofs.lemmas.List.Elements.{All-append, All-cons, All-nil, All-weaker, filter_map-append}
use Rattle.std.proofs.lemmas.List.Folds.{list_any-append, list_any_at}
use Rattle.std.proofs.lemmas.List.Quantifiers.{all_pairs_push}
use Rattle.pb_limits.specs.Limits.{most_boundaries, most_nodes, most_streams}
use Rattle.pb_rows.specs.Name.{same_name}
use Rattle.pb_strap.specs.declared.strap.Point.{Point}
use Rattle.pb_site.specs.declared.declared.Arc.{Arc}
use Rattle.pb_site.specs.declared.declared.ArcKind.{ArcKind}
use Rattle.pb_site.specs.declared.declared.Declared.{Declared}
use Rattle.pb_site.specs.declared.declared.Declared.TheVariants.{Version2, Boundary, Tank, Strap, Stream, CritGlobal, CritNodal, CritMeasure}
use Rattle.pb_site.specs.declared.index.Index.{Index}
use Rattle.pb_site.specs.Row.{IsDeclaredInRange, arc_in, arc_kind, boundary_name, declared_name, declares_tank, global_value, measure_value, names_include, nodal_value, node_among, node_name, point_of, says_version_2}
use Rattle.pb_site.specs.Site.{AreDistinct, HasDistinctNames, IsArc, arcs_of, boundary_names, global_of, is_tank, measure_of, nodal_of, node_names, points_of_tank, table_of, version_of}
use Rattle.pb_site.specs.Faults.{is_node, is_taken}
use Rattle.pb_site.specs.Laws.{GrowthLaw, IsDeclaredPlant, PlantLaw}
use Rattle.pb_site.specs.Kept.{IsKept, Notes, SameIndex, arc_name, nodes_in, table_with, value_with, version_with}
use Rattle.pb_site.proofs.FaultLemmas.{IsFine, arc_names_of, both, fine, free, no_name, no_tank, no_version, not_false, room_arcs, room_boundaries, room_nodes, same_self, same_sym}
use Rattle.pb_site.proofs.LookUpLemmas.{node_is, node_last, node_stays, node_within}

-- an index that gives the same is right too
pub kept_same : (declared : List Declared) (old new : Index) → IsKept declared old → SameIndex old new → IsKept declared new
kept_same declared old new kept same = record {
  version = same.version ∙ kept.version;
  boundaries = same.boundaries ∙ kept.boundaries;
  nodes = same.nodes ∙ kept.nodes;
  arc_names = same.arc_names ∙ kept.arc_names;
  arcs = same.arcs ∙ kept.arcs;
  straps = λ name. same.straps name ∙ kept.straps name;
  global = λ dof. same.global dof ∙ kept.global dof;
  nodal = same.nodal ∙ kept.nodal;
  measure = same.measure ∙ kept.measure;
  plant = kept.plant;
  no_points = kept.no_points;
}

-- ---- the version

version_more : (declared : List Declared) (row : Declared) → IsFine declared row → version_of (declared ++ row ∷ []) ≡ version_with row (version_of declared)
version_more [] Version2 good = refl
version_more [] row good = refl
version_more (first ∷ declared) Version2 good = cc good.new
version_more (Version2 ∷ declared) row good = refl
version_more (first ∷ declared) row good = refl

-- a declaration that doesn't state the version doesn't change it
version_stays : (declared : List Declared) (row : Declared) → says_version_2 row ≡ false → version_of (declared ++ row ∷ []) ≡ version_of declared
version_stays [] Version2 silent = cc silent
version_stays [] row silent = refl
version_stays (Version2 ∷ declared) row silent = refl
version_stays (first ∷ declared) row silent = refl

-- only the first declaration states the version
once_more : (declared : List Declared) (row : Declared) → IsFine declared row → All (λ (row : Declared). says_version_2 row ≡ false) (drop 1 declared)
    → All (λ (row : Declared). says_version_2 row ≡ false) (drop 1 (declared ++ row ∷ []))
once_more [] row good once = All-nil (λ (row : Declared). says_version_2 row ≡ false)
once_more (first ∷ declared) row good once =
    let silent = λ (row : Declared). says_version_2 row ≡ false in
    All-append silent declared (row ∷ []) once (All-cons silent row [] (no_version first declared row good) (All-nil silent))

-- ---- critical values

-- the first value after one more declaration, if a declaration of a value has no value before it
value_more : (f : Declared → Option ℤ) (declared : List Declared) (row : Declared) → (is_some (f row) ≡ true → slice_get (filter_map f declared) 0 ≡ None)
    → slice_get (filter_map f (declared ++ row ∷ [])) 0 ≡ value_with (f row) (slice_get (filter_map f declared) 0)
value_more f declared row fresh = ap (λ (values : List ℤ). slice_get values 0) (filter_map-append f declared (row ∷ [])) ∙ by (f row) (filter_map f declared) fresh
  where
    by : (v : Option ℤ) (xs : List ℤ) → (is_some v ≡ true → slice_get xs 0 ≡ None) → slice_get (xs ++ cons_option v []) 0 ≡ value_with v (slice_get xs 0)
    by None xs fresh = ap (λ (values : List ℤ). slice_get values 0) (append-nil xs)
    by (Some v) [] fresh = refl
    by (Some v) (x ∷ xs) fresh = cc (fresh refl)

none_of : (o : Option ℤ) → is_some o ≡ false → o ≡ None
none_of None none = refl
none_of (Some v) none = cc none

fresh_global : (declared : List Declared) (row : Declared) (dof : ℕ) → IsFine declared row → is_some (global_value dof row) ≡ true → global_of declared dof ≡ None
fresh_global declared (CritGlobal d value) dof good some = elim (cases_Bool (d == dof)) [
  | inl same ↦ subst (λ (k : ℕ). global_of declared k ≡ None) (eqb-true d dof same) (none_of (global_of declared d) good.new)
  | inr apart ↦ cc (rw apart at some)
]
fresh_global declared row dof good some = cc some

fresh_nodal : (declared : List Declared) (row : Declared) → IsFine declared row → is_some (nodal_value row) ≡ true → nodal_of declared ≡ None
fresh_nodal declared (CritNodal value) good some = none_of (nodal_of declared) good.new
fresh_nodal declared row good some = cc some

fresh_measure : (declared : List Declared) (row : Declared) → IsFine declared row → is_some (measure_value row) ≡ true → measure_of declared ≡ None
fresh_measure declared (CritMeasure value) good some = none_of (measure_of declared) good.new
fresh_measure declared row good some = cc some

-- ---- tables

-- a table to which nothing is added
same_table : (b : Bool) (points : List Point) → (if b || false then Some (points ++ []) else None) ≡ (if b then Some points else None)
same_table true points = ap Some (append-nil points)
same_table false points = refl

table_more : (declared : List Declared) (row : Declared) (name : List ℕ) → IsFine declared row → ((n : List ℕ) → is_tank declared n ≡ false → points_of_tank declared n ≡ [])
    → table_of (declared ++ row ∷ []) name ≡ table_with row name (table_of declared name)
table_more declared row name good nothing =
    rw (list_any-append (declares_tank name) declared (row ∷ []), filter_map-append (point_of name) declared (row ∷ [])) (by row good)
  where
    by : (row : Declared) → IsFine declared row
        → (if is_tank declared name || is_tank (row ∷ []) name then Some (points_of_tank declared name ++ points_of_tank (row ∷ []) name) else None) ≡ table_with row name (table_of declared name)
    by (Tank n base service) good = elim (cases_Bool (same_name n name)) [
      | inl same ↦
          let here = (bytes_decides n name).0 same in
          let untaken = no_tank declared n (free declared n good.new).arcs in
          let none : is_tank declared name ≡ false = subst (λ (q : List ℕ). is_tank declared q ≡ false) here untaken in
          rw (same, none, nothing name none) refl
      | inr apart ↦ rw apart (same_table (is_tank declared name) (points_of_tank declared name))
    ]
    by (Strap n mm ml) good = elim (cases_Bool (same_name n name)) [
      | inl same ↦ rw same (push (is_tank declared name) (points_of_tank declared name) (record { mm = mm; ml = ml }))
      | inr apart ↦ rw apart (same_table (is_tank declared name) (points_of_tank declared name))
    ]
      where
        push : (b : Bool) (points : List Point) (p : Point)
            → (if b || false then Some (points ++ p ∷ []) else None) ≡ option_map (λ ps. ps ++ p ∷ []) (if b then Some points else None)
        push true points p = refl
        push false points p = refl
    by row good = same_table (is_tank declared name) (points_of_tank declared name)

-- a tank that isn't declared has no points
none_more : (declared : List Declared) (row : Declared) (name : List ℕ) → IsFine declared row → ((n : List ℕ) → is_tank declared n ≡ false → points_of_tank declared n ≡ [])
    → is_tank (declared ++ row ∷ []) name ≡ false → points_of_tank (declared ++ row ∷ []) name ≡ []
none_more declared row name good nothing undeclared =
    let parts = or_parts (is_tank declared name) (is_tank (row ∷ []) name) (rw (list_any-append (declares_tank name) declared (row ∷ [])) at undeclared) in
    rw (filter_map-append (point_of name) declared (row ∷ []), nothing name parts.0) (by row good parts.0)
  where
    by : (row : Declared) → IsFine declared row → is_tank declared name ≡ false → points_of_tank (row ∷ []) name ≡ []
    by (Strap n mm ml) good none = elim (cases_Bool (same_name n name)) [
      | inl same ↦
          let here = (bytes_decides n name).0 same in
          let known : is_tank declared n ≡ true = not_false (is_tank declared n) good.known in
          cc (sym none ∙ subst (λ (q : List ℕ). is_tank declared q ≡ true) here known)
      | inr apart ↦ rw apart refl
    ]
    by row good none = refl

-- ---- arcs

among_more : (names more : List (List ℕ)) (name : List ℕ) → names_include names name ≡ true → names_include (names ++ more) name ≡ true
among_more names more name there = rw (list_any-append (same_name name) names more, there) refl

among_last : (names : List (List ℕ)) (name : List ℕ) → names_include (names ++ name ∷ []) name ≡ true
among_last names name = rw (list_any-append (same_name name) names (name ∷ []), same_self name) (or_true (names_include names name))
  where
    or_true : (b : Bool) → (b || true) ≡ true
    or_true true = refl
    or_true false = refl

-- no boundary has the name of a node
boundaries_apart : (declared : List Declared) (row : Declared) → IsFine declared row → (name : List ℕ) → names_include (filter_map boundary_name (row ∷ [])) name ≡ true
    → names_include (node_names declared) name ≡ false
boundaries_apart declared (Boundary new) good name there = elim (cases_Bool (same_name name new)) [
  | inl same ↦ subst (λ (n : List ℕ). names_include (node_names declared) n ≡ false) (sym ((bytes_decides name new).0 same)) (free declared new good.new).node
  | inr apart ↦ cc (rw apart at there)
]
boundaries_apart declared row good name there = cc there

-- the nodes of an arc stay if there are more nodes and boundaries
same_arcs : (boundaries more nodes others : List (List ℕ)) (declared : List Declared) → ((name : List ℕ) → names_include more name ≡ true → names_include nodes name ≡ false)
    → All (IsArc (length nodes)) (filter_map (arc_in boundaries nodes) declared) → filter_map (arc_in (boundaries ++ more) (nodes ++ others)) declared ≡ filter_map (arc_in boundaries nodes) declared
same_arcs boundaries more nodes others [] apart joined = refl
same_arcs boundaries more nodes others (Tank name base service ∷ declared) apart joined =
    let arc : ℕ → Arc = λ from. record { name = name; from = from; to = 0; kind = ArcKind.Tank; base = base; service = service } in
    let right = joined 0 (arc 0) (omega arith) in
    let rest = same_arcs boundaries more nodes others declared apart (λ k d lt. joined (suc k) d (omega (arith, lt))) in
    ap₂ (λ (from : ℕ) (arcs : List Arc). arc from ∷ arcs) (node_stays boundaries more nodes others name right.begins (apart name)) rest
same_arcs boundaries more nodes others (Stream name from to kind base service ∷ declared) apart joined =
    let arc : ℕ → ℕ → Arc = λ from to. record { name = name; from = from; to = to; kind = arc_kind kind; base = base; service = service } in
    let right = joined 0 (arc 0 0) (omega arith) in
    let rest = same_arcs boundaries more nodes others declared apart (λ k d lt. joined (suc k) d (omega (arith, lt))) in
    let begins = node_stays boundaries more nodes others from right.begins (apart from) in
    let ends = node_stays boundaries more nodes others to right.ends (apart to) in
    ap (λ (n : ℕ). arc n (node_among (boundaries ++ more) (nodes ++ others) to) ∷ filter_map (arc_in (boundaries ++ more) (nodes ++ others)) declared) begins
    ∙ ap₂ (λ (n : ℕ) (arcs : List Arc). arc (node_among boundaries nodes from) n ∷ arcs) ends rest
same_arcs boundaries more nodes others (row ∷ declared) apart joined = same_arcs boundaries more nodes others declared apart joined

pub nodes_more : (declared : List Declared) (row : Declared) → node_names (declared ++ row ∷ []) ≡ node_names declared ++ filter_map node_name (row ∷ [])
nodes_more declared row = ap (λ (names : List (List ℕ)). codes "env" ∷ names) (filter_map-append node_name declared (row ∷ []))

boundaries_more : (declared : List Declared) (row : Declared) → boundary_names (declared ++ row ∷ []) ≡ boundary_names declared ++ filter_map boundary_name (row ∷ [])
boundaries_more declared row = filter_map-append boundary_name declared (row ∷ [])

-- the arc of one more declaration
abbrev new_arcs : List Declared → Declared → List Arc
new_arcs declared row =
    filter_map (arc_in (boundary_names declared ++ filter_map boundary_name (row ∷ [])) (node_names declared ++ filter_map node_name (row ∷ []))) (row ∷ [])

arcs_more : (declared : List Declared) (row : Declared) → IsFine declared row → All (IsArc (length (node_names declared))) (arcs_of declared)
    → arcs_of (declared ++ row ∷ []) ≡ arcs_of declared ++ new_arcs declared row
arcs_more declared row good joined =
    let more = filter_map boundary_name (row ∷ []) in
    let others = filter_map node_name (row ∷ []) in
    let boundaries = boundary_names declared ++ more in
    let nodes = node_names declared ++ others in
    ap₂ (λ (b n : List (List ℕ)). filter_map (arc_in b n) (declared ++ row ∷ [])) (boundaries_more declared row) (nodes_more declared row)
    ∙ filter_map-append (arc_in boundaries nodes) declared (row ∷ [])
    ∙ ap (λ (arcs : List Arc). arcs ++ new_arcs declared row) (same_arcs (boundary_names declared) more (node_names declared) others declared (boundaries_apart declared row good) joined)

-- an arc stays right if there are more nodes
arc_more : (nodes more : ℕ) (arc : Arc) → IsArc nodes arc → IsArc (nodes + more) arc
arc_more nodes more arc right = record {
  begins = omega (arith, right.begins);
  ends = omega (arith, right.ends);
  apart = right.apart;
  limits = right.limits;
}

-- the arc of a new declaration leads from a node to another one
new_arc : (declared : List Declared) (row : Declared) → IsFine declared row → IsDeclaredInRange row
    → All (IsArc (length (node_names declared ++ filter_map node_name (row ∷ [])))) (new_arcs declared row)
new_arc declared (Tank name base service) good ranges =
    let boundaries = boundary_names declared ++ [] in
    let nodes = node_names declared ++ name ∷ [] in
    let is_free = free declared name good.new in
    let outside : names_include boundaries name ≡ false = rw (append-nil (boundary_names declared)) is_free.boundary in
    let from : node_among boundaries nodes name ≡ length (node_names declared) = node_last boundaries (node_names declared) name outside is_free.node in
    let long = length-append (node_names declared) (name ∷ []) in
    let arc : Arc = record { name = name; from = node_among boundaries nodes name; to = 0; kind = ArcKind.Tank; base = base; service = service } in
    let right : IsArc (length nodes) arc = record {
      begins = omega (arith, from, long);
      ends = omega (arith, long);
      apart = λ same. absurd (omega (arith, from, same));
      limits = ranges.0;
    } in
    All-cons (IsArc (length nodes)) arc [] right (All-nil (IsArc (length nodes)))
new_arc declared (Stream name from to kind base service) good ranges =
    let boundaries = boundary_names declared in
    let nodes = node_names declared in
    let known = both (is_node declared from) (is_node declared to) good.known in
    let begins = node_among boundaries nodes from in
    let ends = node_among boundaries nodes to in
    let arc : Arc = record { name = name; from = begins; to = ends; kind = arc_kind kind; base = base; service = service } in
    let apart : (begins == ends) ≡ false = rw (node_is boundaries nodes from known.0, node_is boundaries nodes to known.1) at good.matching in
    let right : IsArc (length nodes) arc = record {
      begins = node_within boundaries nodes from (omega arith) known.0;
      ends = node_within boundaries nodes to (omega arith) known.1;
      apart = eqb-false begins ends apart;
      limits = ranges.0;
    } in
    let one = All-cons (IsArc (length nodes)) arc [] right (All-nil (IsArc (length nodes))) in
    subst (λ (b : List (List ℕ)). All (IsArc (length (nodes ++ []))) (filter_map (arc_in b (nodes ++ [])) (Stream name from to kind base service ∷ []))) (sym (append-nil boundaries))
    (subst (λ (n : List (List ℕ)). All (IsArc (length n)) (filter_map (arc_in boundaries n) (Stream name from to kind base service ∷ []))) (sym (append-nil nodes)) one)
new_arc declared row good ranges = All-nil (IsArc _)

joined_more : (declared : List Declared) (row : Declared) → IsFine declared row → IsDeclaredInRange row → All (IsArc (length (node_names declared))) (arcs_of declared)
    → All (IsArc (length (node_names (declared ++ row ∷ [])))) (arcs_of (declared ++ row ∷ []))
joined_more declared row good ranges joined =
    let more = filter_map node_name (row ∷ []) in
    let nodes = node_names declared ++ more in
    let long = length-append (node_names declared) more in
    let before = All-weaker (IsArc (length (node_names declared))) (IsArc (length (node_names declared) + length more)) (arc_more (length (node_names declared)) (length more)) (arcs_of declared) joined in
    let whole = All-append (IsArc (length nodes)) (arcs_of declared) (new_arcs declared row) (subst (λ (n : ℕ). All (IsArc n) (arcs_of declared)) (sym long) before) (new_arc declared row good ranges) in
    subst (λ (names : List (List ℕ)). All (IsArc (length names)) (arcs_of (declared ++ row ∷ []))) (sym (nodes_more declared row))
    (subst (λ (arcs : List Arc). All (IsArc (length nodes)) arcs) (sym (arcs_more declared row good joined)) whole)

-- ---- names

-- if no item passes, the item at each place fails
absent : (names : List (List ℕ)) (name : List ℕ) → names_include names name ≡ false → (k : ℕ) (d : List ℕ) → k < length names → same_name (get_or names k d) name ≡ false
absent names name none k d within = elim (cases_Bool (same_name name (get_or names k d))) [
  | inl same ↦ cc (sym none ∙ list_any_at (same_name name) names k d within same)
  | inr other ↦ same_sym name (get_or names k d) other
]

-- one more name, which is new
distinct_push : (names : List (List ℕ)) (name : List ℕ) → AreDistinct names → names_include names name ≡ false → AreDistinct (names ++ name ∷ [])
distinct_push names name apart new = all_pairs_push (λ (a b : List ℕ). same_name a b ≡ false) names name apart (absent names name new)

distinct_same : (names : List (List ℕ)) → AreDistinct names → AreDistinct (names ++ [])
distinct_same names apart = subst AreDistinct (sym (append-nil names)) apart

nodes_distinct : (declared : List Declared) (row : Declared) → IsFine declared row → AreDistinct (node_names declared) → AreDistinct (node_names declared ++ filter_map node_name (row ∷ []))
nodes_distinct declared (Declared.Unit name) good apart = distinct_push (node_names declared) name apart (free declared name good.new).node
nodes_distinct declared (Tank name base service) good apart = distinct_push (node_names declared) name apart (free declared name good.new).node
nodes_distinct declared row good apart = distinct_same (node_names declared) apart

arcs_distinct : (declared : List Declared) (row : Declared) → IsFine declared row → AreDistinct (filter_map arc_name declared)
    → AreDistinct (filter_map arc_name declared ++ filter_map arc_name (row ∷ []))
arcs_distinct declared (Tank name base service) good apart = distinct_push (filter_map arc_name declared) name apart (free declared name good.new).arcs
arcs_distinct declared (Stream name from to kind base service) good apart = distinct_push (filter_map arc_name declared) name apart (free declared name good.new).arcs
arcs_distinct declared row good apart = distinct_same (filter_map arc_name declared) apart

-- a name that isn't taken is new among all
new_name : (declared : List Declared) (name : List ℕ) → is_taken declared name ≡ false → names_include (codes "env" ∷ filter_map declared_name declared) name ≡ false
new_name declared name untaken =
    let is_free = free declared name untaken in
    rw (is_free.env) (no_name declared name is_free.nodes is_free.boundary is_free.arcs)

all_distinct : (declared : List Declared) (row : Declared) → IsFine declared row → AreDistinct (codes "env" ∷ filter_map declared_name declared)
    → AreDistinct ((codes "env" ∷ filter_map declared_name declared) ++ filter_map declared_name (row ∷ []))
all_distinct declared (Declared.Unit name) good apart = distinct_push (codes "env" ∷ filter_map declared_name declared) name apart (new_name declared name good.new)
all_distinct declared (Boundary name) good apart = distinct_push (codes "env" ∷ filter_map declared_name declared) name apart (new_name declared name good.new)
all_distinct declared (Tank name base service) good apart = distinct_push (codes "env" ∷ filter_map declared_name declared) name apart (new_name declared name good.new)
all_distinct declared (Stream name from to kind base service) good apart = distinct_push (codes "env" ∷ filter_map declared_name declared) name apart (new_name declared name good.new)
all_distinct declared row good apart = distinct_same (codes "env" ∷ filter_map declared_name declared) apart

distinct_more : (declared : List Declared) (row : Declared) → IsFine declared row → HasDistinctNames declared → HasDistinctNames (declared ++ row ∷ [])
distinct_more declared row good apart =
    let last = row ∷ [] in
    let arcs = subst AreDistinct (arc_names_of declared) apart.arcs in
    record {
      nodes = subst AreDistinct (sym (nodes_more declared row)) (nodes_distinct declared row good apart.nodes);
      arcs = subst AreDistinct (sym (arc_names_of (declared ++ last) ∙ filter_map-append arc_name declared last)) (arcs_distinct declared row good arcs);
      all = subst AreDistinct (sym (ap (λ (names : List (List ℕ)). codes "env" ∷ names) (filter_map-append declared_name declared last))) (all_distinct declared row good apart.all);
    }

-- ---- one more declaration

plant_more : (declared : List Declared) (row : Declared) → IsDeclaredPlant declared → IsFine declared row → IsDeclaredInRange row → IsDeclaredPlant (declared ++ row ∷ [])
plant_more declared row plant good ranges =
    let more = filter_map boundary_name (row ∷ []) in
    let others = filter_map node_name (row ∷ []) in
    let arcs = new_arcs declared row in
    let room = room_arcs declared row (boundary_names declared ++ more) (node_names declared ++ others) good plant.few_arcs in
    record {
      ranges = All-append IsDeclaredInRange declared (row ∷ []) plant.ranges (All-cons IsDeclaredInRange row [] ranges (All-nil IsDeclaredInRange));
      distinct = distinct_more declared row good plant.distinct;
      joined = joined_more declared row good ranges plant.joined;
      few_nodes = subst (λ (names : List (List ℕ)). length names ≤ most_nodes) (sym (nodes_more declared row))
          (subst (λ (n : ℕ). n ≤ most_nodes) (sym (length-append (node_names declared) others)) (room_nodes declared row good plant.few_nodes));
      few_boundaries = subst (λ (names : List (List ℕ)). length names ≤ most_boundaries) (sym (boundaries_more declared row))
          (subst (λ (n : ℕ). n ≤ most_boundaries) (sym (length-append (boundary_names declared) more)) (room_boundaries declared row good plant.few_boundaries));
      few_arcs = subst (λ (all : List Arc). length all ≤ most_streams) (sym (arcs_more declared row good plant.joined))
          (subst (λ (n : ℕ). n ≤ most_streams) (sym (length-append (arcs_of declared) arcs)) room);
      version = once_more declared row good plant.version;
    }

pub kept_more : (declared : List Declared) (old new : Index) (row : Declared) → IsKept declared old → Notes old new row → IsFine declared row → IsDeclaredInRange row → IsKept (declared ++ row ∷ []) new
kept_more declared old new row kept notes good ranges =
    let last = row ∷ [] in
    let boundaries : new.boundaries.keys ≡ boundary_names declared ++ filter_map boundary_name last = notes.boundaries ∙ ap (λ (names : List (List ℕ)). names ++ filter_map boundary_name last) kept.boundaries in
    let nodes : new.nodes.keys ≡ filter_map node_name (declared ++ last) = notes.nodes ∙ ap (λ (names : List (List ℕ)). names ++ filter_map node_name last) kept.nodes ∙ sym (filter_map-append node_name declared last) in
    let in_new : nodes_in new ≡ node_names declared ++ filter_map node_name last = ap (λ (names : List (List ℕ)). codes "env" ∷ names) nodes ∙ nodes_more declared row in
    record {
      version = notes.version ∙ ap (version_with row) kept.version ∙ sym (version_more declared row good);
      boundaries = boundaries ∙ sym (boundaries_more declared row);
      nodes = nodes;
      arc_names = notes.arc_names ∙ ap (λ (names : List (List ℕ)). names ++ filter_map arc_name last) (kept.arc_names ∙ arc_names_of declared)
          ∙ sym (filter_map-append arc_name declared last) ∙ sym (arc_names_of (declared ++ last));
      arcs = notes.arcs ∙ ap (λ (arcs : List Arc). arcs ++ filter_map (arc_in new.boundaries.keys (nodes_in new)) last) kept.arcs
          ∙ ap₂ (λ (b n : List (List ℕ)). arcs_of declared ++ filter_map (arc_in b n) last) boundaries in_new ∙ sym (arcs_more declared row good kept.plant.joined);
      straps = λ name. notes.straps name ∙ ap (table_with row name) (kept.straps name) ∙ sym (table_more declared row name good kept.no_points);
      global = λ dof. notes.global dof ∙ ap (value_with (global_value dof row)) (kept.global dof) ∙ sym (value_more (global_value dof) declared row (fresh_global declared row dof good));
      nodal = notes.nodal ∙ ap (value_with (nodal_value row)) kept.nodal ∙ sym (value_more nodal_value declared row (fresh_nodal declared row good));
      measure = notes.measure ∙ ap (value_with (measure_value row)) kept.measure ∙ sym (value_more measure_value declared row (fresh_measure declared row good));
      plant = plant_more declared row kept.plant good ranges;
      no_points = λ name undeclared. none_more declared row name good kept.no_points undeclared;
    }

-- ---- laws of the plant

pub plant_law : PlantLaw
plant_law = (
  record {
    ranges = All-nil IsDeclaredInRange;
    distinct = record { nodes = one (codes "env"); arcs = none; all = one (codes "env") };
    joined = All-nil (IsArc 1);
    few_nodes = omega arith;
    few_boundaries = omega arith;
    few_arcs = omega arith;
    version = All-nil (λ (row : Declared). says_version_2 row ≡ false);
  },
  λ declared row plant ranges no_fault. plant_more declared row plant (fine declared row no_fault) ranges,
)
  where
    none : AreDistinct []
    none = λ i j d before within. absurd (omega (arith, within))

    one : (name : List ℕ) → AreDistinct (name ∷ [])
    one name = λ i j d before within. absurd (omega (arith, before, within))

pub growth_law : GrowthLaw
growth_law declared row plant no_fault =
    let good = fine declared row no_fault in
    let last = row ∷ [] in
    record {
      nodes = nodes_more declared row;
      arcs = arcs_more declared row good plant.joined
          ∙ ap₂ (λ (b n : List (List ℕ)). arcs_of declared ++ filter_map (arc_in b n) last) (sym (boundaries_more declared row)) (sym (nodes_more declared row));
      version = version_stays declared row;
    }
