-- What follows if a new declaration has no fault.
use Rattle.std.specs.Prelude.{◌&&◌, not, nat_le, filter_map, map}
use Rattle.std.specs.Cmp.Lexicographic.{bytes_decides}
use Rattle.std.proofs.Common.{◌≡◌, ◌∙◌, ℕ, ◌+◌, ◌<◌, ◌≤◌, List, [], ◌∷◌, length, Bool, true, false, None, codes, refl, sym, ap, arith, inl, inr}
use Rattle.std.proofs.lemmas.Bool.{cases_Bool, leb-false, or_parts}
use Rattle.pb_limits.specs.Limits.{most_boundaries, most_nodes, most_points, most_streams, most_units_and_tanks}
use Rattle.pb_rows.specs.Name.{same_name}
use Rattle.pb_site.specs.declared.declared.Arc.{Arc}
use Rattle.pb_site.specs.declared.declared.Declared.{Declared}
use Rattle.pb_site.specs.declared.declared.Declared.TheVariants.{Version2, Boundary, Tank, Strap, Stream}
use Rattle.pb_site.specs.declared.declared.Version.{Version}
use Rattle.pb_site.specs.declared.declared.Version.TheVariants.{One, Two}
use Rattle.pb_site.specs.declared.index.Index.{Index}
use Rattle.pb_site.specs.Row.{IsDeclaredInRange, arc_in, boundary_name, declared_name, names_include, node_name, says_version_2}
use Rattle.pb_site.specs.Site.{arc_names, arcs_of, boundary_names, is_tank, node_names, points_of_tank, version_of}
use Rattle.pb_site.specs.Faults.{first_site_fault, has_most_arcs, has_most_nodes, is_declaration_out_of_order, is_duplicate_declaration, is_mismatched_declaration, is_node, is_plant_full, is_taken, most_arcs, refers_to_unknown, site_fault_of}
use Rattle.pb_site.specs.Kept.{IsKept, IsNew, arc_name}

-- none of the faults holds
pub record IsFine (declared : List Declared) (row : Declared) : Type 0 where
  pub known : refers_to_unknown declared row ≡ false
  pub new : is_duplicate_declaration declared row ≡ false
  pub rising : is_declaration_out_of_order declared row ≡ false
  pub matching : is_mismatched_declaration declared row ≡ false
  pub room : is_plant_full (version_of declared) declared row ≡ false

pub fine : (declared : List Declared) (row : Declared) → site_fault_of (version_of declared) declared row ≡ None → IsFine declared row
fine declared row none =
    let each = by (refers_to_unknown declared row) (is_duplicate_declaration declared row) (is_declaration_out_of_order declared row) (is_mismatched_declaration declared row) (is_plant_full (version_of declared) declared row) none in
    record { known = each.0; new = each.1; rising = each.2; matching = each.3; room = each.4 }
  where
    by : (a b c d e : Bool) → first_site_fault a b c d e ≡ None → (a ≡ false) × (b ≡ false) × (c ≡ false) × (d ≡ false) × (e ≡ false)
    by true b c d e h = cc h
    by false true c d e h = cc h
    by false false true d e h = cc h
    by false false false true e h = cc h
    by false false false false true h = cc h
    by false false false false false h = (refl, refl, refl, refl, refl)

pub same_self : (name : List ℕ) → same_name name name ≡ true
same_self name = (bytes_decides name name).1 refl

pub same_sym : (a b : List ℕ) → same_name a b ≡ false → same_name b a ≡ false
same_sym a b apart = elim (cases_Bool (same_name b a)) [
  | inl same ↦ cc (sym apart ∙ (bytes_decides a b).1 (sym ((bytes_decides b a).0 same)))
  | inr other ↦ other
]

pub not_false : (b : Bool) → not b ≡ false → b ≡ true
not_false true h = refl
not_false false h = cc h

pub both : (a b : Bool) → not (a && b) ≡ false → (a ≡ true) × (b ≡ true)
both true true h = (refl, refl)
both true false h = cc h
both false b h = cc h

-- ---- names

-- the arcs have the names of the streams and tanks
pub arc_names-are : (boundaries nodes : List (List ℕ)) (declared : List Declared)
    → map (λ (arc : Arc). arc.name) (filter_map (arc_in boundaries nodes) declared) ≡ filter_map arc_name declared
arc_names-are boundaries nodes [] = refl
arc_names-are boundaries nodes (Tank name base service ∷ declared) = ap (λ (names : List (List ℕ)). name ∷ names) (arc_names-are boundaries nodes declared)
arc_names-are boundaries nodes (Stream name from to kind base service ∷ declared) = ap (λ (names : List (List ℕ)). name ∷ names) (arc_names-are boundaries nodes declared)
arc_names-are boundaries nodes (row ∷ declared) = arc_names-are boundaries nodes declared

pub arc_names_of : (declared : List Declared) → arc_names declared ≡ filter_map arc_name declared
arc_names_of declared = arc_names-are (boundary_names declared) (node_names declared) declared

-- a name that isn't taken belongs to no node, no boundary and no arc
pub record IsFree (declared : List Declared) (name : List ℕ) : Type 0 where
  pub either : is_node declared name ≡ false
  pub boundary : names_include (boundary_names declared) name ≡ false
  pub node : names_include (node_names declared) name ≡ false
  pub env : same_name name (codes "env") ≡ false
  pub nodes : names_include (filter_map node_name declared) name ≡ false
  pub arc : names_include (arc_names declared) name ≡ false
  pub arcs : names_include (filter_map arc_name declared) name ≡ false

pub free : (declared : List Declared) (name : List ℕ) → is_taken declared name ≡ false → IsFree declared name
free declared name untaken =
    let parts = or_parts (is_node declared name) (names_include (arc_names declared) name) untaken in
    let both = or_parts (names_include (boundary_names declared) name) (names_include (node_names declared) name) parts.0 in
    let nodes = or_parts (same_name name (codes "env")) (names_include (filter_map node_name declared) name) both.1 in
    record {
      either = parts.0;
      boundary = both.0;
      node = both.1;
      env = nodes.0;
      nodes = nodes.1;
      arc = parts.1;
      arcs = rw (arc_names_of declared) at parts.1;
    }

-- each tank has an arc of its name
pub no_tank : (declared : List Declared) (name : List ℕ) → names_include (filter_map arc_name declared) name ≡ false → is_tank declared name ≡ false
no_tank [] name none = refl
no_tank (Tank n base service ∷ declared) name none =
    let parts = or_parts (same_name name n) (names_include (filter_map arc_name declared) name) none in
    rw (same_sym name n parts.0) (no_tank declared name parts.1)
no_tank (Stream n from to kind base service ∷ declared) name none =
    let parts = or_parts (same_name name n) (names_include (filter_map arc_name declared) name) none in
    no_tank declared name parts.1
no_tank (row ∷ declared) name none = no_tank declared name none

-- a name that no node, no boundary and no arc has isn't declared
pub no_name : (declared : List Declared) (name : List ℕ) → names_include (filter_map node_name declared) name ≡ false → names_include (boundary_names declared) name ≡ false
    → names_include (filter_map arc_name declared) name ≡ false → names_include (filter_map declared_name declared) name ≡ false
no_name [] name nodes boundaries arcs = refl
no_name (Declared.Unit n ∷ declared) name nodes boundaries arcs =
    let parts = or_parts (same_name name n) (names_include (filter_map node_name declared) name) nodes in
    rw (parts.0) (no_name declared name parts.1 boundaries arcs)
no_name (Boundary n ∷ declared) name nodes boundaries arcs =
    let parts = or_parts (same_name name n) (names_include (boundary_names declared) name) boundaries in
    rw (parts.0) (no_name declared name nodes parts.1 arcs)
no_name (Tank n base service ∷ declared) name nodes boundaries arcs =
    let parts = or_parts (same_name name n) (names_include (filter_map node_name declared) name) nodes in
    let others = or_parts (same_name name n) (names_include (filter_map arc_name declared) name) arcs in
    rw (parts.0) (no_name declared name parts.1 boundaries others.1)
no_name (Stream n from to kind base service ∷ declared) name nodes boundaries arcs =
    let parts = or_parts (same_name name n) (names_include (filter_map arc_name declared) name) arcs in
    rw (parts.0) (no_name declared name nodes boundaries parts.1)
no_name (row ∷ declared) name nodes boundaries arcs = no_name declared name nodes boundaries arcs

-- ---- room

below : (most n : ℕ) → nat_le most n ≡ false → n < most
below most n h = omega (arith, leb-false most n h)

-- a declaration without a fault is new to the index
pub new_row : (declared : List Declared) (index : Index) (row : Declared) → IsKept declared index → IsFine declared row → IsDeclaredInRange row → IsNew index row
new_row declared index (Declared.Unit name) kept good ranges = rw kept.nodes (free declared name good.new).nodes
new_row declared index (Boundary name) kept good ranges = rw kept.boundaries (free declared name good.new).boundary
new_row declared index (Tank name base service) kept good ranges =
    let is_free = free declared name good.new in
    (rw (kept.boundaries, kept.nodes) is_free.either, rw kept.arc_names is_free.arc)
new_row declared index (Strap tank mm ml) kept good ranges =
    let known : is_tank declared tank ≡ true = not_false (is_tank declared tank) good.known in
    rw (kept.straps tank, known)
    (record {
      level = ranges.0;
      volume = ranges.1;
      rising = not_false _ good.rising;
      room = below most_points (length (points_of_tank declared tank)) good.room;
    })
new_row declared index (Stream name from to kind base service) kept good ranges =
    let known = both (is_node declared from) (is_node declared to) good.known in
    (rw kept.arc_names (free declared name good.new).arc, rw (kept.boundaries, kept.nodes) known.0, rw (kept.boundaries, kept.nodes) known.1)
new_row declared index row kept good ranges = tt

-- there is room for one more unit or tank
pub room_nodes : (declared : List Declared) (row : Declared) → IsFine declared row → length (node_names declared) ≤ most_nodes
    → length (node_names declared) + length (filter_map node_name (row ∷ [])) ≤ most_nodes
room_nodes declared (Declared.Unit name) good few = let less = below most_units_and_tanks (length (filter_map node_name declared)) good.room in omega (arith, less)
room_nodes declared (Tank name base service) good few =
    let parts = or_parts (has_most_nodes declared) (has_most_arcs (version_of declared) declared) good.room in
    let less = below most_units_and_tanks (length (filter_map node_name declared)) parts.0 in
    omega (arith, less)
room_nodes declared row good few = omega (arith, few)

-- there is room for one more boundary
pub room_boundaries : (declared : List Declared) (row : Declared) → IsFine declared row → length (boundary_names declared) ≤ most_boundaries
    → length (boundary_names declared) + length (filter_map boundary_name (row ∷ [])) ≤ most_boundaries
room_boundaries declared (Boundary name) good few = let less = below most_boundaries (length (boundary_names declared)) good.room in omega (arith, less)
room_boundaries declared row good few = omega (arith, few)

-- no version allows more arcs than a graph can have streams
within_streams : (version : Version) → most_arcs version ≤ most_streams
within_streams One = omega arith
within_streams Two = omega arith

-- there is room for one more arc
pub room_arcs : (declared : List Declared) (row : Declared) (boundaries nodes : List (List ℕ)) → IsFine declared row → length (arcs_of declared) ≤ most_streams
    → length (arcs_of declared) + length (filter_map (arc_in boundaries nodes) (row ∷ [])) ≤ most_streams
room_arcs declared (Tank name base service) boundaries nodes good few =
    let parts = or_parts (has_most_nodes declared) (has_most_arcs (version_of declared) declared) good.room in
    let less = below (most_arcs (version_of declared)) (length (arcs_of declared)) parts.1 in
    let most = within_streams (version_of declared) in
    omega (arith, less, most)
room_arcs declared (Stream name from to kind base service) boundaries nodes good few =
    let less = below (most_arcs (version_of declared)) (length (arcs_of declared)) good.room in
    let most = within_streams (version_of declared) in
    omega (arith, less, most)
room_arcs declared row boundaries nodes good few = omega (arith, few)

-- ---- the version

-- only the first declaration states the version
pub no_version : (first : Declared) (declared : List Declared) (row : Declared) → IsFine (first ∷ declared) row → says_version_2 row ≡ false
no_version first declared Version2 good = cc good.new
no_version first declared row good = refl
