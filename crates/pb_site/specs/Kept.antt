-- Inside. What a site keeps beside the declarations, so that look-ups don't walk through them.
use Rattle.std.specs.Prelude.{◌≡◌, ℕ, ◌<◌, ◌≤◌, ◌==◌, ◌-◌, nat_eq, ℤ, Bool, true, false, ◌||◌, List, [], ◌∷◌, ◌++◌, length, get_or, filter, filter_map, position, Option, Some, None, IsSomeAnd, if◌then◌else◌, codes, vec_len, vec_capacity}
use Rattle.std.specs.Option.{option_map}
use Rattle.std.specs.HashMap.{get, spare}
use Rattle.std.specs.List.{range_with_len}
use Rattle.std.specs.List.Sorted.{IsStrictlyIncreasing}
use Rattle.indexmap.specs.IndexSet as set
use Rattle.pb_limits.specs.Limits.{most_nodes, most_points}
use Rattle.pb_limits.specs.Ranges.{IsLevel, IsVolume}
use Rattle.pb_rows.specs.Name.{same_name}
use Rattle.pb_strap.specs.declared.strap.Point.{Point}
use Rattle.pb_site.specs.declared.declared.Arc.{Arc}
use Rattle.pb_strap.specs.Table.{rises}
use Rattle.pb_site.specs.declared.index.Index.{Index}
use Rattle.pb_site.specs.declared.declared.Declared.{Declared}
use Rattle.pb_site.specs.declared.declared.Declared.TheVariants.{Version2, Boundary, Tank, Strap, Stream}
use Rattle.pb_site.specs.declared.declared.Version.{Version}
use Rattle.pb_site.specs.declared.declared.Version.TheVariants.{Two}
use Rattle.pb_site.specs.Row.{arc_in, boundary_name, global_value, measure_value, names_include, nodal_value, node_name}
use Rattle.pb_site.specs.Site.{arc_names, arcs_of, boundary_names, global_of, is_tank, measure_of, nodal_of, points_of_tank, table_of, version_of}
use Rattle.pb_site.specs.Laws.{IsDeclaredPlant}
use Rattle.pb_site.specs.OnDays.{is_end_of}

-- the name of the stream or tank that a declaration declares
abbrev pub arc_name : Declared → Option (List ℕ)
arc_name (Tank name base service) = Some name
arc_name (Stream name from to kind base service) = Some name
arc_name row = None

-- the names of the nodes, according to the index
abbrev pub nodes_in : Index → List (List ℕ)
nodes_in index = codes "env" ∷ index.nodes.keys

-- the name belongs to a boundary or to a node, according to the index
abbrev pub has_node : Index → List ℕ → Bool
has_node index name = names_include index.boundaries.keys name || names_include (nodes_in index) name

-- the node of a name, according to the index
abbrev pub node_by : Index → List ℕ → Option ℕ
node_by index name =
    if names_include index.boundaries.keys name then Some 0
    else position (same_name name) (nodes_in index)

-- the index gives the version, names, arcs, tables and critical values of a plant, and a tank that isn't declared has no points
pub record IsKept (declared : List Declared) (index : Index) : Type 0 where
  pub version : index.version ≡ version_of declared
  pub boundaries : index.boundaries.keys ≡ boundary_names declared
  pub nodes : index.nodes.keys ≡ filter_map node_name declared
  pub arc_names : index.arc_names.keys ≡ arc_names declared
  pub arcs : index.arcs.items ≡ arcs_of declared
  pub straps : (name : List ℕ) → get same_name index.straps name ≡ table_of declared name
  pub global : (dof : ℕ) → get nat_eq index.global dof ≡ global_of declared dof
  pub nodal : index.nodal ≡ nodal_of declared
  pub measure : index.measure ≡ measure_of declared
  pub plant : IsDeclaredPlant declared
  pub no_points : (name : List ℕ) → is_tank declared name ≡ false → points_of_tank declared name ≡ []

-- the version after one more declaration, which may state it
abbrev pub version_with : Declared → Version → Version
version_with Version2 version = Two
version_with row version = version

-- the table at a name after one more declaration
abbrev pub table_with : Declared → List ℕ → Option (List Point) → Option (List Point)
table_with (Tank name base service) wanted table = if same_name name wanted then Some [] else table
table_with (Strap name mm ml) wanted table =
    if same_name name wanted then option_map (λ points. points ++ record { mm = mm; ml = ml } ∷ []) table
    else table
table_with row wanted table = table

-- a critical value after one more declaration, which may declare one
abbrev pub value_with : Option ℤ → Option ℤ → Option ℤ
value_with None old = old
value_with (Some value) old = Some value

-- there is room for one more name, arc, table and critical value
pub record HasRoom (index : Index) : Type 0 where
  pub boundaries : 0 < set.spare index.boundaries
  pub nodes : 0 < set.spare index.nodes
  pub arc_names : 0 < set.spare index.arc_names
  pub arcs : vec_len index.arcs < vec_capacity index.arcs
  pub straps : 0 < spare index.straps
  pub global : 0 < spare index.global

-- the new index gives the same as the old one
pub record SameIndex (old new : Index) : Type 0 where
  pub version : new.version ≡ old.version
  pub boundaries : new.boundaries.keys ≡ old.boundaries.keys
  pub nodes : new.nodes.keys ≡ old.nodes.keys
  pub arc_names : new.arc_names.keys ≡ old.arc_names.keys
  pub arcs : new.arcs.items ≡ old.arcs.items
  pub straps : (name : List ℕ) → get same_name new.straps name ≡ get same_name old.straps name
  pub global : (dof : ℕ) → get nat_eq new.global dof ≡ get nat_eq old.global dof
  pub nodal : new.nodal ≡ old.nodal
  pub measure : new.measure ≡ old.measure

-- the index after one more declaration
pub record Notes (old new : Index) (row : Declared) : Type 0 where
  pub version : new.version ≡ version_with row old.version
  pub boundaries : new.boundaries.keys ≡ old.boundaries.keys ++ filter_map boundary_name (row ∷ [])
  pub nodes : new.nodes.keys ≡ old.nodes.keys ++ filter_map node_name (row ∷ [])
  pub arc_names : new.arc_names.keys ≡ old.arc_names.keys ++ filter_map arc_name (row ∷ [])
  pub arcs : new.arcs.items
      ≡ old.arcs.items ++ filter_map (arc_in new.boundaries.keys (nodes_in new)) (row ∷ [])
  pub straps : (name : List ℕ)
      → get same_name new.straps name ≡ table_with row name (get same_name old.straps name)
  pub global : (dof : ℕ)
      → get nat_eq new.global dof ≡ value_with (global_value dof row) (get nat_eq old.global dof)
  pub nodal : new.nodal ≡ value_with (nodal_value row) old.nodal
  pub measure : new.measure ≡ value_with (measure_value row) old.measure

-- the table has room for this point, which can follow its last one
pub record CanAdd (mm ml : ℤ) (points : List Point) : Type 0 where
  pub level : IsLevel mm
  pub volume : IsVolume ml
  pub rising : rises points mm ml ≡ true
  pub room : length points < most_points

-- the names of a declaration are new, its ends are nodes, and its point fits a table that exists
abbrev pub IsNew : Index → Declared → Type 0
IsNew index (Declared.Unit name) = names_include index.nodes.keys name ≡ false
IsNew index (Boundary name) = names_include index.boundaries.keys name ≡ false
IsNew index (Tank name base service) =
    (has_node index name ≡ false) × (names_include index.arc_names.keys name ≡ false)
IsNew index (Strap tank mm ml) = IsSomeAnd (get same_name index.straps tank) (CanAdd mm ml)
IsNew index (Stream name from to kind base service) =
    (names_include index.arc_names.keys name ≡ false)
    × (has_node index from ≡ true) × (has_node index to ≡ true)
IsNew index row = Unit {0}

-- a node is marked
abbrev pub is_marked : List Bool → ℕ → Bool
is_marked marks node = get_or marks node false

-- the environment, and the other nodes that are marked
abbrev pub marked_nodes : List Bool → List ℕ
marked_nodes marks = 0 ∷ filter (is_marked marks) (range_with_len 1 (length marks - 1))

-- for each of `count` nodes, whether it is one of these
pub record MarksNodes (count : ℕ) (nodes : List ℕ) (marks : List Bool) : Type 0 where
  pub each : length marks ≡ count
  pub few : length marks ≤ most_nodes
  pub marked : marked_nodes marks ≡ nodes

-- for each of this number of nodes, whether it is an end of one of these arcs
pub record AreEnds (nodes : ℕ) (arcs : List Arc) (ends : List Bool) : Type 0 where
  pub each : length ends ≡ nodes
  pub few : length ends ≤ most_nodes
  pub marked : (node : ℕ) → node < nodes → is_marked ends node ≡ is_end_of arcs node

-- the ends of an arc are marked in addition to the nodes already marked
pub record MarksEnds (arc : Arc) (old new : List Bool) : Type 0 where
  pub each : length new ≡ length old
  pub marked : (node : ℕ) → node < length old
      → is_marked new node ≡ (is_marked old node || ((arc.from == node) || (arc.to == node)))

-- nodes in increasing order, not too many for a graph
pub record AreNodes (nodes : List ℕ) : Type 0 where
  pub order : IsStrictlyIncreasing nodes
  pub few : length nodes ≤ most_nodes
