-- Statement. The declared plant: its nodes, its arcs, the tables of its tanks and its critical values, in order of declaration.
use Rattle.std.specs.Prelude.{◌≡◌, ◌≢◌, ◌<◌, ℕ, ℤ, Bool, false, List, ◌∷◌, map, filter_map, find, position, AllPairs, Option, Some, None, if◌then◌else◌, option_and_then, slice_get, codes}
use Rattle.std.specs.List.{list_any}
use Rattle.std.specs.Option.{option_map}
use Rattle.pb_rows.specs.Name.{same_name}
use Rattle.pb_rows.specs.declared.name.Names.{Names}
use Rattle.pb_strap.specs.declared.strap.Point.{Point}
use Rattle.pb_site.specs.declared.declared.Arc.{Arc}
use Rattle.pb_site.specs.declared.declared.ArcKind.{ArcKind}
use Rattle.pb_site.specs.declared.declared.Declared.{Declared}
use Rattle.pb_site.specs.declared.declared.Declared.TheVariants.{Version2}
use Rattle.pb_site.specs.declared.declared.Service.{Service}
use Rattle.pb_site.specs.declared.declared.Version.{Version}
use Rattle.pb_site.specs.declared.declared.Version.TheVariants.{One, Two}
use Rattle.pb_site.specs.Row.{IsArcBase, arc_in, boundary_name, declared_name, declares_tank, global_value, is_inventory, measure_value, names_include, nodal_value, node_name, point_of}

-- the version of the session: 2 if the first declaration says so
abbrev pub version_of : List Declared → Version
version_of (Version2 ∷ declared) = Two
version_of declared = One

-- the names of the nodes: first the environment's, then those of the units and tanks
abbrev pub node_names : List Declared → List (List ℕ)
node_names declared = codes "env" ∷ filter_map node_name declared

-- the names of the boundaries, which are further names of the environment
abbrev pub boundary_names : List Declared → List (List ℕ)
boundary_names declared = filter_map boundary_name declared

-- the node of this name; that of a boundary is the environment
abbrev pub node_of : List Declared → List ℕ → Option ℕ
node_of declared name =
    if names_include (boundary_names declared) name then Some 0
    else position (same_name name) (node_names declared)

-- the arcs of the plant: the declared streams and the inventory streams of the tanks
abbrev pub arcs_of : List Declared → List Arc
arcs_of declared = filter_map (arc_in (boundary_names declared) (node_names declared)) declared

-- an arc leads from a node to another one, and its base variance is within the limits
pub record IsArc (nodes : ℕ) (arc : Arc) : Type 0 where
  pub begins : arc.from < nodes
  pub ends : arc.to < nodes
  pub apart : arc.from ≢ arc.to
  pub limits : IsArcBase arc.kind arc.base

-- the names of the arcs: those of the streams and tanks
abbrev pub arc_names : List Declared → List (List ℕ)
arc_names declared = map (λ (arc : Arc). arc.name) (arcs_of declared)

-- the arc of this name
abbrev pub arc_named : List Declared → List ℕ → Option Arc
arc_named declared name = find (λ (arc : Arc). same_name name arc.name) (arcs_of declared)

-- the kind of the arc of this name
abbrev pub kind_of : List Declared → List ℕ → Option ArcKind
kind_of declared name = option_map (λ (arc : Arc). arc.kind) (arc_named declared name)

-- the days on which the arc of this name is in service; version 1 has no such days
abbrev pub service_in : Version → List Declared → List ℕ → Option Service
service_in One declared name = None
service_in Two declared name =
    option_and_then (λ (arc : Arc). arc.service) (arc_named declared name)

-- the names of the nodes and arcs
abbrev pub names_of : List Declared → Names
names_of declared = record { nodes = node_names declared; streams = arc_names declared }

-- no two of these names are the same
abbrev pub AreDistinct : List (List ℕ) → Type 0
AreDistinct names = AllPairs (λ a b. same_name a b ≡ false) names

-- no two nodes have the same name (the environment counts as one), and no two arcs; nor have any two units, boundaries, tanks or
-- streams
pub record HasDistinctNames (declared : List Declared) : Type 0 where
  pub nodes : AreDistinct (node_names declared)
  pub arcs : AreDistinct (arc_names declared)
  pub all : AreDistinct (codes "env" ∷ filter_map declared_name declared)

-- a tank of this name is declared
abbrev pub is_tank : List Declared → List ℕ → Bool
is_tank declared name = list_any (declares_tank name) declared

-- the points of a tank's table
abbrev pub points_of_tank : List Declared → List ℕ → List Point
points_of_tank declared tank = filter_map (point_of tank) declared

-- the table of the tank of this name
abbrev pub table_of : List Declared → List ℕ → Option (List Point)
table_of declared tank = if is_tank declared tank then Some (points_of_tank declared tank) else None

-- the table of an arc: that of the tank whose inventory the arc is; a stream has no table
abbrev pub table_of_arc : List Declared → Arc → Option (List Point)
table_of_arc declared arc = if is_inventory arc.kind then Some (points_of_tank declared arc.name) else None

-- the declared critical values
abbrev pub global_of : List Declared → ℕ → Option ℤ
global_of declared dof = slice_get (filter_map (global_value dof) declared) 0

abbrev pub nodal_of : List Declared → Option ℤ
nodal_of declared = slice_get (filter_map nodal_value declared) 0

abbrev pub measure_of : List Declared → Option ℤ
measure_of declared = slice_get (filter_map measure_value declared) 0
