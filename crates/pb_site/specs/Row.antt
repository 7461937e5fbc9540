-- Statement. What one declaration says: its ranges, and the node, boundary, arc, point or critical value that it declares.
use Rattle.std.specs.Prelude.{◌≡◌, ℕ, ◌==◌, ℤ, pos, ◌≤◌, Bool, true, false, List, Option, Some, None, IfSome, if◌then◌else◌}
use Rattle.std.specs.List.{list_any, position_or_len}
use Rattle.pb_limits.specs.Limits.{most_freedom}
use Rattle.pb_limits.specs.Ranges.{IsBaseVariance, IsCriticalValue, IsLevel, IsVolume}
use Rattle.pb_rows.specs.Name.{same_name}
use Rattle.pb_strap.specs.declared.strap.Point.{Point}
use Rattle.pb_site.specs.declared.declared.Arc.{Arc}
use Rattle.pb_site.specs.declared.declared.Kind.{Kind}
use Rattle.pb_site.specs.declared.declared.Kind.TheVariants.{Metered, Batch, Plain}
use Rattle.pb_site.specs.declared.declared.ArcKind.{ArcKind}
use Rattle.pb_site.specs.declared.declared.Declared.{Declared}
use Rattle.pb_site.specs.declared.declared.Declared.TheVariants.{Version2, Boundary, Tank, Strap, Stream, CritGlobal, CritNodal, CritMeasure}
use Rattle.pb_site.specs.Service.{IsService}

-- the base variance of an arc of this kind: 0 for a plain arc
abbrev pub IsArcBase : ArcKind → ℤ → Type 0
IsArcBase ArcKind.Plain base = base ≡ pos 0
IsArcBase kind base = IsBaseVariance base

-- the kind of a stream as an arc
abbrev pub arc_kind : Kind → ArcKind
arc_kind Metered = ArcKind.Metered
arc_kind Batch = ArcKind.Batch
arc_kind Plain = ArcKind.Plain

-- the numbers and days of a declaration lie in their ranges
abbrev pub IsDeclaredInRange : Declared → Type 0
IsDeclaredInRange (Tank name base service) = IsBaseVariance base × IfSome service IsService
IsDeclaredInRange (Strap tank mm ml) = IsLevel mm × IsVolume ml
IsDeclaredInRange (Stream name from to kind base service) = IsArcBase (arc_kind kind) base × IfSome service IsService
IsDeclaredInRange (CritGlobal dof value) = (1 ≤ dof) × (dof ≤ most_freedom) × IsCriticalValue value
IsDeclaredInRange (CritNodal value) = IsCriticalValue value
IsDeclaredInRange (CritMeasure value) = IsCriticalValue value
IsDeclaredInRange row = Unit {0}

-- this is the declaration that the session is of version 2
abbrev pub says_version_2 : Declared → Bool
says_version_2 Version2 = true
says_version_2 row = false

-- an arc of this kind is the inventory of a tank
abbrev pub is_inventory : ArcKind → Bool
is_inventory ArcKind.Tank = true
is_inventory kind = false

-- an arc of this kind is a plain stream; only plain streams have no measurements
abbrev pub is_plain_kind : ArcKind → Bool
is_plain_kind ArcKind.Plain = true
is_plain_kind kind = false

-- the name of the unit or tank that a declaration declares
abbrev pub node_name : Declared → Option (List ℕ)
node_name (Declared.Unit name) = Some name
node_name (Tank name base service) = Some name
node_name row = None

-- the name of the boundary that a declaration declares
abbrev pub boundary_name : Declared → Option (List ℕ)
boundary_name (Boundary name) = Some name
boundary_name row = None

-- the name of the unit, boundary, tank or stream that a declaration declares
abbrev pub declared_name : Declared → Option (List ℕ)
declared_name (Declared.Unit name) = Some name
declared_name (Boundary name) = Some name
declared_name (Tank name base service) = Some name
declared_name (Stream name from to kind base service) = Some name
declared_name row = None

-- a name is one of these
abbrev pub names_include : List (List ℕ) → List ℕ → Bool
names_include names name = list_any (same_name name) names

-- The node of a name, given the names of the boundaries and those of the nodes, the environment's first. The node of a boundary is
-- the environment; that of any other name is its place among the names of the nodes.
abbrev pub node_among : List (List ℕ) → List (List ℕ) → List ℕ → ℕ
node_among boundaries nodes name = if names_include boundaries name then 0 else position_or_len (same_name name) nodes

-- the arc that a declaration declares, given the names of the boundaries and nodes: a stream, or the inventory stream of a tank,
-- from the tank to the environment
abbrev pub arc_in : List (List ℕ) → List (List ℕ) → Declared → Option Arc
arc_in boundaries nodes (Tank name base service) =
    Some (record {
      name = name;
      from = node_among boundaries nodes name;
      to = 0;
      kind = ArcKind.Tank;
      base = base;
      service = service;
    })
arc_in boundaries nodes (Stream name from to kind base service) =
    Some (record {
      name = name;
      from = node_among boundaries nodes from;
      to = node_among boundaries nodes to;
      kind = arc_kind kind;
      base = base;
      service = service;
    })
arc_in boundaries nodes row = None

-- a declaration of the tank of this name
abbrev pub declares_tank : List ℕ → Declared → Bool
declares_tank tank (Tank name base service) = same_name name tank
declares_tank tank row = false

-- the point of the table of this tank that a declaration declares
abbrev pub point_of : List ℕ → Declared → Option Point
point_of tank (Strap name mm ml) = if same_name name tank then Some (record { mm = mm; ml = ml }) else None
point_of tank row = None

-- the critical value of the global test with these degrees of freedom that a declaration declares
abbrev pub global_value : ℕ → Declared → Option ℤ
global_value wanted (CritGlobal dof value) = if dof == wanted then Some value else None
global_value wanted row = None

-- the critical value of the nodal tests that a declaration declares
abbrev pub nodal_value : Declared → Option ℤ
nodal_value (CritNodal value) = Some value
nodal_value row = None

-- the critical value of the measurement tests that a declaration declares
abbrev pub measure_value : Declared → Option ℤ
measure_value (CritMeasure value) = Some value
measure_value row = None
