-- Statement. The first fault of a new declaration, given the declarations before it.
use Rattle.std.specs.Prelude.{ℕ, ◌==◌, Bool, false, ◌&&◌, ◌||◌, not, nat_le, List, length, filter_map, slice_get, Option, Some, None, if◌then◌else◌, is_some}
use Rattle.pb_limits.specs.Limits.{most_boundaries, most_streams, most_streams_of_version_1, most_units_and_tanks}
use Rattle.pb_strap.specs.Table.{is_full, rises}
use Rattle.pb_site.specs.declared.declared.Declared.{Declared}
use Rattle.pb_site.specs.declared.declared.Declared.TheVariants.{Version2, Boundary, Tank, Strap, Stream, CritGlobal, CritNodal, CritMeasure}
use Rattle.pb_site.specs.declared.declared.SiteFault.{SiteFault}
use Rattle.pb_site.specs.declared.declared.SiteFault.TheVariants.{Unknown, Duplicate, Order, Mismatch, Full}
use Rattle.pb_site.specs.declared.declared.Version.{Version}
use Rattle.pb_site.specs.declared.declared.Version.TheVariants.{One, Two}
use Rattle.pb_site.specs.Row.{names_include, node_name}
use Rattle.pb_site.specs.Service.{is_reversed}
use Rattle.pb_site.specs.Site.{arc_names, arcs_of, boundary_names, global_of, is_tank, measure_of, nodal_of, node_names, node_of, points_of_tank}

-- the name belongs to the environment or to a declared boundary, unit or tank
abbrev pub is_node : List Declared → List ℕ → Bool
is_node declared name =
    names_include (boundary_names declared) name || names_include (node_names declared) name

-- the name belongs to the environment or to a declared boundary, unit, tank or stream
abbrev pub is_taken : List Declared → List ℕ → Bool
is_taken declared name = is_node declared name || names_include (arc_names declared) name

-- a point of a table names a tank that isn't declared, or an end of a stream isn't a node
abbrev pub refers_to_unknown : List Declared → Declared → Bool
refers_to_unknown declared (Strap tank mm ml) = not (is_tank declared tank)
refers_to_unknown declared (Stream _ from to _ _ _) = not (is_node declared from && is_node declared to)
refers_to_unknown declared row = false

-- the name is taken, that critical value is already declared, or the version isn't the first declaration
abbrev pub is_duplicate_declaration : List Declared → Declared → Bool
is_duplicate_declaration declared Version2 = is_some (slice_get declared 0)
is_duplicate_declaration declared (Declared.Unit name) = is_taken declared name
is_duplicate_declaration declared (Boundary name) = is_taken declared name
is_duplicate_declaration declared (Tank name base service) = is_taken declared name
is_duplicate_declaration declared (Strap tank mm ml) = false
is_duplicate_declaration declared (Stream name from to kind base service) = is_taken declared name
is_duplicate_declaration declared (CritGlobal dof value) = is_some (global_of declared dof)
is_duplicate_declaration declared (CritNodal value) = is_some (nodal_of declared)
is_duplicate_declaration declared (CritMeasure value) = is_some (measure_of declared)

-- a level that isn't above the table's last one, a volume below its last one, or a last day in service before the first
abbrev pub is_declaration_out_of_order : List Declared → Declared → Bool
is_declaration_out_of_order declared (Tank name base service) = is_reversed service
is_declaration_out_of_order declared (Strap tank mm ml) = not (rises (points_of_tank declared tank) mm ml)
is_declaration_out_of_order declared (Stream name from to kind base service) = is_reversed service
is_declaration_out_of_order declared row = false

-- both ends are known, and they are the same node
abbrev pub is_one_node : Option ℕ → Option ℕ → Bool
is_one_node (Some from) (Some to) = from == to
is_one_node from to = false

-- a stream from a node to itself
abbrev pub is_mismatched_declaration : List Declared → Declared → Bool
is_mismatched_declaration declared (Stream _ from to _ _ _) = is_one_node (node_of declared from) (node_of declared to)
is_mismatched_declaration declared row = false

-- as many units and tanks are declared as are allowed
abbrev pub has_most_nodes : List Declared → Bool
has_most_nodes declared = nat_le most_units_and_tanks (length (filter_map node_name declared))

-- the most streams and tanks that a plant can have
abbrev pub most_arcs : Version → ℕ
most_arcs One = most_streams_of_version_1
most_arcs Two = most_streams

-- as many streams and tanks are declared as are allowed
abbrev pub has_most_arcs : Version → List Declared → Bool
has_most_arcs version declared = nat_le (most_arcs version) (length (arcs_of declared))

-- as many units and tanks, boundaries, streams and tanks, or points of the table are declared as are allowed
abbrev pub is_plant_full : Version → List Declared → Declared → Bool
is_plant_full version declared (Declared.Unit name) = has_most_nodes declared
is_plant_full version declared (Boundary name) = nat_le most_boundaries (length (boundary_names declared))
is_plant_full version declared (Tank _ _ _) = has_most_nodes declared || has_most_arcs version declared
is_plant_full version declared (Strap tank mm ml) = is_full (points_of_tank declared tank)
is_plant_full version declared (Stream name from to kind base service) = has_most_arcs version declared
is_plant_full version declared row = false

-- the first of these faults that is present
abbrev pub first_site_fault : Bool → Bool → Bool → Bool → Bool → Option SiteFault
first_site_fault unknown duplicate order mismatch full =
    if unknown then Some Unknown
    else if duplicate then Some Duplicate
    else if order then Some Order
    else if mismatch then Some Mismatch
    else if full then Some Full
    else None

-- the first fault of a new declaration
abbrev pub site_fault_of : Version → List Declared → Declared → Option SiteFault
site_fault_of version declared row =
    first_site_fault (refers_to_unknown declared row) (is_duplicate_declaration declared row) (is_declaration_out_of_order declared row)
    (is_mismatched_declaration declared row) (is_plant_full version declared row)
