-- Statement. The part of the plant that is in service on some days: its arcs, and the nodes that they join.
use Rattle.std.specs.Prelude.{ℕ, ◌-◌, ◌==◌, ◌||◌, ℤ, Bool, false, List, ◌∷◌, codes, filter, length, map, slice_index_or}
use Rattle.std.specs.List.{list_any, position_or_len, range_with_len}
use Rattle.pb_rows.specs.declared.name.Names.{Names}
use Rattle.pb_site.specs.declared.declared.Arc.{Arc}
use Rattle.pb_site.specs.declared.declared.Declared.{Declared}
use Rattle.pb_site.specs.declared.declared.Declared.TheVariants.{Tank, Stream}
use Rattle.pb_site.specs.declared.declared.Version.{Version}
use Rattle.pb_site.specs.declared.declared.Version.TheVariants.{One, Two}
use Rattle.pb_site.specs.Service.{is_in_service_within}
use Rattle.pb_site.specs.Site.{arcs_of, names_of, node_names}

-- an arc is in service on some day from `first` to `last`
abbrev pub is_arc_in_service : ℤ → ℤ → Arc → Bool
is_arc_in_service first last arc = is_in_service_within arc.service first last

-- The arcs on the days from `first` to `last`, in order of declaration: in version 1 all arcs, in version 2 those in service on at
-- least one of these days.
abbrev pub arcs_on : Version → List Declared → ℤ → ℤ → List Arc
arcs_on One declared first last = arcs_of declared
arcs_on Two declared first last = filter (is_arc_in_service first last) (arcs_of declared)

-- a node is an end of one of these arcs
abbrev pub is_end_of : List Arc → ℕ → Bool
is_end_of arcs node = list_any (λ (arc : Arc). (arc.from == node) || (arc.to == node)) arcs

-- the units and tanks, as nodes: all nodes except the environment
abbrev pub places_of : List Declared → List ℕ
places_of declared = range_with_len 1 (length (node_names declared) - 1)

-- The nodes on these days, in order of declaration: the environment, and then all units and tanks in version 1, or in version 2
-- those that are an end of an arc on these days.
abbrev pub nodes_on : Version → List Declared → ℤ → ℤ → List ℕ
nodes_on One declared first last = 0 ∷ places_of declared
nodes_on Two declared first last =
    0 ∷ filter (is_end_of (arcs_on Two declared first last)) (places_of declared)

-- the name of a node of the plant
abbrev pub name_at_node : List Declared → ℕ → List ℕ
name_at_node declared node = slice_index_or (node_names declared) node (codes "env")

-- the names of the nodes and arcs on these days
abbrev pub names_on : Version → List Declared → ℤ → ℤ → Names
names_on One declared first last = names_of declared
names_on Two declared first last = record {
  nodes = map (name_at_node declared) (nodes_on Two declared first last);
  streams = map (λ (arc : Arc). arc.name) (arcs_on Two declared first last);
}

-- a node is one of these
abbrev pub has_place : List ℕ → ℕ → Bool
has_place nodes node = list_any (λ (n : ℕ). n == node) nodes

-- the place of a node among these
abbrev pub place_among : List ℕ → ℕ → ℕ
place_among nodes node = position_or_len (λ (n : ℕ). n == node) nodes

-- the declaration is of a stream or tank that is in service on some day from `first` to `last`
abbrev pub declares_in_service : ℤ → ℤ → Declared → Bool
declares_in_service first last (Tank name base service) =
    is_in_service_within service first last
declares_in_service first last (Stream name from to kind base service) =
    is_in_service_within service first last
declares_in_service first last row = false
