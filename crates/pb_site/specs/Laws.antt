-- Statement. What holds for each plant that is declared row by row.
use Rattle.std.specs.Prelude.{◌≡◌, ◌≢◌, ℕ, ◌≤◌, ◌<◌, ℤ, List, [], ◌∷◌, ◌++◌, filter_map, drop, length, All, true, false, None}
use Rattle.std.specs.List.Sorted.{IsStrictlyIncreasing}
use Rattle.pb_limits.specs.Limits.{most_boundaries, most_nodes, most_streams}
use Rattle.pb_site.specs.declared.declared.Arc.{Arc}
use Rattle.pb_site.specs.declared.declared.Declared.{Declared}
use Rattle.pb_site.specs.declared.declared.Version.{Version}
use Rattle.pb_site.specs.declared.declared.Version.TheVariants.{Two}
use Rattle.pb_site.specs.Row.{IsDeclaredInRange, arc_in, node_name, says_version_2}
use Rattle.pb_site.specs.Site.{AreDistinct, HasDistinctNames, IsArc, arcs_of, boundary_names, node_names, version_of}
use Rattle.pb_site.specs.OnDays.{arcs_on, declares_in_service, has_place, names_on, nodes_on, place_among}
use Rattle.pb_site.specs.Faults.{site_fault_of}

-- numbers and days are in their ranges, names are distinct, each arc leads from a node to another one, the numbers of nodes,
-- boundaries and arcs are within the limits, and only the first declaration can state the version
pub record IsDeclaredPlant (declared : List Declared) : Type 0 where
  pub ranges : All IsDeclaredInRange declared
  pub distinct : HasDistinctNames declared
  pub joined : All (IsArc (length (node_names declared))) (arcs_of declared)
  pub few_nodes : length (node_names declared) ≤ most_nodes
  pub few_boundaries : length (boundary_names declared) ≤ most_boundaries
  pub few_arcs : length (arcs_of declared) ≤ most_streams
  pub version : All (λ row. says_version_2 row ≡ false) (drop 1 declared)

-- all of this holds for each plant whose declarations had no fault
abbrev pub PlantLaw : Type 0
PlantLaw =
    IsDeclaredPlant []
    × ((declared : List Declared) (row : Declared) → IsDeclaredPlant declared → IsDeclaredInRange row
    → site_fault_of (version_of declared) declared row ≡ None → IsDeclaredPlant (declared ++ row ∷ []))

-- one more declaration keeps the existing nodes and arcs, and the version unless it states one
pub record GrowsBy (declared : List Declared) (row : Declared) (grown : List Declared)
    : Type 0 where
  pub nodes : node_names grown ≡ node_names declared ++ filter_map node_name (row ∷ [])
  pub arcs : arcs_of grown
      ≡ arcs_of declared ++ filter_map (arc_in (boundary_names grown) (node_names grown)) (row ∷ [])
  pub version : says_version_2 row ≡ false → version_of grown ≡ version_of declared

abbrev pub GrowthLaw : Type 0
GrowthLaw =
    (declared : List Declared) (row : Declared) → IsDeclaredPlant declared
    → site_fault_of (version_of declared) declared row ≡ None
    → GrowsBy declared row (declared ++ row ∷ [])

-- an arc joins two of these nodes
pub record JoinsPlaces (nodes : List ℕ) (arc : Arc) : Type 0 where
  pub begins : has_place nodes arc.from ≡ true
  pub ends : has_place nodes arc.to ≡ true
  pub apart : place_among nodes arc.from ≢ place_among nodes arc.to

-- the nodes on some days are nodes of the plant, in order; each arc on these days joins two of them; no two of these nodes have the
-- same name, and no two of these arcs
pub record IsPartOnDays (version : Version) (declared : List Declared) (first last : ℤ)
    : Type 0 where
  pub few : length (nodes_on version declared first last) ≤ length (node_names declared)
  pub within : All (λ node. node < length (node_names declared))
      (nodes_on version declared first last)
  pub order : IsStrictlyIncreasing (nodes_on version declared first last)
  pub joined : All (JoinsPlaces (nodes_on version declared first last))
      (arcs_on version declared first last)
  pub nodes : AreDistinct (names_on version declared first last).nodes
  pub streams : AreDistinct (names_on version declared first last).streams

abbrev pub DaysLaw : Type 0
DaysLaw =
    (version : Version) (declared : List Declared) (first last : ℤ) → IsDeclaredPlant declared
    → IsPartOnDays version declared first last

-- the same arcs, nodes and names on some days
pub record IsSamePart (declared other : List Declared) (first last : ℤ) : Type 0 where
  pub arcs : arcs_on Two other first last ≡ arcs_on Two declared first last
  pub nodes : nodes_on Two other first last ≡ nodes_on Two declared first last
  pub names : names_on Two other first last ≡ names_on Two declared first last

-- a declaration that isn't in service on some days doesn't change the part of the plant on these days
abbrev pub SamePartLaw : Type 0
SamePartLaw =
    (declared : List Declared) (row : Declared) (first last : ℤ) → IsDeclaredPlant declared
    → site_fault_of (version_of declared) declared row ≡ None
    → declares_in_service first last row ≡ false
    → IsSamePart declared (declared ++ row ∷ []) first last
