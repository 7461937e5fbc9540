-- Nodes, arcs and tables, as they are looked up.
use Rattle.std.specs.Prelude.{◌||◌, find, filter_map, if◌then◌else◌, map, option_and_then, position}
use Rattle.std.specs.List.{list_any, position_or_len}
use Rattle.std.specs.Option.{IsSome}
use Rattle.std.proofs.Common.{◌≡◌, ◌≢◌, ◌∙◌, ℕ, zero, suc, ◌<◌, List, [], ◌∷◌, ◌++◌, length, get_or, slice_get, Bool, true, false, true≢false, Option, Some, None, codes, refl, sym, ap, subst, arith, inl, inr, length-append}
use Rattle.std.proofs.lemmas.Bool.{cases_Bool, lt-ltb, or_parts}
use Rattle.std.proofs.lemmas.List.{get_or-map, length-map}
use Rattle.std.proofs.lemmas.List.Folds.{list_any-append}
use Rattle.std.proofs.lemmas.List.Quantifiers.{position-Some}
use Rattle.std.proofs.lemmas.Option.{slice_get-get_or}
use Rattle.pb_rows.specs.Name.{same_name}
use Rattle.pb_strap.specs.declared.strap.Point.{Point}
use Rattle.pb_site.specs.declared.declared.Kind.{Kind}
use Rattle.pb_site.specs.declared.declared.Kind.TheVariants.{Metered, Batch, Plain}
use Rattle.pb_site.specs.declared.declared.Arc.{Arc}
use Rattle.pb_site.specs.declared.declared.ArcKind.{ArcKind}
use Rattle.pb_site.specs.declared.declared.Declared.{Declared}
use Rattle.pb_site.specs.declared.declared.Declared.TheVariants.{Tank, Stream}
use Rattle.pb_site.specs.declared.index.Index.{Index}
use Rattle.pb_site.specs.Row.{arc_in, arc_kind, is_inventory, names_include, node_among}
use Rattle.pb_site.specs.Site.{IsArc, arcs_of, boundary_names, is_tank, node_names, points_of_tank, table_of, table_of_arc}
use Rattle.pb_site.specs.Kept.{IsKept, has_node, node_by, nodes_in}
use Rattle.pb_site.proofs.FaultLemmas.{same_self}

-- ---- places of names

-- a name that is among the names has a place there
pub any_place : {A : Type 0} (test : A → Bool) (xs : List A) → list_any test xs ≡ true → position_or_len test xs < length xs
any_place test [] some = absurd (true≢false (sym some))
any_place test (x ∷ xs) some = elim (cases_Bool (test x)) [
  | inl here ↦ rw here (omega arith)
  | inr later ↦ let rest = any_place test xs (rw later at some) in rw later (omega (arith, rest))
]

-- and a name that has a place is among them
pub place_any : {A : Type 0} (test : A → Bool) (xs : List A) → position_or_len test xs < length xs → list_any test xs ≡ true
place_any test [] within = absurd (omega (arith, within))
place_any test (x ∷ xs) within = elim (cases_Bool (test x)) [
  | inl here ↦ rw here refl
  | inr later ↦ rw later (place_any test xs (omega (arith, rw later at within)))
]

-- which stays the same if more names follow
pub place_more : {A : Type 0} (test : A → Bool) (xs more : List A) → position_or_len test xs < length xs → position_or_len test (xs ++ more) ≡ position_or_len test xs
place_more test [] more within = absurd (omega (arith, within))
place_more test (x ∷ xs) more within = elim (cases_Bool (test x)) [
  | inl here ↦ rw here refl
  | inr later ↦ let rest = place_more test xs more (omega (arith, rw later at within)) in rw (later, rest) refl
]

-- the place of a new name after the others
pub place_last : (names : List (List ℕ)) (name : List ℕ) → names_include names name ≡ false → position_or_len (same_name name) (names ++ name ∷ []) ≡ length names
place_last [] name absent = rw (same_self name) refl
place_last (n ∷ names) name absent =
    let parts = or_parts (same_name name n) (names_include names name) absent in
    let rest = place_last names name parts.1 in
    rw (parts.0, rest) (omega arith)

pub place_is : (names : List (List ℕ)) (name : List ℕ) → names_include names name ≡ true → position (same_name name) names ≡ Some (position_or_len (same_name name) names)
place_is names name there =
    let within = any_place (same_name name) names there in
    rw (lt-ltb (position_or_len (same_name name) names) (length names) within) refl

-- ---- nodes of names

-- the node of a new name after the others
pub node_last : (boundaries names : List (List ℕ)) (name : List ℕ) → names_include boundaries name ≡ false → names_include names name ≡ false
    → node_among boundaries (names ++ name ∷ []) name ≡ length names
node_last boundaries names name inside absent = rw inside (place_last names name absent)

-- the node of a tank that is declared last
pub last_node : (boundaries keys names : List (List ℕ)) (name : List ℕ) → names ≡ keys ++ name ∷ []
    → (names_include boundaries name || names_include (codes "env" ∷ keys) name) ≡ false → length names ≡ node_among boundaries (codes "env" ∷ names) name
last_node boundaries keys names name grown absent =
    let parts = or_parts (names_include boundaries name) (names_include (codes "env" ∷ keys) name) absent in
    let at = node_last boundaries (codes "env" ∷ keys) name parts.0 parts.1 in
    let long = length-append keys (name ∷ []) in
    rw grown (omega (arith, at, long))

-- a name that is among them has its node
pub node_is : (boundaries names : List (List ℕ)) (name : List ℕ) → (names_include boundaries name || names_include names name) ≡ true
    → (if names_include boundaries name then Some 0 else position (same_name name) names) ≡ Some (node_among boundaries names name)
node_is boundaries names name there = elim (cases_Bool (names_include boundaries name)) [
  | inl outside ↦ rw outside refl
  | inr inside ↦ rw inside (place_is names name (rw inside at there))
]

-- which is one of them
pub node_within : (boundaries names : List (List ℕ)) (name : List ℕ) → 0 < length names → (names_include boundaries name || names_include names name) ≡ true
    → node_among boundaries names name < length names
node_within boundaries names name some there = elim (cases_Bool (names_include boundaries name)) [
  | inl outside ↦ rw outside some
  | inr inside ↦ rw inside (any_place (same_name name) names (rw inside at there))
]

-- and stays the same if there are more names, and no new boundary has the name of a node
pub node_stays : (boundaries more names others : List (List ℕ)) (name : List ℕ) → node_among boundaries names name < length names
    → (names_include more name ≡ true → names_include names name ≡ false) → node_among (boundaries ++ more) (names ++ others) name ≡ node_among boundaries names name
node_stays boundaries more names others name within apart = elim (cases_Bool (names_include boundaries name)) [
  | inl outside ↦ rw (list_any-append (same_name name) boundaries more, outside) refl
  | inr inside ↦
      let here : position_or_len (same_name name) names < length names = rw inside at within in
      let there : names_include names name ≡ true = place_any (same_name name) names here in
      elim (cases_Bool (names_include more name)) [
        | inl new ↦ absurd (true≢false (sym there ∙ apart new))
        | inr old ↦ rw (list_any-append (same_name name) boundaries more, inside, old) (place_more (same_name name) names others here)
      ]
]

pub some_node : (index : Index) (name : List ℕ) (found : Option ℕ) → found ≡ node_by index name → has_node index name ≡ true → IsSome found
some_node index name found is there = rw (is, node_is index.boundaries.keys (nodes_in index) name there) refl

-- ---- tables

abbrev pub points_in : Option (List Point) → List Point
points_in None = []
points_in (Some points) = points

-- the index has the points of each name
pub table_points : (declared : List Declared) (index : Index) (name : List ℕ) (table : Option (List Point)) → IsKept declared index → table ≡ table_of declared name
    → points_in table ≡ points_of_tank declared name
table_points declared index name table kept at = ap points_in at ∙ elim (cases_Bool (is_tank declared name)) [
  | inl tank ↦ rw tank refl
  | inr other ↦ rw other (sym (kept.no_points name other))
]

or_true : (b : Bool) → (b || true) ≡ true
or_true true = refl
or_true false = refl

abbrev name_in : Option Arc → List ℕ
name_in None = []
name_in (Some arc) = arc.name

abbrev kind_in : Option Arc → ArcKind
kind_in None = ArcKind.Tank
kind_in (Some arc) = arc.kind

not_tank : (kind : Kind) → arc_kind kind ≢ ArcKind.Tank
not_tank Metered = λ e. cc e
not_tank Batch = λ e. cc e
not_tank Plain = λ e. cc e

-- an arc of the kind of a tank is a declared tank's
pub tank_arc : (boundaries nodes : List (List ℕ)) (declared : List Declared) (j : ℕ) (arc : Arc) → slice_get (filter_map (arc_in boundaries nodes) declared) j ≡ Some arc → arc.kind ≡ ArcKind.Tank
    → is_tank declared arc.name ≡ true
tank_arc boundaries nodes [] j arc at is = cc at
tank_arc boundaries nodes (Tank name base service ∷ declared) zero arc at is = let e : name ≡ arc.name = ap name_in at in rw (e, same_self arc.name) refl
tank_arc boundaries nodes (Tank name base service ∷ declared) (suc j) arc at is = rw (tank_arc boundaries nodes declared j arc at is) (or_true (same_name name arc.name))
tank_arc boundaries nodes (Stream name from to kind base service ∷ declared) zero arc at is = absurd (not_tank kind (ap kind_in at ∙ is))
tank_arc boundaries nodes (Stream name from to kind base service ∷ declared) (suc j) arc at is = tank_arc boundaries nodes declared j arc at is
tank_arc boundaries nodes (row ∷ declared) j arc at is = tank_arc boundaries nodes declared j arc at is

-- ---- arcs

-- the arc at a place that the index has
pub record IsAt (declared : List Declared) (j : ℕ) (arc : Arc) : Type 0 where
  pub here : slice_get (arcs_of declared) j ≡ Some arc
  pub right : IsArc (length (node_names declared)) arc

pub is_at : (declared : List Declared) (index : Index) (j : ℕ) (arc : Arc) → IsKept declared index → arc ≡ get_or index.arcs.items j arc → j < length (arcs_of declared)
    → IsAt declared j arc
is_at declared index j arc kept found within =
    let at : arc ≡ get_or (arcs_of declared) j arc = rw kept.arcs at found in
    record {
      here = slice_get-get_or (arcs_of declared) j arc within ∙ ap Some (sym at);
      right = subst (IsArc (length (node_names declared))) (sym at) (kept.plant.joined j arc within);
    }

-- ---- the table of an arc

pub no_table : (declared : List Declared) (j : ℕ) (arc : Arc) → IsAt declared j arc → arc.kind ≢ ArcKind.Tank
    → None ≡ option_and_then (table_of_arc declared) (slice_get (arcs_of declared) j)
no_table declared j arc at other = rw (at.here) (by arc.kind other)
  where
    by : (kind : ArcKind) → kind ≢ ArcKind.Tank → None ≡ (if is_inventory kind then Some (points_of_tank declared arc.name) else None)
    by ArcKind.Tank other = absurd (other refl)
    by kind other = refl

pub arc_table : (declared : List Declared) (j : ℕ) (arc : Arc) (table : Option (List Point)) → IsAt declared j arc → arc.kind ≡ ArcKind.Tank
    → table ≡ table_of declared arc.name → table ≡ option_and_then (table_of_arc declared) (slice_get (arcs_of declared) j)
arc_table declared j arc table at tank is =
    let known = tank_arc (boundary_names declared) (node_names declared) declared j arc at.here tank in
    rw (at.here, tank) (is ∙ (rw known refl))

-- ---- the kind of the arc of a name

find_at : {A : Type 0} (test : A → Bool) (xs : List A) (i : ℕ) (d : A) → i < length xs → ((k : ℕ) → k < i → test (get_or xs k d) ≡ false) → test (get_or xs i d) ≡ true
    → find test xs ≡ Some (get_or xs i d)
find_at test [] i d within before here = absurd (omega (arith, within))
find_at test (x ∷ xs) zero d within before here = rw here refl
find_at test (x ∷ xs) (suc i) d within before here =
    let not_first : test x ≡ false = before 0 (omega arith) in
    let rest = find_at test xs i d (omega (arith, within)) (λ k lt. before (suc k) (omega (arith, lt))) here in
    rw not_first rest

-- the arc at the place of its name
pub arc_at : (arcs : List Arc) (name : List ℕ) (i : ℕ) (d : Arc) → position (same_name name) (map (λ (arc : Arc). arc.name) arcs) ≡ Some i
    → Some (get_or arcs i d) ≡ find (λ (arc : Arc). same_name name arc.name) arcs
arc_at arcs name i d at =
    let named = λ (arc : Arc). arc.name in
    let place = position-Some (same_name name) (map named arcs) i d.name at in
    let within : i < length arcs = rw (length-map arcs named) at place.0 in
    sym (find_at (λ (arc : Arc). same_name name arc.name) arcs i d within
    (λ k lt. ap (same_name name) (sym (get_or-map named arcs k d d.name (omega (arith, lt, within)))) ∙ place.2 k lt)
    (ap (same_name name) (sym (get_or-map named arcs i d d.name within)) ∙ place.1))

-- and its place is one of the arcs'
pub arc_within : (arcs : List Arc) (name : List ℕ) (i : ℕ) → position (same_name name) (map (λ (arc : Arc). arc.name) arcs) ≡ Some i → i < length arcs
arc_within arcs name i at = let place = position-Some (same_name name) (map (λ (arc : Arc). arc.name) arcs) i [] at in rw (length-map arcs (λ (arc : Arc). arc.name)) at place.0

-- no arc has the name if it has no place
pub no_arc : (arcs : List Arc) (name : List ℕ) → None ≡ position (same_name name) (map (λ (arc : Arc). arc.name) arcs)
    → None ≡ find (λ (arc : Arc). same_name name arc.name) arcs
no_arc arcs name none = sym (by arcs (absent (map (λ (arc : Arc). arc.name) arcs) none))
  where
    absent : (names : List (List ℕ)) → None ≡ position (same_name name) names → names_include names name ≡ false
    absent names none = elim (cases_Bool (names_include names name)) [
      | inl there ↦ cc (none ∙ place_is names name there)
      | inr not_there ↦ not_there
    ]

    by : (arcs : List Arc) → names_include (map (λ (arc : Arc). arc.name) arcs) name ≡ false → find (λ (arc : Arc). same_name name arc.name) arcs ≡ None
    by [] none = refl
    by (arc ∷ arcs) none =
        let parts = or_parts (same_name name arc.name) (names_include (map (λ (a : Arc). a.name) arcs) name) none in
        rw (parts.0) (by arcs parts.1)
