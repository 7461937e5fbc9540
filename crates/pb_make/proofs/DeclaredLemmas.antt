-- What the rows of a made plant declare.
use Rattle.std.proofs.Common.{◌≡◌, ◌≢◌, ◌≤◌, ◌<◌, ◌∙◌, ℕ, zero, suc, ◌+◌, ◌^◌, ◌++◌, ◌∷◌, [], List, Bool, true, false, Option, Some, None, length, ap, ap₂, refl, sym, arith, inl, inr, append_assoc, append-nil}
use Rattle.std.specs.Prelude.{◌==◌, nat_lt, map, filter_map, find, position, codes}
use Rattle.std.specs.List.{cons_option, list_any, position_or_len, range_with_len}
use Rattle.std.specs.Option.{option_map}
use Rattle.std.proofs.lemmas.Bool.{cases_Bool, eqb-false, eqb-true, ltb-false, ne_eqb}
use Rattle.std.proofs.lemmas.List.Elements.{filter_map-append}
use Rattle.std.proofs.lemmas.List.FromFn.{get_or-map-range_with_len, length-map-range_with_len}
use Rattle.std.proofs.lemmas.List.Sums.{position_or_len_is}
use Rattle.pb_rows.specs.Name.{same_name}
use Rattle.pb_site.specs.declared.declared.Arc.{Arc}
use Rattle.pb_site.specs.declared.declared.Declared.{Declared}
use Rattle.pb_site.specs.declared.declared.Version.TheVariants.{One}
use Rattle.pb_site.specs.Row.{arc_in, arc_kind, boundary_name, names_include, node_name}
use Rattle.pb_site.specs.Site.{boundary_names, node_names, version_of}
use Rattle.pb_site.specs.Faults.{is_one_node}
use Rattle.pb_make.specs.declared.plant.MadeStream.{MadeStream}
use Rattle.pb_make.specs.Rows.{made_node_name, stream_name}
use Rattle.pb_rows.proofs.TextLaws.{same_self}
use Rattle.pb_make.proofs.NameLemmas.{nodes_apart, stream_no_node, streams_apart}
use Rattle.pb_make.proofs.RequestLemmas.{base_at, kind_at}

-- ---- the declarations

abbrev pub declared_unit : ℕ → Declared
declared_unit i = Declared.Unit (made_node_name i)

abbrev pub units : ℕ → ℕ → List Declared
units from count = map declared_unit (range_with_len from count)

abbrev pub declared_stream : ℕ → MadeStream → Declared
declared_stream i stream = Declared.Stream (stream_name i) (made_node_name stream.from) (made_node_name stream.to) (kind_at i) (base_at i) None

abbrev pub streams_from : ℕ → List MadeStream → List Declared
streams_from i [] = []
streams_from i (stream ∷ streams) = declared_stream i stream ∷ streams_from (i + 1) streams

-- this many units, these streams, and what is declared after them
abbrev pub plant_of : ℕ → List MadeStream → List Declared → List Declared
plant_of n streams more = units 1 n ++ (streams_from 1 streams ++ more)

-- one more stream
pub streams_push : (i : ℕ) (streams : List MadeStream) (stream : MadeStream) → streams_from i (streams ++ stream ∷ []) ≡ streams_from i streams ++ declared_stream (i + length streams) stream ∷ []
streams_push i [] stream = let same : i ≡ i + 0 = omega arith in ap (λ (k : ℕ). declared_stream k stream ∷ []) same
streams_push i (s ∷ streams) stream =
    let same : (i + 1) + length streams ≡ i + length (s ∷ streams) = omega arith in
    ap (λ (rest : List Declared). declared_stream i s ∷ rest)
    (streams_push (i + 1) streams stream ∙ ap (λ (k : ℕ). streams_from (i + 1) streams ++ declared_stream k stream ∷ []) same)

pub plant_push : (n i : ℕ) (streams : List MadeStream) (stream : MadeStream) → i ≡ length streams + 1
    → plant_of n streams [] ++ declared_stream i stream ∷ [] ≡ plant_of n (streams ++ stream ∷ []) []
plant_push n i streams stream is =
    let same : i ≡ 1 + length streams = omega (arith, is) in
    let one = declared_stream i stream ∷ [] in
    let more : (streams_from 1 streams ++ []) ++ one ≡ streams_from 1 (streams ++ stream ∷ []) ++ [] =
    ap (λ (l : List Declared). l ++ one) (append-nil (streams_from 1 streams)) ∙ ap (λ (k : ℕ). streams_from 1 streams ++ declared_stream k stream ∷ []) same
    ∙ sym (streams_push 1 streams stream) ∙ sym (append-nil (streams_from 1 (streams ++ stream ∷ []))) in
    append_assoc (units 1 n) (streams_from 1 streams ++ []) one ∙ ap (λ (l : List Declared). units 1 n ++ l) more

-- ---- what passes over units and streams

pub skip : {Y : Type 0} (h : Declared → Option Y) → ((i : ℕ) → h (declared_unit i) ≡ None) → ((i : ℕ) (s : MadeStream) → h (declared_stream i s) ≡ None)
    → (n : ℕ) (streams : List MadeStream) (more : List Declared) → filter_map h (plant_of n streams more) ≡ filter_map h more
skip {Y} h no_unit no_stream n streams more =
    filter_map-append h (units 1 n) (streams_from 1 streams ++ more) ∙ ap (λ (l : List Y). l ++ filter_map h (streams_from 1 streams ++ more)) (none_of_units 1 n)
    ∙ filter_map-append h (streams_from 1 streams) more ∙ ap (λ (l : List Y). l ++ filter_map h more) (none_of_streams 1 streams)
  where
    none_of_units : (from count : ℕ) → filter_map h (units from count) ≡ []
    none_of_units from zero = refl
    none_of_units from (suc count) = ap (λ (o : Option Y). cons_option o (filter_map h (units (from + 1) count))) (no_unit from) ∙ none_of_units (from + 1) count

    none_of_streams : (i : ℕ) (streams : List MadeStream) → filter_map h (streams_from i streams) ≡ []
    none_of_streams i [] = refl
    none_of_streams i (s ∷ streams) = ap (λ (o : Option Y). cons_option o (filter_map h (streams_from (i + 1) streams))) (no_stream i s) ∙ none_of_streams (i + 1) streams

-- the names of the nodes of units
unit_nodes : (from count : ℕ) → filter_map node_name (units from count) ≡ map made_node_name (range_with_len from count)
unit_nodes from zero = refl
unit_nodes from (suc count) = ap (λ (l : List (List ℕ)). made_node_name from ∷ l) (unit_nodes (from + 1) count)

stream_nodes : (i : ℕ) (streams : List MadeStream) → filter_map node_name (streams_from i streams) ≡ []
stream_nodes i [] = refl
stream_nodes i (s ∷ streams) = stream_nodes (i + 1) streams

pub unit_arcs : (boundaries nodes : List (List ℕ)) (from count : ℕ) → filter_map (arc_in boundaries nodes) (units from count) ≡ []
unit_arcs boundaries nodes from zero = refl
unit_arcs boundaries nodes from (suc count) = unit_arcs boundaries nodes (from + 1) count

-- declarations after the plant that are of no node, no boundary and no arc
pub record AreOther (more : List Declared) : Type 0 where
  pub first : version_of more ≡ One
  pub no_node : filter_map node_name more ≡ []
  pub no_boundary : filter_map boundary_name more ≡ []
  pub no_arc : (boundaries nodes : List (List ℕ)) → filter_map (arc_in boundaries nodes) more ≡ []

pub unit_names : (n : ℕ) (streams : List MadeStream) (more : List Declared) → AreOther more → filter_map node_name (plant_of n streams more) ≡ map made_node_name (range_with_len 1 n)
unit_names n streams more other =
    filter_map-append node_name (units 1 n) (streams_from 1 streams ++ more)
    ∙ ap₂ (λ (a b : List (List ℕ)). a ++ b) (unit_nodes 1 n)
    (filter_map-append node_name (streams_from 1 streams) more ∙ ap₂ (λ (a b : List (List ℕ)). a ++ b) (stream_nodes 1 streams) other.no_node)
    ∙ append-nil (map made_node_name (range_with_len 1 n))

-- the names of the nodes: that of the environment and those of the units
pub names_are : (n : ℕ) (streams : List MadeStream) (more : List Declared) → AreOther more → node_names (plant_of n streams more) ≡ map made_node_name (range_with_len 0 (suc n))
names_are n streams more other = ap (λ (l : List (List ℕ)). codes "env" ∷ l) (unit_names n streams more other)

pub arcs_are : (n : ℕ) (streams : List MadeStream) (more : List Declared) (boundaries nodes : List (List ℕ)) → AreOther more
    → filter_map (arc_in boundaries nodes) (plant_of n streams more) ≡ filter_map (arc_in boundaries nodes) (streams_from 1 streams)
arcs_are n streams more boundaries nodes other =
    filter_map-append (arc_in boundaries nodes) (units 1 n) (streams_from 1 streams ++ more)
    ∙ ap₂ (λ (a b : List Arc). a ++ b) (unit_arcs boundaries nodes 1 n)
    (filter_map-append (arc_in boundaries nodes) (streams_from 1 streams) more ∙ ap (λ (l : List Arc). filter_map (arc_in boundaries nodes) (streams_from 1 streams) ++ l) (other.no_arc boundaries nodes))
    ∙ append-nil (filter_map (arc_in boundaries nodes) (streams_from 1 streams))

-- no boundary is declared, and the version isn't
pub unit_boundaries : (from count : ℕ) → boundary_names (units from count) ≡ []
unit_boundaries from zero = refl
unit_boundaries from (suc count) = unit_boundaries (from + 1) count

pub no_boundaries : (n : ℕ) (streams : List MadeStream) (more : List Declared) → AreOther more → boundary_names (plant_of n streams more) ≡ []
no_boundaries n streams more other = skip boundary_name (λ i. refl) (λ i s. refl) n streams more ∙ other.no_boundary

-- ---- lists made by number

-- no item passes
pub none_any : {X : Type 0} (f : ℕ → X) (test : X → Bool) (from count : ℕ) → ((k : ℕ) → from ≤ k → k < from + count → test (f k) ≡ false) → list_any test (map f (range_with_len from count)) ≡ false
none_any f test from zero fails = refl
none_any f test from (suc count) fails = rw (fails from (omega arith) (omega arith)) (none_any f test (from + 1) count (λ k low high. fails k (omega arith) (omega arith)))

-- some item passes
pub some_any : {X : Type 0} (f : ℕ → X) (test : X → Bool) (from count k : ℕ) → from ≤ k → k < from + count → test (f k) ≡ true → list_any test (map f (range_with_len from count)) ≡ true
some_any f test from zero k low high here = absurd (omega arith)
some_any f test from (suc count) k low high here = elim (cases_Bool (test (f from))) [
  | inl first ↦ rw first refl
  | inr other ↦ rw other (some_any f test (from + 1) count k (later other) (omega arith) here)
]
  where
    differ : test (f from) ≡ test (f k) → test (f from) ≡ false → ⊥
    differ same other = cc (same, other, here)

    later : test (f from) ≡ false → from + 1 ≤ k
    later other = elim (cases_Bool (from == k)) [
      | inl same ↦ absurd (differ (ap (λ (n : ℕ). test (f n)) (eqb-true from k same)) other)
      | inr differs ↦ omega (arith, low, eqb-false from k differs)
    ]

-- the place of the item that passes
position_at : {X : Type 0} (f : ℕ → X) (test : X → Bool) (count k : ℕ) (d : X) → k < count → ((j : ℕ) → j < k → test (f j) ≡ false) → test (f k) ≡ true
    → position test (map f (range_with_len 0 count)) ≡ Some k
position_at f test count k d within before here =
    let xs = map f (range_with_len 0 count) in
    let long : length xs ≡ count = length-map-range_with_len f 0 count in
    let at = λ (j : ℕ) (lt : j < count). get_or-map-range_with_len f 0 count j j d lt (omega arith) in
    let is : position_or_len test xs ≡ k =
    position_or_len_is test xs k d (omega (arith, long)) (λ j lt. ap test (at j (omega arith)) ∙ before j lt) (λ inside. ap test (at k within) ∙ here) in
    let less : nat_lt k (length xs) ≡ true = below k (length xs) (omega (arith, long)) in
    rw (is, less) refl
  where
    below : (a b : ℕ) → a < b → nat_lt a b ≡ true
    below a b lt = elim (cases_Bool (nat_lt a b)) [ inl passes ↦ passes | inr fails ↦ absurd (omega (arith, ltb-false a b fails)) ]

-- ---- nodes

-- the environment and each unit are nodes
pub node_there : (n a : ℕ) (names : List (List ℕ)) → a ≤ n → names ≡ map made_node_name (range_with_len 0 (suc n)) → names_include names (made_node_name a) ≡ true
node_there n a names within are =
    ap (λ (l : List (List ℕ)). names_include l (made_node_name a)) are ∙ some_any made_node_name (same_name (made_node_name a)) 0 (suc n) a (omega arith) (omega arith) (same_self (made_node_name a))

-- no stream has a node's name
pub stream_not_there : (n i : ℕ) (names : List (List ℕ)) → names ≡ map made_node_name (range_with_len 0 (suc n)) → names_include names (stream_name i) ≡ false
stream_not_there n i names are =
    ap (λ (l : List (List ℕ)). names_include l (stream_name i)) are ∙ none_any made_node_name (same_name (stream_name i)) 0 (suc n) (λ k low high. stream_no_node i k)

-- the place of a node
node_place : (n a : ℕ) (names : List (List ℕ)) → a ≤ n → n < 2 ^ 31 → names ≡ map made_node_name (range_with_len 0 (suc n)) → position (same_name (made_node_name a)) names ≡ Some a
node_place n a names within small are =
    ap (λ (l : List (List ℕ)). position (same_name (made_node_name a)) l) are
    ∙ position_at made_node_name (same_name (made_node_name a)) (suc n) a [] (omega arith) (λ j lt. nodes_apart a j (λ e. absurd (omega (arith, e)))) (same_self (made_node_name a))

-- two nodes are two
pub two_nodes : (n a b : ℕ) (names : List (List ℕ)) → a ≤ n → b ≤ n → n < 2 ^ 31 → a ≢ b → names ≡ map made_node_name (range_with_len 0 (suc n))
    → is_one_node (position (same_name (made_node_name a)) names) (position (same_name (made_node_name b)) names) ≡ false
two_nodes n a b names a_in b_in small other are =
    ap₂ (λ (p q : Option ℕ). is_one_node p q) (node_place n a names a_in small are) (node_place n b names b_in small are) ∙ ne_eqb a b other

-- ---- arcs

pub count_arcs : (boundaries nodes : List (List ℕ)) (i : ℕ) (streams : List MadeStream) → length (filter_map (arc_in boundaries nodes) (streams_from i streams)) ≡ length streams
count_arcs boundaries nodes i [] = refl
count_arcs boundaries nodes i (s ∷ streams) = ap suc (count_arcs boundaries nodes (i + 1) streams)

-- no stream so far has the name
pub no_arc_named : (boundaries nodes : List (List ℕ)) (i : ℕ) (streams : List MadeStream) (name : List ℕ) → ((k : ℕ) → i ≤ k → k < i + length streams → same_name name (stream_name k) ≡ false)
    → names_include (map (λ (arc : Arc). arc.name) (filter_map (arc_in boundaries nodes) (streams_from i streams))) name ≡ false
no_arc_named boundaries nodes i [] name fails = refl
no_arc_named boundaries nodes i (s ∷ streams) name fails =
    rw (fails i (omega arith) (omega arith)) (no_arc_named boundaries nodes (i + 1) streams name (λ k low high. fails k (omega arith) (omega arith)))

-- the kind of a stream by its name
pub kind_found : (boundaries nodes : List (List ℕ)) (i : ℕ) (streams : List MadeStream) (j : ℕ) → i ≤ j → j < i + length streams → i + length streams < 2 ^ 31
    → option_map (λ (arc : Arc). arc.kind) (find (λ (arc : Arc). same_name (stream_name j) arc.name) (filter_map (arc_in boundaries nodes) (streams_from i streams))) ≡ Some (arc_kind (kind_at j))
kind_found boundaries nodes i [] j low high small = absurd (omega arith)
kind_found boundaries nodes i (s ∷ streams) j low high small = elim (cases_Bool (i == j)) [
  | inl same ↦
      let is = eqb-true i j same in
      let test : same_name (stream_name j) (stream_name i) ≡ true = ap (λ (k : ℕ). same_name (stream_name j) (stream_name k)) is ∙ same_self (stream_name j) in
      rw test (ap (λ (k : ℕ). Some (arc_kind (kind_at k))) is)
  | inr differs ↦
      let other = eqb-false i j differs in
      let test : same_name (stream_name j) (stream_name i) ≡ false = streams_apart j i (λ e. other (sym e)) in
      rw test (kind_found boundaries nodes (i + 1) streams j (omega (arith, low, other)) (omega arith) (omega (arith, small)))
]
