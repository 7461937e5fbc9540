-- Each row of a made session is taken after those before it.
use Rattle.std.proofs.Common.{◌≡◌, ◌≤◌, ◌<◌, ◌∙◌, ℕ, zero, suc, ◌+◌, ◌^◌, ◌++◌, ◌∷◌, [], List, Bool, true, false, ℤ, pos, length, ap, ap₂, refl, sym, subst, arith, append-nil, append_assoc, length-append}
use Rattle.std.specs.Prelude.{◌&&◌, ◌||◌, not, map, filter_map, codes, is_some, slice_get}
use Rattle.std.specs.List.{AllByRecursion, range_with_len}
use Rattle.std.proofs.lemmas.List.FromFn.{length-map-range_with_len, map-range_with_len_more}
use Rattle.jiff_core.specs.Calendar.{day_count, days_from_civil, days_of_months, days_of_years}
use Rattle.pb_limits.specs.Limits.{most_made_streams, most_units_and_tanks}
use Rattle.pb_rows.specs.Name.{same_name}
use Rattle.pb_site.specs.declared.declared.Arc.{Arc}
use Rattle.pb_site.specs.declared.declared.Declared.{Declared}
use Rattle.pb_site.specs.declared.declared.Declared.TheVariants.{CritNodal, CritMeasure}
use Rattle.pb_site.specs.Row.{measure_value, names_include, nodal_value, node_name}
use Rattle.pb_site.specs.Site.{arc_names, arcs_of, boundary_names, node_names}
use Rattle.pb_site.specs.Faults.{is_node}
use Rattle.pb_facts.specs.declared.facts.KeptFact.{KeptFact}
use Rattle.pb_form.specs.declared.session.SessionKind.TheVariants as kind
use Rattle.pb_kinds.specs.declared.rows.Effect.TheVariants.{Declares, Opens}
use Rattle.pb_periods.specs.declared.period.Period.{Period}
use Rattle.pb_book.specs.Answer.{after}
use Rattle.pb_book.specs.Rows.{version_at}
use Rattle.pb_kinds.specs.declared.rows.StoredRow.{StoredRow}
use Rattle.pb_make.specs.declared.plant.MadeStream.{MadeStream}
use Rattle.pb_make.specs.Bounds.{IsMade}
use Rattle.pb_make.specs.Laws.{AreTaken}
use Rattle.pb_make.specs.Rows.{january, made_critical_row, made_node_name, made_period, made_period_row, made_stream_row, stream_name, unit_row}
use Rattle.pb_make.proofs.Abbreviations.{middle_rows, stream_rows}
use Rattle.pb_make.proofs.DeclaredLemmas.{AreOther, arcs_are, count_arcs, declared_stream, declared_unit, names_are, no_arc_named, no_boundaries, node_there, none_any, plant_of, plant_push, skip, stream_not_there, streams_from, two_nodes, unit_arcs, unit_boundaries, units}
use Rattle.pb_make.proofs.NameLemmas.{is_node_name, is_stream_name, nodes_apart, streams_apart}
use Rattle.pb_make.proofs.RequestLemmas.{Asks, measure_asks, nodal_asks, period_asks, stream_asks, unit_asks}
use Rattle.pb_make.proofs.TakenLemmas.{HasNoCause, IsAt, fewer, store_declaration, store_period}

-- ---- units

-- no cause to refuse the next unit
unit_fine : (k : ℕ) → k < 1000 → HasNoCause (units 1 k) [] [] (Declares (declared_unit (k + 1)))
unit_fine k few =
    let name = made_node_name (k + 1) in
    let nodes : filter_map node_name (units 1 k) ≡ map made_node_name (range_with_len 1 k) = nodes_of 1 k in
    let names : node_names (units 1 k) ≡ map made_node_name (range_with_len 0 (suc k)) = ap (λ (l : List (List ℕ)). codes "env" ∷ l) nodes in
    let no_node : is_node (units 1 k) name ≡ false = ap₂ (λ (b l : List (List ℕ)). names_include b name || names_include l name) (unit_boundaries 1 k) names
    ∙ none_any made_node_name (same_name name) 0 (suc k) (λ j low high. nodes_apart (k + 1) j (λ e. absurd (omega (arith, e)))) in
    let no_arc : names_include (arc_names (units 1 k)) name ≡ false = ap (λ (l : List Arc). names_include (map (λ (arc : Arc). arc.name) l) name) (unit_arcs (boundary_names (units 1 k)) (node_names (units 1 k)) 1 k) in
    let many : length (filter_map node_name (units 1 k)) ≡ k = ap (λ (l : List (List ℕ)). length l) nodes ∙ length-map-range_with_len made_node_name 1 k in
    record {
      known = refl;
      new = ap₂ (λ (a b : Bool). a || b) no_node no_arc;
      ordered = refl;
      matching = refl;
      unsealed = refl;
      still_open = refl;
      in_range = refl;
      room = fewer most_units_and_tanks (length (filter_map node_name (units 1 k))) (omega (arith, many, few));
    }
  where
    nodes_of : (from count : ℕ) → filter_map node_name (units from count) ≡ map made_node_name (range_with_len from count)
    nodes_of from zero = refl
    nodes_of from (suc count) = ap (λ (l : List (List ℕ)). made_node_name from ∷ l) (nodes_of (from + 1) count)

-- what is to be shown of the remaining rows
abbrev pub Rest : (List StoredRow → Type 0) → List Declared → List KeptFact → List Period → List (List (List ℕ)) → Type 0
Rest Holds declared kept periods records = (rows : List StoredRow) (at : ℕ) → IsAt rows declared kept periods → AreTaken Holds rows at records

-- the remaining units, after k of them
pub units_taken : Asks → (Holds : List StoredRow → Type 0) (k left : ℕ) (records : List (List (List ℕ))) → k + left ≤ 1000 → Rest Holds (units 1 (k + left)) [] [] records
    → Rest Holds (units 1 k) [] [] (map unit_row (range_with_len (k + 1) left) ++ records)
units_taken law Holds k zero records few rest rows at is =
    let same : k ≡ k + 0 = omega arith in
    rest rows at (subst (λ (n : ℕ). IsAt rows (units 1 n) [] []) same is)
units_taken law Holds k (suc left) records few rest rows at is =
    let taken = store_declaration rows at (unit_row (k + 1)) (declared_unit (k + 1)) (units 1 k) [] [] is
    (unit_asks law (version_at rows) (k + 1) (is_node_name (k + 1) (omega (arith, few)))) (unit_fine k (omega (arith, few))) refl in
    let more : units 1 k ++ declared_unit (k + 1) ∷ [] ≡ units 1 (k + 1) = sym (map-range_with_len_more declared_unit 1 k (k + 1) (omega arith)) in
    let same : k + suc left ≡ (k + 1) + left = omega arith in (
      taken.fine,
      units_taken law Holds (k + 1) left records (omega (arith, few)) (subst (λ (n : ℕ). Rest Holds (units 1 n) [] [] records) same rest) (after rows at (unit_row (k + 1))) (at + 1)
          (subst (λ (d : List Declared). IsAt (after rows at (unit_row (k + 1))) d [] []) more taken.next),
    )

-- ---- streams

none_other : AreOther []
none_other = record { first = refl; no_node = refl; no_boundary = refl; no_arc = λ boundaries nodes. refl }

-- no cause to refuse the next stream
stream_fine : (n i : ℕ) (streams : List MadeStream) (stream : MadeStream) → n ≤ 1000 → length streams < most_made_streams → i ≡ length streams + 1 → IsMade n stream
    → HasNoCause (plant_of n streams []) [] [] (Declares (declared_stream i stream))
stream_fine n i streams stream few less is made =
    let declared = plant_of n streams [] in
    let names = node_names declared in
    let name = stream_name i in
    let names_is = names_are n streams [] none_other in
    let boundaries = boundary_names declared in
    let bare = no_boundaries n streams [] none_other in
    let arcs = arcs_are n streams [] boundaries names none_other in
    let from : is_node declared (made_node_name stream.from) ≡ true = rw bare (node_there n stream.from names made.within names_is) in
    let to : is_node declared (made_node_name stream.to) ≡ true = rw bare (node_there n stream.to names made.ends names_is) in
    let no_node : is_node declared name ≡ false = rw bare (stream_not_there n i names names_is) in
    let no_arc : names_include (arc_names declared) name ≡ false = ap (λ (l : List Arc). names_include (map (λ (arc : Arc). arc.name) l) name) arcs
    ∙ no_arc_named boundaries names 1 streams name (λ k low high. streams_apart i k (λ e. absurd (omega (arith, e, is, high)))) in
    let many : length (arcs_of declared) ≡ length streams = ap (λ (l : List Arc). length l) arcs ∙ count_arcs boundaries names 1 streams in
    record {
      known = ap₂ (λ (a b : Bool). not (a && b)) from to;
      new = ap₂ (λ (a b : Bool). a || b) no_node no_arc;
      ordered = refl;
      matching = rw bare (two_nodes n stream.from stream.to names made.within made.ends (omega (arith, few)) made.apart names_is);
      unsealed = refl;
      still_open = refl;
      in_range = refl;
      room = fewer most_made_streams (length (arcs_of declared)) (omega (arith, many, less));
    }

-- the remaining streams, after those before them
pub streams_taken : Asks → (Holds : List StoredRow → Type 0) (n i : ℕ) (before streams : List MadeStream) (records : List (List (List ℕ))) → n ≤ 1000 → length before + length streams ≤ most_made_streams → i ≡ length before + 1
    → AllByRecursion (IsMade n) streams → Rest Holds (plant_of n (before ++ streams) []) [] [] records → Rest Holds (plant_of n before []) [] [] (stream_rows i streams ++ records)
streams_taken law Holds n i before [] records few less is made rest rows at here =
    rest rows at (subst (λ (l : List MadeStream). IsAt rows (plant_of n l []) [] []) (sym (append-nil before)) here)
streams_taken law Holds n i before (stream ∷ streams) records few less is made rest rows at here =
    let next = before ++ stream ∷ [] in
    let row = made_stream_row i stream in
    let small : i < 2 ^ 32 = omega (arith, is, less) in
    let taken = store_declaration rows at row (declared_stream i stream) (plant_of n before []) [] [] here
    (stream_asks law (version_at rows) i stream (is_stream_name i small) (is_node_name stream.from (omega (arith, made.0.within, few)))
    (is_node_name stream.to (omega (arith, made.0.ends, few))))
    (stream_fine n i before stream few (omega (arith, less)) is made.0) refl in
    let long : length next ≡ length before + 1 = length-append before (stream ∷ []) in (
      taken.fine,
      streams_taken law Holds n (i + 1) next streams records few (omega (arith, less, long)) (omega (arith, is, long)) made.1
          (subst (λ (l : List MadeStream). Rest Holds (plant_of n l []) [] [] records) (sym (append_assoc before (stream ∷ []) streams)) rest)
          (after rows at row) (at + 1) (subst (λ (d : List Declared). IsAt (after rows at row) d [] []) (plant_push n i before stream is) taken.next),
    )

-- ---- the period and the critical values

abbrev pub the_period : Period
the_period = record { name = made_period; first = january 1; last = january 30; closed = false }

abbrev pub nodal : Declared
nodal = CritNodal (pos 3841)

abbrev pub measure : Declared
measure = CritMeasure (pos 3841)

period_fine : (declared : List Declared) → HasNoCause declared [] [] (Opens made_period (january 1) (january 30))
unfolding days_from_civil day_count days_of_years days_of_months
period_fine declared = record { known = refl; new = refl; ordered = refl; matching = refl; unsealed = refl; still_open = refl; in_range = refl; room = refl }

nodal_fine : (n : ℕ) (streams : List MadeStream) (periods : List Period) → HasNoCause (plant_of n streams []) [] periods (Declares nodal)
nodal_fine n streams periods = record {
  known = refl;
  new = ap (λ (l : List ℤ). is_some (slice_get l 0)) (skip nodal_value (λ i. refl) (λ i s. refl) n streams []);
  ordered = refl;
  matching = refl;
  unsealed = refl;
  still_open = refl;
  in_range = refl;
  room = refl;
}

measure_fine : (n : ℕ) (streams : List MadeStream) (periods : List Period) → HasNoCause (plant_of n streams (nodal ∷ [])) [] periods (Declares measure)
measure_fine n streams periods = record {
  known = refl;
  new = ap (λ (l : List ℤ). is_some (slice_get l 0)) (skip measure_value (λ i. refl) (λ i s. refl) n streams (nodal ∷ []));
  ordered = refl;
  matching = refl;
  unsealed = refl;
  still_open = refl;
  in_range = refl;
  room = refl;
}

-- one more declaration after the plant
plant_more : (n : ℕ) (streams : List MadeStream) (more : List Declared) (row : Declared) → plant_of n streams more ++ row ∷ [] ≡ plant_of n streams (more ++ row ∷ [])
plant_more n streams more row =
    append_assoc (units 1 n) (streams_from 1 streams ++ more) (row ∷ []) ∙ ap (λ (l : List Declared). units 1 n ++ l) (append_assoc (streams_from 1 streams) more (row ∷ []))

pub middle_taken : Asks → (Holds : List StoredRow → Type 0) → (n : ℕ) (streams : List MadeStream) (records : List (List (List ℕ))) → Rest Holds (plant_of n streams (nodal ∷ measure ∷ [])) [] (the_period ∷ []) records
    → Rest Holds (plant_of n streams []) [] [] (middle_rows ++ records)
middle_taken law Holds n streams records rest rows at is =
    let first = store_period rows at made_period_row made_period (january 1) (january 30) (plant_of n streams []) [] [] is (period_asks law (version_at rows)) (period_fine (plant_of n streams [])) in
    let one = after rows at made_period_row in
    let second = store_declaration one (at + 1) (made_critical_row kind.CriticalNodal) nodal (plant_of n streams []) [] (the_period ∷ []) first.next (nodal_asks law (version_at one)) (nodal_fine n streams (the_period ∷ [])) refl in
    let two = after one (at + 1) (made_critical_row kind.CriticalNodal) in
    let two_is = subst (λ (d : List Declared). IsAt two d [] (the_period ∷ [])) (plant_more n streams [] nodal) second.next in
    let third = store_declaration two (at + 1 + 1) (made_critical_row kind.CriticalMeasure) measure (plant_of n streams (nodal ∷ [])) [] (the_period ∷ []) two_is (measure_asks law (version_at two))
    (measure_fine n streams (the_period ∷ [])) refl in
    let three = after two (at + 1 + 1) (made_critical_row kind.CriticalMeasure) in
    let three_is = subst (λ (d : List Declared). IsAt three d [] (the_period ∷ [])) (plant_more n streams (nodal ∷ []) measure) third.next in
    (first.fine, (second.fine, (third.fine, rest three (at + 1 + 1 + 1) three_is)))
