-- A stream of a draft: its ends are two of the nodes.
use Rattle.std.specs.Prelude.{◌≢◌, ◌||◌, not}
use Rattle.std.specs.Cmp.Lexicographic.{bytes_decides}
use Rattle.std.specs.List.{list_any}
use Rattle.std.proofs.Common.{◌≡◌, ◌∙◌, ℕ, ◌<◌, ◌≤◌, List, [], ◌∷◌, ◌++◌, length, Bool, true, false, true≢false, refl, sym, arith, inl, inr}
use Rattle.std.proofs.lemmas.Bool.{cases_Bool, or_parts}
use Rattle.pb_rows.specs.Name.{is_name, same_name}
use Rattle.pb_graph.specs.ProcessGraph.{IsStream}
use Rattle.pb_form.specs.declared.output.OutputKind.{OutputKind}
use Rattle.pb_form.specs.Value.{Value}
use Rattle.pb_blocks.specs.Beside.{has_unknown_node}
use Rattle.pb_blocks.specs.Held.{leads_to_itself, is_unknown_item}
use Rattle.pb_blocks.specs.Lists.{is_among, items, place_of}
use Rattle.pb_blocks.specs.Texts.{side_field, field}
use Rattle.pb_blocks.specs.Values.{said_arc}
use Rattle.pb_blocks.proofs.NameLemmas.{all_more, any_place, differ_more}
use Rattle.pb_readback.specs.WellFormed.{AreNames}

pub not_false : (b : Bool) → not b ≡ false → b ≡ true
not_false true h = refl
not_false false h = cc h

-- ---- names and places

pub place_within : (names : List (List ℕ)) (name : List ℕ) → is_among names name ≡ true → place_of names name < length names
place_within names name there = any_place (same_name name) names there

-- different names have different places
pub places_apart : (names : List (List ℕ)) (a b : List ℕ) → is_among names a ≡ true → is_among names b ≡ true → same_name a b ≡ false → place_of names a ≢ place_of names b
places_apart [] a b one other apart = absurd (true≢false (sym one))
places_apart (name ∷ names) a b one other apart = elim (cases_Bool (same_name a name)) [
  | inl here ↦ elim (cases_Bool (same_name b name)) [
    | inl too ↦
        let same = (bytes_decides a name).0 here ∙ sym ((bytes_decides b name).0 too) in
        absurd (true≢false (sym ((bytes_decides a b).1 same) ∙ apart))
    | inr later ↦ λ e. let clash = rw (here, later) at e in absurd (omega (arith, clash))
  ]
  | inr there ↦ elim (cases_Bool (same_name b name)) [
    | inl here ↦ λ e. let clash = rw (there, here) at e in absurd (omega (arith, clash))
    | inr later ↦ λ e.
        let clash = rw (there, later) at e in
        places_apart names a b (rw there at one) (rw later at other) apart (omega (arith, clash))
  ]
]

-- a list of names with a new one at the end
pub names_more : (names : List (List ℕ)) (name : List ℕ) → AreNames names → is_name name ≡ true → is_among names name ≡ false → AreNames (names ++ name ∷ [])
names_more names name are form new = record {
  forms = rw (all_more is_name names name, are.forms) form;
  different = differ_more names name are.different new;
}

-- the ends of a stream are nodes
pub known_ends : (nodes : List (List ℕ)) (kind : OutputKind) (row : List (List ℕ)) → has_unknown_node nodes kind row ≡ false
    → (is_among nodes (field row 2) ≡ true) × (is_among nodes (field row 3) ≡ true)
known_ends nodes kind row known =
    let parts = or_parts (not (is_among nodes (field row 2)) || not (is_among nodes (field row 3))) (list_any (is_unknown_item nodes) (items (side_field kind row))) known in
    let both = or_parts (not (is_among nodes (field row 2))) (not (is_among nodes (field row 3))) parts.0 in
    (not_false (is_among nodes (field row 2)) both.0, not_false (is_among nodes (field row 3)) both.1)

-- a stream between two of these nodes is a stream of a graph with these nodes
pub arc_joins : (nodes : List (List ℕ)) (kind : OutputKind) (row : List (List ℕ)) (values : List Value) (count : ℕ) → length nodes ≤ count → has_unknown_node nodes kind row ≡ false
    → leads_to_itself row ≡ false → IsStream count (said_arc nodes row values)
arc_joins nodes kind row values count few known apart =
    let ends = known_ends nodes kind row known in
    let first = place_within nodes (field row 2) ends.0 in
    let second = place_within nodes (field row 3) ends.1 in
    record {
      from = omega (arith, first, few);
      to = omega (arith, second, few);
      apart = places_apart nodes (field row 2) (field row 3) ends.0 ends.1 apart;
    }
