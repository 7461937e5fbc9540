-- Statement. What may be wrong with a row of a block besides its form, and with the row that opens a block.
use Rattle.std.specs.Prelude.{ℕ, ℤ, pos, Bool, false, ◌||◌, ◌&&◌, not, int_lt, List, [], ◌∷◌, Option, Some, None, Result, Ok, Err, if◌then◌else◌, bytes_eq, codes}
use Rattle.std.specs.List.{list_all, list_any}
use Rattle.std.specs.Option.{option_map_or}
use Rattle.std.specs.Ordering.{int_eq}
use Rattle.pb_limits.specs.Limits.{most_nodes, most_rounds, most_streams}
use Rattle.pb_rows.specs.Name.{is_name}
use Rattle.pb_rows.specs.Number.{number, within}
use Rattle.pb_form.specs.OutputRows.{output_schema}
use Rattle.pb_form.specs.Reading.{row_read}
use Rattle.pb_form.specs.Value.{Value}
use Rattle.pb_form.specs.declared.fault.FormFault.{FormFault}
use Rattle.pb_form.specs.declared.output.OutputKind.{OutputKind}
use Rattle.pb_form.specs.declared.output.OutputKind.TheVariants.{Report, StreamBefore}
use Rattle.pb_blocks.specs.declared.fault.RowFault.{RowFault}
use Rattle.pb_blocks.specs.declared.fault.RowFault.TheVariants.{Count}
use Rattle.pb_blocks.specs.Codes.{fault_by}
use Rattle.pb_blocks.specs.Kinds.{kind_among}
use Rattle.pb_blocks.specs.Lists.{is_among, is_part, is_side, items}
use Rattle.pb_blocks.specs.Texts.{field, is_blank, parts_field, place_after, side_field}
use Rattle.pb_form.specs.Values.{number_at}

-- the places of the columns of a stream's row that belong together: a value and its variance, bounds, and least bounds
abbrev pub pairs_of : OutputKind → List (ℕ × ℕ)
pairs_of StreamBefore = (4, 5) ∷ (8, 9) ∷ []
pairs_of kind = (4, 5) ∷ (8, 9) ∷ (10, 11) ∷ []

-- one of two fields is left out and the other isn't
abbrev pub is_half : List ℕ → List ℕ → Bool
is_half one other = if is_blank one then not (is_blank other) else is_blank other

-- just one of two columns that belong together is left out
abbrev pub is_half_told : OutputKind → List (List ℕ) → Bool
is_half_told kind row = list_any (λ (pair : ℕ × ℕ). is_half (field row pair.0) (field row pair.1)) (pairs_of kind)

-- a stream from or to a name that isn't one of these nodes, or with such a name in its side
abbrev pub has_unknown_node : List (List ℕ) → OutputKind → List (List ℕ) → Bool
has_unknown_node nodes kind row =
    not (is_among nodes (field row 2)) || not (is_among nodes (field row 3))
    || list_any (λ item. is_name item && not (is_among nodes item)) (items (side_field kind row))

-- a stream's side that doesn't list these nodes in order, a cycle with a side, or parts that aren't signs with names
abbrev pub has_bad_list : List (List ℕ) → OutputKind → List (List ℕ) → Bool
has_bad_list nodes kind row =
    not (is_side nodes (items (side_field kind row)))
    || (bytes_eq (field row (place_after kind 12)) (codes "cycle") && not (is_blank (side_field kind row)))
    || not (list_all is_part (items (parts_field kind row)))

-- the end of a block has this round
abbrev pub is_round : List (List ℕ) → ℕ → Bool
is_round row round = option_map_or (λ z. int_eq z (pos round)) (within (pos 0) (pos most_rounds) (number (field row 2))) false

-- fewer than one node, more nodes or more streams than a graph can have, or a negative number of streams
abbrev pub are_miscounted : ℤ → ℤ → Bool
are_miscounted nodes streams =
    int_lt nodes (pos 1) || int_lt (pos most_nodes) nodes || int_lt streams (pos 0) || int_lt (pos most_streams) streams

-- the first fault of a row that is a heading by its word and the number of its fields
abbrev pub heading_fault : Result (List Value) FormFault → Option RowFault
heading_fault (Ok values) = if are_miscounted (number_at values 3) (number_at values 4) then Some Count else None
heading_fault (Err fault) = Some (fault_by fault)

-- the fault of a row of a kind, or the fault of its kind
abbrev pub fault_as : (OutputKind → Option RowFault) → Result OutputKind RowFault → Option RowFault
fault_as fault_of (Ok kind) = fault_of kind
fault_as fault_of (Err fault) = Some fault

-- The first fault of a row that opens a block, or should open one.
abbrev pub opening_fault : List (List ℕ) → Option RowFault
opening_fault row = fault_as (λ kind. heading_fault (row_read (output_schema Report) row)) (kind_among (Report ∷ []) row)
