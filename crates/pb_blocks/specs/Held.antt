-- Inside. What the code holds: the items of a list that are left, names that are found without walking the list, and what its
-- functions require.
use Rattle.std.specs.Prelude.{◌≡◌, Option, Result, ◌≤◌, ℕ, Bool, true, ◌==◌, ◌||◌, ◌&&◌, not, nat_le, List, [], ◌∷◌, map, length, slice_index_or, if◌then◌else◌}
use Rattle.std.specs.List.{list_all, position_or_len, slice_split}
use Rattle.std.specs.Option.{option_map}
use Rattle.std.specs.Result.{result_err}
use Rattle.pb_limits.specs.Limits.{most_streams}
use Rattle.pb_rows.specs.Bytes.{dash}
use Rattle.pb_rows.specs.Name.{is_name, is_name_byte, same_name}
use Rattle.pb_form.specs.declared.output.OutputKind.TheVariants.{Report}
use Rattle.pb_form.specs.declared.fault.FormFault.{FormFault}
use Rattle.pb_form.specs.declared.output.OutputKind.{OutputKind}
use Rattle.pb_blocks.specs.declared.fault.RowFault.{RowFault}
use Rattle.pb_blocks.specs.declared.rows.Heading.{Heading}
use Rattle.pb_blocks.specs.Lists.{differ, is_among, is_plus, part_name, place_of, plus, space}
use Rattle.pb_blocks.specs.Texts.{field}
use Rattle.pb_blocks.specs.Values.{said_heading, values_in}
use Rattle.pb_form.specs.OutputRows.{output_columns}
use Rattle.pb_form.specs.Telling.{agrees}
use Rattle.pb_form.specs.Value.{Value}
use Rattle.pb_blocks.specs.Codes.{fault_by}

-- the items left of a text
abbrev pub items_left : List ℕ → Bool → List (List ℕ)
items_left rest ended = if ended then [] else slice_split (λ byte. byte == space) rest

-- where the first item of a text ends: at a space, or with the text
abbrev pub item_end : List ℕ → ℕ
item_end text = position_or_len (λ byte. byte == space) text

-- an item ends at this place of a text
abbrev pub ends_at : List ℕ → ℕ → Bool
ends_at text place = (place == length text) || (slice_index_or text place 0 == space)

-- how many bytes at the front of a text may stand in a name
abbrev pub name_end : List ℕ → ℕ
name_end text = position_or_len (λ byte. not (is_name_byte byte)) text

-- this many bytes at the front of a text, all of which may stand in a name, are a name and the whole of the first item
abbrev pub is_whole_name : List ℕ → ℕ → Bool
is_whole_name text end = not (end == 0) && nat_le end 32 && ends_at text end

-- the sign of a part
abbrev pub sign_if : Bool → ℕ
sign_if positive = if positive then plus else dash

-- the first item of a list and the items after it, and the first item's stream and sign as a part
pub record IsNextPart (streams old new : List (List ℕ)) (stream : ℕ) (positive : Bool) : Type 0 where
  pub item : List ℕ
  pub first : old ≡ item ∷ new
  pub place : stream ≡ place_of streams (part_name item)
  pub sign : positive ≡ is_plus item

-- different names, and no more of them than a graph can have streams
pub record AreKnown (names : List (List ℕ)) : Type 0 where
  pub forms : list_all is_name names ≡ true
  pub different : differ names ≡ true
  pub few : length names ≤ most_streams

-- an item that has the form of a name and isn't one of these
abbrev pub is_unknown_item : List (List ℕ) → List ℕ → Bool
is_unknown_item names item = is_name item && not (is_among names item)

-- for each node, whether it is in the side of these names
abbrev pub side_of : List (List ℕ) → List (List ℕ) → List Bool
side_of nodes names = map (is_among names) nodes

-- a part that names none of these streams
abbrev pub names_no_stream : List (List ℕ) → List ℕ → Bool
names_no_stream streams part = not (is_among streams (part_name part))

-- a stream from a node to itself
abbrev pub leads_to_itself : List (List ℕ) → Bool
leads_to_itself row = same_name (field row 2) (field row 3)

-- what a row that opens a block says
abbrev pub heading_in : List (List ℕ) → Heading
heading_in row = said_heading row (values_in Report row)

-- the fault of a row's form
abbrev pub form_fault : Result (List Value) FormFault → Option RowFault
form_fault read = option_map fault_by (result_err read)

-- a row has a kind's word, whatever its other fields are
abbrev pub has_word_of : List (List ℕ) → OutputKind → Bool
has_word_of row kind = agrees (output_columns kind) row
