-- Statement. The fields of a row of a block that name or list something, as they are written.
use Rattle.std.specs.Prelude.{ℕ, ◌==◌, ◌-◌, Bool, List, [], length, slice_index_or}
use Rattle.pb_form.specs.declared.output.OutputKind.{OutputKind}
use Rattle.pb_form.specs.declared.output.OutputKind.TheVariants.{StreamBefore}

-- the field of a row at a place (place 0 is the kind); nothing if the row is shorter
abbrev pub field : List (List ℕ) → ℕ → List ℕ
field row place = slice_index_or row place []

-- an empty field
abbrev pub is_blank : List ℕ → Bool
is_blank text = length text == 0

-- the period of a heading or an end, the name of a node or a stream, and the node or the stream of a test
abbrev pub name_field : List (List ℕ) → List ℕ
name_field row = field row 1

-- the place of a column after the least bounds of a stream's row: in a row without them it is two places earlier
abbrev pub place_after : OutputKind → ℕ → ℕ
place_after StreamBefore place = place - 2
place_after kind place = place

-- the side and the parts of a stream's certificate
abbrev pub side_field : OutputKind → List (List ℕ) → List ℕ
side_field kind row = field row (place_after kind 13)

abbrev pub parts_field : OutputKind → List (List ℕ) → List ℕ
parts_field kind row = field row (place_after kind 14)
