-- Statement. A record as a line of JSON: an object of texts on one line.
use Rattle.std.specs.Prelude.{ℕ, List, ◌∷◌, ◌++◌, codes}
use Rattle.serde_json.specs.Data.{Members, no_members, object, put, string}
use Rattle.serde_json.specs.Written.{compact_text}
use Rattle.pb_form.specs.Columns.{Column}

-- members in byte order of their keys, with the text of each field put under its column's key
abbrev pub members_after : Members → List Column → List (List ℕ) → Members
members_after members (column ∷ columns) (field ∷ fields) = members_after (put column.key (string field) members) columns fields
members_after members columns fields = members

-- the line of a record: an object with each field as a text under its column's key, in byte order of the keys, as `serde_json` writes
-- it compactly, and a line feed
abbrev pub record_line : List Column → List (List ℕ) → List ℕ
record_line columns fields = compact_text (object (members_after no_members columns fields)) ++ codes "\n"
