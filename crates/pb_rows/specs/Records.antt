-- Statement. The records of a text, and a record without the empty fields at its end.
use Rattle.std.specs.Prelude.{ℕ, List, [], ◌∷◌, length, ◌==◌, ◌&&◌, if◌then◌else◌}
use Rattle.csv.specs.Reading.{default_config, records, strip_bom}

-- the records that `csv` reads in a text, as `csv` defines them: after a byte order mark, if one is at the front
abbrev pub records_of : List ℕ → List (List (List ℕ))
records_of bytes = records default_config (strip_bom bytes)

-- a record without the empty fields at its end: a field is dropped if it and all fields after it are empty
abbrev pub without_trailing_empty : List (List ℕ) → List (List ℕ)
without_trailing_empty [] = []
without_trailing_empty (field ∷ fields) =
    if (length field == 0) && (length (without_trailing_empty fields) == 0) then [] else field ∷ without_trailing_empty fields
