-- Statement. Names and reasons as C has them: their bytes, and zeros after them.
use Rattle.std.specs.Prelude.{ℕ, List, ◌++◌, length, drop, map, replicate}
use Rattle.pb_shown.specs.declared.names.PlantbalName.{PlantbalName}

-- the bytes of a text, with zeros after them up to this many
abbrev pub with_zeros : ℕ → List ℕ → List ℕ
with_zeros room text = text ++ drop (length text) (replicate room 0)

-- a name has at most 32 bytes, so a zero is at its end
abbrev pub padded_name : List ℕ → List ℕ
padded_name name = with_zeros 33 name

-- a name in an array
abbrev pub name_shown : List ℕ → PlantbalName
name_shown name = record { name = padded_name name }

-- names in an array, in order
abbrev pub names_shown : List (List ℕ) → List PlantbalName
names_shown names = map name_shown names

-- a reason has at most 80 bytes
abbrev pub padded_reason : List ℕ → List ℕ
padded_reason reason = with_zeros 81 reason
