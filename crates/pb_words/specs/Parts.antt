-- Statement. The parts of a command line: the word of a mode, flags, and options with their values.
use Rattle.std.specs.Prelude.{◌≡◌, ℕ, ◌==◌, Bool, false, IsTrue, List, [], ◌∷◌, ◌++◌, Option, codes, find, flat_map, map, option_map}
use Rattle.std.specs.List.{list_any, All, IsDistinct}
use Rattle.std.specs.Str.{bytes_eq}
use Rattle.pb_rows.specs.Bytes.{dash}

-- the options that take a value, without their hyphens
abbrev pub option_names : List (List ℕ)
option_names = codes "gap" ∷ codes "sweeps" ∷ codes "eliminate" ∷ codes "format" ∷ codes "number" ∷ codes "streams" ∷ []

-- the options without a value
abbrev pub flag_names : List (List ℕ)
flag_names = codes "tests" ∷ codes "summary" ∷ []

-- A part of a command line: a mode; a flag; an option and its value as two words, or as one word with an equals sign.
pub data Part : Type 0 where
  mode : List ℕ → Part
  flag : List ℕ → Part
  apart : List ℕ → List ℕ → Part
  joined : List ℕ → List ℕ → Part

-- the byte `=`, which joins an option and its value
abbrev pub equals_sign : ℕ
equals_sign = 61

-- the words of a part
abbrev pub words_of : Part → List (List ℕ)
words_of (mode word) = word ∷ []
words_of (flag name) = (codes "--" ++ name) ∷ []
words_of (apart name value) = (codes "--" ++ name) ∷ value ∷ []
words_of (joined name value) = (codes "--" ++ (name ++ equals_sign ∷ value)) ∷ []

-- what a part is about: the mode, or the option by its name
abbrev pub name_of : Part → List ℕ
name_of (mode word) = codes "mode"
name_of (flag name) = name
name_of (apart name value) = name
name_of (joined name value) = name

-- what it says: the mode's word, an option's value, and for a flag, that it is there
abbrev pub text_of : Part → List ℕ
text_of (mode word) = word
text_of (flag name) = codes "true"
text_of (apart name value) = value
text_of (joined name value) = value

-- whether a word begins with a hyphen
abbrev pub has_hyphen : List ℕ → Bool
has_hyphen [] = false
has_hyphen (first ∷ rest) = first == dash

-- whether a name is one of these
abbrev pub is_one_of : List ℕ → List (List ℕ) → Bool
is_one_of name names = list_any (λ known. bytes_eq known name) names

-- A part of a known form: a word that doesn't begin with a hyphen for the mode, the whole name of a flag, or the whole name of an
-- option with its value; a value that is a separate word doesn't begin with a hyphen.
abbrev pub IsKnownPart : Part → Type 0
IsKnownPart (mode word) = has_hyphen word ≡ false
IsKnownPart (flag name) = IsTrue (is_one_of name flag_names)
IsKnownPart (apart name value) = IsTrue (is_one_of name option_names) × (has_hyphen value ≡ false)
IsKnownPart (joined name value) = IsTrue (is_one_of name option_names)

-- what the parts say about a name, if one of them does
abbrev pub said_by : List Part → List ℕ → Option (List ℕ)
said_by parts name = option_map text_of (find (λ part. bytes_eq (name_of part) name) parts)
