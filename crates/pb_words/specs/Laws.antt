-- Statement. Words give at most one command, and `clap` takes the words as they are meant.
use Rattle.std.specs.Prelude.{◌≡◌, ◌↔◌, ℕ, List, flat_map, map}
use Rattle.std.specs.List.{All, IsDistinct}
use Rattle.std.specs.Str.{bytes_eq}
use Rattle.pb_words.specs.Parts.{Part, IsKnownPart, name_of, words_of}
use Rattle.pb_words.specs.Given.{Given, given_by}
use Rattle.pb_words.specs.Line.{IsGivenByClap}
use Rattle.pb_words.specs.declared.command.Command.{Command}
use Rattle.pb_words.specs.Command.{IsCommandOf}

-- words give at most one command
abbrev pub OneCommandLaw : Type 0
OneCommandLaw = (words : List (List ℕ)) (one other : Command) → IsCommandOf words one → IsCommandOf words other → one ≡ other

-- the words are those of known parts in order, no two of which are about the same, as in `IsCommandOf`
abbrev pub ArePartsOf : List Part → List (List ℕ) → Type 0
ArePartsOf parts words =
    (words ≡ flat_map words_of parts) × All IsKnownPart parts × IsDistinct bytes_eq (map name_of parts)

-- `clap` accepts words of known forms iff they are those of a line of parts, and returns what the parts give
abbrev pub ClapLaw : Type 0
ClapLaw =
    (words : List (List ℕ)) (given : Given)
    → IsGivenByClap words given ↔ ((parts : List Part) × ArePartsOf parts words × (given ≡ given_by parts))
