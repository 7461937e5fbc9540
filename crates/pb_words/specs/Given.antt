-- Statement. What `clap` and the parts of a command line give: a text for the mode and for each option, and whether each flag is there.
use Rattle.std.specs.Prelude.{ℕ, Bool, false, List, Option, codes}
use Rattle.std.specs.Option.{option_map_or}
use Rattle.std.specs.Str.{bytes_eq}
use Rattle.pb_words.specs.Parts.{Part, said_by}

-- What was given: a text for the mode and for each option that takes a value, if it is in the line, and for each flag whether it is
-- in the line.
pub record Given : Type 0 where
  pub mode : Option (List ℕ)
  pub gap : Option (List ℕ)
  pub sweeps : Option (List ℕ)
  pub eliminate : Option (List ℕ)
  pub format : Option (List ℕ)
  pub number : Option (List ℕ)
  pub streams : Option (List ℕ)
  pub tests : Bool
  pub summary : Bool

-- whether the text is `true`, which is the text of a flag
abbrev pub is_true : Option (List ℕ) → Bool
is_true said = option_map_or (λ text. bytes_eq text (codes "true")) said false

-- what is given, from what is said about each name
abbrev pub given_of : (List ℕ → Option (List ℕ)) → Given
given_of said = record {
  mode = said (codes "mode");
  gap = said (codes "gap");
  sweeps = said (codes "sweeps");
  eliminate = said (codes "eliminate");
  format = said (codes "format");
  number = said (codes "number");
  streams = said (codes "streams");
  tests = is_true (said (codes "tests"));
  summary = is_true (said (codes "summary"));
}

-- what the parts give
abbrev pub given_by : List Part → Given
given_by parts = given_of (said_by parts)
