-- Statement. The commands, and the words that give each.
use Rattle.std.specs.Prelude.{◌≡◌, ◌≤◌, ◌⊎◌, ℕ, pos, Bool, false, ◌||◌, List, [], ◌∷◌, ◌++◌, Option, Some, None, is_some, flat_map, map, option_map, unsigned_abs, codes, ⊤}
use Rattle.std.specs.List.{list_any, All, IsDistinct}
use Rattle.std.specs.Str.{bytes_eq}
use Rattle.pb_rows.specs.Number.{number, within}
use Rattle.pb_limits.specs.Limits.{default_gap, default_number, default_streams, default_sweeps, most_gap, most_made_streams, most_rounds, most_sweeps}
use Rattle.pb_study.specs.declared.results.Options.{Options}
use Rattle.pb_study.specs.Options.{AreOptions}
use Rattle.pb_report.specs.declared.form.Form.{Form}
use Rattle.pb_report.specs.declared.form.Form.TheVariants.{Csv, Json}
use Rattle.pb_make.specs.Plant.{least_streams}
use Rattle.pb_words.specs.Parts.{Part, IsKnownPart, flag_names, name_of, option_names, said_by, words_of}
use Rattle.pb_words.specs.declared.command.Command.{Command}
use Rattle.pb_words.specs.declared.command.Command.TheVariants.{Run, Check, Make}

-- the greatest number that a session can be made from: any number of 32 bits will do
abbrev pub greatest_number : ℕ
greatest_number = 4294967295

-- the number that a text gives within a range, in the form that `read_whole` reads; if no text was given, the usual number
abbrev pub number_or : ℕ → ℕ → ℕ → Option (List ℕ) → Option ℕ
number_or least most usual None = Some usual
number_or least most usual (Some text) = option_map unsigned_abs (within (pos least) (pos most) (number text))

-- the form that a text names; csv if no text was given
abbrev pub IsFormOf : Option (List ℕ) → Form → Type 0
IsFormOf None form = form ≡ Csv
IsFormOf (Some text) form = ((text ≡ codes "csv") × (form ≡ Csv)) ⊎ ((text ≡ codes "json") × (form ≡ Json))

-- whether something is said about one of these names
abbrev pub says_any : (List ℕ → Option (List ℕ)) → List (List ℕ) → Bool
says_any said names = list_any (λ name. is_some (said name)) names

-- What is said about each name asks for a run with these options in this form. Rounds of elimination also ask for tests. Nothing is
-- said about the options of another mode.
pub record AsksRun (said : List ℕ → Option (List ℕ)) (options : Options) (asked : Form) : Type 0 where
  pub mode : said (codes "mode") ≡ Some (codes "run")
  pub gap : number_or 1 most_gap default_gap (said (codes "gap")) ≡ Some options.gap
  pub sweeps : number_or 0 most_sweeps default_sweeps (said (codes "sweeps")) ≡ Some options.sweeps
  pub eliminate : number_or 1 most_rounds 0 (said (codes "eliminate")) ≡ Some options.eliminate
  pub tests : options.tests ≡ (is_some (said (codes "tests")) || is_some (said (codes "eliminate")))
  pub form : IsFormOf (said (codes "format")) asked
  pub others : says_any said (codes "number" ∷ codes "streams" ∷ codes "summary" ∷ []) ≡ false

-- What is said about each name asks for a session made from this number with this many streams, or for its summary with this gap and
-- this many sweeps.
pub record AsksMake (said : List ℕ → Option (List ℕ)) (from count : ℕ) (summed : Bool) (within_gap within_sweeps : ℕ) : Type 0 where
  pub mode : said (codes "mode") ≡ Some (codes "make")
  pub number : number_or 0 greatest_number default_number (said (codes "number")) ≡ Some from
  pub streams : number_or least_streams most_made_streams default_streams (said (codes "streams")) ≡ Some count
  pub summary : summed ≡ is_some (said (codes "summary"))
  pub gap : number_or 1 most_gap default_gap (said (codes "gap")) ≡ Some within_gap
  pub sweeps : number_or 0 most_sweeps default_sweeps (said (codes "sweeps")) ≡ Some within_sweeps
  pub others : says_any said (codes "eliminate" ∷ codes "format" ∷ codes "tests" ∷ []) ≡ false

-- What is said about each name asks for the command. A check takes no options.
abbrev pub Asks : (List ℕ → Option (List ℕ)) → Command → Type 0
Asks said (Run options form) = AsksRun said options form
Asks said Check = (said (codes "mode") ≡ Some (codes "check")) × (says_any said (option_names ++ flag_names) ≡ false)
Asks said (Make number streams summary gap sweeps) = AsksMake said number streams summary gap sweeps

-- The words give the command: they are those of known parts in order, with at most one mode and each option at most once (no two parts
-- are about the same), and what the parts say asks for it.
pub record IsCommandOf (words : List (List ℕ)) (command : Command) : Type 0 where
  pub parts : List Part
  pub are : words ≡ flat_map words_of parts
  pub known : All IsKnownPart parts
  pub once : IsDistinct bytes_eq (map name_of parts)
  pub asks : Asks (said_by parts) command

-- A session to be made is within the limits: its number is one of 32 bits, and the number of streams, and the gap and number of
-- sweeps for its summary, lie in their ranges.
pub record IsMakeInRange (from count within_gap within_sweeps : ℕ) : Type 0 where
  pub number : from ≤ greatest_number
  pub least : least_streams ≤ count
  pub most : count ≤ most_made_streams
  pub some_gap : 1 ≤ within_gap
  pub greatest_gap : within_gap ≤ most_gap
  pub greatest_sweeps : within_sweeps ≤ most_sweeps

-- a command within the limits
abbrev pub IsCommandInRange : Command → Type 0
IsCommandInRange (Run options form) = AreOptions options
IsCommandInRange Check = ⊤
IsCommandInRange (Make number streams summary gap sweeps) = IsMakeInRange number streams gap sweeps
