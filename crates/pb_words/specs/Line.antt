-- Statement. The command that is handed to `clap`, and what its matches give.
use Rattle.std.specs.Prelude.{◌≡◌, ◌==◌, ◌||◌, not, Bool, true, IsTrue, List, [], ◌∷◌, Option, Some, None, codes, if◌then◌else◌}
use Rattle.std.specs.List.{list_all}
use Rattle.clap.specs.Walk.{Row, Rule, Text, first_of}
use Rattle.clap.specs.Simple.{App, matches_of, new_app, new_rule, on_top, with_rule}
use Rattle.clap.specs.Faults.{fault_of}
use Rattle.clap.specs.declared.builder.action.ArgAction.TheVariants.{Set, SetTrue}
use Rattle.pb_rows.specs.Bytes.{dash}
use Rattle.pb_words.specs.Parts.{flag_names, has_hyphen, is_one_of}
use Rattle.pb_words.specs.Given.{Given, given_of, is_true}

abbrev pub mode_rule : Rule
mode_rule = record (new_rule (codes "mode")) { action = Some Set }

abbrev pub option_rule : Text → Rule
option_rule name = record (new_rule name) { long = Some name; action = Some Set }

abbrev pub flag_rule : Text → Rule
flag_rule name = record (new_rule name) { long = Some name; action = Some SetTrue }

abbrev pub bare : App
bare = on_top (λ s. record s { no_binary_name = true; disable_help_flag = true; disable_version_flag = true }) (new_app (codes "plantbal"))

-- the mode, and the options of both a run and making a session
abbrev pub with_mode : App → App
with_mode app = with_rule (with_rule (with_rule app mode_rule) (option_rule (codes "gap"))) (option_rule (codes "sweeps"))

-- the further options of a run
abbrev pub with_run : App → App
with_run app = with_rule (with_rule (with_rule app (option_rule (codes "eliminate"))) (option_rule (codes "format"))) (flag_rule (codes "tests"))

-- and those of making a session
abbrev pub with_make : App → App
with_make app = with_rule (with_rule (with_rule app (option_rule (codes "number"))) (option_rule (codes "streams"))) (flag_rule (codes "summary"))

abbrev pub line : App
line = with_make (with_run (with_mode bare))

-- a word that doesn't begin with a hyphen, or two hyphens and a name
abbrev pub is_plain_or_named : Text → Bool
is_plain_or_named (first ∷ second ∷ third ∷ rest) = not (first == dash) || (second == dash)
is_plain_or_named word = not (has_hyphen word)

-- whether each word is plain or named
abbrev pub are_plain_or_named : List Text → Bool
are_plain_or_named words = list_all is_plain_or_named words

-- what the rows of the matches give
abbrev pub given_in : List Row → Given
given_in rows = given_of (λ name. first_of name rows)

-- The words as `clap` reads them: each is plain or named, `clap` accepts them, and these are the texts that it returns.
pub record IsGivenByClap (words : List Text) (given : Given) : Type 0 where
  pub formed : IsTrue (are_plain_or_named words)
  pub taken : fault_of line words ≡ []
  pub is : given ≡ given_in (matches_of line words)

-- a flag's text, if the flag is in the line: `clap` returns the text `false` for one that isn't
abbrev pub flag_in : Option Text → Option Text
flag_in said = if is_true said then said else None

-- what a line says about a name, by the texts that `clap` returns
abbrev pub said_in : (Text → Option Text) → Text → Option Text
said_in said name = if is_one_of name flag_names then flag_in (said name) else said name
